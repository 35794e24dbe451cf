-- `read_text`: the quick reader asks for an accepted base, which the tests leave. Assumes nothing.
use Rattle.text_reader.proofs.Steps.{quick}
use Rattle.text_reader.proofs.read_text.Goals as goal

pub returns-in-Some : goal.returns-in-Some
returns-in-Some c = quick _ _ _ c.in_ok-test_text.ensures _ c.in-Some.ensures
