-- `test` is its definition: the tests of the date, of the time and of the offset, in this order. Assumes nothing.
use borrow.Author.Rules.{rules}
use Rattle.extended.specs.Extended.{test}
use Rattle.extended.proofs.ExtendedDateTime.test.Goals as goal

pub returns-in_err-test_date : goal.returns-in_err-test_date
unfolding test
returns-in_err-test_date c = search rules

pub returns-in_err-test_time : goal.returns-in_err-test_time
unfolding test
returns-in_err-test_time c = search rules

pub returns : goal.returns
unfolding test
returns c = search rules
