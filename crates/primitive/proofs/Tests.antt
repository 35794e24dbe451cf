-- What turns the facts of the tests on the way into the value of a test in a definition. Assumes nothing.
use borrow.Author.Rules.{rules}
use borrow.Author.Tests.{lt-ltb, le-ltb, le-leb, lt-leb, eq-eqb, ne_eqb}

pub ruleset tests = (lt-ltb, le-ltb, le-leb, lt-leb, eq-eqb, ne_eqb, rules)
