-- What `take_while` takes are those at the front that are in the range.
use Rattle.std.proofs.Common.{rules, tests}
use Rattle.std.proofs.lemmas.Iterator.{YieldsList-from_slice}
use Rattle.std.proofs.lemmas.Iterator.Consumers.{count_from_yields_List}
use Rattle.std.proofs.lemmas.Iterator.Search.{YieldsList-from_take_while}
use Rattle.ranges.specs.Ranges.{between}
use Rattle.ranges.proofs.Passed.{taken-passed}
use Rattle.ranges.proofs.passing.Goals as goal

pub returns : goal.returns
returns c =
    let a = c.args in
    taken-passed (between a.range.start a.range.end) a.l.now
    (count_from_yields_List c.take_while.result _ c.count.ensures.ran
    (YieldsList-from_take_while _ (between a.range.start a.range.end) (YieldsList-from_slice a.l.now cc) c.take_while.ensures.closure c.take_while.ensures.done
    (λ x b q k. search (rules, tests))))
