-- The first faulty seed of those in use, or of those after them.
use mathlib.Core.Path.{◌≡◌, sym, ◌∙◌}
use native.Mathlib.Omega.{arith}
use lib.ListN.{length, take}
use lib.Seq.{length-take-le}
use borrow.Author.Rules.{rules}
use Rattle.ranges.proofs.Passed.{used-passed, unused-passed}
use Rattle.ranges.proofs.seeds_passing.Goals.{Start}
use Rattle.ranges.proofs.seeds_passing.Goals as goal

whole : (c : Start) → length c.args.seeds ≡ 48
whole c = search rules

pub slice_bounds-passing-end : goal.slice_bounds-passing-end
slice_bounds-passing-end c = sym (length-take-le _ _ (search rules))

pub returns-then-used-n : goal.returns-then-used-n
returns-then-used-n c =
    let a = c.args in
    let long = whole (goal.at.returns-then-used-n c).Start in (
      rw c.passing-used.ensures.0
          (used-passed a.mode c.slot_count-n.result a.seeds c.slot_count-n.ensures.0 long (omega arith) (rw c.passing-used.ensures.0 at c.if-used-n.true)),
      omega arith,
    )

pub returns : goal.returns
returns c =
    let a = c.args in
    let n = c.slot_count-n.result in
    let long = whole (goal.at.returns c).Start in
    let first : length (take n a.seeds) ≡ n = length-take-le n a.seeds (omega arith) in
    let all : c.passing-used.result ≡ n = omega (arith, c.passing-used.ensures.1) in (
      rw c.passing.ensures.0
          (unused-passed a.mode n a.seeds c.slot_count-n.ensures.0 long (omega arith) (sym c.passing-used.ensures.0 ∙ all)),
      search rules,
    )
