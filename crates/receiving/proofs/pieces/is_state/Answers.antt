-- The tests in their order; each that fails tells that it is no state.
use mathlib.Core.Path.{◌≡◌, ◌∙◌}
use native.Mathlib.Decide.{ℕ_discrete}
use native.Mathlib.Omega.{arith}
use borrow.Author.Tests.{eq-eqb, ne_eqb}
use lib.Dec.{eqb}
use Rattle.rules.specs.Pieces.{is_state}
use Rattle.receiving.proofs.States.{passes, fails, come-small, rest-zero, small-zero}
use Rattle.receiving.proofs.pieces.is_state.Goals as goal

pub returns-then-state-ne28674 : goal.returns-then-state-ne28674
returns-then-state-ne28674 c = fails _ _ (λ w. c.if-state-ne28674.true w.long)

pub returns-then-n-symbol_count : goal.returns-then-n-symbol_count
returns-then-n-symbol_count c = fails _ _ (λ w. omega (arith, w.within))

pub returns-then-largest-most_byte : goal.returns-then-largest-most_byte
returns-then-largest-most_byte c =
    let b = c.most_byte in
    let s = c.seen-n in
    let a = c.args in
    fails _ _
    (λ w.
    omega (
      arith,
      come-small a.state.now s.result w.long s.ensures.0 (omega arith) c.largest.result a.mode b.result c.largest.ensures w b.ensures,
    ))

pub returns : goal.returns
returns c = go (ℕ_discrete c.largest-2.result 0)
  where
    go : Dec (c.largest-2.result ≡ 0) → eqb c.largest-2.result 0 ≡ is_state c.args.mode c.args.state.now
    go (yes z) =
        eq-eqb _ _ z
        ∙ passes _ _
        (small-zero c.args.state.now c.seen-n.result c.if-state-ne28674.false c.seen-n.ensures.0 (omega arith) c.largest.result c.largest-2.result
        c.largest.ensures c.largest-2.ensures c.args.mode c.most_byte.result (omega arith) (omega arith) c.most_byte.ensures (omega arith))
    go (no ne) =
        ne_eqb _ _ ne
        ∙ fails _ _
        (λ w.
        ne (omega (arith, rest-zero c.args.state.now c.seen-n.result w.long c.seen-n.ensures.0 (omega arith) c.largest-2.result c.args.mode c.largest-2.ensures w)))
