-- The loop's invariant: the first entries are there, and the basis' coefficients follow.
use mathlib.Core.Path.{◌≡◌, ap₂, ◌∙◌}
use Prim.Native.Nat.{ℕ, ◌<◌}
use Rattle.rules.specs.Bits.{row}
use Rattle.rules.specs.Field.{◌⊗◌}
use Rattle.outer.specs.Solve.{basis, entry, other}
use Rattle.laws.specs.Filled.{up_to-below, up_to-from, holds-first, holds-next}
use native.Mathlib.Omega.{arith}
use Rattle.outer.proofs.matrix.Missing.entries.Goals as goal

pub loop-c-init : goal.loop-c-init
loop-c-init c =
    let a = c.args in
    (omega arith, holds-first (entry a.parity.r a.self.lost a.self.p) (basis (other a.self.lost a.self.p) 16) 0 c.basis-e.ensures)

pub loop-c-preserved : goal.loop-c-preserved
unfolding entry
loop-c-preserved c =
    let l = c.loop-c in
    let a = c.args in
    let f : ℕ → ℕ = entry a.parity.r a.self.lost a.self.p in
    let g : ℕ → ℕ = basis (other a.self.lost a.self.p) 16 in
    let i : ℕ = l.c-index in
    let lt : i < 8 = omega arith in
    let here : row l.c-items i ≡ g i = l.invariant.1.each i lt ∙ up_to-from f g i i (omega arith) in
    let stored : c.mul.result.0 ≡ f i = c.mul.ensures ∙ ap₂ ◌⊗◌ here c.scale-d.ensures in
    (omega arith, holds-next f g 0 i _ lt stored l.invariant.1)

pub returns : goal.returns
returns c =
    let l = c.loop-c in
    let a = c.args in
    λ j m. l.invariant.1.each j (omega arith)
    ∙ up_to-below (entry a.parity.r a.self.lost a.self.p) (basis (other a.self.lost a.self.p) 16) l.c-index j (omega arith)
