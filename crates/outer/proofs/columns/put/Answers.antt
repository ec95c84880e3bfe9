-- The loop's invariant: the first p bytes of the column are written.
use mathlib.Core.Path.{◌≡◌, refl, ◌∙◌}
use Prim.Native.Nat.{ℕ, ◌+◌, ◌*◌, ◌<◌}
use lib.ListN.{set, length-set}
use lib.Seq.{get_or-set_same, get_or-set_other}
use borrow.Author.Count.{below_more}
use Rattle.rules.specs.Bits.{row}
use Rattle.rules.specs.Outer.{column}
use native.Mathlib.Omega.{arith}
use Rattle.outer.proofs.columns.put.Goals as goal

-- bytes of two columns never share a place
apart : (p q i j : ℕ) → i < 122 → j < 122 → ¬ (i ≡ j) → ¬ (122 * q + i ≡ 122 * p + j)
apart p q i j a b ne e = omega arith

pub loop-p-init : goal.loop-p-init
loop-p-init c = (omega arith, omega arith, (λ q l. absurd (omega arith)), λ i l ne q m. refl)

pub bounds-block-p : goal.bounds-block-p
bounds-block-p c = omega (arith, c.loop-p.invariant.1)

pub loop-p-preserved : goal.loop-p-preserved
loop-p-preserved c =
    let l = c.loop-p in
    let a = c.args in
    let j = a.j in
    let v = row a.c l.p in
    let at = 122 * l.p + j in (
      omega arith,
      length-set l.block at v ∙ l.invariant.1,
      below_more (λ (q : ℕ). column (set l.block at v) j q ≡ row a.c q) l.p
          (λ q m. get_or-set_other l.block at (122 * q + j) v 0 (λ e. omega arith) ∙ l.invariant.2 q m)
          (get_or-set_same l.block at v 0 (omega (arith, l.invariant.1))),
      λ i m ne q n. get_or-set_other l.block at (122 * q + i) v 0 (apart l.p q i j m (omega arith) ne) ∙ l.invariant.3 i m ne q n,
    )

pub returns : goal.returns
returns c =
    let l = c.loop-p in
    record { long = l.invariant.1; here = λ q m. l.invariant.2 q (omega arith); there = l.invariant.3 }
