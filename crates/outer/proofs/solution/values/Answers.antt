-- The loop's invariant: v has the values of the first coefficients.
use mathlib.Core.Path.{◌≡◌, ap}
use mathlib.Core.List.{List}
use Prim.Native.Nat.{ℕ, ◌+◌}
use native.Mathlib.Numerals.{add-one}
use lib.ListN.{length-replicate, get_or-replicate}
use Rattle.rules.specs.Bits.{row}
use Rattle.rules.specs.Field.{◌⊕◌, ◌⊗◌}
use Rattle.rules.specs.Outer.{value}
use Rattle.laws.specs.Holds.{Holds, holds_as}
use native.Mathlib.Omega.{arith}
use Rattle.outer.proofs.solution.values.Invariants.{values_of}
use Rattle.outer.proofs.solution.values.Goals as goal

-- a turn
next : (x c v w : List ℕ) (p : ℕ) → Holds 0 8 (values_of x c p) v → Holds 0 8 (λ j. row x j ⊗ row v j ⊕ row c p) w
    → Holds 0 8 (values_of x c (p + 1)) w
unfolding value
next x c v w p before h =
    rw (add-one p) (holds_as 0 _ (λ j lt. ap (λ (y : ℕ). row x j ⊗ y ⊕ row c p) (before.each j lt)) h)

pub loop-byte-init : goal.loop-byte-init
unfolding value
loop-byte-init c = (omega arith, record { long = length-replicate {A = ℕ} 8 0; each = λ j lt. get_or-replicate 8 j 0 0 lt })

pub loop-byte-preserved : goal.loop-byte-preserved
loop-byte-preserved c =
    let l = c.loop-byte in
    let a = c.args in
    (omega arith, next a.x a.c l.v c.after-next.result l.byte-index l.invariant.1 c.after-next.ensures)

pub returns : goal.returns
returns c = let l = c.loop-byte in let end : l.byte-index ≡ 16 = omega arith in rw end at l.invariant.1
