-- The mask of the lost packets is marked exactly where the reason isn't 0.
use mathlib.Core.Path.{◌≡◌, ap, ◌∙◌}
use mathlib.Core.Bool.{Bool}
use mathlib.Core.Logic.{◌↔◌}
use Prim.Native.Nat.{ℕ, ◌<◌}
use borrow.Author.Tests.{eq-eqb}
use Rattle.rules.specs.Bits.{pick}
use Rattle.rules.specs.Outer.{marked}
use Rattle.rules.specs.Block.{lost_mask}
use Rattle.laws.specs.Mask.{mask-marked, mask-kept as kept-reason}

pub mask-kept : (reasons : ℕ → ℕ) (n p : ℕ) → p < n → (marked (lost_mask n reasons) p ≡ 0) ↔ (reasons p ≡ 0)
mask-kept reasons n p l =
    (kept-reason reasons n p l, λ z. mask-marked reasons n p l ∙ ap (λ (b : Bool). pick b 0 1) (eq-eqb (reasons p) 0 z))
