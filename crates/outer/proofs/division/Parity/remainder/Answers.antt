-- The loop's invariant: the register holds the remainder of the first bytes.
use mathlib.Core.Path.{◌≡◌, ap, ap₂, ◌∙◌}
use mathlib.Core.List.{List}
use Prim.Native.Nat.{ℕ, suc, ◌+◌, ◌-◌, ◌≤◌, ◌<◌}
use native.Mathlib.Decide.{dec_lt}
use native.Mathlib.Numerals.{add-one}
use lib.ListN.{length, take, get_or-replicate}
use Rattle.std.proofs.lemmas.List.{length-take-le, get_or-take}
use borrow.Author.Tests.{lt-ltb, le-ltb}
use Rattle.rules.specs.Bits.{row}
use Rattle.rules.specs.Field.{◌⊕◌, ◌⊗◌}
use Rattle.rules.specs.Outer.{remainder, generator}
use Rattle.outer.specs.Steps.{Starts, below, divided}
use native.Mathlib.Omega.{arith}
use Rattle.outer.proofs.division.Parity.remainder.Goals as goal

below-same : (r : ℕ) {f g : ℕ → ℕ} → ((i : ℕ) → i < r → f i ≡ g i) → (i : ℕ) → below r f i ≡ below r g i
below-same r {f} {g} e i = go (dec_lt i r)
  where
    go : Dec (i < r) → below r f i ≡ below r g i
    go (yes h) = rw (lt-ltb i r h) (e i h)
    go (no h) = rw (le-ltb i r (omega arith))

-- a turn
next : (r n : ℕ) (d : ℕ → ℕ) (s t : List ℕ) → Starts r (remainder r d n) s → Starts r (divided r (row s) (d n)) t → Starts r (remainder r d (n + 1)) t
unfolding remainder
next r n d s t before now i l =
    rw (add-one n) (now i l ∙ ap₂ (λ (x y : ℕ). x ⊕ (d n ⊕ y) ⊗ generator r i) (below-same r before (suc i)) (before 0 (omega arith)))

pub loop-d-init : goal.loop-d-init
unfolding remainder
loop-d-init c = (omega arith, λ i m. get_or-replicate 8 i 0 0 (omega arith))

-- the bytes that the loop walks
walked : (n : ℕ) (c : List ℕ) → n ≤ 16 → length c ≡ 16 → length (take n c) ≡ n
walked n c le long = length-take-le n c (omega (arith, long))

pub loop-d-preserved : goal.loop-d-preserved
loop-d-preserved c =
    let l = c.loop-d in
    let a = c.args in
    let r : ℕ = a.self.r in
    let long = walked (16 - r) a.c (omega arith) (omega arith) in
    let lt : l.d-index < 16 - r = omega (arith, long) in (
      omega (arith, long),
      next r l.d-index (row a.c) l.s c.step-next.result l.invariant.1
          (λ i m. c.step-next.ensures i m ∙ ap (λ (x : ℕ). divided r (row l.s) x i) (get_or-take (16 - r) a.c l.d-index 0 lt)),
    )

pub returns : goal.returns
returns c =
    let l = c.loop-d in
    let r : ℕ = c.args.self.r in
    let long = walked (16 - r) c.args.c (omega arith) (omega arith) in
    let end : l.d-index ≡ 16 - r = omega (arith, long) in
    rw end at l.invariant.1
