-- The product by words. What a word has is additive, and so is what is gathered from it: it is the product, since a computed test of 1, 2 .. 128
-- passes.
use mathlib.Core.Path.{◌≡◌, refl, sym, ap, ap₂, ◌∙◌}
use Prim.Native.Nat.{ℕ, zero, suc, ◌*◌, ◌/◌, ◌%◌, ◌^◌, ◌<◌}
use native.Mathlib.Omega.{arith}
use lib.Arith.{bin_ind}
use lib.Bits.{bit_and, and_shr, and_mod, and_comm, xor_shr, xor_mod}
use Rattle.rules.specs.Field.{◌⊕◌, ◌⊗◌, times, double}
use Rattle.field.specs.Words.{shifts, multiples, masks}
use Rattle.field.proofs.Laws.{Additive, Biadditive, after, both, left-additive, right-additive, rest-additive, bit, ⊕-comm, double-additive, bit-times, top-rest, agree₂, ⊗-biadditive}

-- ---- what is additive

-- digit by digit
and-additive : (a b c : ℕ) → bit_and (a ⊕ b) c ≡ bit_and a c ⊕ bit_and b c
and-additive =
    bin_ind (λ (a : ℕ). (b c : ℕ) → bit_and (a ⊕ b) c ≡ bit_and a c ⊕ bit_and b c) (λ b c. refl) λ a ih b c.
    let halves : bit_and (a ⊕ b) c / 2 ≡ (bit_and a c ⊕ bit_and b c) / 2 =
    and_shr (a ⊕ b) c 1 ∙ ap (λ (x : ℕ). bit_and x (c / 2)) (xor_shr a b 1) ∙ ih (b / 2) (c / 2)
    ∙ sym (xor_shr (bit_and a c) (bit_and b c) 1 ∙ ap₂ ◌⊕◌ (and_shr a c 1) (and_shr b c 1)) in
    let digits : bit_and (a ⊕ b) c % 2 ≡ (bit_and a c ⊕ bit_and b c) % 2 =
    and_mod (a ⊕ b) c 1 ∙ ap (λ (x : ℕ). bit_and x (c % 2)) (xor_mod a b 1)
    ∙ bit (λ (x : ℕ). bit_and (x ⊕ b % 2) (c % 2) ≡ bit_and x (c % 2) ⊕ bit_and (b % 2) (c % 2))
    refl (bit (λ (y : ℕ). bit_and (1 ⊕ y) (c % 2) ≡ bit_and 1 (c % 2) ⊕ bit_and y (c % 2))
    (bit (λ (z : ℕ). bit_and 1 z ≡ bit_and 1 z ⊕ 0) refl refl c) (bit (λ (z : ℕ). bit_and 0 z ≡ bit_and 1 z ⊕ bit_and 1 z) refl refl c) b) a
    ∙ sym (xor_mod (bit_and a c) (bit_and b c) 1 ∙ ap₂ ◌⊕◌ (and_mod a c 1) (and_mod b c 1)) in
    omega (arith, halves, digits)

and_l : (f : ℕ → ℕ) → Additive f → (c : ℕ) → Additive (λ a. bit_and (f a) c)
and_l f hf c a b = ap (λ (x : ℕ). bit_and x c) (hf a b) ∙ and-additive (f a) (f b) c

and_r : (c : ℕ) (f : ℕ → ℕ) → Additive f → Additive (λ a. bit_and c (f a))
and_r c f hf a b = and_comm c (f (a ⊕ b)) ∙ and_l f hf c a b ∙ ap₂ ◌⊕◌ (and_comm (f a) c) (and_comm (f b) c)

shifts-additive : (n : ℕ) → Additive (shifts n)
unfolding shifts
shifts-additive zero = λ a b. refl
shifts-additive (suc n) =
    both (λ a. a) (λ a. shifts n (double a) * 256) (λ a b. refl)
    (after (λ a. a * 256) (λ a. shifts n (double a)) (left-additive 8) (after (shifts n) double (shifts-additive n) double-additive))

masks-additive : (n : ℕ) → Additive (masks n)
unfolding masks
masks-additive zero = λ a b. refl
masks-additive (suc n) =
    both (λ b. b % 2 * 255) (λ b. masks n (b / 2) * 256) (bit-times 255)
    (after (λ b. b * 256) (λ b. masks n (b / 2)) (left-additive 8) (after (masks n) (λ b. b / 2) (masks-additive n) (right-additive 1)))

-- ---- the word of the first factor, from its halves

pub halves : (a : ℕ) → multiples (a % 16) ⊕ multiples (a / 16 * 16) ≡ multiples a
halves a = sym (shifts-additive 8 (a % 16) (a / 16 * 16)) ∙ ap multiples (⊕-comm (a % 16) (a / 16 * 16) ∙ top-rest 4 a)

-- ---- what is gathered from it for the second factor

-- those of the word's low four bytes that the low half of b wants, and of its high four those that the high half wants
abbrev four : ℕ → ℕ → ℕ
four w b = bit_and (w % 2 ^ 32) (masks 4 (b % 16)) ⊕ bit_and (w / 2 ^ 32) (masks 4 (b / 16))

abbrev folded : ℕ → ℕ → ℕ
folded k w = w ⊕ w / 2 ^ k

abbrev summed : ℕ → ℕ
summed w = folded 8 (folded 16 w) % 256

abbrev gathered : ℕ → ℕ → ℕ
gathered a b = summed (four (multiples a) b)

folded-additive : (k : ℕ) → Additive (folded k)
folded-additive k = both (λ w. w) (λ w. w / 2 ^ k) (λ a b. refl) (right-additive k)

summed-additive : Additive summed
summed-additive =
    after (λ w. w % 256) (λ w. folded 8 (folded 16 w)) (rest-additive 8) (after (folded 8) (folded 16) (folded-additive 8) (folded-additive 16))

four-additive-l : (b : ℕ) → Additive (λ w. four w b)
four-additive-l b =
    both (λ w. bit_and (w % 2 ^ 32) (masks 4 (b % 16))) (λ w. bit_and (w / 2 ^ 32) (masks 4 (b / 16)))
    (and_l (λ w. w % 2 ^ 32) (rest-additive 32) (masks 4 (b % 16))) (and_l (λ w. w / 2 ^ 32) (right-additive 32) (masks 4 (b / 16)))

four-additive-r : (w : ℕ) → Additive (four w)
four-additive-r w =
    both (λ b. bit_and (w % 2 ^ 32) (masks 4 (b % 16))) (λ b. bit_and (w / 2 ^ 32) (masks 4 (b / 16)))
    (and_r (w % 2 ^ 32) (λ b. masks 4 (b % 16)) (after (masks 4) (λ b. b % 16) (masks-additive 4) (rest-additive 4)))
    (and_r (w / 2 ^ 32) (λ b. masks 4 (b / 16)) (after (masks 4) (λ b. b / 16) (masks-additive 4) (right-additive 4)))

gathered-biadditive : Biadditive gathered
gathered-biadditive = (
  λ b. after summed (λ a. four (multiples a) b) summed-additive (after (λ w. four w b) multiples (four-additive-l b) (shifts-additive 8)),
  λ a. after summed (four (multiples a)) summed-additive (four-additive-r (multiples a)),
)

pub by-words : (a b : ℕ) → a < 256 → b < 256 → gathered a b ≡ a ⊗ b
unfolding ◌⊗◌ times double shifts masks
by-words = agree₂ gathered ◌⊗◌ gathered-biadditive ⊗-biadditive tt
