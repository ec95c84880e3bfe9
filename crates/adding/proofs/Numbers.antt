-- What adding a receipt answers, case by case.
use mathlib.Core.Path.{◌≡◌, refl, sym, ap, ap₂, subst, ◌∙◌}
use mathlib.Core.Bool.{Bool, true, false, not, ◌&&◌}
use mathlib.Core.List.{List}
use Prim.Native.Nat.{ℕ}
use native.Mathlib.Omega.{arith}
use lib.Dec.{T, eqb, eqb→eq}
use lib.Ieee.Fits.{and_l, and_r}
use lib.ListN.{length}
use borrow.Author.Tests.{eq-eqb, ne_eqb}
use Rattle.rules.specs.Bits.{pick}
use Rattle.rules.specs.Totals.{is_block, agrees, plus, fits, adding_number}
use Rattle.rules.specs.declared.Receipt.{Receipt}

-- by whether it is a block, whether mask, reasons and length are right, and whether there is room
abbrev numbered : Bool → Bool → Bool → ℕ
numbered block right room = pick (not block) 0 (pick (not right) 23 (pick (not room) 19 0))

abbrev pub right : List ℕ → Receipt → Bool
right t a = eqb (length t) 128 && agrees a

module _ (t : List ℕ) (a : Receipt) where
  by_cases : (b g f : Bool) → is_block a ≡ b → right t a ≡ g → fits (plus t a) ≡ f → adding_number t a ≡ numbered b g f
  unfolding adding_number
  by_cases b g f eb eg ef =
      ap (λ (x : Bool). numbered x (right t a) (fits (plus t a))) eb ∙ ap₂ (λ (x y : Bool). numbered b x y) eg ef

  pub number-no-block : is_block a ≡ false → adding_number t a ≡ 0
  number-no-block e = by_cases false (right t a) (fits (plus t a)) e refl refl

  number-wrong : is_block a ≡ true → right t a ≡ false → adding_number t a ≡ 23
  number-wrong e g = by_cases true false (fits (plus t a)) e g refl

  right-not : (x y : Bool) → y ≡ false → (x && y) ≡ false
  right-not true y e = e
  right-not false y e = refl

  pub number-length : is_block a ≡ true → ¬ (length t ≡ 128) → adding_number t a ≡ 23
  number-length e ne = number-wrong e (ap (λ (x : Bool). x && agrees a) (ne_eqb (length t) 128 ne))

  pub number-disagrees : is_block a ≡ true → agrees a ≡ false → adding_number t a ≡ 23
  number-disagrees e d = number-wrong e (right-not (eqb (length t) 128) (agrees a) d)

  is_right : length t ≡ 128 → agrees a ≡ true → right t a ≡ true
  is_right long g = ap₂ ◌&&◌ (eq-eqb (length t) 128 long) g

  pub number-full : is_block a ≡ true → length t ≡ 128 → agrees a ≡ true → fits (plus t a) ≡ false → adding_number t a ≡ 19
  number-full e long g f = by_cases true true false e (is_right long g) f

  pub number-taken : is_block a ≡ true → length t ≡ 128 → agrees a ≡ true → fits (plus t a) ≡ true → adding_number t a ≡ 0
  number-taken e long g f = by_cases true true true e (is_right long g) f

  -- the four ways that it can go
  pub data Way : ℕ → Type 0 where
    none : is_block a ≡ false → Way 0
    wrong : T (is_block a) → right t a ≡ false → Way 23
    full : T (is_block a) → length t ≡ 128 → T (agrees a) → fits (plus t a) ≡ false → Way 19
    taken : T (is_block a) → length t ≡ 128 → T (agrees a) → T (fits (plus t a)) → Way 0

  right-long : right t a ≡ true → length t ≡ 128
  right-long e = eqb→eq (length t) 128 (and_l (eqb (length t) 128) (agrees a) (subst T (sym e) tt))

  right-agrees : right t a ≡ true → T (agrees a)
  right-agrees e = and_r (eqb (length t) 128) (agrees a) (subst T (sym e) tt)

  pub way : Way (adding_number t a)
  way = go (is_block a) (right t a) (fits (plus t a)) refl refl refl
    where
      go : (b g f : Bool) → is_block a ≡ b → right t a ≡ g → fits (plus t a) ≡ f → Way (adding_number t a)
      go false g f eb eg ef = subst Way (sym (by_cases false g f eb eg ef)) (none eb)
      go true false f eb eg ef = subst Way (sym (by_cases true false f eb eg ef)) (wrong (subst T (sym eb) tt) eg)
      go true true false eb eg ef =
          subst Way (sym (by_cases true true false eb eg ef)) (full (subst T (sym eb) tt) (right-long eg) (right-agrees eg) ef)
      go true true true eb eg ef =
          subst Way (sym (by_cases true true true eb eg ef)) (taken (subst T (sym eb) tt) (right-long eg) (right-agrees eg) (subst T (sym ef) tt))

  -- a block that was taken
  pub taken-block : T (is_block a) → adding_number t a ≡ 0 → (length t ≡ 128) × T (agrees a) × T (fits (plus t a))
  taken-block block e = go way e
    where
      go : {n : ℕ} → Way n → n ≡ 0 → (length t ≡ 128) × T (agrees a) × T (fits (plus t a))
      go (none q) z = absurd (subst T q block)
      go (wrong b g) z = absurd (omega (arith, z))
      go (full b long g f) z = absurd (omega (arith, z))
      go (taken b long g f) z = (long, g, f)

-- receipts of which the same is so are answered alike
pub number_same : (t : List ℕ) (a b : Receipt) → is_block a ≡ is_block b → right t a ≡ right t b → plus t a ≡ plus t b → adding_number t a ≡ adding_number t b
number_same t a b eb eg ep =
    by_cases t a (is_block b) (right t b) (fits (plus t b)) eb eg (ap fits ep) ∙ sym (by_cases t b (is_block b) (right t b) (fits (plus t b)) refl refl refl)
