-- Three wrong bits never pass: two packets with right check bits that differ in at most three of their first 992 bits agree in all of them.
-- The register is linear, so fed with the differences, and started at zero, it ends at zero. An odd number of differences leaves an odd number of
-- ones in it. The first difference leaves the polynomial, which zeros turn into other numbers for 991 steps, so that a second one doesn't cancel it.
use mathlib.Core.Path.{◌≡◌, refl, sym, ap, ap₂, ◌∙◌}
use mathlib.Core.Bool.{Bool, true, not, ◌&&◌}
use Prim.Native.Nat.{ℕ, zero, suc, ◌+◌, ◌*◌, ◌%◌, ◌^◌, ◌<◌, ◌≤◌}
use native.Mathlib.Nat.{le_refl, mod-lt, mul-mod_left, add-zero, zero-add, add-suc, mod-add-mod, mod-eq_of_lt, mul-one}
use native.Mathlib.Numerals.{add-one}
use native.Mathlib.Decide.{ℕ_discrete}
use native.Mathlib.Omega.{arith}
use lib.Bits.{bit_xor}
use lib.Count.{ones}
use lib.Dec.{T, T_not, eqb, lit<}
use lib.Ieee.Fits.{and_l, and_r, eq→eqb}
use borrow.Author.Tests.{eq-eqb, ne_eqb}
use Rattle.rules.specs.Bits.{pick, bit_of}
use Rattle.rules.specs.Packet.{check_polynomial, check_step, check_register, check_word}
use Rattle.rules.specs.Block.{check_right}
use Rattle.rules.specs.Bits.{differ}
use Rattle.packet.proofs.Bits.{right-bit}
use Rattle.packet.proofs.Register.{xor-swap, xor-zero-eq, xor-bit, complement, register_lt}
use Rattle.packet.proofs.Register.{step-lt, step-linear, step-parity, step-nonzero, step-one, shift-step}

-- ---- the polynomial after d zeros

power : ℕ → ℕ
power zero = check_polynomial
power (suc d) = check_step (power d) 0

-- n steps from s never come to the polynomial
away : ℕ → ℕ → Bool
away zero s = true
away (suc n) s =
    let t : ℕ = check_step s 0 in
    not (eqb t check_polynomial) && away n t

away-says : (n m : ℕ) → T (away n (power m)) → (d : ℕ) → d < n → power (suc (m + d)) ≡ check_polynomial → ⊥
unfolding away power
away-says zero m t d h e = absurd (omega arith)
away-says (suc n) m t zero h e =
    let same : Bool = eqb (power (suc m)) check_polynomial in
    T_not same (and_l (not same) (away n (power (suc m))) t) (eq→eqb (rw add-zero at e))
away-says (suc n) m t (suc d) h e =
    let same : Bool = eqb (power (suc m)) check_polynomial in
    let there : m + suc d ≡ suc m + d = omega arith in
    away-says n (suc m) (and_r (not same) (away n (power (suc m))) t) d (omega arith) (rw there at e)

away-991 : T (away 991 (power 0))
unfolding away power check_step
away-991 = tt

-- ---- how the register goes on

-- what is known of the register z after n bits of which c are ones
abbrev State : ℕ → ℕ → ℕ → Type 0
State zero n z = z ≡ 0
State (suc zero) n z = (d : ℕ) × (d < n) × (z ≡ power d)
State (suc (suc zero)) n z = z ≡ 0 → ⊥
State (suc (suc (suc c))) n z = Unit {0}

state-0 : (c n z : ℕ) → z < 2 ^ 16 → State c n z → State c (suc n) (check_step z 0)
unfolding power check_step
state-0 zero n z h s = rw s refl
state-0 (suc zero) n z h s = (suc s.0, omega (arith, s.1), ap (λ (v : ℕ). check_step v 0) s.2)
state-0 (suc (suc zero)) n z h s = λ e. s (step-nonzero z h e)
state-0 (suc (suc (suc c))) n z h s = tt

state-1 : (c n z : ℕ) → n < 992 → State c n z → State (suc c) (suc n) (check_step z 1)
unfolding power check_step
state-1 zero n z h s = (0, omega arith, rw s refl)
state-1 (suc zero) n z h s =
    λ e.
    let sum : bit_xor (check_step z 0) check_polynomial ≡ 0 = sym (step-one z) ∙ e in
    away-says 991 0 away-991 s.0 (omega (arith, s.1))
    (ap (λ (d : ℕ). power (suc d)) (zero-add s.0) ∙ ap (λ (v : ℕ). check_step v 0) (sym s.2) ∙ xor-zero-eq (check_step z 0) check_polynomial sum)
state-1 (suc (suc c)) n z h s = tt

-- ---- a row of differences

-- the register that starts at zero
run : (ℕ → ℕ) → ℕ → ℕ
run e zero = 0
run e (suc n) = check_step (run e n) (e n)

count : (ℕ → ℕ) → ℕ → ℕ
count e zero = 0
count e (suc n) = count e n + e n

run-lt : (e : ℕ → ℕ) (n : ℕ) → run e n < 2 ^ 16
unfolding run
run-lt e zero = lit< tt
run-lt e (suc n) = step-lt (run e n) (e n)

run-parity : (e : ℕ → ℕ) (n : ℕ) → ones (run e n) % 2 ≡ count e n % 2
unfolding run count ones
run-parity e zero = refl
run-parity e (suc n) =
    step-parity (run e n) (e n) (run-lt e n)
    ∙ sym (mod-add-mod (ones (run e n)) 2 (e n)) ∙ ap (λ (o : ℕ). (o + e n) % 2) (run-parity e n) ∙ mod-add-mod (count e n) 2 (e n)

module _ (e : ℕ → ℕ) (bit : (i : ℕ) → e i < 2) where
  run-state : (n : ℕ) → n ≤ 992 → State (count e n) n (run e n)
  unfolding run count
  run-state zero h = refl
  run-state (suc n) h = go (e n) (bit n) (run-state n (omega arith))
    where
      go : (b : ℕ) → b < 2 → State (count e n) n (run e n) → State (count e n + b) (suc n) (check_step (run e n) b)
      go zero l s = rw add-zero (state-0 (count e n) n (run e n) (run-lt e n) s)
      go (suc zero) l s = rw add-one (state-1 (count e n) n (run e n) (omega arith) s)
      go (suc (suc b)) l s = absurd (omega arith)

  -- few differences that leave nothing in the register are none
  none : run e 992 ≡ 0 → count e 992 ≤ 3 → count e 992 ≡ 0
  unfolding ones
  none z h = go (count e 992) h (rw z at (run-state 992 (le_refl 992))) (sym (run-parity e 992) ∙ ap (λ (v : ℕ). ones v % 2) z)
    where
      go : (c : ℕ) → c ≤ 3 → State c 992 0 → c % 2 ≡ 0 → c ≡ 0
      go zero l s q = refl
      go (suc zero) l s q = absurd (omega arith)
      go (suc (suc zero)) l s q = absurd (s refl)
      go (suc (suc (suc c))) l s q = absurd (omega arith)

-- fed with its own digits, the register shifts them out
module _ (e : ℕ → ℕ) (m : ℕ) (own : (i : ℕ) → i < 16 → e (m + i) ≡ bit_of 16 (run e m) i) where
  shift-out : (i : ℕ) → i ≤ 16 → run e (m + i) ≡ run e m * 2 ^ i % 2 ^ 16
  unfolding run
  shift-out zero h = rw (add-zero, mul-one) (sym (mod-eq_of_lt (run-lt e m)))
  shift-out (suc i) h = rw add-suc (ap₂ check_step (shift-out i (omega arith)) (own i h) ∙ shift-step (run e m) i h)

-- ---- two packets

bit-apart : (a b : ℕ) → a < 2 → b < 2 → pick (eqb a b) 0 1 ≡ (a + b) % 2
bit-apart a b ha hb = go (ℕ_discrete a b)
  where
    go : Dec (a ≡ b) → pick (eqb a b) 0 1 ≡ (a + b) % 2
    go (yes e) = rw (eq-eqb a b e) (omega arith)
    go (no n) = rw (ne_eqb a b n) (omega arith)

module _ (x y : ℕ → ℕ) where
  apart : ℕ → ℕ
  apart i = (x i + y i) % 2

  run-apart : (n : ℕ) → run apart n ≡ bit_xor (check_register x n) (check_register y n)
  unfolding run apart check_register
  run-apart zero = refl
  run-apart (suc n) =
      ap (λ (z : ℕ). check_step z (apart n)) (run-apart n) ∙ step-linear (check_register x n) (check_register y n) (x n) (y n)

  -- the check bits' differences are what the register holds
  check-apart : T (check_right x) → T (check_right y) → (i : ℕ) → i < 16 → apart (976 + i) ≡ bit_of 16 (run apart 976) i
  unfolding apart check_word
  check-apart cx cy i h =
      let u : ℕ = check_register x 976 in
      let v : ℕ = check_register y 976 in
      ap₂ (λ (a b : ℕ). (a + b) % 2)
      (right-bit x cx i h ∙ ap (λ (w : ℕ). bit_of 16 w i) (complement 16 u (register_lt x 976)))
      (right-bit y cy i h ∙ ap (λ (w : ℕ). bit_of 16 w i) (complement 16 v (register_lt y 976)))
      ∙ sym (xor-bit (bit_xor 65535 u) (bit_xor 65535 v) i)
      ∙ ap (λ (w : ℕ). bit_of 16 w i) (xor-swap 65535 u 65535 v ∙ sym (run-apart 976))

  differ-count : (n : ℕ) → ((i : ℕ) → i < n → x i < 2) → ((i : ℕ) → i < n → y i < 2) → differ n x y ≡ count apart n
  unfolding differ count apart
  differ-count zero bx by = refl
  differ-count (suc n) bx by =
      ap₂ (λ (a b : ℕ). a + b) (differ-count n (λ i l. bx i (omega arith)) (λ i l. by i (omega arith)))
      (bit-apart (x n) (y n) (bx n (le_refl (suc n))) (by n (le_refl (suc n))))

  -- rows that differ nowhere agree
  pub differ-none : (n : ℕ) → differ n x y ≡ 0 → (i : ℕ) → i < n → x i ≡ y i
  unfolding differ
  differ-none zero d i h = absurd (omega arith)
  differ-none (suc n) d i h = go (ℕ_discrete i n) (ℕ_discrete (x n) (y n)) (λ l. differ-none n (omega arith) i l)
    where
      go : Dec (i ≡ n) → Dec (x n ≡ y n) → (i < n → x i ≡ y i) → x i ≡ y i
      go (no ne) same below = below (omega arith)
      go (yes e) (yes same) below = ap x e ∙ same ∙ sym (ap y e)
      go (yes e) (no other) below = absurd (omega (arith, ap (λ (t : Bool). pick {A = ℕ} t 0 1) (ne_eqb (x n) (y n) other)))

pub distance : (x y : ℕ → ℕ) → ((i : ℕ) → i < 992 → x i < 2) → ((i : ℕ) → i < 992 → y i < 2)
    → T (check_right x) → T (check_right y) → differ 992 x y ≤ 3 → (i : ℕ) → i < 992 → x i ≡ y i
unfolding apart
distance x y bx by cx cy few =
    let e : ℕ → ℕ = apart x y in
    let same : differ 992 x y ≡ count e 992 = differ-count x y 992 bx by in
    let end : run e 992 ≡ 0 = shift-out e 976 (check-apart x y cx cy) 16 (le_refl 16) ∙ mul-mod_left (run e 976) (2 ^ 16) in
    differ-none x y 992 (same ∙ none e (λ i. mod-lt (x i + y i) (lit< tt)) end (omega arith))
