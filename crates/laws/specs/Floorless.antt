-- At the floor +0.0 every decision is what it is without a floor: a value of the format plus or minus zero compares as it did.
use Rattle.std.specs.Prelude.{◌≡◌, Bool, true, false, ◌&&◌, ◌||◌, ℕ, zero, suc, ◌+◌, ◌-◌, ◌*◌, ◌%◌, ◌^◌, ◌<◌, ◌≤◌, ℤ, pos, negsuc, T, eqb, leb, ltb}
use Rattle.std.proofs.Math.Path.{refl, ap, ap₂}
use Rattle.std.proofs.Common.{sym, ◌∙◌, subst, add-zero, zero-add, mul_assoc, mul_right_comm, mul-pos, add-mul, mul-one, zero-mul, mul-le-mul_right, mul-lt-mul_of_pos_right, lt_of_not-le, not-le_of_lt, lt_trans, arith, leb→le, le→leb, ltb→lt, lit<, pow-add, pow_pos, shl_lt, lt-ltb, le-ltb}
use Rattle.std.proofs.Math.Pow.{pow-lt}
use Rattle.std.specs.Float.Ieee.{Float, nan, binary32, up, down, round, sum, of_bits, neg, add, sub, below, lt, fits}
use Rattle.std.specs.Float.{inf, fin}
use Rattle.std.specs.Float.Ieee.Exact.{HasValue, round_exact}
use Rattle.std.specs.Float.Ieee.Fits.{and_l, and_r, up_pos, down_pos, mul-fits}
use Rattle.rules.specs.Bits.{pick}
use Rattle.rules.specs.Points.{zero_part, twice, doubtful, sign_of, near_end, far_end, size_of, size_and_sign, decide, sign_without, size_without, decide_without}
use Rattle.laws.specs.Order.{lt-over, lt-under, Compared, less, same, more, compared}

-- ---- a value of the format rounds to itself

-- m * 2 ^ k
whole : (s : Bool) (m k : ℕ) → m < 2 ^ 24 → m * 2 ^ k < 2 ^ 128 → HasValue (round binary32 s (m * 2 ^ k) 1) s (m * 2 ^ k) 1
whole s m k h l =
    round_exact binary32 s (m * 2 ^ k) 1 m (k + 149) (lit< tt) h
    (rw (pow-add 2 k 149, ← mul_assoc m (2 ^ k) (2 ^ 149)) (mul-lt-mul_of_pos_right l (pow_pos 149)))
    (rw (pow-add 2 k 149, ← mul_assoc m (2 ^ k) (2 ^ 149), mul-one (m * 2 ^ k * 2 ^ 149)))

below-pow : (k n : ℕ) → 2 ^ k ≤ 2 ^ n → k ≤ n
below-pow k n h = go (leb k n) refl
  where
    go : (b : Bool) → leb k n ≡ b → k ≤ n
    go true e = leb→le k n (rw e tt)
    go false e = absurd (not-le_of_lt (pow-lt (lt_of_not-le (λ (l : k ≤ n). subst T e (le→leb k n l)))) h)

-- m / 2 ^ k
broken : (s : Bool) (m k : ℕ) → m < 2 ^ 24 → 2 ^ k ≤ 2 ^ 149 → HasValue (round binary32 s (m * 1) (2 ^ k)) s (m * 1) (2 ^ k)
broken s m k h l =
    let j = 149 - k in
    let few : k ≤ 149 = below-pow k 149 l in
    let all : 149 ≡ j + k = omega arith in
    let parts : 2 ^ 149 ≡ 2 ^ j * 2 ^ k = ap (λ (i : ℕ). 2 ^ i) all ∙ pow-add 2 j k in
    round_exact binary32 s (m * 1) (2 ^ k) m j (pow_pos k) h (lt_trans (shl_lt 24 j h) (pow-lt {j = 277} (omega arith)))
    (rw (mul-one m) (ap (λ (i : ℕ). m * i) parts ∙ sym (mul_assoc m (2 ^ j) (2 ^ k))))

fits-says : (m : ℕ) (e : ℤ) → T (eqb (m % 2) 1 && ltb m (2 ^ 24) && leb (down e) (2 ^ 149) && ltb (m * up e) (2 ^ 128 * down e))
    → (m < 2 ^ 24) × (down e ≤ 2 ^ 149) × (m * up e < 2 ^ 128 * down e)
fits-says m e h =
    let a = eqb (m % 2) 1 in
    let b = ltb m (2 ^ 24) in
    let c = leb (down e) (2 ^ 149) in
    let d = ltb (m * up e) (2 ^ 128 * down e) in
    let t = and_l (a && b && c) d h in
    let u = and_l (a && b) c t in
    (ltb→lt m (2 ^ 24) (and_r a b u), leb→le (down e) (2 ^ 149) (and_r (a && b) c t), ltb→lt (m * up e) (2 ^ 128 * down e) (and_r (a && b && c) d h))

exact : (s : Bool) (m : ℕ) (e : ℤ) → T (fits binary32 (fin s m e)) → HasValue (round binary32 s (m * up e) (down e)) s (m * up e) (down e)
unfolding fits
exact s zero e h =
    round_exact binary32 s (0 * up e) (down e) 0 0 (down_pos e) (lit< tt) (lit< tt) (rw (zero-mul (up e), zero-mul (down e)))
exact s (suc m) (pos k) h =
    let t = fits-says (suc m) (pos k) h in
    whole s (suc m) k t.0 (rw (mul-one (2 ^ 128)) at t.2)
exact s (suc m) (negsuc k) h = let t = fits-says (suc m) (negsuc k) h in broken s (suc m) (suc k) t.0 t.1

-- ---- alike

-- the same to every comparison
record Alike (x y : Float) : Type 0 where
  over : (b : Float) → lt b x ≡ lt b y
  under : (b : Float) → lt x b ≡ lt y b

alike_self : (x : Float) → Alike x x
alike_self x = record { over = λ b. refl; under = λ b. refl }

ltb-times : (a b k : ℕ) → 0 < k → ltb (a * k) (b * k) ≡ ltb a b
ltb-times a b k h = go (compared a b)
  where
    go : Compared a b → ltb (a * k) (b * k) ≡ ltb a b
    go (less l) = lt-ltb (a * k) (b * k) (mul-lt-mul_of_pos_right l h) ∙ sym (lt-ltb a b l)
    go (same e) = ap₂ ltb (ap (λ (x : ℕ). x * k) e) refl ∙ le-ltb (b * k) (b * k) (omega arith) ∙ sym (le-ltb a b (omega arith))
    go (more l) = le-ltb (a * k) (b * k) (mul-le-mul_right k (omega arith)) ∙ sym (le-ltb a b (omega arith))

below-times : (s : Bool) (a : ℕ) (t : Bool) (b k : ℕ) → 0 < k → below s (a * k) t (b * k) ≡ below s a t b
below-times false a false b k h = ltb-times a b k h
below-times false a true b k h = refl
below-times true a false b k h = ap₂ ltb (sym (zero-mul k)) (sym (add-mul a b k)) ∙ ltb-times 0 (a + b) k h
below-times true a true b k h = ltb-times b a k h

-- values of one size and sign
module _ (s : Bool) (m : ℕ) (e : ℤ) (n : ℕ) (d : ℤ) (h : n * up d * down e ≡ m * up e * down d) where
  -- a third one held to either
  moved : (c : ℕ) → n * up d * c * down e ≡ m * up e * c * down d
  moved c = mul_right_comm (n * up d) c (down e) ∙ ap (λ (x : ℕ). x * c) h ∙ mul_right_comm (m * up e) (down d) c

  over-same : (t : Bool) (a c : ℕ) → below t (a * down d) s (n * up d * c) ≡ below t (a * down e) s (m * up e * c)
  over-same t a c =
      sym (below-times t (a * down d) s (n * up d * c) (down e) (down_pos e))
      ∙ ap₂ (λ (x y : ℕ). below t x s y) (mul_right_comm a (down d) (down e)) (moved c)
      ∙ below-times t (a * down e) s (m * up e * c) (down d) (down_pos d)

  under_same : (t : Bool) (a c : ℕ) → below s (n * up d * c) t (a * down d) ≡ below s (m * up e * c) t (a * down e)
  under_same t a c =
      sym (below-times s (n * up d * c) t (a * down d) (down e) (down_pos e))
      ∙ ap₂ (λ (x y : ℕ). below s x t y) (moved c) (mul_right_comm a (down d) (down e))
      ∙ below-times s (m * up e * c) t (a * down e) (down d) (down_pos d)

  same_size : Alike (fin s n d) (fin s m e)
  unfolding lt
  same_size = record { over = over; under = under }
    where
      over : (b : Float) → lt b (fin s n d) ≡ lt b (fin s m e)
      over nan = refl
      over (inf t) = refl
      over (fin t q f) = over-same t (q * up f) (down f)

      under : (b : Float) → lt (fin s n d) b ≡ lt (fin s m e) b
      under nan = refl
      under (inf t) = refl
      under (fin t q f) = under_same t (q * up f) (down f)

same-value : (s : Bool) (m : ℕ) (e : ℤ) (x : Float) → HasValue x s (m * up e) (down e) → Alike x (fin s m e)
same-value s m e nan h = absurd h
same-value s m e (inf t) h = absurd h
same-value s m e (fin t n d) h = subst (λ (t : Bool). Alike (fin t n d) (fin s m e)) (sym h.0) (same_size s m e n d h.1)

-- zeros of either sign
zeros : (e : ℤ) → Alike (fin false 0 e) (fin true 0 e)
unfolding lt
zeros e = record { over = over; under = under }
  where
    none : (f : ℤ) → 0 * up e * down f ≡ 0
    none f = rw (zero-mul (up e), zero-mul (down f))

    over : (b : Float) → lt b (fin false 0 e) ≡ lt b (fin true 0 e)
    over nan = refl
    over (inf t) = refl
    over (fin false q f) = rw (none f) (le-ltb (q * up f * down e) 0 (omega arith))
    over (fin true q f) = rw (none f) (ap (ltb 0) (add-zero (q * up f * down e)))

    under : (b : Float) → lt (fin false 0 e) b ≡ lt (fin true 0 e) b
    under nan = refl
    under (inf t) = refl
    under (fin false q f) = rw (none f) (ap (ltb 0) (sym (zero-add (q * up f * down e))))
    under (fin true q f) = rw (none f) (sym (le-ltb (q * up f * down e) 0 (omega arith)))

both-alike : {x y z : Float} → Alike x y → Alike y z → Alike x z
both-alike h k = record { over = λ b. h.over b ∙ k.over b; under = λ b. h.under b ∙ k.under b }

-- ---- plus and minus zero

rounded : (s : Bool) (m : ℕ) (e : ℤ) (n c : ℕ) → T (fits binary32 (fin s m e)) → n ≡ m * up e → c ≡ down e → Alike (round binary32 s n c) (fin s m e)
rounded s m e n c h p q =
    subst (λ (x : Float). Alike x (fin s m e)) (sym (ap₂ (round binary32 s) p q)) (same-value s m e (round binary32 s (m * up e) (down e)) (exact s m e h))

plus-zero : (x : Float) → T (fits binary32 x) → Alike (add binary32 x zero_part) x
unfolding add sum of_bits fits
plus-zero nan h = alike_self nan
plus-zero (inf s) h = alike_self (inf s)
plus-zero (fin false m e) h = rounded false m e (m * up e * 1 + 0 * down e) (down e * 1) h (omega arith) (mul-one (down e))
plus-zero (fin true zero e) h =
    rw (zero-mul (up e), zero-mul (down e), mul-one (down e)) (both-alike (rounded false 0 e 0 (down e) h (sym (zero-mul (up e))) refl) (zeros e))
plus-zero (fin true (suc m) e) h =
    let some : 0 < suc m * up e = mul-pos {m = suc m} (omega arith) (up_pos e) in
    rw (le-ltb (suc m * up e * 1) (0 * down e) (omega arith), lt-ltb (0 * down e) (suc m * up e * 1) (omega arith))
    (rounded true (suc m) e (suc m * up e * 1 - 0 * down e) (down e * 1) h (omega arith) (mul-one (down e)))

minus-zero : (x : Float) → T (fits binary32 x) → Alike (sub binary32 x zero_part) x
unfolding sub add sum neg of_bits
minus-zero nan h = alike_self nan
minus-zero (inf s) h = alike_self (inf s)
minus-zero (fin true m e) h = rounded true m e (m * up e * 1 + 0 * down e) (down e * 1) h (omega arith) (mul-one (down e))
minus-zero (fin false m e) h =
    rw (le-ltb (m * up e * 1) (0 * down e) (omega arith))
    (rounded false m e (m * up e * 1 - 0 * down e) (down e * 1) h (omega arith) (mul-one (down e)))

-- ---- decisions

module _ (level a : Float) where
  twice-fits : T (fits binary32 (twice level))
  unfolding twice
  twice-fits = mul-fits binary32 (of_bits binary32 0x4000_0000) level

  near-alike : Alike (near_end level zero_part) (twice level)
  unfolding near_end
  near-alike = minus-zero (twice level) twice-fits

  far-alike : Alike (far_end level zero_part) (twice level)
  unfolding far_end
  far-alike = plus-zero (twice level) twice-fits

  sign_same : sign_of zero_part a ≡ sign_without a
  unfolding sign_of sign_without of_bits neg
  sign_same = ap (λ (b : Bool). pick (lt zero_part a) 0 (pick b 1 doubtful)) (sym ((zeros (pos 0)).over a))

  size_same : size_of level zero_part a ≡ size_without level a
  unfolding size_of size_without
  size_same = ap₂ (λ (x y : Bool). pick x 0 (pick y 1 doubtful)) beyond within
    where
      t : Float
      t = twice level

      beyond : (lt (far_end level zero_part) a || lt a (neg (far_end level zero_part))) ≡ (lt t a || lt a (neg t))
      beyond = ap₂ ◌||◌ (far-alike.under a) (lt-over a (far_end level zero_part) ∙ far-alike.under (neg a) ∙ lt-over t a)

      within : (lt (neg (near_end level zero_part)) a && lt a (near_end level zero_part)) ≡ (lt (neg t) a && lt a t)
      within = ap₂ ◌&&◌ (lt-under (near_end level zero_part) a ∙ near-alike.over (neg a) ∙ lt-under a t) (near-alike.over a)

-- so every decision is as before
pub as_before : (w : ℕ) (level a : Float) → decide w level zero_part a ≡ decide_without w level a
unfolding decide decide_without
as_before w level a = ap₂ (λ (s t : ℕ). pick (eqb w 1) t (size_and_sign s t)) (size_same level a) (sign_same level a)
