-- Around a good level D: what rounding keeps apart, and so the floor under D, D, the ends of the doubtful range around 2D, and 3D.
-- Nothing is asked of the digits of D and the floor: they need not be f32 values.
use Rattle.std.specs.Prelude.{◌≡◌, refl, Bool, true, false, T, leb, Float}
use Rattle.std.proofs.Common.{sym, ◌∙◌, subst, mul_comm, mul_left_comm, mul_right_comm, add-mul, one-mul, two-mul, sub-add_cancel, le_of_eq, le_of_lt, lt_of_not-le, mul-le-mul_left, mul-le-mul_right, lt_of_mul-lt-mul_right, le-div_iff_mul-le, div-add-mod', mod-lt, arith, leb→le, le→leb, lit≤, lit<, pow-add, pow_pos, le-ltb, ne_eqb}
use Rattle.std.proofs.Math.Path.{ap}
use Prim.Native.Nat.{ℕ, suc, ◌+◌, ◌-◌, ◌*◌, ◌/◌, ◌%◌, ◌^◌, ◌≤◌, ◌<◌, compare}
use Rattle.std.proofs.Math.Nat.{mul_assoc, suc-mul, mul-pos, le_of_mul-le-mul_right}
use Rattle.std.specs.Float.{nan, inf, fin, binary32}
use Rattle.std.specs.Float.Ieee.{size, up, down, round, sum, of_bits, to_bits, neg, add, sub, mul, lt, le}
use Rattle.std.specs.Float.Ieee.Digits.{size_reaches}
use Rattle.std.specs.Float.Ieee.Fits.{and_l, and_r, nearest-le}
use Rattle.std.specs.Float.Ieee.Exact.{HasValue}
use Rattle.std.specs.Float.Ieee.Nearest.{nearest-ge}
use Rattle.std.specs.Float.Ieee.Order.{drop, kept, round_mono}
use Rattle.std.specs.Float.Ieee.Scale.{grid, overflow, round_same, round_val, round_under, normal_of_fraction}
use Rattle.std.specs.Float.Ieee.Positive.{num, den, positive, den_pos, positive-finite, own_value, value→cross, value_pos, values_of_le, le→cross, through, between, mul_at}
use Rattle.rules.specs.Points.{triple, twice, near_end, far_end}
use Rattle.rules.specs.Profile.{is_level, has_triple, is_floor, floor_under}
use Rattle.laws.specs.Order.{Low, value, low}

-- ---- rounding moves little

-- g is within one part in 2 ^ 23 of n
abbrev Near : ℕ → ℕ → Type 0
Near n g = (8388607 * n ≤ 8388608 * g) × (8388608 * g ≤ 8388609 * n)

-- a fraction n / c of 24 digits or more is so near to what `round` keeps of it
near : (n c : ℕ) → 0 < c → 24 ≤ size (n / c) → Near n (kept 24 n c * 2 ^ drop 24 n c * c)
near n c C h =
    let k = drop 24 n c in
    let r = kept 24 n c in
    let u = c * 2 ^ k in
    let q = n / u in
    let small : 2 ^ (23 + k) * c ≤ n = (le-div_iff_mul-le C).0 (size_reaches (n / c) (23 + k) (omega arith)) in
    let unit : 2 ^ (23 + k) * c ≡ 8388608 * u = rw (pow-add 2 23 k, mul_assoc 8388608 (2 ^ k) c, mul_comm (2 ^ k) c) in
    let rest : n % u < u = mod-lt n (mul-pos C (pow_pos k)) in
    let whole : q * u + n % u ≡ n = div-add-mod' n u in
    let least : q * u ≤ r * u = mul-le-mul_right u (nearest-ge q (compare (n % u * 2) u)) in
    let most : r * u ≤ (q + 1) * u = mul-le-mul_right u (omega (arith, nearest-le q (compare (n % u * 2) u))) in
    let same : r * 2 ^ k * c ≡ r * u = rw (mul_assoc r (2 ^ k) c, mul_comm (2 ^ k) c) in
    omega arith

-- from the fraction g / u to m / q, which is as large
near-cross : (n c g u m q : ℕ) → 0 < u → m * u ≡ g * q → Near (n * u) (g * c) → Near (n * q) (m * c)
near-cross n c g u m q U e h =
    let low = through (8388607 * n) g m (8388608 * c) u q U (rw (mul_assoc 8388607 n u, mul_left_comm g 8388608 c) h.0) (le_of_eq (sym e)) in
    let high = through m g (8388609 * n) q u (8388608 * c) U (le_of_eq e) (rw (mul_assoc 8388609 n u, mul_left_comm g 8388608 c) h.1) in
    (rw (mul_assoc 8388607 n q, mul_left_comm m 8388608 c) at low, rw (mul_assoc 8388609 n q, mul_left_comm m 8388608 c) at high)

-- x is above zero and near a / c
record Rounds (a c : ℕ) (x : Float) : Type 0 where
  high : T (positive x)
  close : Near (a * den x) (num x * c)

-- the ends of the normal range
abbrev bottom : Float
bottom = of_bits binary32 0x0080_0000

abbrev top : Float
top = of_bits binary32 0x7F7F_FFFF

bottom-above : T (positive bottom)
unfolding of_bits
bottom-above = tt

top_above : T (positive top)
unfolding of_bits
top_above = tt

bottom-is : HasValue bottom false 1 (2 ^ 126)
unfolding of_bits
bottom-is = (refl, refl)

bottom-rounds : round binary32 false 1 (2 ^ 126) ≡ bottom
unfolding round of_bits
bottom-rounds = refl

-- a / c is no smaller than the bottom
abbrev Normal : ℕ → ℕ → Type 0
Normal a c = 1 * c ≤ a * 2 ^ 126

in-units : (a c : ℕ) → Normal a c → 2 ^ 23 * c ≤ a * 2 ^ 149
in-units a c h = rw (one-mul c, mul_left_comm (2 ^ 23) a (2 ^ 126)) at (mul-le-mul_left (2 ^ 23) h)

-- where a / c also rounds to no more than some value, rounding moves it by as little as that
rounds : (a c : ℕ) (t : Float) → 0 < c → Normal a c → T (positive t) → T (le (round binary32 false a c) t) → Rounds a c (round binary32 false a c)
rounds a c t C h p l =
    let x = round binary32 false a c in
    let b = rw bottom-rounds at (round_mono binary32 1 (2 ^ 126) a c (pow_pos 126) C h) in
    let q : T (positive x) = between bottom x t bottom-above p b l in
    let fine : grid binary32 a c < overflow binary32 = round_under binary32 a c (positive-finite x q) in
    record {
      high = q;
      close = near-cross a c (grid binary32 a c) (2 ^ 149) (num x) (den x) (pow_pos 149)
          (value→cross x (grid binary32 a c) (2 ^ 149) (round_val binary32 a c fine))
          (near (a * 2 ^ 149) c C (normal_of_fraction binary32 a c C (in-units a c h)));
    }

-- a rounded product with a whole number
times : (k : ℕ) (x D : Float) → T (positive x) → HasValue x false k 1 → T (positive D) → mul binary32 x D ≡ round binary32 false (k * num D) (den D)
times k x D p h q =
    mul_at binary32 x D k 1 (num D) (den D) p q (lit< tt) (den_pos D) h (own_value D q)
    ∙ ap (round binary32 false (k * num D)) (one-mul (den D))

twice-is : (D : Float) → T (positive D) → twice D ≡ round binary32 false (2 * num D) (den D)
unfolding twice of_bits
twice-is D = times 2 (of_bits binary32 0x4000_0000) D tt (refl, refl)

triple-is : (D : Float) → T (positive D) → triple D ≡ round binary32 false (3 * num D) (den D)
unfolding triple of_bits
triple-is D = times 3 (of_bits binary32 0x4040_0000) D tt (refl, refl)

-- ---- fractions held to D, in twentieths

-- what less than one part in 2 ^ 23 takes from, and adds to, k times s
less : (ks s t w : ℕ) → ks ≤ 100 * s → ks + s ≤ 20 * t → 8388607 * t ≤ 8388608 * w → ks ≤ 20 * w
less ks s t w h l r = omega arith

more : (ks s t w : ℕ) → ks ≤ 100 * s → 20 * t ≤ ks → 8388608 * w ≤ 8388609 * t → 20 * w ≤ ks + s
more ks s t w h l r = omega arith

module _ (A B : ℕ) where
  -- n / c is at least, and at most, k twentieths of A / B
  abbrev Least : ℕ → ℕ → ℕ → Type 0
  Least k n c = k * (A * c) ≤ 20 * (n * B)

  abbrev Most : ℕ → ℕ → ℕ → Type 0
  Most k n c = 20 * (n * B) ≤ k * (A * c)

  -- both sides of such a comparison, times d
  many : (k c d : ℕ) → k * (A * c) * d ≡ k * (A * (c * d))
  many k c d = rw (mul_assoc k (A * c) d, mul_assoc A c d)

  over : (n d : ℕ) → 20 * (n * B) * d ≡ 20 * (n * d * B)
  over n d = rw (mul_assoc 20 (n * B) d, mul_right_comm n B d)

  -- the same fraction with more digits
  least_more : (k n c d : ℕ) → Least k n c → Least k (n * d) (c * d)
  least_more k n c d l = rw (many k c d, over n d) at (mul-le-mul_right d l)

  most-more : (k n c d : ℕ) → Most k n c → Most k (n * d) (c * d)
  most-more k n c d l = rw (many k c d, over n d) at (mul-le-mul_right d l)

  module _ (k a c : ℕ) (x : Float) (h : k ≤ 100) (C : 0 < c) (r : Rounds a c x) where
    s : ℕ
    s = A * (c * den x)

    few : k * s ≤ 100 * s
    few = mul-le-mul_right s h

    -- a comparison with x, times c
    times-c : (i : ℕ) → i * (A * den x) * c ≡ i * s
    unfolding s
    times-c i = many i (den x) c ∙ ap (λ (y : ℕ). i * (A * y)) (mul_comm (den x) c)

    -- rounding takes less than one of them, and adds less than one
    round-least : Least (suc k) a c → Least k (num x) (den x)
    unfolding s
    round-least l =
        le_of_mul-le-mul_right
        (rw (times-c k, over (num x) c)
        (less (k * s) s (a * den x * B) (num x * c * B) few (rw (suc-mul k s) at (least_more (suc k) a c (den x) l))
        (rw (mul_assoc 8388607 (a * den x) B, mul_assoc 8388608 (num x * c) B) at (mul-le-mul_right B r.close.0))))
        C

    round-most : Most k a c → Most (suc k) (num x) (den x)
    unfolding s
    round-most l =
        le_of_mul-le-mul_right
        (rw (times-c (suc k), over (num x) c, suc-mul k s)
        (more (k * s) s (a * den x * B) (num x * c * B) few (most-more k a c (den x) l)
        (rw (mul_assoc 8388608 (num x * c) B, mul_assoc 8388609 (a * den x) B) at (mul-le-mul_right B r.close.1))))
        C

  -- of two fractions the one that has fewer of them is smaller
  apart : (k l n c m d : ℕ) → 0 < A → 0 < c → 0 < d → k < l → Most k n c → Least l m d → n * d < m * c
  apart k l n c m d a C E h p q =
      let z = A * (c * d) in
      let some : 0 < z = mul-pos a (mul-pos C E) in
      let one : 20 * (n * d * B) ≤ k * z = most-more k n c d p in
      let two : l * z ≤ 20 * (m * c * B) = rw (mul_comm d c) at (least_more l m d c q) in
      let up : suc k ≤ l = h in
      let next : k * z + z ≤ l * z = rw (suc-mul k z) at (mul-le-mul_right z up) in
      lt_of_mul-lt-mul_right B (omega arith)

-- ---- the level and its multiples

module _ (D : Float) (good : T (is_level D)) where
  from-bottom : T (le bottom D)
  from-bottom = and_l (le bottom D) (le D top) good

  pub positive-level : T (positive D)
  positive-level = between bottom D top bottom-above top_above from-bottom (and_r (le bottom D) (le D top) good)

  pub level-pos : 0 < num D
  level-pos = value_pos D (num D) (den D) positive-level (den_pos D) (own_value D positive-level)

  normal : Normal (num D) (den D)
  normal = values_of_le bottom D 1 (2 ^ 126) (num D) (den D) bottom-above positive-level bottom-is (own_value D positive-level) from-bottom

  -- so is what is no smaller
  normal-least : (k n c : ℕ) → 20 ≤ k → Least (num D) (den D) k n c → Normal n c
  normal-least k n c h l =
      let all : 20 * (num D * c) ≤ k * (num D * c) = mul-le-mul_right (num D * c) h in
      through 1 (num D) n (2 ^ 126) (den D) c (den_pos D) normal (omega arith)

  -- a multiple's fraction
  in_parts : (k : ℕ) → 20 * k * (num D * den D) ≡ 20 * (k * num D * den D)
  in_parts k = rw (mul_assoc 20 k (num D * den D), mul_assoc k (num D) (den D))

  least-times : (k : ℕ) → Least (num D) (den D) (20 * k) (k * num D) (den D)
  least-times k = le_of_eq (in_parts k)

  most-times : (k : ℕ) → Most (num D) (den D) (20 * k) (k * num D) (den D)
  most-times k = le_of_eq (sym (in_parts k))

  module _ (fine : T (has_triple D)) where
    tripled : Rounds (3 * num D) (den D) (triple D)
    tripled =
        let is = triple-is D positive-level in
        rw is (rounds (3 * num D) (den D) top (den_pos D) (normal-least 60 (3 * num D) (den D) (lit≤ tt) (least-times 3)) top_above (rw is at fine))

    -- what lies from D to 3D
    settled : (k l n c : ℕ) → 0 < c → 20 ≤ k → l ≤ 60 → Least (num D) (den D) k n c → Most (num D) (den D) l n c → Rounds n c (round binary32 false n c)
    settled k l n c C h i p q =
        let some : l * (num D * c) ≤ 60 * (num D * c) = mul-le-mul_right (num D * c) i in
        let under : n * den D ≤ 3 * num D * c = rw (mul_assoc 3 (num D) c) (omega arith) in
        rounds n c (triple D) C (normal-least k n c h p) tripled.high
        (rw (triple-is D positive-level) (round_mono binary32 n c (3 * num D) (den D) C (den_pos D) under))

    doubled : Rounds (2 * num D) (den D) (twice D)
    doubled = rw (twice-is D positive-level) (settled 40 40 (2 * num D) (den D) (den_pos D) (lit≤ tt) (lit≤ tt) (least-times 2) (most-times 2))

    twice-least : Least (num D) (den D) 39 (num (twice D)) (den (twice D))
    twice-least = round-least (num D) (den D) 39 (2 * num D) (den D) (twice D) (lit≤ tt) (den_pos D) doubled (least-times 2)

    twice_most : Most (num D) (den D) 41 (num (twice D)) (den (twice D))
    twice_most = round-most (num D) (den D) 40 (2 * num D) (den D) (twice D) (lit≤ tt) (den_pos D) doubled (most-times 2)

    triple-least : Least (num D) (den D) 59 (num (triple D)) (den (triple D))
    triple-least = round-least (num D) (den D) 59 (3 * num D) (den D) (triple D) (lit≤ tt) (den_pos D) tripled (least-times 3)

-- ---- the floor

-- -0.0 has the bit of its sign, so it is not among them
floor-low : (a : Float) → T (is_floor a) → Low a
unfolding of_bits to_bits lt le
floor-low nan h = absurd h
floor-low (inf true) h = absurd h
floor-low (inf false) h = absurd h
floor-low (fin true m e) h =
    let n = m * up e * 2 ^ 149 / down e in
    let k = size n - 24 in
    absurd (rw (ne_eqb (2 ^ 31 + k * 2 ^ 23 + n / 2 ^ k) 0 (λ z. omega arith)) at h)
floor-low (fin false m e) h = value m e

-- sums and differences of what is not below zero, as fractions
add_is : {x y : Float} → Low x → Low y → add binary32 x y ≡ round binary32 false (num x * den y + num y * den x) (den x * den y)
unfolding add sum
add_is (value m e) (value n d) = refl

sub_is : {x y : Float} → Low x → Low y → num y * den x ≤ num x * den y
    → sub binary32 x y ≡ round binary32 false (num x * den y - num y * den x) (den x * den y)
unfolding sub add sum neg
sub_is (value m e) (value n d) h = rw (le-ltb (m * up e * down d) (n * up d * down e) h)

add-self : {x : Float} → Low x → add binary32 x x ≡ round binary32 false (2 * num x) (den x)
add-self {x} h =
    add_is h h
    ∙ round_same binary32 false (num x * den x + num x * den x) (den x * den x) (2 * num x) (den x) (mul-pos (den_pos x) (den_pos x)) (den_pos x)
    (rw (← two-mul (num x * den x), mul_assoc 2 (num x * den x) (den x), mul_assoc (num x) (den x) (den x), mul_assoc 2 (num x) (den x * den x)))

module _ (D : Float) (good : T (is_level D)) (F : Float) (under : T (floor_under D F)) where
  pub low-floor : Low F
  low-floor = floor-low F (and_l (is_floor F) (le (add binary32 F F) D) under)

  half : T (le (round binary32 false (2 * num F) (den F)) D)
  half = rw (add-self low-floor) at (and_r (is_floor F) (le (add binary32 F F) D) under)

  -- half the level, and a twentieth for the rounding
  floor-most : Most (num D) (den D) 11 (num F) (den F)
  floor-most = go (leb (1 * c) (2 * n * 2 ^ 126)) refl
    where
      n : ℕ
      n = num F

      c : ℕ
      c = den F

      go : (b : Bool) → leb (1 * c) (2 * n * 2 ^ 126) ≡ b → 20 * (n * den D) ≤ 11 * (num D * c)
      go true e =
          let x = round binary32 false (2 * n) c in
          let r = rounds (2 * n) c D (den_pos F) (leb→le (1 * c) (2 * n * 2 ^ 126) (rw e tt)) (positive-level D good) half in
          let cross = le→cross x D r.high (positive-level D good) half in
          let most =
          through (8388607 * (2 * n)) (num x) (num D) (8388608 * c) (den x) (den D) (den_pos x)
          (rw (mul_assoc 8388607 (2 * n) (den x), mul_left_comm (num x) 8388608 c) r.close.0) cross in
          let most' : 8388607 * (2 * (n * den D)) ≤ 8388608 * (num D * c) =
          rw (mul_assoc 8388607 (2 * n) (den D), mul_assoc 2 n (den D), mul_left_comm (num D) 8388608 c) at most in
          omega arith
      go false e =
          let small : 2 * n * 2 ^ 126 ≤ 1 * c = le_of_lt (lt_of_not-le (λ g. subst T e (le→leb (1 * c) (2 * n * 2 ^ 126) g))) in
          let most : 2 * (n * den D) ≤ num D * c =
          rw (mul_assoc 2 n (den D)) at (through (2 * n) 1 (num D) c (2 ^ 126) (den D) (pow_pos 126) small (normal D good)) in
          omega arith

  -- D itself
  own-least : Least (num D) (den D) 20 (num D) (den D)
  own-least = le_of_eq refl

  own-most : Most (num D) (den D) 20 (num D) (den D)
  own-most = le_of_eq refl

  -- the floor is under D
  pub floor-level : num F * den D < num D * den F
  floor-level = apart (num D) (den D) 11 20 (num F) (den F) (num D) (den D) (level-pos D good) (den_pos F) (den_pos D) (lit< tt) floor-most own-least

  module _ (fine : T (has_triple D)) where
    -- and under 3D
    pub floor-triple : num F * den (triple D) < num (triple D) * den F
    floor-triple =
        apart (num D) (den D) 11 59 (num F) (den F) (num (triple D)) (den (triple D)) (level-pos D good) (den_pos F) (den_pos (triple D)) (lit< tt) floor-most
        (triple-least D good fine)

    -- the two ends, as fractions
    m : ℕ
    m = num (twice D) * den F

    n : ℕ
    n = num F * den (twice D)

    c : ℕ
    c = den (twice D) * den F

    c_pos : 0 < c
    unfolding c
    c_pos = mul-pos (den_pos (twice D)) (den_pos F)

    low_twice : Low (twice D)
    low_twice = low (twice D) (doubled D good fine).high

    line-least : Least (num D) (den D) 39 m c
    unfolding m c
    line-least = least_more (num D) (den D) 39 (num (twice D)) (den (twice D)) (den F) (twice-least D good fine)

    line-most : Most (num D) (den D) 41 m c
    unfolding m c
    line-most = most-more (num D) (den D) 41 (num (twice D)) (den (twice D)) (den F) (twice_most D good fine)

    floor-small : Most (num D) (den D) 11 n c
    unfolding n c
    floor-small = rw (mul_comm (den F) (den (twice D))) at (most-more (num D) (den D) 11 (num F) (den F) (den (twice D)) floor-most)

    less-than : n ≤ m
    less-than = le_of_mul-le-mul_right (omega (arith, line-least, floor-small)) (den_pos D)

    near-is : near_end D F ≡ round binary32 false (m - n) c
    unfolding near_end m n c
    near-is = sub_is low_twice low-floor less-than

    far-is : far_end D F ≡ round binary32 false (m + n) c
    unfolding far_end m n c
    far-is = add_is low_twice low-floor

    difference : (m - n) * den D + n * den D ≡ m * den D
    difference = sym (add-mul (m - n) n (den D)) ∙ ap (λ (k : ℕ). k * den D) (sub-add_cancel less-than)

    near-least : Least (num D) (den D) 28 (m - n) c
    near-least = omega (arith, difference, line-least, floor-small)

    far-least : Least (num D) (den D) 39 (m + n) c
    far-least = rw (add-mul m n (den D)) (omega (arith, line-least))

    far-most : Most (num D) (den D) 52 (m + n) c
    far-most = rw (add-mul m n (den D)) (omega (arith, line-most, floor-small))

    near-rounds : Rounds (m - n) c (near_end D F)
    near-rounds = rw near-is (settled D good fine 28 41 (m - n) c c_pos (lit≤ tt) (lit≤ tt) near-least (omega (arith, difference, line-most)))

    far-rounds : Rounds (m + n) c (far_end D F)
    far-rounds = rw far-is (settled D good fine 39 52 (m + n) c c_pos (lit≤ tt) (lit≤ tt) far-least far-most)

    pub near-positive : T (positive (near_end D F))
    near-positive = near-rounds.high

    pub low_near : Low (near_end D F)
    low_near = low (near_end D F) near-positive

    pub low-far : Low (far_end D F)
    low-far = low (far_end D F) far-rounds.high

    -- D is under both of them, and 3D over
    pub level-near : num D * den (near_end D F) < num (near_end D F) * den D
    level-near =
        apart (num D) (den D) 20 27 (num D) (den D) (num (near_end D F)) (den (near_end D F)) (level-pos D good) (den_pos D) (den_pos (near_end D F)) (lit< tt)
        own-most (round-least (num D) (den D) 27 (m - n) c (near_end D F) (lit≤ tt) c_pos near-rounds near-least)

    pub level-far : num D * den (far_end D F) < num (far_end D F) * den D
    level-far =
        apart (num D) (den D) 20 38 (num D) (den D) (num (far_end D F)) (den (far_end D F)) (level-pos D good) (den_pos D) (den_pos (far_end D F)) (lit< tt)
        own-most (round-least (num D) (den D) 38 (m + n) c (far_end D F) (lit≤ tt) c_pos far-rounds far-least)

    pub far-triple : num (far_end D F) * den (triple D) < num (triple D) * den (far_end D F)
    far-triple =
        apart (num D) (den D) 53 59 (num (far_end D F)) (den (far_end D F)) (num (triple D)) (den (triple D)) (level-pos D good) (den_pos (far_end D F))
        (den_pos (triple D)) (lit< tt)
        (round-most (num D) (den D) 52 (m + n) c (far_end D F) (lit≤ tt) c_pos far-rounds far-most)
        (triple-least D good fine)

    pub low-triple : Low (triple D)
    low-triple = low (triple D) (tripled D good fine).high
