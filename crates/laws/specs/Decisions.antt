-- What is sent at a good level decides to the bits that were sent, under every good floor; which parts are doubtful.
use Rattle.std.specs.Prelude.{◌≡◌, refl, ◌⊎◌, Bool, true, false, ◌&&◌, ◌||◌, ℕ, ◌+◌, ◌-◌, ◌*◌, ◌/◌, ◌^◌, ◌≤◌, ◌<◌, T, eqb, Float}
use Rattle.std.proofs.Common.{sym, ◌∙◌, ap, ap₂, subst, inl, inr, mod-lt, arith, lit≤, lit<, le-ltb, eq-eqb, ne_eqb}
use Rattle.std.proofs.Math.Bool.{and_comm, or_comm, or-true}
use Rattle.std.proofs.Math.Decide.{ℕ_discrete}
use Rattle.std.specs.Float.Ieee.{of_bits, up, down, neg, lt}
use Rattle.rules.specs.Bits.{pick, bit_of, as_number}
use Rattle.rules.specs.Points.{zero_part, triple, signed, sized, part, doubtful, sign_of, near_end, far_end, size_of, size_and_sign, decide, bit_in}
use Rattle.rules.specs.Profile.{is_level, has_triple, floor_under}
use Rattle.laws.specs.Order.{lt-neg, lt-over, lt-under, Low, value, low, lt-cross, lt-asym, lt-across, not-across}
use Rattle.laws.specs.Levels.{positive-level, level-pos, low-floor, floor-level, floor-triple, low_near, low-far, level-near, level-far, low-triple, far-triple}

-- what w bits a part can be sent and heard with: a good level, of 16QAM one whose triple is finite, and a good floor under it
abbrev pub Good : ℕ → Float → Float → Type 0
Good w level floor = T (is_level level) × T (eqb w 1 || has_triple level) × T (floor_under level floor)

-- ---- a bit is 0 or 1, a width is 1 or 2

bit-cases : (P : ℕ → Type 0) → P 0 → P 1 → (b : ℕ) → b < 2 → P b
bit-cases P p q b h = go (ℕ_discrete b 0)
  where
    go : Dec (b ≡ 0) → P b
    go (yes e) = subst P (sym e) p
    go (no n) = subst P (omega arith) q

pub widths : (P : ℕ → Type 0) → P 1 → P 2 → (w : ℕ) → (w ≡ 1) ⊎ (w ≡ 2) → P w
widths P p q w (inl e) = subst P (sym e) p
widths P p q w (inr e) = subst P (sym e) q

-- ---- what is sent

-- a part above the floor, and its negative
sign_above : {floor a : Float} → Low floor → Low a → lt floor a ≡ true → sign_of floor a ≡ 0
unfolding sign_of
sign_above f a h = simp h

sign_below : {floor a : Float} → Low floor → Low a → lt floor a ≡ true → sign_of floor (neg a) ≡ 1
unfolding sign_of
sign_below {floor} {a} f l h = simp (not-across f l, lt-neg floor a, h)

-- what is sent of one sign has that sign
sign-sent : {floor a : Float} → Low floor → Low a → lt floor a ≡ true → (b : ℕ) → b < 2 → sign_of floor (signed b a) ≡ b
sign-sent {floor} {a} f l h = bit-cases (λ (b : ℕ). sign_of floor (signed b a) ≡ b) (sign_above f l h) (sign_below f l h)

-- a part's size does not see its sign
size-neg : (level floor a : Float) → size_of level floor (neg a) ≡ size_of level floor a
unfolding size_of
size-neg level floor a = ap₂ (λ (x y : Bool). pick x 0 (pick y 1 doubtful)) beyond within
  where
    s : Float
    s = near_end level floor

    t : Float
    t = far_end level floor

    beyond : (lt t (neg a) || lt (neg a) (neg t)) ≡ (lt t a || lt a (neg t))
    beyond = ap₂ ◌||◌ (lt-over t a) (lt-neg t a) ∙ or_comm (lt a (neg t)) (lt t a)

    within : (lt (neg s) (neg a) && lt (neg a) s) ≡ (lt (neg s) a && lt a s)
    within = ap₂ ◌&&◌ (lt-neg a s) (lt-under a s) ∙ and_comm (lt a s) (lt (neg s) a)

size-signed : (level floor a : Float) (b : ℕ) → b < 2 → size_of level floor (signed b a) ≡ size_of level floor a
size-signed level floor a = bit-cases (λ (b : ℕ). size_of level floor (signed b a) ≡ size_of level floor a) refl (size-neg level floor a)

module _ (level floor : Float) (good : T (is_level level)) (under : T (floor_under level floor)) where
  low-level : Low level
  low-level = low level (positive-level level good)

  level-over : lt floor level ≡ true
  level-over = lt-cross (low-floor level good floor under) low-level (floor-level level good floor under)

  module _ (fine : T (has_triple level)) where
    size-inner : size_of level floor level ≡ 1
    unfolding size_of
    size-inner =
        let near = low_near level good floor under fine in
        let far = low-far level good floor under fine in
        simp (
          lt-asym low-level far (level-far level good floor under fine),
          not-across low-level far,
          lt-across near low-level (level-pos level good),
          lt-cross low-level near (level-near level good floor under fine),
        )

    size-outer : size_of level floor (triple level) ≡ 0
    unfolding size_of
    size-outer =
        simp (lt-cross (low-far level good floor under fine) (low-triple level good floor under fine) (far-triple level good floor under fine))

    -- either size, as a bit
    sized-low : (b : ℕ) → b < 2 → Low (sized b level)
    sized-low = bit-cases (λ (b : ℕ). Low (sized b level)) (low-triple level good floor under fine) low-level

    sized-over : (b : ℕ) → b < 2 → lt floor (sized b level) ≡ true
    sized-over =
        bit-cases (λ (b : ℕ). lt floor (sized b level) ≡ true)
        (lt-cross (low-floor level good floor under) (low-triple level good floor under fine) (floor-triple level good floor under fine)) level-over

    size-sent : (b : ℕ) → b < 2 → size_of level floor (sized b level) ≡ b
    size-sent = bit-cases (λ (b : ℕ). size_of level floor (sized b level) ≡ b) size-outer size-inner

-- ---- what is decided

pick-le : (b : Bool) {x y n : ℕ} → x ≤ n → y ≤ n → pick b x y ≤ n
pick-le true h k = h
pick-le false h k = k

-- a size and a sign make a number of two bits, or 4
both-le : (size sign : ℕ) → size ≤ 2 → sign ≤ 2 → size_and_sign size sign ≤ 4
both-le size sign h k = go (ℕ_discrete size 2)
  where
    go : Dec (size ≡ 2) → size_and_sign size sign ≤ 4
    go (yes e) = simp (eq-eqb size 2 e) (lit≤ tt)
    go (no n) = pick-le (eqb size 2 || eqb sign 2) (lit≤ tt) (omega arith)

pub sign_le : (floor a : Float) → sign_of floor a ≤ 2
unfolding sign_of
sign_le floor a = pick-le (lt floor a) (lit≤ tt) (pick-le (lt a (neg floor)) (lit≤ tt) (lit≤ tt))

pub size-le : (level floor a : Float) → size_of level floor a ≤ 2
unfolding size_of
size-le level floor a =
    pick-le (lt (far_end level floor) a || lt a (neg (far_end level floor))) (lit≤ tt)
    (pick-le (lt (neg (near_end level floor)) a && lt a (near_end level floor)) (lit≤ tt) (lit≤ tt))

-- a decision is one of 2 ^ w numbers, or 2 ^ w for a doubtful part
pub decide-le : (w : ℕ) (level floor a : Float) → (w ≡ 1) ⊎ (w ≡ 2) → decide w level floor a ≤ 2 ^ w
unfolding decide
decide-le w level floor a =
    widths (λ (w : ℕ). decide w level floor a ≤ 2 ^ w) (sign_le floor a)
    (both-le (size_of level floor a) (sign_of floor a) (size-le level floor a) (sign_le floor a)) w

both-sent : (x y : ℕ) → x < 2 → y < 2 → size_and_sign x y ≡ (0 * 2 + x) * 2 + y
both-sent x y h k = simp (ne_eqb x 2 (λ e. omega arith), ne_eqb y 2 (λ e. omega arith)) (omega arith)

-- what w bits make, sent at a good level, decides to their number
pub decide-sent : (w : ℕ) (level floor : Float) (s : ℕ → ℕ) → (w ≡ 1) ⊎ (w ≡ 2) → Good w level floor → ((j : ℕ) → s j < 2)
    → decide w level floor (part w level s) ≡ as_number w s
unfolding decide
decide-sent w level floor s h g bits = widths (λ (w : ℕ). Good w level floor → decide w level floor (part w level s) ≡ as_number w s) one two w h g
  where
    one : Good 1 level floor → sign_of floor (signed (s 0) level) ≡ 0 * 2 + s 0
    one g =
        sign-sent (low-floor level g.0 floor g.2) (low-level level floor g.0 g.2) (level-over level floor g.0 g.2) (s 0) (bits 0)
        ∙ omega arith

    two : Good 2 level floor → decide 2 level floor (part 2 level s) ≡ as_number 2 s
    two g =
        ap₂ size_and_sign
        (size-signed level floor (sized (s 0) level) (s 1) (bits 1) ∙ size-sent level floor g.0 g.2 g.1 (s 0) (bits 0))
        (sign-sent (low-floor level g.0 floor g.2) (sized-low level floor g.0 g.2 g.1 (s 0) (bits 0))
        (sized-over level floor g.0 g.2 g.1 (s 0) (bits 0)) (s 1) (bits 1))
        ∙ both-sent (s 0) (s 1) (bits 0) (bits 1)

-- the bits of a number, and the number of some bits
number_bit : (w : ℕ) (s : ℕ → ℕ) → (w ≡ 1) ⊎ (w ≡ 2) → ((j : ℕ) → s j < 2) → (j : ℕ) → j < w → bit_in w (as_number w s) j ≡ s j
number_bit w s h bits = widths (λ (w : ℕ). (j : ℕ) → j < w → bit_in w (as_number w s) j ≡ s j) one two w h
  where
    one : (j : ℕ) → j < 1 → bit_in 1 (as_number 1 s) j ≡ s j
    one j l =
        let b : s 0 < 2 = bits 0 in
        subst (λ (i : ℕ). bit_in 1 (as_number 1 s) i ≡ s i) {x = 0} (omega arith) (simp (ne_eqb (0 + s 0) 2 (λ e. omega arith)) (omega arith))

    two : (j : ℕ) → j < 2 → bit_in 2 (as_number 2 s) j ≡ s j
    two =
        let b : s 0 < 2 = bits 0 in
        let c : s 1 < 2 = bits 1 in
        let sure = ne_eqb ((0 + s 0) * 2 + s 1) 4 (λ e. omega arith) in
        bit-cases (λ (j : ℕ). bit_in 2 (as_number 2 s) j ≡ s j) (simp sure (omega arith)) (simp sure (omega arith))

bits-number : (w d : ℕ) → (w ≡ 1) ⊎ (w ≡ 2) → d < 2 ^ w → as_number w (bit_of w d) ≡ d
bits-number w d h = widths (λ (w : ℕ). d < 2 ^ w → as_number w (bit_of w d) ≡ d) (λ l. omega arith) (λ l. omega arith) w h

-- so each bit is decided as it was sent
pub decide-part : (w : ℕ) (level floor : Float) (s : ℕ → ℕ) → (w ≡ 1) ⊎ (w ≡ 2) → Good w level floor → ((j : ℕ) → s j < 2)
    → (j : ℕ) → j < w → bit_in w (decide w level floor (part w level s)) j ≡ s j
decide-part w level floor s h g bits j l = ap (λ (d : ℕ). bit_in w d j) (decide-sent w level floor s h g bits) ∙ number_bit w s h bits j l

-- each number below 2 ^ w is what some part decides to
pub decide-number : (w : ℕ) (level floor : Float) (d : ℕ) → (w ≡ 1) ⊎ (w ≡ 2) → Good w level floor → d < 2 ^ w
    → decide w level floor (part w level (bit_of w d)) ≡ d
decide-number w level floor d h g l =
    decide-sent w level floor (bit_of w d) h g (λ j. mod-lt (d / 2 ^ (w - 1 - j)) (lit< tt)) ∙ bits-number w d h l

-- and zero is doubtful
sign_zero : {floor : Float} → Low floor → sign_of floor zero_part ≡ 2
unfolding sign_of of_bits lt neg
sign_zero (value m e) = simp (le-ltb (m * up e * 1) (0 * down e) (omega arith))

pub decide-zero : (w : ℕ) (level floor : Float) → (w ≡ 1) ⊎ (w ≡ 2) → Good w level floor → decide w level floor zero_part ≡ 2 ^ w
unfolding decide
decide-zero w level floor h g =
    let sign = sign_zero (low-floor level g.0 floor g.2) in
    widths (λ (w : ℕ). decide w level floor zero_part ≡ 2 ^ w) sign (simp (sign, or-true (eqb (size_of level floor zero_part) 2))) w h

-- what is sent is never doubtful
pub sent-lt : (w : ℕ) (level floor : Float) (s : ℕ → ℕ) → (w ≡ 1) ⊎ (w ≡ 2) → Good w level floor → ((j : ℕ) → s j < 2)
    → decide w level floor (part w level s) < 2 ^ w
sent-lt w level floor s h g bits = subst (λ (d : ℕ). d < 2 ^ w) (sym (decide-sent w level floor s h g bits)) (widths (λ (w : ℕ). as_number w s < 2 ^ w) one two w h)
  where
    one : as_number 1 s < 2
    one = let b : s 0 < 2 = bits 0 in omega arith

    two : as_number 2 s < 4
    two =
        let b : s 0 < 2 = bits 0 in
        let c : s 1 < 2 = bits 1 in
        omega arith
