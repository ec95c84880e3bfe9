-- The order of the f32 values, and their signs.
use Rattle.std.specs.Prelude.{◌≡◌, refl, Bool, true, false, not, ◌&&◌, ◌||◌, ℕ, ◌+◌, ◌*◌, ◌<◌, ℤ, T, eqb, ltb, Float}
use Rattle.std.proofs.Common.{sym, ◌∙◌, ap, subst, add_comm, mul-pos, lt_of_not-le, arith, ltb→lt, lt→ltb, lt-ltb, le-ltb, eq-eqb, ne_eqb}
use Rattle.std.proofs.Math.Bool.{and-true, and-false, not-not}
use Rattle.std.proofs.Math.Decide.{ℕ_discrete}
use Rattle.std.specs.Float.{nan, inf, fin}
use Rattle.std.specs.Float.Ieee.{up, down, neg, below, level, lt, eq, le, is_nan}
use Rattle.std.specs.Float.Ieee.Fits.{down_pos}
use Rattle.std.specs.Float.Ieee.Positive.{num, den, positive}

-- ---- the order and the sign

pub neg-neg : (a : Float) → neg (neg a) ≡ a
unfolding neg
neg-neg nan = refl
neg-neg (inf s) = ap inf (not-not s)
neg-neg (fin s m e) = ap (λ (t : Bool). fin t m e) (not-not s)

below-neg : (s : Bool) (a : ℕ) (t : Bool) (b : ℕ) → below (not t) b (not s) a ≡ below s a t b
below-neg false a false b = refl
below-neg false a true b = refl
below-neg true a false b = ap (ltb 0) (add_comm b a)
below-neg true a true b = refl

-- negation turns the order round
pub lt-neg : (a b : Float) → lt (neg b) (neg a) ≡ lt a b
unfolding lt neg
lt-neg nan nan = refl
lt-neg nan (inf t) = refl
lt-neg nan (fin t n d) = refl
lt-neg (inf s) nan = refl
lt-neg (inf true) (inf t) = and-true (not t)
lt-neg (inf false) (inf t) = and-false (not t)
lt-neg (inf s) (fin t n d) = not-not s
lt-neg (fin s m e) nan = refl
lt-neg (fin s m e) (inf t) = refl
lt-neg (fin s m e) (fin t n d) = below-neg s (m * up e * down d) t (n * up d * down e)

pub lt-over : (x y : Float) → lt x (neg y) ≡ lt y (neg x)
lt-over x y = ap (λ (z : Float). lt z (neg y)) (sym (neg-neg x)) ∙ lt-neg y (neg x)

pub lt-under : (x y : Float) → lt (neg x) y ≡ lt (neg y) x
lt-under x y = ap (lt (neg x)) (sym (neg-neg y)) ∙ lt-neg (neg y) x

-- ---- finite values that are not below zero, as a pattern

pub data Low : Float → Type 0 where
  value : (m : ℕ) (e : ℤ) → Low (fin false m e)

pub low : (a : Float) → T (positive a) → Low a
low nan h = absurd h
low (inf s) h = absurd h
low (fin true m e) h = absurd h
low (fin false m e) h = value m e

-- their order is that of the fractions
pub lt-cross : {x y : Float} → Low x → Low y → num x * den y < num y * den x → lt x y ≡ true
unfolding lt
lt-cross (value m e) (value n d) h = lt-ltb (m * up e * down d) (n * up d * down e) h

pub lt-asym : {x y : Float} → Low x → Low y → num x * den y < num y * den x → lt y x ≡ false
unfolding lt
lt-asym (value m e) (value n d) h =
    le-ltb (n * up d * down e) (m * up e * down d) (omega arith)

-- one that is above zero is above what another one's negation is
pub lt-across : {x y : Float} → Low x → Low y → 0 < num y → lt (neg x) y ≡ true
unfolding lt neg
lt-across (value m e) (value n d) h =
    let p : 0 < n * up d * down e = mul-pos h (down_pos e) in
    lt-ltb 0 (m * up e * down d + n * up d * down e) (omega arith)

pub not-across : {x y : Float} → Low x → Low y → lt x (neg y) ≡ false
unfolding lt neg
not-across (value m e) (value n d) = refl

-- ---- the two orders: but for NaN one is at most another exactly where the other isn't below it

pub data Compared (a b : ℕ) : Type 0 where
  less : a < b → Compared a b
  same : a ≡ b → Compared a b
  more : b < a → Compared a b

pub compared : (a b : ℕ) → Compared a b
compared a b = go (ℕ_discrete a b) (ltb a b) refl
  where
    go : Dec (a ≡ b) → (t : Bool) → ltb a b ≡ t → Compared a b
    go (yes e) t h = same e
    go (no n) true h = less (ltb→lt a b (rw h tt))
    go (no n) false h = more (lt_of_not-le (λ l. subst T h (lt→ltb a b (omega arith))))

at_most : (s : Bool) (a : ℕ) (t : Bool) (b : ℕ) → (below s a t b || level s a t b) ≡ not (below t b s a)
at_most false a false b = go (compared a b)
  where
    go : Compared a b → (ltb a b || eqb a b && true) ≡ not (ltb b a)
    go (less h) = simp (lt-ltb a b h, le-ltb b a (omega arith))
    go (same e) = simp (eq-eqb a b e, le-ltb a b (omega arith), le-ltb b a (omega arith))
    go (more h) = simp (le-ltb a b (omega arith), ne_eqb a b (λ e. omega arith), lt-ltb b a h)
at_most false a true b = go (ℕ_discrete a b) (ℕ_discrete a 0)
  where
    go : Dec (a ≡ b) → Dec (a ≡ 0) → (eqb a b && eqb a 0) ≡ not (ltb 0 (b + a))
    go (yes e) (yes z) = simp (eq-eqb a b e, eq-eqb a 0 z, le-ltb 0 (b + a) (omega arith))
    go (yes e) (no n) = simp (eq-eqb a b e, ne_eqb a 0 n, lt-ltb 0 (b + a) (omega arith))
    go (no n) z = simp (ne_eqb a b n, lt-ltb 0 (b + a) (omega arith))
at_most true a false b = go (ℕ_discrete (a + b) 0)
  where
    go : Dec (a + b ≡ 0) → (ltb 0 (a + b) || eqb a b && eqb a 0) ≡ true
    go (yes e) = simp (eq-eqb a b (omega arith), eq-eqb a 0 (omega arith), le-ltb 0 (a + b) (omega arith))
    go (no n) = simp (lt-ltb 0 (a + b) (omega arith))
at_most true a true b = go (compared b a)
  where
    go : Compared b a → (ltb b a || eqb a b && true) ≡ not (ltb a b)
    go (less h) = simp (lt-ltb b a h, le-ltb a b (omega arith))
    go (same e) = simp (eq-eqb a b (sym e), le-ltb a b (omega arith), le-ltb b a (omega arith))
    go (more h) = simp (le-ltb b a (omega arith), ne_eqb a b (λ e. omega arith), lt-ltb a b h)

pub le_not_lt : (x y : Float) → T (not (is_nan x)) → T (not (is_nan y)) → le x y ≡ not (lt y x)
unfolding le lt eq is_nan
le_not_lt nan y p q = absurd p
le_not_lt (inf s) nan p q = absurd q
le_not_lt (inf true) (inf true) p q = refl
le_not_lt (inf true) (inf false) p q = refl
le_not_lt (inf false) (inf true) p q = refl
le_not_lt (inf false) (inf false) p q = refl
le_not_lt (inf true) (fin t n d) p q = refl
le_not_lt (inf false) (fin t n d) p q = refl
le_not_lt (fin s m e) nan p q = absurd q
le_not_lt (fin s m e) (inf true) p q = refl
le_not_lt (fin s m e) (inf false) p q = refl
le_not_lt (fin s m e) (fin t n d) p q = at_most s (m * up e * down d) t (n * up d * down e)
