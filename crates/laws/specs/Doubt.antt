-- Which parts are doubtful at a good level and floor: NaN, and those in the ranges of Req 07, ends included.
use Rattle.std.specs.Prelude.{◌≡◌, ◌⊎◌, ◌↔◌, Bool, true, false, not, ◌&&◌, ◌||◌, ℕ, ◌+◌, ◌*◌, ◌^◌, ◌≤◌, eqb, Float}
use Rattle.std.proofs.Math.Path.{refl, ap, subst}
use Rattle.std.proofs.Common.{sym, ◌∙◌, arith, eq-eqb, ne_eqb}
use Rattle.std.proofs.Math.Logic.{inl, inr}
use Rattle.std.proofs.Math.Bool.{or-true}
use Rattle.std.proofs.Math.Decide.{ℕ_discrete}
use Rattle.std.proofs.Math.Dec.{T}
use Rattle.std.specs.Float.{nan, inf, fin}
use Rattle.std.specs.Float.Ieee.{neg, lt, le, is_nan}
use Rattle.std.specs.Float.Ieee.Positive.{above, above_of_le}
use Rattle.rules.specs.Bits.{pick}
use Rattle.rules.specs.Points.{doubtful, sign_of, near_end, far_end, size_of, size_and_sign, decide}
use Rattle.rules.specs.Profile.{is_level, has_triple, floor_under}
use Rattle.rules.specs.Demands.{Within, Weak}
use Rattle.laws.specs.Order.{Low, value, lt-neg, lt-under, le_not_lt}
use Rattle.laws.specs.Levels.{low-floor, low_near, low-far, near-positive}
use Rattle.laws.specs.Decisions.{Good, sign_le, size-le, widths}

-- ---- a number, or NaN

abbrev Number : Float → Type 0
Number a = T (not (is_nan a))

data Kind : Float → Type 0 where
  none : Kind nan
  number : (a : Float) → Number a → Kind a

kind : (a : Float) → Kind a
unfolding is_nan
kind nan = none
kind (inf s) = number (inf s) tt
kind (fin s m e) = number (fin s m e) tt

neg-number : (a : Float) → Number a → Number (neg a)
unfolding is_nan neg
neg-number nan n = n
neg-number (inf s) n = n
neg-number (fin s m e) n = n

low-number : {a : Float} → Low a → Number a × Number (neg a)
unfolding is_nan neg
low-number (value m e) = (tt, tt)

-- ---- what is neither bit

two-not : (x y : Bool) → pick x 0 (pick y 1 doubtful) ≡ 2 → T (not x) × T (not y)
two-not true y e = absurd (omega arith)
two-not false true e = absurd (omega arith)
two-not false false e = (tt, tt)

not-two : (x y : Bool) → T (not x) → T (not y) → pick x 0 (pick y 1 doubtful) ≡ 2
not-two true y p q = absurd p
not-two false true p q = absurd q
not-two false false p q = refl

-- from one end to the other is not beyond the one and not beyond the other
module _ (a low high : Float) (n : Number a) (p : Number low) (q : Number high) where
  within : T (not (lt a low)) → T (not (lt high a)) → Within low high a
  within h k = (subst T (sym (le_not_lt low a p n)) h, subst T (sym (le_not_lt a high n q)) k)

  not_beyond : Within low high a → T (not (lt a low)) × T (not (lt high a))
  not_beyond w = (subst T (le_not_lt low a p n) w.0, subst T (le_not_lt a high n q) w.1)

lt-nan : (a : Float) → lt a nan ≡ false
unfolding lt
lt-nan nan = refl
lt-nan (inf s) = refl
lt-nan (fin s m e) = refl

-- ---- the sign

module _ (floor : Float) (f : Low floor) where
  sign-nan : sign_of floor nan ≡ 2
  unfolding sign_of lt
  sign-nan = simp (lt-nan floor)

  sign-doubt : (a : Float) → (sign_of floor a ≡ 2) ↔ ((a ≡ nan) ⊎ Within (neg floor) floor a)
  unfolding sign_of
  sign-doubt a = go (kind a)
    where
      go : {a : Float} → Kind a → (sign_of floor a ≡ 2) ↔ ((a ≡ nan) ⊎ Within (neg floor) floor a)
      go none = ((λ _. inl refl), λ _. sign-nan)
      go (number a n) =
          let p = low-number f in (
            (λ e. let q = two-not (lt floor a) (lt a (neg floor)) e in inr (within a (neg floor) floor n p.1 p.0 q.1 q.0)),
            back,
          )
        where
          back : (a ≡ nan) ⊎ Within (neg floor) floor a → sign_of floor a ≡ 2
          back (inl e) = ap (sign_of floor) e ∙ sign-nan
          back (inr w) =
              let p = low-number f in
              let q = not_beyond a (neg floor) floor n p.1 p.0 w in
              not-two (lt floor a) (lt a (neg floor)) q.1 q.0

-- ---- the size

-- what is above zero is not below the negation of what is not below zero
not-under : {y : Float} (a : Float) → T (above a) → Low y → T (not (lt a (neg y)))
unfolding lt neg
not-under nan t l = absurd t
not-under (inf true) t l = absurd t
not-under (inf false) t (value m e) = tt
not-under (fin true n d) t l = absurd t
not-under (fin false n d) t (value m e) = tt

both-not : (x y : Bool) → T (not x) → T (not y) → T (not (x || y))
both-not true y p q = absurd p
both-not false y p q = q

or-not : (x y : Bool) → T (not (x || y)) → T (not x) × T (not y)
or-not true y t = absurd t
or-not false y t = (tt, t)

and-not : (x y : Bool) → T (not (x && y)) → T (not x) ⊎ T (not y)
and-not true y t = inr t
and-not false y t = inl tt

first-not : (x y : Bool) → T (not x) → T (not (x && y))
first-not true y t = absurd t
first-not false y t = tt

second-not : (x y : Bool) → T (not y) → T (not (x && y))
second-not true y t = t
second-not false y t = tt

module _ (D : Float) (good : T (is_level D)) (F : Float) (under : T (floor_under D F)) (fine : T (has_triple D)) where
  near : Float
  near = near_end D F

  far : Float
  far = far_end D F

  near-low : Low near
  unfolding near
  near-low = low_near D good F under fine

  far-low : Low far
  unfolding far
  far-low = low-far D good F under fine

  near-over : (a : Float) → T (le near a) → T (above a)
  unfolding near
  near-over a h = above_of_le (near_end D F) a (near-positive D good F under fine) h

  abbrev Around : Float → Type 0
  Around a = (a ≡ nan) ⊎ (Within near far a ⊎ Within (neg far) (neg near) a)

  beyond : Float → Bool
  beyond a = lt far a || lt a (neg far)

  between : Float → Bool
  between a = lt (neg near) a && lt a near

  size-by : (a : Float) → size_of D F a ≡ pick (beyond a) 0 (pick (between a) 1 doubtful)
  unfolding size_of near far beyond between
  size-by a = refl

  size-nan : size_of D F nan ≡ 2
  unfolding size_of lt
  size-nan = simp (lt-nan (far_end D F), lt-nan (neg (near_end D F)))

  module _ (a : Float) (n : Number a) where
    -- in the upper range
    upper : Within near far a → size_of D F a ≡ 2
    unfolding beyond between
    upper w =
        let q = not_beyond a near far n (low-number near-low).0 (low-number far-low).0 w in
        size-by a
        ∙ not-two (beyond a) (between a) (both-not (lt far a) (lt a (neg far)) q.1 (not-under a (near-over a w.0) far-low))
        (second-not (lt (neg near) a) (lt a near) q.0)

    -- and mirrored
    lower : Within (neg far) (neg near) a → size_of D F a ≡ 2
    unfolding beyond between
    lower w =
        let q = not_beyond a (neg far) (neg near) n (low-number far-low).1 (low-number near-low).1 w in
        let over : T (le near (neg a)) =
        subst T (sym (le_not_lt near (neg a) (low-number near-low).0 (neg-number a n))) (subst (λ (b : Bool). T (not b)) (lt-under near a) q.1) in
        let not-far : T (not (lt far a)) = subst (λ (b : Bool). T (not b)) (lt-neg far a) (not-under (neg a) (near-over (neg a) over) far-low) in
        size-by a
        ∙ not-two (beyond a) (between a) (both-not (lt far a) (lt a (neg far)) not-far q.0) (first-not (lt (neg near) a) (lt a near) q.1)

    around : size_of D F a ≡ 2 → Around a
    unfolding beyond between
    around e =
        let q = two-not (beyond a) (between a) (sym (size-by a) ∙ e) in
        let p = or-not (lt far a) (lt a (neg far)) q.0 in
        inr (go p.0 p.1 (and-not (lt (neg near) a) (lt a near) q.1))
      where
        go : T (not (lt far a)) → T (not (lt a (neg far))) → T (not (lt (neg near) a)) ⊎ T (not (lt a near))
            → Within near far a ⊎ Within (neg far) (neg near) a
        go h k (inl l) = inr (within a (neg far) (neg near) n (low-number far-low).1 (low-number near-low).1 k l)
        go h k (inr l) = inl (within a near far n (low-number near-low).0 (low-number far-low).0 l h)

  size-doubt : (a : Float) → (size_of D F a ≡ 2) ↔ Around a
  size-doubt a = go (kind a)
    where
      go : {a : Float} → Kind a → (size_of D F a ≡ 2) ↔ Around a
      go none = ((λ _. inl refl), λ _. size-nan)
      go (number a n) = (around a n, back)
        where
          back : Around a → size_of D F a ≡ 2
          back (inl e) = ap (size_of D F) e ∙ size-nan
          back (inr (inl w)) = upper a n w
          back (inr (inr w)) = lower a n w

-- ---- both

-- of two bits a part is doubtful where one of them is
either : (size sign : ℕ) → size ≤ 2 → sign ≤ 2 → (size_and_sign size sign ≡ 4) ↔ ((size ≡ 2) ⊎ (sign ≡ 2))
either size sign h k = (go (ℕ_discrete size 2) (ℕ_discrete sign 2), back)
  where
    go : Dec (size ≡ 2) → Dec (sign ≡ 2) → size_and_sign size sign ≡ 4 → (size ≡ 2) ⊎ (sign ≡ 2)
    go (yes e) d t = inl e
    go (no n) (yes e) t = inr e
    go (no n) (no m) t = let sum : 2 * size + sign ≡ 4 = simp (ne_eqb size 2 n, ne_eqb sign 2 m) at t in absurd (omega arith)

    back : (size ≡ 2) ⊎ (sign ≡ 2) → size_and_sign size sign ≡ 4
    back (inl e) = simp (eq-eqb size 2 e)
    back (inr e) = simp (eq-eqb sign 2 e, or-true (eqb size 2))

-- the ranges around 2D and -2D
abbrev Lines : Float → Float → Float → Type 0
Lines level floor a = Within (near_end level floor) (far_end level floor) a ⊎ Within (neg (far_end level floor)) (neg (near_end level floor)) a

module _ (w : ℕ) (level floor a : Float) where
  by_sign : (a ≡ nan) ⊎ Within (neg floor) floor a → Weak w level floor a
  by_sign (inl e) = inl e
  by_sign (inr e) = inr (inl e)

  by_size : w ≡ 2 → (a ≡ nan) ⊎ Lines level floor a → Weak w level floor a
  by_size h (inl e) = inl e
  by_size h (inr e) = inr (inr (h, e))

  weak-by : {A : Type 0} → ((a ≡ nan) ⊎ Within (neg floor) floor a → A) → (w ≡ 2 → Lines level floor a → A) → Weak w level floor a → A
  weak-by f g (inl e) = f (inl e)
  weak-by f g (inr (inl e)) = f (inr e)
  weak-by f g (inr (inr e)) = g e.0 e.1

pub doubtful-parts : (w : ℕ) (level floor a : Float) → (w ≡ 1) ⊎ (w ≡ 2) → Good w level floor
    → (decide w level floor a ≡ 2 ^ w) ↔ Weak w level floor a
unfolding decide near far
doubtful-parts w level floor a h g =
    widths (λ (w : ℕ). Good w level floor → (decide w level floor a ≡ 2 ^ w) ↔ Weak w level floor a) one two w h g
  where
    one : Good 1 level floor → (sign_of floor a ≡ 2) ↔ Weak 1 level floor a
    one g =
        let s = sign-doubt floor (low-floor level g.0 floor g.2) a in
        ((λ e. by_sign 1 level floor a (s.0 e)), weak-by 1 level floor a s.1 (λ e _. absurd (omega (arith, e))))

    two : Good 2 level floor → (size_and_sign (size_of level floor a) (sign_of floor a) ≡ 4) ↔ Weak 2 level floor a
    two g =
        let s = sign-doubt floor (low-floor level g.0 floor g.2) a in
        let t = size-doubt level g.0 floor g.2 g.1 a in
        let b = either (size_of level floor a) (sign_of floor a) (size-le level floor a) (sign_le floor a) in (
          (λ e. elim (b.0 e) [ inl x ↦ by_size 2 level floor a refl (t.0 x) | inr x ↦ by_sign 2 level floor a (s.0 x) ]),
          weak-by 2 level floor a (λ e. b.1 (inr (s.1 e))) (λ _ e. b.1 (inl (t.1 (inr e)))),
        )
