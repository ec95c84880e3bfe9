-- What is at fault in a profile: nothing exactly where each of its numbers is in its range and it has no twins, and else a number that names the fault.
-- An answer in which that comes first.
use mathlib.Core.Path.{◌≡◌, refl, sym, ap, ◌∙◌, subst}
use mathlib.Core.Bool.{Bool, true, false, ◌&&◌, ◌||◌}
use mathlib.Core.Logic.{◌⊎◌, inl, inr, ⊎_elim, ◌↔◌}
use Prim.Native.Nat.{ℕ}
use mir.Facts.{or_yes}
use lib.Dec.{T, eqb, leb, ltb, eqb→eq}
use lib.Ieee.Bits.{is_true}
use lib.Ieee.Fits.{and_i, eq→eqb}
use Rattle.rules.specs.Answers.{is_number, names_field, names_fault, is_answer, has_read}
use Rattle.rules.specs.Bits.{pick}
use Rattle.rules.specs.Demands.{Names}
use Rattle.rules.specs.Modes.{slots}
use Rattle.rules.specs.Profile.{fields, only, ◌or◌, fault_from, first_repeat, twin_fault, fault, in_range, faultless}
use Rattle.rules.specs.Answers.{Answer}
use Rattle.rules.specs.declared.Profile.{Profile}
use Rattle.profile.proofs.Table.{Good, good-from, from_named, first-passed, first-stays, named-not-zero}
use Rattle.profile.proofs.Entries.{laws}

-- a number that names a field names a fault, and so does that of twins
pub field-named : (n : ℕ) → T (names_field n) → T (names_fault n)
field-named n t = rw (is_true (names_field n) t) tt

pub twin-named : (P : Profile) → (twin_fault P ≡ only 0) ⊎ ((twin_fault P).number ≡ 46)
twin-named P =
    let n = slots P.mode in
    let t = first_repeat n P.masks P.seeds in
    go (ltb t n) t
  where
    go : (b : Bool) (t : ℕ) → (let a : Answer = pick b (record { number = 46; place = t }) (only 0) in (a ≡ only 0) ⊎ (a.number ≡ 46))
    go true t = inr refl
    go false t = inl refl

-- zero names no fault
pub fault-not-zero : (n : ℕ) → T (names_fault n) → ¬ (n ≡ 0)
fault-not-zero n t z = subst (λ (k : ℕ). T (names_fault k)) z t

-- a number at which cells are read names none
pub named-unread : (n : ℕ) → T (names_fault n) → ¬ T (has_read n)
named-unread n t h =
    let named : (k : ℕ) → T (eqb n k) → T (names_fault k) = λ k e. subst (λ (x : ℕ). T (names_fault x)) (eqb→eq n k e) t in
    ⊎_elim (λ u. ⊎_elim (named 0) (named 9) (or_yes (eqb n 0) (eqb n 9) u)) (named 10) (or_yes (eqb n 0 || eqb n 9) (eqb n 10) h)

-- ---- nothing is at fault in a profile, or a fault is named

pub record Fine (P : Profile) : Type 0 where
  pub each : Good fields P
  pub apart : twin_fault P ≡ only 0
  pub range : T (faultless P)
  pub none : fault P ≡ only 0

pub record Faulty (P : Profile) : Type 0 where
  pub outside : ¬ T (faultless P)
  pub named : T (names_fault (fault P).number)

-- twins come after all ranges
pub good-range : (P : Profile) → Good fields P → T (in_range P)
unfolding in_range
good-range P g = eq→eqb (ap (λ (a : Answer). a.number) (good-from fields 0 P laws g))

pub after-range : (P : Profile) → T (in_range P) → fault P ≡ twin_fault P
unfolding in_range fault
after-range P r = first-passed (fault_from fields 0 P) (twin_fault P) (eqb→eq (fault_from fields 0 P).number 0 r)

pub field-first : (P : Profile) → T (names_field (fault_from fields 0 P).number) → fault P ≡ fault_from fields 0 P
unfolding fault
field-first P t = first-stays (fault_from fields 0 P) (twin_fault P) (named-not-zero (fault_from fields 0 P).number t)

faulty : (P : Profile) → T (names_fault (fault P).number) → Faulty P
unfolding faultless
faulty P t = record { outside = λ r. fault-not-zero (fault P).number t (eqb→eq (fault P).number 0 r); named = t }

pub by-fault : (P : Profile) → Fine P ⊎ Faulty P
unfolding faultless
by-fault P =
    ⊎_elim
    (λ g.
    let e = after-range P (good-range P g) in
    ⊎_elim (λ z. let o = e ∙ z in inl (record { each = g; apart = z; range = rw o tt; none = o }))
    (λ z. inr (faulty P (subst (λ (n : ℕ). T (names_fault n)) (sym (ap (λ (a : Answer). a.number) e ∙ z)) tt))) (twin-named P))
    (λ t. inr (faulty P (subst (λ (a : Answer). T (names_fault a.number)) (sym (field-first P t)) (field-named (fault_from fields 0 P).number t))))
    (from_named fields 0 P laws)

pub fine : (P : Profile) → T (faultless P) → Fine P
fine P r = ⊎_elim (λ w. w) (λ w. absurd (w.outside r)) (by-fault P)

outside-faulty : (P : Profile) → ¬ T (faultless P) → Faulty P
outside-faulty P o = ⊎_elim (λ w. absurd (o w.range)) (λ w. w) (by-fault P)

-- ---- an answer in which it comes first

module _ (P : Profile) (n : ℕ) where
  pub or-fine : T (faultless P) → fault P or only n ≡ only n
  or-fine r = first-passed (fault P) (only n) (ap (λ (a : Answer). a.number) (fine P r).none)

  pub or-faulty : ¬ T (faultless P) → fault P or only n ≡ fault P
  or-faulty o = first-stays (fault P) (only n) (fault-not-zero (fault P).number (outside-faulty P o).named)

-- as the code goes: what is found at fault is answered, and else a number
module _ (P : Profile) (n : ℕ) {a : Answer} (e : a ≡ fault P) where
  pub answer-fault : ¬ (a.number ≡ 0) → a ≡ fault P or only n
  answer-fault ne = e ∙ sym (first-stays (fault P) (only n) (λ z. ne (ap (λ (x : Answer). x.number) e ∙ z)))

  pub answer-number : a.number ≡ 0 → (b : Answer) → b ≡ only n → b ≡ fault P or only n
  answer-number z b f = f ∙ sym (first-passed (fault P) (only n) (sym (ap (λ (x : Answer). x.number) e) ∙ z))

-- a number that names no fault comes exactly where the profile is faultless and the other answer has it
pub or-number : (P : Profile) (n k : ℕ) → ¬ T (names_fault k) → ((fault P or only n).number ≡ k) ↔ (T (faultless P) × (n ≡ k))
or-number P n k not =
    ⊎_elim
    (λ w.
    let e = ap (λ (a : Answer). a.number) (or-fine P n w.range) in
    ((λ z. (w.range, sym e ∙ z)), λ q. e ∙ q.1))
    (λ w.
    let e = ap (λ (a : Answer). a.number) (or-faulty P n w.outside) in (
      (λ z. absurd (not (subst (λ (m : ℕ). T (names_fault m)) (sym e ∙ z) w.named))),
      λ q. absurd (w.outside q.0),
    ))
    (by-fault P)

-- at 0 nothing else is answered
pub or-zero : (P : Profile) (n : ℕ) → (fault P or only n).number ≡ 0 → fault P or only n ≡ only 0
or-zero P n z = let q = (or-number P n 0 (λ t. t)).0 z in or-fine P n q.0 ∙ ap only q.1

-- where the other number is none at which cells are read, this one isn't either
pub or-unread : (P : Profile) (n : ℕ) → (¬ (n ≡ 0) → ¬ T (has_read n))
    → (let a = fault P or only n in ¬ (a.number ≡ 0) → ¬ T (has_read a.number))
or-unread P n unread =
    ⊎_elim (λ w. rw (or-fine P n w.range) unread) (λ w ne. rw (or-faulty P n w.outside) (named-unread (fault P).number w.named))
    (by-fault P)

-- of three answers the first one comes first, however they are put together; and two numbers that name no fault are one
pub or_assoc : (a b c : Answer) → (a or b) or c ≡ a or (b or c)
or_assoc a b c = go (eqb a.number 0) refl
  where
    go : (z : Bool) → eqb a.number 0 ≡ z → pick z b a or c ≡ pick z (b or c) a
    go true e = refl
    go false e = rw e

pub only-or : (n m : ℕ) → only n or only m ≡ only (pick (eqb n 0) m n)
only-or n m = go (eqb n 0)
  where
    go : (z : Bool) → pick z (only m) (only n) ≡ only (pick z m n)
    go true = refl
    go false = refl

named-number : (n : ℕ) → T (names_fault n) → T (is_number n)
named-number n t = go (leb n 3 || leb 5 n && leb n 10 || leb 16 n && leb n 18 || eqb n 22) (names_fault n) t
  where
    go : (b c : Bool) → T c → T (b || c)
    go true c t = tt
    go false c t = t

-- a number that names a fault may have any place, and every other one of the table has none
pub named-told : (a : Answer) → T (names_fault a.number) → T (is_answer a.number a.place)
named-told a t =
    and_i (is_number a.number) (names_fault a.number || eqb a.place 0) (named-number a.number t)
    (rw (is_true (names_fault a.number) t) tt)

pub only-told : (n : ℕ) → T (is_number n) → T (is_answer n 0)
only-told n t = and_i (is_number n) (names_fault n || true) t (go (names_fault n))
  where
    go : (b : Bool) → T (b || true)
    go true = tt
    go false = tt

pub fault-told : (P : Profile) (n : ℕ) → T (is_number n) → (let a = fault P or only n in T (is_answer a.number a.place))
fault-told P n t =
    ⊎_elim (λ w. rw (or-fine P n w.range) (only-told n t)) (λ w. rw (or-faulty P n w.outside) (named-told (fault P) w.named)) (by-fault P)

-- it names a fault exactly where the profile has one
pub fault-names : (P : Profile) (n : ℕ) (a : Answer) → ¬ T (names_fault n) → a ≡ fault P or only n → Names P a
fault-names P n a not e =
    ⊎_elim
    (λ w. (
      ((λ t. absurd (not (subst (λ (b : Answer). T (names_fault b.number)) (e ∙ or-fine P n w.range) t))), (λ o. absurd (o w.range))),
      λ o. absurd (o w.range),
    ))
    (λ w. (
      ((λ t. w.outside), (λ o. subst (λ (b : Answer). T (names_fault b.number)) (sym (e ∙ or-faulty P n o)) w.named)),
      λ o. e ∙ or-faulty P n o,
    ))
    (by-fault P)
