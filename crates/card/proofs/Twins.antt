-- Req 08: 46 with a slot exactly where every number is in its range and it is the first slot that repeats an earlier one of its symbol.
use mathlib.Core.Path.{◌≡◌, refl, sym, ap, ◌∙◌, subst}
use mathlib.Core.Bool.{Bool, true, false}
use mathlib.Core.List.{List}
use mathlib.Core.Logic.{⊎_elim, ◌↔◌}
use Prim.Native.Nat.{ℕ, ◌<◌}
use native.Mathlib.Decide.{ℕ_discrete, dec_lt}
use native.Mathlib.Omega.{arith}
use borrow.Author.Tests.{eq-eqb, ne_eqb, lt-ltb, ltb-true}
use lib.Dec.{T, eqb, eqb→eq}
use lib.Ieee.Fits.{and_l, and_r, eq→eqb}
use Rattle.rules.specs.Answers.{names_field}
use Rattle.rules.specs.Bits.{row}
use Rattle.rules.specs.Demands.{NoTwins, Repeats, FirstRepeat, twins_at}
use Rattle.rules.specs.Modes.{slots}
use Rattle.rules.specs.Profile.{fields, blank, only, alike, are_twins, earliest, repeats, first_repeat, twin_fault, fault_from, fault, in_range, faultless, walk, refused, unless, read_as, reading, headed, spelt}
use Rattle.rules.specs.Slots.{symbol_of, slot_number}
use Rattle.rules.specs.Answers.{Answer}
use Rattle.rules.specs.declared.Profile.{Profile}
use Rattle.rules.specs.Profile.{Reading}
use Rattle.laws.specs.Filled.{pick-lt, pick-ge}
use Rattle.laws.specs.First.{First, first, first-is}
use Rattle.profile.proofs.AtFault.{fine, good-range, after-range, field-first}
use Rattle.profile.proofs.Entries.{laws}
use Rattle.profile.proofs.RoundTrip.{read_refused}
use Rattle.profile.proofs.Table.{Good, from_named, table-answer, table-headed}
use Rattle.profile.proofs.Walk.{untwinned-stays}

-- ---- the slots

module _ (P : Profile) where
  -- slot t's first twin
  abbrev twin : ℕ → ℕ
  twin t = earliest P.masks P.seeds t

  abbrev like : ℕ → ℕ → Bool
  like t u = are_twins P.masks P.seeds u t

  repeats-some : (t : ℕ) → repeats P.masks P.seeds t ≡ true → Repeats P t
  repeats-some t e =
      let u = twin t in
      let less : u < t = ltb-true u t e in
      let yes : T (like t u) = subst T (sym ((first t (like t)).passes less)) tt in
      let same = and_r (eqb (symbol_of u) (symbol_of t)) (alike P.masks P.seeds u t) yes in
      let seeds = eqb (row P.seeds u) (row P.seeds t) in
      let masks = eqb (row P.masks (slot_number u)) (row P.masks (slot_number t)) in (
        u,
        less,
        eqb→eq _ _ (and_l (eqb (symbol_of u) (symbol_of t)) (alike P.masks P.seeds u t) yes),
        eqb→eq _ _ (and_l seeds masks same),
        eqb→eq _ _ (and_r seeds masks same),
      )

  some-repeats : (t : ℕ) → Repeats P t → repeats P.masks P.seeds t ≡ true
  some-repeats t r =
      let u = r.0 in
      let yes : like t u ≡ true = rw (eq-eqb (symbol_of u) (symbol_of t) r.2, eq-eqb (row P.seeds u) (row P.seeds t) r.3, eq-eqb _ _ r.4) in
      let found : First t (like t) (twin t) = first t (like t) in
      lt-ltb (twin t) t (below u r.1 yes (dec_lt (twin t) t) found)
    where
      below : (u : ℕ) → u < t → like t u ≡ true → Dec (twin t < t) → First t (like t) (twin t) → twin t < t
      below u less e (yes d) h = d
      below u less e (no d) h = absurd (subst T (sym e ∙ h.before u (omega arith)) tt)

  -- the first of them
  abbrev n : ℕ
  n = slots P.mode

  abbrev t₀ : ℕ
  t₀ = first_repeat n P.masks P.seeds

  found : First n (repeats P.masks P.seeds) t₀
  unfolding first_repeat
  found = first n (repeats P.masks P.seeds)

  found-is : {t : ℕ} → First n (repeats P.masks P.seeds) t → t ≡ t₀
  unfolding first_repeat
  found-is h = first-is h

  none_before : (t : ℕ) → t < t₀ → ¬ Repeats P t
  none_before t less r = subst T (sym (some-repeats t r) ∙ found.before t less) tt

  -- slot t is the first that repeats one exactly where the search ends there
  first_found : (t : ℕ) → FirstRepeat P t → (t ≡ t₀) × (t < n)
  first_found t h =
      (found-is (record { within = omega (arith, h.0); before = λ v less. unlike v (h.2 v less); passes = λ _. some-repeats t h.1 }), h.0)
    where
      unlike : (v : ℕ) → ¬ Repeats P v → repeats P.masks P.seeds v ≡ false
      unlike v never = go (repeats P.masks P.seeds v) refl
        where
          go : (b : Bool) → repeats P.masks P.seeds v ≡ b → b ≡ false
          go true e = absurd (never (repeats-some v e))
          go false e = refl

  found_first : t₀ < n → FirstRepeat P t₀
  found_first less = (less, repeats-some t₀ (found.passes less), none_before)

  -- ---- what is at fault

  -- twins are at fault exactly where some slot repeats one, and then with the first of these
  twin-at : (t : ℕ) → (twin_fault P ≡ twins_at t) ↔ FirstRepeat P t
  twin-at t = (to (dec_lt t₀ n), λ h. let f = first_found t h in pick-lt t₀ n (twins_at t₀) (only 0) (subst (λ (u : ℕ). u < n) f.0 f.1) ∙ ap twins_at (sym f.0))
    where
      to : Dec (t₀ < n) → twin_fault P ≡ twins_at t → FirstRepeat P t
      to (yes less) e =
          let same : t₀ ≡ t = ap (λ (a : Answer). a.place) (sym (pick-lt t₀ n (twins_at t₀) (only 0) less) ∙ e) in
          subst (FirstRepeat P) same (found_first less)
      to (no more) e = absurd (omega (arith, ap (λ (a : Answer). a.number) (sym (pick-ge t₀ n (twins_at t₀) (only 0) (omega arith)) ∙ e)))

  twin-none : (twin_fault P ≡ only 0) ↔ ((t : ℕ) → t < n → ¬ Repeats P t)
  twin-none = (to (dec_lt t₀ n), from (dec_lt t₀ n))
    where
      to : Dec (t₀ < n) → twin_fault P ≡ only 0 → (t : ℕ) → t < n → ¬ Repeats P t
      to (yes less) e = absurd (omega (arith, ap (λ (a : Answer). a.number) (sym (pick-lt t₀ n (twins_at t₀) (only 0) less) ∙ e)))
      to (no more) e = λ t l. none_before t (omega arith)

      from : Dec (t₀ < n) → ((t : ℕ) → t < n → ¬ Repeats P t) → twin_fault P ≡ only 0
      from (yes less) none = absurd (none t₀ less (found_first less).1)
      from (no more) none = pick-ge t₀ n (twins_at t₀) (only 0) (omega arith)

  of_value : (t : ℕ) → (fault P ≡ twins_at t) ↔ (T (in_range P) × FirstRepeat P t)
  of_value t = ((λ e. ⊎_elim (twins e) (λ f. absurd (field e f)) (from_named fields 0 P laws)), λ q. after-range P q.0 ∙ (twin-at t).1 q.1)
    where
      twins : fault P ≡ twins_at t → Good fields P → T (in_range P) × FirstRepeat P t
      twins e g = (good-range P g, (twin-at t).0 (sym (after-range P (good-range P g)) ∙ e))

      field : fault P ≡ twins_at t → ¬ T (names_field (fault_from fields 0 P).number)
      field e f = subst (λ (a : Answer). T (names_field a.number)) (sym (field-first P f) ∙ e) f

  allowed : T (faultless P) ↔ (T (in_range P) × ((t : ℕ) → t < n → ¬ Repeats P t))
  unfolding faultless
  allowed = (
    (λ r. let w = fine P r in (good-range P w.each, twin-none.0 w.apart)),
    λ q. eq→eqb (ap (λ (a : Answer). a.number) (after-range P q.0 ∙ twin-none.1 q.1)),
  )

-- ---- bytes

-- the fields alone never answer 46
walk-other : (s : List ℕ) → ¬ ((walk fields 0 blank s).number ≡ 46)
walk-other s =
    table-answer (λ (r : Reading). ¬ (r.number ≡ 46)) (λ p e. omega arith) (λ e. omega arith) (λ e. omega arith) (λ e. omega arith) (λ e. omega arith)
    (λ a t e. subst (λ (k : ℕ). T (names_field k)) e t) fields 0 blank s laws

-- so where twins are answered, headers and lengths are right
twins-headed : (s : List ℕ) → (reading s).number ≡ 46 → T (headed fields blank s)
twins-headed s e = go (ℕ_discrete (walk fields 0 blank s).number 0)
  where
    go : Dec ((walk fields 0 blank s).number ≡ 0) → T (headed fields blank s)
    go (yes z) = table-headed fields 0 blank s laws z
    go (no ne) = absurd (walk-other s (sym (ap (λ (r : Reading). r.number) (untwinned-stays (walk fields 0 blank s) ne)) ∙ e))

-- a value that is read is refused with what is at fault in it
read-fault : (P : Profile) (t : ℕ) → (read_as P ≡ refused (twins_at t)) ↔ (fault P ≡ twins_at t)
read-fault P t = (to (ℕ_discrete (fault P).number 0), ap (λ (a : Answer). unless a (record { number = 0; place = 0; profile = P })))
  where
    to : Dec ((fault P).number ≡ 0) → read_as P ≡ refused (twins_at t) → fault P ≡ twins_at t
    to (yes z) e =
        let good : read_as P ≡ record { number = 0; place = 0; profile = P } = rw (eq-eqb (fault P).number 0 z) in
        absurd (omega (arith, ap (λ (r : Reading). r.number) (sym good ∙ e)))
    to (no ne) e =
        let bad : read_as P ≡ refused (fault P) = rw (ne_eqb (fault P).number 0 ne) in
        ap (λ (r : Reading). record { number = r.number; place = r.place }) (sym bad ∙ e)

of_bytes : (s : List ℕ) (t : ℕ)
    → (reading s ≡ refused (twins_at t))
    ↔ (T (headed fields blank s) × T (in_range (spelt fields blank s)) × FirstRepeat (spelt fields blank s) t)
of_bytes s t =
    let P = spelt fields blank s in (
      (λ e.
          let h = twins-headed s (ap (λ (r : Reading). r.number) e) in
          let v = (of_value P t).0 ((read-fault P t).0 (sym (read_refused s h) ∙ e)) in
          (h, v.0, v.1)),
      λ q. read_refused s q.0 ∙ (read-fault P t).1 ((of_value P t).1 (q.1, q.2)),
    )

pub no-twins : NoTwins
no-twins = record { of_value = of_value; of_bytes = of_bytes; allowed = allowed }
