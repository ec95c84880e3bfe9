-- A field's header, its value and the bytes after the last field, each judged at a position, are the walk of document 01.
use mathlib.Core.Path.{◌≡◌, refl, sym, ◌∙◌, ap, subst}
use mathlib.Core.Bool.{Bool, true, false, not}
use mathlib.Core.List.{List, [], ◌∷◌}
use Prim.Native.Nat.{ℕ, ◌+◌, ◌*◌, ◌-◌, ◌<◌, ◌≤◌}
use native.Mathlib.Nat.{add_assoc}
use native.Mathlib.Numerals.{add-one}
use native.Mathlib.Omega.{arith}
use borrow.Author.Tests.{eq-eqb, ne_eqb, ltb-false}
use lib.Dec.{eqb, ltb, eqb→eq}
use lib.ListN.{length, take, drop, length-drop, drop_of_length-le}
use lib.Seq.{drop-cons, drop-drop}
use Rattle.laws.specs.Every.{every-at}
use Rattle.rules.specs.Bits.{pick, row}
use Rattle.rules.specs.Profile.{Field, fields, blank, ◌or◌, fault, fault_from, fault_of, twin_fault, only, walk, untwinned, reading, refused, unless}
use Rattle.rules.specs.Answers.{Answer}
use Rattle.rules.specs.declared.Profile.{Profile}
use Rattle.rules.specs.Profile.{Reading}
use Rattle.profile.specs.Fields.{none, many, field, place_of, heading, ending}
use Rattle.profile.specs.declared.fields.Field as code
use Rattle.std.proofs.Common.{get_or}
use Rattle.profile.specs.Reader.{Step, refused_at, taken}

-- ---- what a header says

-- the five tests of a header, as the number that they give
abbrev said : Bool → Bool → Bool → Bool → Bool → ℕ
said none cut tag long short = pick none 5 (pick cut 1 (pick tag 2 (pick long 3 (pick short 1 0))))

-- a field that is judged whole has room for its value
pub heading-room : (tag due : ℕ) (s : List ℕ) → heading tag due s ≡ 0 → 3 + due ≤ length s
heading-room tag due s e =
    ltb-false (length s) (3 + due)
    (go (eqb (length s) 0) (ltb (length s) 3) (not (eqb (row s 0) tag)) (not (eqb (row s 1 * 256 + row s 2) due)) (ltb (length s) (3 + due)) e)
  where
    go : (none cut tag long short : Bool) → said none cut tag long short ≡ 0 → short ≡ false
    go true cut tag long short e = absurd (omega arith)
    go false true tag long short e = absurd (omega arith)
    go false false true long short e = absurd (omega arith)
    go false false false true short e = absurd (omega arith)
    go false false false false true e = absurd (omega arith)
    go false false false false false e = refl

-- ---- the table, field by field

pub fields_at : (i : ℕ) → i < many → drop i fields ≡ field i ∷ drop (i + 1) fields
unfolding field
fields_at i h = rw (add-one, drop-cons fields i none)

pub tag_at : (i : ℕ) → i < many → (field i).tag ≡ i + 1
unfolding field
tag_at i h = eqb→eq (field i).tag (i + 1) (every-at many (λ k. eqb (field k).tag (k + 1)) tt i h)

-- and in the code's list of the fields each stands at its place
abbrev pub all : List code.Field
all = code.TheVariants.Masks ∷ code.TheVariants.Level ∷ code.TheVariants.Mode ∷ code.TheVariants.K ∷ code.TheVariants.Seeds ∷ code.TheVariants.Floor ∷ []

pub place_at : (d : code.Field) (i : ℕ) → i < many → place_of (get_or all i d) ≡ i
place_at d i h = eqb→eq (place_of (get_or all i d)) i (every-at many (λ k. eqb (place_of (get_or all k d)) k) tt i h)

-- what a field's header and value decide; q is the profile with the value
pub walk_step : (f : Field) (fs : List Field) (at : ℕ) (p q : Profile) (s : List ℕ) → q ≡ f.with p (take (f.due p) (drop 3 s))
    → let h = heading f.tag (f.due p) s in
    let a = fault_of f at q in
    walk (f ∷ fs) at p s
    ≡ pick (eqb h 0) (pick (eqb a.number 0) (walk fs (at + 3 + f.due p) q (drop (3 + f.due p) s)) (refused a)) (refused (only h))
unfolding walk
walk_step f fs at p q s w =
    rw (← w)
    (go (eqb (length s) 0) (ltb (length s) 3) (not (eqb (row s 0) f.tag)) (not (eqb (row s 1 * 256 + row s 2) (f.due p)))
    (ltb (length s) (3 + f.due p)) _)
  where
    go : (none cut tag long short : Bool) (next : Reading)
        → pick none (refused (only 5))
        (pick cut (refused (only 1))
        (pick tag (refused (only 2)) (pick long (refused (only 3)) (pick short (refused (only 1)) next))))
        ≡ pick (eqb (said none cut tag long short) 0) next (refused (only (said none cut tag long short)))
    go true cut tag long short next = refl
    go false true tag long short next = refl
    go false false true long short next = refl
    go false false false true short next = refl
    go false false false false true next = refl
    go false false false false false next = refl

-- what stands after the last field
pub walk_end : (at : ℕ) (p : Profile) (s : List ℕ)
    → walk [] at p s ≡ pick (eqb (ending s) 0) (record { number = 0; place = 0; profile = p }) (refused (only (ending s)))
unfolding walk
walk_end at p s = go (eqb (length s) 0) (ltb (length s) 3)
  where
    go : (none cut : Bool) → pick none (record { number = 0; place = 0; profile = p }) (refused (only (pick cut 1 2)))
        ≡ pick (eqb (pick none 0 (pick cut 1 2)) 0) (record { number = 0; place = 0; profile = p }) (refused (only (pick none 0 (pick cut 1 2))))
    go true cut = refl
    go false true = refl
    go false false = refl

-- ---- a field that is taken at a position

-- the length that is due, and what the header says
pub record Judged (s : List ℕ) (p : Profile) (at i due n : ℕ) : Type 0 where
  pub length_due : due ≡ (field i).due p
  pub says : n ≡ heading (i + 1) due (drop at s)

module _ {s : List ℕ} {p : Profile} {at i due n : ℕ} (h : Judged s p at i due n) where
  -- the field's value
  abbrev value : List ℕ
  value = take (at + 3 + due - (at + 3)) (drop (at + 3) s)

  judged : (q : Profile) → q ≡ (field i).with p value
      → taken i p s at
      ≡ (let a = fault_of (field i) at q in
      pick (eqb n 0) (pick (eqb a.number 0) (record { answer = a; at = at + 3 + due; profile = q }) (refused_at a at p)) (refused_at (only n) at p))
  unfolding taken
  judged q w =
      let l : at + 3 + due - (at + 3) ≡ due = omega arith in
      rw (w, l, h.says, h.length_due)

  pub taken_not : (n ≡ 0 → ⊥) → refused_at (only n) at p ≡ taken i p s at
  taken_not ne = sym (judged ((field i).with p value) refl ∙ rw (ne_eqb n 0 ne))

  module _ (z : n ≡ 0) where
    pub value_room : at + 3 + due ≤ length s
    value_room = omega (arith, heading-room (i + 1) due (drop at s) (sym h.says ∙ z), length-drop at s)

    module _ {q : Profile} (w : q ≡ (field i).with p value) {a : Answer} (f : a ≡ fault_of (field i) at q) where
      valued : taken i p s at ≡ pick (eqb a.number 0) (record { answer = a; at = at + 3 + due; profile = q }) (refused_at a at p)
      valued = judged q w ∙ rw (eq-eqb n 0 z, f)

      pub taken-bad : (a.number ≡ 0 → ⊥) → refused_at a at p ≡ taken i p s at
      taken-bad ne = sym (valued ∙ rw (ne_eqb a.number 0 ne))

      pub taken-good : a.number ≡ 0 → record { answer = a; at = at + 3 + due; profile = q } ≡ taken i p s at
      taken-good e = sym (valued ∙ rw (eq-eqb a.number 0 e))

-- ---- reading, turn by turn: from field i on, the walk over what is left answers; twins come after it

pub untwinned-stays : (r : Reading) → (r.number ≡ 0 → ⊥) → untwinned r ≡ r
untwinned-stays r ne = rw (ne_eqb r.number 0 ne)

abbrev walked : List ℕ → Reading
walked s = walk fields 0 blank s

pub record Walking (s : List ℕ) (p : Profile) (at i : ℕ) : Type 0 where
  pub within : i ≤ many
  pub rest : walked s ≡ walk (drop i fields) at p (drop at s)

module _ {s : List ℕ} {p : Profile} {at i : ℕ} (h : Walking s p at i) (more : i < many) where
  turn : let t = taken i p s at in
      walked s ≡ pick (eqb t.answer.number 0) (walk (drop (i + 1) fields) t.at t.profile (drop t.at s)) (refused t.answer)
  unfolding taken
  turn =
      let f = field i in
      let fs = drop (i + 1) fields in
      let n = heading (i + 1) (f.due p) (drop at s) in
      let q = f.with p (take (f.due p) (drop (at + 3) s)) in
      let a = fault_of f at q in
      h.rest ∙ ap (λ (l : List Field). walk l at p (drop at s)) (fields_at i more)
      ∙ walk_step f fs at p q (drop at s) (rw (drop-drop 3 at s))
      ∙ rw (tag_at i more, drop-drop (3 + f.due p) at s, ← add_assoc at 3 (f.due p))
      (go n (eqb n 0) a (eqb a.number 0) refl refl fs q (at + 3 + f.due p))
    where
      go : (n : ℕ) (b : Bool) (a : Answer) (g : Bool) → eqb n 0 ≡ b → eqb a.number 0 ≡ g → (fs : List Field) (q : Profile) (end : ℕ)
          → let t = pick b (pick g (record { answer = a; at = end; profile = q }) (refused_at a at p)) (refused_at (only n) at p) in
          pick b (pick g (walk fs end q (drop end s)) (refused a)) (refused (only n))
          ≡ pick (eqb t.answer.number 0) (walk fs t.at t.profile (drop t.at s)) (refused t.answer)
      go n true a true e f fs q end = rw f
      go n true a false e f fs q end = rw f
      go n false a g e f fs q end = rw e

  module _ {t : Step} (e : t ≡ taken i p s at) where
    turned : walked s
        ≡ pick (eqb t.answer.number 0) (walk (drop (i + 1) fields) t.at t.profile (drop t.at s)) (refused t.answer)
    turned = rw e turn

    pub walk_refused : (t.answer.number ≡ 0 → ⊥) → refused t.answer ≡ reading s
    walk_refused ne =
        let e : walked s ≡ refused t.answer = turned ∙ rw (ne_eqb t.answer.number 0 ne) in
        sym (ap untwinned e ∙ untwinned-stays (refused t.answer) ne)

    pub walk_more : t.answer.number ≡ 0 → Walking s t.profile t.at (i + 1)
    walk_more z = record { within = omega arith; rest = turned ∙ rw (eq-eqb t.answer.number 0 z) }

-- after the last field
module _ {s : List ℕ} {p : Profile} {at i : ℕ} (h : Walking s p at i) (le : many ≤ i) {n : ℕ} (e : n ≡ ending (drop at s)) where
  over : walked s ≡ pick (eqb n 0) (record { number = 0; place = 0; profile = p }) (refused (only n))
  over = h.rest ∙ rw (drop_of_length-le fields le, e) (walk_end at p (drop at s))

  pub walk-surplus : {a : Answer} → a ≡ only n → (a.number ≡ 0 → ⊥) → refused a ≡ reading s
  walk-surplus f ne =
      let no = subst (λ (b : Answer). b.number ≡ 0 → ⊥) f ne in
      let e : walked s ≡ refused (only n) = over ∙ rw (ne_eqb n 0 no) in
      ap refused f ∙ sym (ap untwinned e ∙ untwinned-stays (refused (only n)) no)

  module _ (z : n ≡ 0) {a : Answer} (f : a ≡ twin_fault p) where
    found : reading s ≡ unless a (record { number = 0; place = 0; profile = p })
    found =
        let e : walked s ≡ record { number = 0; place = 0; profile = p } = over ∙ rw (eq-eqb n 0 z) in
        ap untwinned e ∙ rw f

    pub walk-twins : (a.number ≡ 0 → ⊥) → refused a ≡ reading s
    walk-twins ne = sym (found ∙ rw (ne_eqb a.number 0 ne))

    pub walk-done : a.number ≡ 0 → record { number = 0; place = 0; profile = p } ≡ reading s
    walk-done e = sym (found ∙ rw (eq-eqb a.number 0 e))

-- ---- what is at fault in a value, turn by turn: from field i on, whose header would begin at a byte

pub record Finding (p : Profile) (at i : ℕ) : Type 0 where
  pub within : i ≤ many
  pub room : at ≤ 300 * i
  pub rest : fault_from fields 0 p ≡ fault_from (drop i fields) at p

module _ {p : Profile} {at i : ℕ} (h : Finding p at i) where
  module _ (lt : i < many) {a : Answer} (e : a ≡ fault_of (field i) at p) where
    next-fault : fault_from fields 0 p ≡ pick (eqb a.number 0) (fault_from (drop (i + 1) fields) (at + 3 + (field i).due p) p) a
    next-fault = h.rest ∙ ap (λ (fs : List Field). fault_from fs at p) (fields_at i lt) ∙ rw e

    pub find-bad : (a.number ≡ 0 → ⊥) → a ≡ fault p
    unfolding fault
    find-bad ne =
        let e : fault_from fields 0 p ≡ a = next-fault ∙ rw (ne_eqb a.number 0 ne) in
        sym (ap (λ (b : Answer). b or twin_fault p) e ∙ rw (ne_eqb a.number 0 ne))

    pub find-more : a.number ≡ 0 → (due : ℕ) → due ≡ (field i).due p → due < 256 → Finding p (at + (3 + due)) (i + 1)
    find-more z due d l =
        record { within = omega arith; room = omega (arith, h.room); rest = next-fault ∙ rw (eq-eqb a.number 0 z, d, add_assoc at 3) refl }

  pub find-done : many ≤ i → twin_fault p ≡ fault p
  unfolding fault
  find-done le =
      let e : fault_from fields 0 p ≡ only 0 = h.rest ∙ rw (drop_of_length-le fields le) in
      sym (ap (λ (b : Answer). b or twin_fault p) e)
