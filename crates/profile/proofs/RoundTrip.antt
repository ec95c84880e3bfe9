-- A profile is read and written by the same rules: what is written reads as the profile, and bytes that read well are those written of it.
-- Every answer has a number of the table, a refused reading holds the blank profile, and what is written is bytes, as many as the mode says.
use mathlib.Core.Path.{◌≡◌, refl, sym, ap, ◌∙◌, subst}
use mathlib.Core.Bool.{Bool, true, false}
use mathlib.Core.List.{List, ◌++◌}
use mathlib.Core.Logic.{◌↔◌, ⊎_elim}
use Prim.Native.Nat.{ℕ, ◌+◌, ◌-◌, ◌*◌, ◌<◌}
use native.Mathlib.Omega.{arith}
use native.Mathlib.Decide.{ℕ_discrete}
use borrow.Author.Tests.{eq-eqb, ne_eqb}
use lib.Dec.{T, eqb}
use lib.ListN.{length, take, replicate}
use lib.Seq.{take-append_seam}
use Rattle.rules.specs.Answers.{names_fault, is_answer, has_read}
use Rattle.rules.specs.Demands.{Names}
use Rattle.rules.specs.Bits.{pick, row}
use Rattle.rules.specs.Modes.{slots}
use Rattle.rules.specs.Profile.{Shape, Whole, fields, blank, only, ◌or◌, fault_from, twin_fault, fault, faultless, walk, refused, unless, untwinned, reading, read_as, headed, spelt, written, writing, largest}
use Rattle.rules.specs.Answers.{Answer}
use Rattle.rules.specs.declared.Profile.{Profile}
use Rattle.rules.specs.Profile.{Reading}
use Rattle.rules.specs.Profile.{Writing}
use Rattle.profile.proofs.Words.{bytes_of, bytes-at}
use Rattle.profile.proofs.AtFault.{fine, by-fault, field-named, twin-named, fault-not-zero, good-range, after-range, named-unread, named-told, or-fine, or-faulty, fault-names}
use Rattle.profile.proofs.Table.{table-read, table-written, table-answer, table-refused, table-spelt, table-length, table-bytes}
use Rattle.profile.proofs.Walk.{untwinned-stays}
use Rattle.profile.proofs.Entries.{laws, ordered, whole, good-whole}

-- what is read as a profile
abbrev value_read : Profile → Reading
value_read p = record { number = 0; place = 0; profile = p }

-- ---- twins, after what the fields say

-- at 0 the fields say 0 too, there are no twins, and nothing else is answered
untwinned-zero : (r : Reading) → (untwinned r).number ≡ 0 → (r.number ≡ 0) × (twin_fault r.profile ≡ only 0) × (untwinned r ≡ r)
untwinned-zero r z = by_number (ℕ_discrete r.number 0)
  where
    a : Answer
    a = twin_fault r.profile

    by_number : Dec (r.number ≡ 0) → (r.number ≡ 0) × (twin_fault r.profile ≡ only 0) × (untwinned r ≡ r)
    by_number (yes n) =
        let e : untwinned r ≡ unless a r = rw (eq-eqb r.number 0 n) in
        ⊎_elim (λ o. (n, o, e ∙ ap (λ (b : Answer). unless b r) o))
        (λ f.
        let bad : unless a r ≡ refused a = rw (ne_eqb a.number 0 (λ y. omega (arith, f))) in
        absurd (omega (arith, f, sym (ap (λ (q : Reading). q.number) (e ∙ bad)) ∙ z)))
        (twin-named r.profile)
    by_number (no ne) = absurd (ne (sym (ap (λ (q : Reading). q.number) (untwinned-stays r ne)) ∙ z))

-- they come after an answer that comes first
untwinned-unless : (a : Answer) (P : Profile) → untwinned (unless a (value_read P)) ≡ unless (a or twin_fault P) (value_read P)
untwinned-unless a P = go (eqb a.number 0) refl
  where
    go : (b : Bool) → eqb a.number 0 ≡ b → untwinned (pick b (value_read P) (refused a)) ≡ unless (pick b (twin_fault P) a) (value_read P)
    go true e = refl
    go false e = rw e

untwinned-each : (Q : Reading → Type 0) → ((a : Answer) → T (names_fault a.number) → Q (refused a)) → (r : Reading) → Q r → Q (untwinned r)
untwinned-each Q named r q = go (eqb r.number 0)
  where
    a : Answer
    a = twin_fault r.profile

    go : (b : Bool) → Q (pick b (unless a r) r)
    go true =
        ⊎_elim (λ o. subst (λ (x : Answer). Q (unless x r)) (sym o) q)
        (λ f. rw (ne_eqb a.number 0 (λ y. omega (arith, f))) (named a (subst (λ (n : ℕ). T (names_fault n)) (sym f) tt)))
        (twin-named r.profile)
    go false = q

-- ---- writing

-- what is written of a faultless profile
abbrev good : List ℕ → Writing
good w = record { number = 0; place = 0; bytes = w ++ replicate (largest - length w) 0; count = length w }

-- and of one that isn't
abbrev bad : Answer → Writing
bad a = record { number = a.number; place = a.place; bytes = replicate largest 0; count = 0 }

writing-good : (P : Profile) → T (faultless P) → writing P ≡ good (written P)
writing-good P = go (faultless P)
  where
    go : (b : Bool) → T b → pick b (good (written P)) (bad (fault P)) ≡ good (written P)
    go true t = refl
    go false t = absurd t

writing-bad : (P : Profile) → ¬ T (faultless P) → writing P ≡ bad (fault P)
writing-bad P = go (faultless P)
  where
    go : (b : Bool) → ¬ T b → pick b (good (written P)) (bad (fault P)) ≡ bad (fault P)
    go true t = absurd (t tt)
    go false t = refl

pub writes : (P : Profile) → ((writing P).number ≡ 0) ↔ T (faultless P)
writes P =
    ⊎_elim (λ w. ((λ _. w.range), λ t. ap (λ (x : Writing). x.number) (writing-good P t)))
    (λ w. (
      (λ e. absurd (fault-not-zero (fault P).number w.named (sym (ap (λ (x : Writing). x.number) (writing-bad P w.outside)) ∙ e))),
      λ t. absurd (w.outside t),
    ))
    (by-fault P)

-- what a refused writing hands back
pub write-told : (P : Profile)
    → T (is_answer (writing P).number (writing P).place)
    × (¬ ((writing P).number ≡ 0) → ((writing P).bytes ≡ replicate largest 0) × ((writing P).count ≡ 0))
write-told P =
    ⊎_elim (λ w. rw (writing-good P w.range) (tt, λ ne. absurd (ne refl)))
    (λ w. rw (writing-bad P w.outside) (named-told (fault P) w.named, λ ne. (refl, refl))) (by-fault P)

pub write_names : (P : Profile) → Names P (record { number = (writing P).number; place = (writing P).place })
write_names P =
    ⊎_elim (λ w. fault-names P 0 _ (λ t. t) (rw (writing-good P w.range) (sym (or-fine P 0 w.range))))
    (λ w. fault-names P 0 _ (λ t. t) (rw (writing-bad P w.outside) (sym (or-faulty P 0 w.outside)))) (by-fault P)

pub read_written : (P : Profile) → Shape P → (writing P).number ≡ 0
    → reading (take (writing P).count (writing P).bytes) ≡ record { number = 0; place = 0; profile = P }
unfolding written
read_written P S z =
    let t = (writes P).0 z in
    let g = (fine P t).each in
    ap (λ (w : Writing). reading (take w.count w.bytes)) (writing-good P t)
    ∙ ap reading (take-append_seam (written P) (replicate (largest - length (written P)) 0))
    ∙ ap untwinned (table-read fields blank P laws ordered S g (whole P S (good-whole P g))) ∙ ap (λ (a : Answer). unless a (value_read P)) (fine P t).apart

pub written_read : (s : List ℕ)
    → ((i : ℕ) → row s i < 256)
    → (reading s).number ≡ 0
    → writing (reading s).profile ≡ record { number = 0; place = 0; bytes = s ++ replicate (largest - length s) 0; count = length s }
unfolding faultless written
written_read s b z =
    let r = walk fields 0 blank s in
    let u = untwinned-zero r z in
    let w = table-written fields blank s laws ordered (bytes_of s b) u.0 in
    let t : T (faultless r.profile) = rw (after-range r.profile (good-range r.profile w.0) ∙ u.1) tt in
    ap (λ (q : Reading). writing q.profile) u.2 ∙ writing-good r.profile t ∙ ap good w.1

-- for bytes whose headers and lengths are right, reading answers what the value so read is refused with, or the value
pub read_refused : (s : List ℕ) → T (headed fields blank s) → reading s ≡ read_as (spelt fields blank s)
unfolding fault
read_refused s t =
    let P = spelt fields blank s in
    ap untwinned (table-refused fields 0 blank s ordered t) ∙ untwinned-unless (fault_from fields 0 P) P

-- and the bytes of a value, at fault or not, are read so
pub written_out : (P : Profile) → Shape P → Whole P → reading (written P) ≡ read_as P
unfolding written
written_out P S w =
    let q = table-spelt fields blank P laws ordered S (whole P S w) in
    read_refused (written P) q.0 ∙ ap read_as q.1

-- what holds of every profile that is read, of the refusals by a header and of every one that names a fault holds of what is answered
module _ (Q : Reading → Type 0) (done : (p : Profile) → Q (value_read p))
    (q₁ : Q (refused (only 1))) (q₂ : Q (refused (only 2))) (q₃ : Q (refused (only 3))) (q₅ : Q (refused (only 5)))
    (named : (a : Answer) → T (names_fault a.number) → Q (refused a)) where
  read_answer : (s : List ℕ) → Q (reading s)
  read_answer s =
      untwinned-each Q named (walk fields 0 blank s) (table-answer Q done q₁ q₂ q₃ q₅ (λ a t. named a (field-named a.number t)) fields 0 blank s laws)

pub read_number : (s : List ℕ)
    → T (is_answer (reading s).number (reading s).place) × (¬ ((reading s).number ≡ 0) → (reading s).profile ≡ blank)
read_number =
    read_answer (λ (r : Reading). T (is_answer r.number r.place) × (¬ (r.number ≡ 0) → r.profile ≡ blank))
    (λ p. (tt, λ ne. absurd (ne refl))) (tt, λ ne. refl) (tt, λ ne. refl) (tt, λ ne. refl) (tt, λ ne. refl)
    (λ a t. (named-told a t, λ ne. refl))

-- a refusal of reading is no number at which cells are read
pub unread : (s : List ℕ) → T (has_read (reading s).number) → (reading s).number ≡ 0
unread =
    read_answer (λ (r : Reading). T (has_read r.number) → r.number ≡ 0)
    (λ p t. refl) (λ t. absurd t) (λ t. absurd t) (λ t. absurd t) (λ t. absurd t) (λ a n t. absurd (named-unread a.number n t))

-- nor that of a state that no feeding leaves
pub not-22 : (s : List ℕ) → ¬ ((reading s).number ≡ 22)
not-22 =
    read_answer (λ (r : Reading). ¬ (r.number ≡ 22)) (λ p e. omega arith) (λ e. omega arith) (λ e. omega arith) (λ e. omega arith)
    (λ e. omega arith) (λ a t e. subst (λ (k : ℕ). T (names_fault k)) e t)

pub written-length : (P : Profile) → T (faultless P) → Shape P → length (written P) ≡ 60 + 4 * slots P.mode
unfolding written
written-length P t S = table-length fields P laws S ∙ omega arith

pub written-bytes : (P : Profile) → T (faultless P) → (i : ℕ) → row (written P) i < 256
unfolding written
written-bytes P t = bytes-at (written P) (table-bytes fields P laws (fine P t).each)
