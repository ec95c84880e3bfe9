-- Reading and writing along any table of fields whose entries obey `Lawful` and stand in an order by `Ordered`: the two undo one another.
use mathlib.Core.Path.{◌≡◌, refl, sym, ap, ◌∙◌, subst}
use mathlib.Core.Bool.{Bool, true, false, not, ◌&&◌}
use mathlib.Core.List.{List, [], ◌∷◌, ◌++◌}
use mathlib.Core.Logic.{◌⊎◌, inl, inr, ⊎_elim}
use Prim.Native.Nat.{ℕ, suc, ◌+◌, ◌*◌, ◌/◌, ◌%◌, ◌<◌, ◌≤◌}
use native.Mathlib.Nat.{div-add-mod'}
use native.Mathlib.Decide.{ℕ_discrete}
use native.Mathlib.Omega.{arith}
use lib.Dec.{T, eqb, leb, ltb, leb→le, le→leb}
use lib.Ieee.Bits.{is_true}
use lib.Ieee.Fits.{and_i, and_l, and_r, eq→eqb}
use lib.ListN.{length, take, drop, length-append, take-append-drop}
use lib.Seq.{length-take-le, take_at, drop_at}
use borrow.Author.Tests.{eq-eqb, eqb-true, ne_eqb, le-ltb, ltb-false, not-false}
use Rattle.rules.specs.Bits.{pick, row}
use Rattle.rules.specs.Answers.{names_field}
use Rattle.rules.specs.Profile.{Field, ◌or◌, fault_from, fault_of, faulty, field_bytes, headed, only, refused, unless, spelt, walk}
use Rattle.rules.specs.Answers.{Answer}
use Rattle.rules.specs.declared.Profile.{Profile}
use Rattle.rules.specs.Profile.{Reading}
use Rattle.rules.specs.Profile.{Shape}
use Rattle.profile.proofs.Tests.{all_good, faulty-test}
use Rattle.profile.proofs.Words.{Bytes, bytes_apart, bytes-both}

-- ---- the laws

-- every number of a field is in its range, and the value finds nothing at fault in a field before it
abbrev pub good : Field → Profile → Bool
good f p = all_good (f.tested p) && eqb (f.also p).number 0

-- of one field
pub record Lawful (f : Field) : Type 0 where
  pub tagged : f.tag < 256
  pub named : T (names_field f.refusal)
  pub also_named : (P : Profile) → ((f.also P).number ≡ 0) ⊎ T (names_field (f.also P).number)
  pub short : (P : Profile) → f.due P < 65536
  pub measured : (P : Profile) → Shape P → length (f.bytes P) ≡ f.due P
  pub each : (P : Profile) → T (good f P) → Bytes (f.bytes P)
  -- a value in its range is written as the bytes that it was read from
  pub back : (p : Profile) (s : List ℕ) → length s ≡ f.due p → Bytes s → T (good f (f.with p s)) → f.bytes (f.with p s) ≡ s

-- of each field of a table. `l & L` is `more l L`, but a function's arguments are checked once the table is known
infixr 20 ◌&◌
pub data Laws : List Field → Type 0 where
  end : Laws []
  more : {f : Field} {fs : List Field} → Lawful f → Laws fs → Laws (f ∷ fs)

pub ◌&◌ : {f : Field} {fs : List Field} → Lawful f → Laws fs → Laws (f ∷ fs)
l & L = more l L

-- h says the same before and after any of the fields is read
abbrev pub Keeps : {A : Type 0} → (Profile → A) → List Field → Type 0
Keeps h [] = Unit {0}
Keeps h (f ∷ fs) = ((p : Profile) (s : List ℕ) → h (f.with p s) ≡ h p) × Keeps h fs

-- the length due is known by what was read before the field, and what is at fault and the bytes by what was read up to it
abbrev pub Ordered : List Field → Type 0
Ordered [] = Unit {0}
Ordered (f ∷ fs) = Keeps f.due (f ∷ fs) × Keeps f.tested fs × Keeps f.also fs × Keeps f.bytes fs × Ordered fs

-- a field that finds the same in two profiles finds both good or neither
same_good : (f : Field) {p q : Profile} → f.tested p ≡ f.tested q → f.also p ≡ f.also q → good f p ≡ good f q
same_good f e₁ e₂ = λ i. all_good (e₁ i) && eqb (e₂ i).number 0

-- every field of P is good
abbrev pub Good : List Field → Profile → Type 0
Good [] P = Unit {0}
Good (f ∷ fs) P = T (good f P) × Good fs P

-- ---- what is at fault

-- the first of two answers, by its number
pub first-passed : (a b : Answer) → a.number ≡ 0 → pick (eqb a.number 0) b a ≡ b
first-passed a b z = rw (eq-eqb a.number 0 z)

pub first-stays : (a b : Answer) → (a.number ≡ 0 → ⊥) → pick (eqb a.number 0) b a ≡ a
first-stays a b ne = rw (ne_eqb a.number 0 ne)

-- zero names no field
pub named-not-zero : (n : ℕ) → T (names_field n) → ¬ (n ≡ 0)
named-not-zero n t z = subst (λ (k : ℕ). T (names_field k)) z t

number_passed : (a b : Answer) → a.number ≡ 0 → (a or b).number ≡ b.number
number_passed a b z = ap (λ (x : Answer). x.number) (first-passed a b z)

named-stays : (a b : Answer) → T (names_field a.number) → T (names_field (a or b).number)
named-stays a b t = rw (first-stays a b (named-not-zero a.number t)) t

-- a field that asks nothing else finds what its numbers give
pub alone : (f : Field) (at : ℕ) (p : Profile) → T (names_field f.refusal) → f.also p ≡ only 0
    → faulty f.refusal (at + 3) (f.tested p) ≡ fault_of f at p
alone f at p t e =
    ⊎_elim (λ w. w.1 ∙ sym (first-passed a (f.also p) (ap (λ (x : Answer). x.number) w.1) ∙ e))
    (λ w. sym (first-stays a (f.also p) (λ z. named-not-zero f.refusal t (sym w.1 ∙ z))))
    (faulty-test f.refusal (at + 3) (f.tested p))
  where
    a : Answer
    a = faulty f.refusal (at + 3) (f.tested p)

-- a field that is good finds nothing at fault, and any other something that names a field
pub by-good : (f : Field) → Lawful f → (at : ℕ) (p : Profile)
    → ((good f p ≡ true) × ((fault_of f at p).number ≡ 0)) ⊎ ((good f p ≡ false) × T (names_field (fault_of f at p).number))
by-good f law at p =
    ⊎_elim
    (λ w.
    let z = ap (λ (a : Answer). a.number) w.1 in
    ⊎_elim (λ e. inl (rw (w.0, eq-eqb other.number 0 e), number_passed own other z ∙ e))
    (λ t. inr (rw (w.0, ne_eqb other.number 0 (named-not-zero other.number t)), rw (number_passed own other z) t)) (law.also_named p))
    (λ w. inr (rw w.0, named-stays own other (subst (λ (n : ℕ). T (names_field n)) (sym w.1) law.named)))
    (faulty-test f.refusal (at + 3) (f.tested p))
  where
    own : Answer
    own = faulty f.refusal (at + 3) (f.tested p)

    other : Answer
    other = f.also p

pub fault-good : (f : Field) → Lawful f → (at : ℕ) (p : Profile) → good f p ≡ true → (fault_of f at p).number ≡ 0
fault-good f law at p g = ⊎_elim (λ w. w.1) (λ w. absurd (subst T (sym g ∙ w.0) tt)) (by-good f law at p)

pub no-fault : (f : Field) → Lawful f → (at : ℕ) (p : Profile) → (fault_of f at p).number ≡ 0 → good f p ≡ true
no-fault f law at p z = ⊎_elim (λ w. w.0) (λ w. absurd (named-not-zero (fault_of f at p).number w.1 z)) (by-good f law at p)

-- nothing is at fault in a profile exactly where every field is good; what else is found names a field
pub good-from : (fs : List Field) (at : ℕ) (P : Profile) → Laws fs → Good fs P → fault_from fs at P ≡ only 0
good-from [] at P end g = refl
good-from (f ∷ fs) at P (more l L) g =
    first-passed (fault_of f at P) (fault_from fs (at + 3 + f.due P) P) (fault-good f l at P (is_true (good f P) g.0))
    ∙ good-from fs (at + 3 + f.due P) P L g.1

pub from_named : (fs : List Field) (at : ℕ) (P : Profile) → Laws fs
    → Good fs P ⊎ T (names_field (fault_from fs at P).number)
from_named [] at P end = inl tt
from_named (f ∷ fs) at P (more l L) =
    ⊎_elim
    (λ w.
    let e = number_passed (fault_of f at P) rest w.1 in
    ⊎_elim (λ h. inl (subst T (sym w.0) tt, h)) (λ t. inr (subst (λ (n : ℕ). T (names_field n)) (sym e) t)) (from_named fs _ P L))
    (λ w. inr (named-stays (fault_of f at P) rest w.1))
    (by-good f l at P)
  where
    rest : Answer
    rest = fault_from fs (at + 3 + f.due P) P

-- p with the fields that P has
abbrev pub filled : List Field → Profile → Profile → Profile
filled [] p P = p
filled (f ∷ fs) p P = filled fs (f.with p (f.bytes P)) P

-- ---- what reads well

-- P is read from the bytes s, after what p holds
data Read : List Field → Profile → List ℕ → Profile → Type 0 where
  done : {p : Profile} → Read [] p [] p
  next : {f : Field} {fs : List Field} {p P : Profile} (h l : ℕ) (v s : List ℕ) → h * 256 + l ≡ f.due p
      → length v ≡ f.due p
      → good f (f.with p v) ≡ true
      → Read fs (f.with p v) s P
      → Read (f ∷ fs) p (f.tag ∷ h ∷ l ∷ v ++ s) P

kept : {A : Type 0} (h : Profile → A) {fs : List Field} {p P : Profile} {s : List ℕ} → Read fs p s P → Keeps h fs → h P ≡ h p
kept h done k = refl
kept h (next {p = p} a b v s e m g r) k = kept h r k.1 ∙ k.0 p v

skip : (b : Bool) (x : Reading) {y z : Reading} → b ≡ false → y ≡ z → pick b x y ≡ z
skip b x {y} e h = ap (λ (t : Bool). pick t x y) e ∙ h

go_on : (a : Answer) {y z : Reading} → a.number ≡ 0 → y ≡ z → pick (eqb a.number 0) y (refused a) ≡ z
go_on a e h = rw (eq-eqb a.number 0 e) h

three : (n : ℕ) → 3 + n ≡ suc (suc (suc n))
three n = omega arith

walk-read : {fs : List Field} {p P : Profile} {s : List ℕ} (at : ℕ) → Laws fs → Read fs p s P
    → walk fs at p s ≡ record { number = 0; place = 0; profile = P }
unfolding walk
walk-read at end done = refl
walk-read at (more law L) (next {f} {fs} {p} {P} h l v s e m g r) =
    let n = 3 + length (v ++ s) in
    rw (three (f.due p), take_at v s (f.due p) m, drop_at v s (f.due p) m, ← three (length (v ++ s)))
    (skip _ (refused (only 5)) (ne_eqb n 0 (omega arith))
    (skip _ (refused (only 1)) (le-ltb n 3 (omega arith))
    (skip _ (refused (only 2)) (ap not (eq-eqb f.tag f.tag refl))
    (skip _ (refused (only 3)) (ap not (eq-eqb _ _ e))
    (skip _ (refused (only 1)) (le-ltb n (suc (suc (suc (f.due p)))) (omega (arith, length-append v s)))
    (go_on (fault_of f at (f.with p v)) (fault-good f law at (f.with p v) g)
    (walk-read (at + 3 + f.due p) L r)))))))

zero_number : {q r : Reading} → q ≡ r → r.number ≡ 0 → q.number ≡ 0
zero_number e z = ap (λ (q : Reading). q.number) e ∙ z

passed : (b : Bool) (n : ℕ) (x r : Reading) → pick b (refused (only (suc n))) x ≡ r → r.number ≡ 0 → (b ≡ false) × (x ≡ r)
passed true n x r e z = absurd (omega (arith, zero_number e z))
passed false n x r e z = (refl, e)

went_on : (a : Answer) (x r : Reading) → pick (eqb a.number 0) x (refused a) ≡ r → r.number ≡ 0 → (a.number ≡ 0) × (x ≡ r)
went_on a x r e z = go (ℕ_discrete a.number 0)
  where
    go : Dec (a.number ≡ 0) → (a.number ≡ 0) × (x ≡ r)
    go (yes y) = (y, rw (eq-eqb a.number 0 y) at e)
    go (no ne) = absurd (ne (zero_number (rw (ne_eqb a.number 0 ne) at e) z))

ends : (b c : Bool) (p : Profile) → (pick b (record { number = 0; place = 0; profile = p }) (refused (only (pick c 1 2)))).number ≡ 0 → b ≡ true
ends true c p z = refl
ends false true p z = absurd (omega arith)
ends false false p z = absurd (omega arith)

read_walk : (fs : List Field) (at : ℕ) (p : Profile) (s : List ℕ) (r : Reading) → Laws fs → walk fs at p s ≡ r → r.number ≡ 0
    → Read fs p s r.profile
unfolding walk
read_walk [] at p [] r end e z = subst (λ (q : Reading). Read [] p [] q.profile) e done
read_walk [] at p (x ∷ s) r end e z =
    let n = suc (length s) in
    absurd (omega (arith, eqb-true n 0 (ends (eqb n 0) (ltb n 3) p (zero_number e z))))
read_walk (f ∷ fs) at p [] r (more law L) e z = absurd (omega (arith, zero_number e z))
read_walk (f ∷ fs) at p (a ∷ []) r (more law L) e z = absurd (omega (arith, zero_number e z))
read_walk (f ∷ fs) at p (a ∷ b ∷ []) r (more law L) e z = absurd (omega (arith, zero_number e z))
read_walk (f ∷ fs) at p (a ∷ b ∷ c ∷ s) r (more law L) e z =
    let d = f.due p in
    let n = suc (suc (suc (length s))) in
    let t₁ = passed (eqb n 0) 4 _ r e z in
    let t₂ = passed (ltb n 3) 0 _ r t₁.1 z in
    let t₃ = passed _ 1 _ r t₂.1 z in
    let t₄ = passed _ 2 _ r t₃.1 z in
    let t₅ = passed _ 0 _ r t₄.1 z in
    let t₆ = went_on (fault_of f at _) _ r t₅.1 z in
    let long : d ≤ length s = omega (arith, ltb-false n (3 + d) t₅.0) in
    let rest : walk fs (at + 3 + d) (f.with p (take d s)) (drop d s) ≡ r =
    ap (λ (k : ℕ). walk fs (at + 3 + d) (f.with p (take d s)) (drop k (a ∷ b ∷ c ∷ s))) (sym (three d)) ∙ t₆.1 in
    subst (λ (l : List ℕ). Read (f ∷ fs) p l r.profile)
    (λ i. sym (eqb-true a f.tag (not-false _ t₃.0)) i ∷ b ∷ c ∷ take-append-drop d s i)
    (next b c (take d s) (drop d s) (eqb-true _ _ (not-false _ t₄.0)) (length-take-le d s long)
    (no-fault f law at _ t₆.0) (read_walk fs (at + 3 + d) (f.with p (take d s)) (drop d s) r L rest z))

-- ---- what is written is read

read-filled : (fs : List Field) (p P : Profile) → Laws fs → Ordered fs → Shape P → Good fs P → filled fs p P ≡ P
    → Read fs p (field_bytes fs P) P
read-filled [] p P end O S g e = subst (λ (q : Profile). Read [] p [] q) e done
read-filled (f ∷ fs) p P (more law L) O S g e =
    let r = read-filled fs (f.with p (f.bytes P)) P L O.4 S g.1 e in
    let d = kept f.due r O.0.1 ∙ O.0.0 p (f.bytes P) in
    next (f.due P / 256) (f.due P % 256) (f.bytes P) (field_bytes fs P)
    (div-add-mod' (f.due P) 256 ∙ d)
    (law.measured P S ∙ d)
    (sym (same_good f (kept f.tested r O.1) (kept f.also r O.2)) ∙ is_true (good f P) g.0)
    r

pub table-read : (fs : List Field) (p P : Profile) → Laws fs → Ordered fs → Shape P → Good fs P → filled fs p P ≡ P
    → walk fs 0 p (field_bytes fs P) ≡ record { number = 0; place = 0; profile = P }
table-read fs p P L O S g e = walk-read 0 L (read-filled fs p P L O S g e)

-- ---- what reads well is what is written

written_of : {fs : List Field} {p P : Profile} {s : List ℕ} → Read fs p s P → Laws fs → Ordered fs → Bytes s
    → Good fs P × (field_bytes fs P ≡ s)
written_of done end O b = (tt, refl)
written_of (next {f} {fs} {p} {P} h l v s e m g r) (more law L) O b =
    let b' = bytes_apart v s b.1.1.1 in
    let w = written_of r L O.4 b'.1 in
    let d : f.due P ≡ h * 256 + l = kept f.due r O.0.1 ∙ O.0.0 p v ∙ sym e in
    let e₁ : f.due P / 256 ≡ h = omega (arith, b.1.1.0) in
    let e₂ : f.due P % 256 ≡ l = omega (arith, b.1.1.0) in
    let t : T (good f (f.with p v)) = subst T (sym g) tt in
    let e₃ : f.bytes P ≡ v = kept f.bytes r O.3 ∙ law.back p v m b'.0 t in
    ((subst T (sym (same_good f (kept f.tested r O.1) (kept f.also r O.2))) t, w.0), λ i. f.tag ∷ e₁ i ∷ e₂ i ∷ e₃ i ++ w.1 i)

pub table-written : (fs : List Field) (p : Profile) (s : List ℕ) → Laws fs → Ordered fs → Bytes s → (walk fs 0 p s).number ≡ 0
    → Good fs (walk fs 0 p s).profile × (field_bytes fs (walk fs 0 p s).profile ≡ s)
table-written fs p s L O b z = written_of (read_walk fs 0 p s (walk fs 0 p s) L refl z) L O b

-- ---- what reads well has right headers and lengths

headed-read : {fs : List Field} {p P : Profile} {s : List ℕ} → Read fs p s P → T (headed fs p s)
headed-read done = tt
headed-read (next {f} {fs} {p} h l v s e m g r) =
    let room : suc (suc (suc (f.due p))) ≤ suc (suc (suc (length (v ++ s)))) = omega (arith, length-append v s) in
    rw (three (f.due p), take_at v s (f.due p) m, drop_at v s (f.due p) m)
    (and_i (leb (suc (suc (suc (f.due p)))) (suc (suc (suc (length (v ++ s)))))) _ (le→leb _ _ room)
    (and_i (eqb f.tag f.tag) _ (eq→eqb {a = f.tag} refl) (and_i (eqb (h * 256 + l) (f.due p)) _ (eq→eqb e) (headed-read r))))

pub table-headed : (fs : List Field) (at : ℕ) (p : Profile) (s : List ℕ) → Laws fs → (walk fs at p s).number ≡ 0 → T (headed fs p s)
table-headed fs at p s L z = headed-read (read_walk fs at p s (walk fs at p s) L refl z)

-- ---- numbers, lengths, bytes

-- what holds of every profile that is read, of the refusals by a header and of every one that names a field holds of what is answered
module _ (Q : Reading → Type 0) (done : (p : Profile) → Q (record { number = 0; place = 0; profile = p }))
    (q₁ : Q (refused (only 1))) (q₂ : Q (refused (only 2))) (q₃ : Q (refused (only 3))) (q₅ : Q (refused (only 5)))
    (named : (a : Answer) → T (names_field a.number) → Q (refused a)) where
  or-refused : (b : Bool) (n : ℕ) (r : Reading) → Q (refused (only n)) → Q r → Q (pick b (refused (only n)) r)
  or-refused true n r t q = t
  or-refused false n r t q = q

  or-named : (f : Field) → Lawful f → (at : ℕ) (p : Profile) (r : Reading) → Q r
      → Q (let a = fault_of f at p in pick (eqb a.number 0) r (refused a))
  or-named f law at p r q =
      let a = fault_of f at p in
      ⊎_elim (λ w. subst Q (sym (go_on a w.1 refl)) q)
      (λ w. rw (ne_eqb a.number 0 (named-not-zero a.number w.1)) (named a w.1))
      (by-good f law at p)

  ended : (b c : Bool) (p : Profile) → Q (pick b (record { number = 0; place = 0; profile = p }) (refused (only (pick c 1 2))))
  ended true c p = done p
  ended false true p = q₁
  ended false false p = q₂

  pub table-answer : (fs : List Field) (at : ℕ) (p : Profile) (s : List ℕ) → Laws fs → Q (walk fs at p s)
  unfolding walk
  table-answer [] at p s end = ended (eqb (length s) 0) (ltb (length s) 3) p
  table-answer (f ∷ fs) at p s (more l L) =
      let q = f.with p (take (f.due p) (drop 3 s)) in
      or-refused (eqb (length s) 0) 5 _ q₅
      (or-refused (ltb (length s) 3) 1 _ q₁
      (or-refused (not (eqb (row s 0) f.tag)) 2 _ q₂
      (or-refused (not (eqb (row s 1 * 256 + row s 2) (f.due p))) 3 _ q₃
      (or-refused (ltb (length s) (3 + f.due p)) 1 _ q₁
      (or-named f l at q _
      (table-answer fs (at + 3 + f.due p) q (drop (3 + f.due p) s) L))))))

-- how many bytes are due
abbrev pub size : List Field → Profile → ℕ
size [] P = 0
size (f ∷ fs) P = 3 + f.due P + size fs P

pub table-length : (fs : List Field) (P : Profile) → Laws fs → Shape P → length (field_bytes fs P) ≡ size fs P
table-length [] P end S = refl
table-length (f ∷ fs) P (more l L) S =
    omega (arith, length-append (f.bytes P) (field_bytes fs P), l.measured P S, table-length fs P L S)

pub table-bytes : (fs : List Field) (P : Profile) → Laws fs → Good fs P → Bytes (field_bytes fs P)
table-bytes [] P end g = tt
table-bytes (f ∷ fs) P (more l L) g =
    bytes-both (f.tag ∷ f.due P / 256 ∷ f.due P % 256 ∷ []) (f.bytes P ++ field_bytes fs P) (omega (arith, l.tagged, l.short P))
    (bytes-both (f.bytes P) (field_bytes fs P) (l.each P g.0) (table-bytes fs P L g.1))

-- ---- bytes whose headers and lengths are right

-- what h says of a profile stays while the other fields are read
kept-spelt : {A : Type 0} (h : Profile → A) (fs : List Field) (p : Profile) (s : List ℕ) → Keeps h fs → h (spelt fs p s) ≡ h p
kept-spelt h [] p s k = refl
kept-spelt h (f ∷ fs) p s k =
    kept-spelt h fs (f.with p (take (f.due p) (drop 3 s))) (drop (3 + f.due p) s) k.1 ∙ k.0 p (take (f.due p) (drop 3 s))

unless-or : (a b : Answer) (r : Reading) → unless a (unless b r) ≡ unless (pick (eqb a.number 0) b a) r
unless-or a b r = go (eqb a.number 0) refl
  where
    go : (z : Bool) → eqb a.number 0 ≡ z
        → pick z (unless b r) (refused a) ≡ unless (pick z b a) r
    go true e = refl
    go false e = rw e

-- reading answers what the value that stands there is refused with
pub table-refused : (fs : List Field) (at : ℕ) (p : Profile) (s : List ℕ) → Ordered fs → T (headed fs p s)
    → walk fs at p s ≡ unless (fault_from fs at (spelt fs p s)) (record { number = 0; place = 0; profile = spelt fs p s })
unfolding walk
table-refused [] at p s O t = rw (is_true (eqb (length s) 0) t)
table-refused (f ∷ fs) at p s O t =
    let d = f.due p in
    let q = f.with p (take d (drop 3 s)) in
    let P = spelt fs q (drop (3 + d) s) in
    let rest = headed fs q (drop (3 + d) s) in
    let tag = eqb (row s 0) f.tag in
    let long = eqb (row s 1 * 256 + row s 2) d in
    let t₁ = and_l (leb (3 + d) (length s)) (tag && (long && rest)) t in
    let t₂ = and_r (leb (3 + d) (length s)) (tag && (long && rest)) t in
    let t₃ = and_r tag (long && rest) t₂ in
    let room : 3 + d ≤ length s = leb→le (3 + d) (length s) t₁ in
    let due : f.due P ≡ d = kept-spelt f.due fs q (drop (3 + d) s) O.0.1 ∙ O.0.0 p (take d (drop 3 s)) in
    let tested : f.tested P ≡ f.tested q = kept-spelt f.tested fs q (drop (3 + d) s) O.1 in
    let also : f.also P ≡ f.also q = kept-spelt f.also fs q (drop (3 + d) s) O.2 in
    skip _ (refused (only 5)) (ne_eqb (length s) 0 (omega arith))
    (skip _ (refused (only 1)) (le-ltb (length s) 3 (omega arith))
    (skip _ (refused (only 2)) (ap not (is_true tag (and_l tag (long && rest) t₂)))
    (skip _ (refused (only 3)) (ap not (is_true long (and_l long rest t₃)))
    (skip _ (refused (only 1)) (le-ltb (length s) (3 + d) room)
    (ap (unless (fault_of f at q)) (table-refused fs (at + 3 + d) q (drop (3 + d) s) O.4 (and_r long rest t₃))
    ∙ unless-or (fault_of f at q) (fault_from fs (at + 3 + d) P) (record { number = 0; place = 0; profile = P })
    ∙ rw (due, tested, also))))))

-- ---- what is written of any value has right headers, and spells the value

kept-filled : {A : Type 0} (h : Profile → A) (fs : List Field) (p P : Profile) → Keeps h fs → h (filled fs p P) ≡ h p
kept-filled h [] p P k = refl
kept-filled h (f ∷ fs) p P k = kept-filled h fs (f.with p (f.bytes P)) P k.1 ∙ k.0 p (f.bytes P)

pub table-spelt : (fs : List Field) (p P : Profile) → Laws fs → Ordered fs → Shape P → filled fs p P ≡ P
    → T (headed fs p (field_bytes fs P)) × (spelt fs p (field_bytes fs P) ≡ P)
table-spelt [] p P end O S e = (tt, e)
table-spelt (f ∷ fs) p P (more law L) O S e =
    let v = f.bytes P in
    let rest = field_bytes fs P in
    let d : f.due P ≡ f.due p = ap f.due (sym e) ∙ kept-filled f.due fs (f.with p v) P O.0.1 ∙ O.0.0 p v in
    let m : length v ≡ f.due p = law.measured P S ∙ d in
    let long = length-append v rest in
    let room : suc (suc (suc (f.due p))) ≤ suc (suc (suc (length (v ++ rest)))) = omega arith in
    let w = table-spelt fs (f.with p v) P L O.4 S e in
    rw (three (f.due p), take_at v rest (f.due p) m, drop_at v rest (f.due p) m) (
      and_i (leb (suc (suc (suc (f.due p)))) (suc (suc (suc (length (v ++ rest)))))) _ (le→leb _ _ room)
          (and_i (eqb f.tag f.tag) _ (eq→eqb {a = f.tag} refl)
          (and_i (eqb (f.due P / 256 * 256 + f.due P % 256) (f.due p)) _ (eq→eqb (div-add-mod' (f.due P) 256 ∙ d)) w.0)),
      w.1,
    )
