-- Storing the fields one after another gives the written bytes.
use mathlib.Core.Path.{◌≡◌, refl, ◌∙◌, ap, subst}
use mathlib.Core.List.{List, [], ◌∷◌, ◌++◌}
use Prim.Native.Nat.{ℕ, zero, suc, ◌+◌, ◌*◌, ◌/◌, ◌%◌, ◌<◌, ◌≤◌}
use native.Mathlib.Omega.{arith}
use lib.ListN.{length, take, drop, replicate, length-append}
use lib.Seq.{length-take-le, sets}
use Rattle.rules.specs.Profile.{Field, fault, fields, field_bytes, faultless, largest, written, writing}
use borrow.Author.Tests.{eq-eqb, ne_eqb}
use Rattle.rules.specs.Modes.{slots}
use Rattle.rules.specs.Answers.{Answer}
use Rattle.rules.specs.declared.Profile.{Profile}
use Rattle.profile.specs.Fields.{field, many}
use Rattle.rules.specs.Profile.{Shape}
use Rattle.profile.proofs.Words.{bytes-length}
use Rattle.profile.proofs.Entries.{slots_most}
use Rattle.laws.specs.Run.{Run, run_start, run_more, sets_front}
use Rattle.profile.proofs.Walk.{fields_at, tag_at}
use Rattle.profile.proofs.Values.{put-sets}
use Rattle.laws.specs.Parts.{put_part}
use Rattle.std.proofs.Math.Seq.{length-sets}

-- ---- lengths

-- a field's value is as long as its header says
bytes-due : (i : ℕ) (p : Profile) → Shape p → i < many → length ((field i).bytes p) ≡ (field i).due p
unfolding field
bytes-due zero p z h = bytes-length p.masks ∙ rw z.masks
bytes-due (suc zero) p z h = refl
bytes-due (suc (suc zero)) p z h = refl
bytes-due (suc (suc (suc zero))) p z h = refl
bytes-due (suc (suc (suc (suc zero)))) p z h =
    bytes-length (take (slots p.mode) p.seeds)
    ∙ ap (λ (n : ℕ). 4 * n) (length-take-le (slots p.mode) p.seeds (omega (arith, slots_most p.mode, z.seeds)))
bytes-due (suc (suc (suc (suc (suc zero))))) p z h = refl
bytes-due (suc (suc (suc (suc (suc (suc i)))))) p z h = absurd (omega arith)

pub written-most : (p : Profile) → Shape p → length (written p) ≤ largest
unfolding written field
written-most p z = simp length-append (omega (arith, bytes-due 0 p z (omega arith), bytes-due 4 p z (omega arith), slots_most p.mode))

-- ---- storing, turn by turn

pub record Storing (s₀ : List ℕ) (p : Profile) (s : List ℕ) (at i : ℕ) : Type 0 where
  pub within : i ≤ many
  pub run : Run s₀ 0 (written p) s at (field_bytes (drop i fields) p)

pub store-start : {s₀ : List ℕ} {p : Profile} → Storing s₀ p s₀ 0 0
unfolding written
store-start {s₀} {p} = record { within = omega arith; run = run_start s₀ 0 (written p) }

module _ {s₀ : List ℕ} {p : Profile} {s : List ℕ} {at i : ℕ} (h : Storing s₀ p s at i) where
  module _ (z : Shape p) (lt : i < many) {due : ℕ} (d : due ≡ (field i).due p) where
    abbrev head : List ℕ
    head = (i + 1) ∷ due / 256 ∷ due % 256 ∷ []

    next : field_bytes (drop i fields) p ≡ head ++ ((field i).bytes p ++ field_bytes (drop (i + 1) fields) p)
    next = ap (λ (fs : List Field). field_bytes fs p) (fields_at i lt) ∙ rw (tag_at i lt, d)

    pub store-room : length (written p) ≤ length s₀ → at + 3 + due ≤ length s
    store-room r =
        omega (
          arith,
          h.run.size,
          h.run.long,
          ap length next,
          length-append ((field i).bytes p) (field_bytes (drop (i + 1) fields) p),
          bytes-due i p z lt,
          d,
        )

    pub store-more : {y₁ y₂ : List ℕ} → length (written p) ≤ length s₀ → y₁ ≡ head → y₂ ≡ (field i).bytes p
        → Storing s₀ p (put_part (at + 3) (at + 3 + due) (put_part at (at + 3) s y₁) y₂) (at + 3 + due) (i + 1)
    store-more {y₁} {y₂} r e₁ e₂ =
        let first : put_part at (at + 3) s y₁ ≡ sets s at head = put-sets at (at + 3) s head e₁ refl (omega (arith, store-room r)) in
        record {
          within = omega arith;
          run =
              run_more ((field i).bytes p) (run_more head h.run next first refl) refl
              (put-sets (at + 3) (at + 3 + due) (put_part at (at + 3) s y₁) ((field i).bytes p) e₂ (omega (arith, bytes-due i p z lt, d))
              (omega (arith, store-room r, ap length first, length-sets s at head)))
              (omega (arith, bytes-due i p z lt, d));
        }

-- ---- the answer

pub writing-done : (p : Profile) → Shape p → (bytes : List ℕ) (count : ℕ) → (fault p).number ≡ 0
    → count ≡ length (written p) → bytes ≡ sets (replicate largest 0) 0 (written p)
    → record { number = 0; place = 0; bytes = bytes; count = count } ≡ writing p
unfolding faultless
writing-done p z bytes count g c e = rw (e ∙ sets_front 0 largest (written p) (written-most p z), c, eq-eqb (fault p).number 0 g) refl

pub writing-not : (p : Profile) {a : Answer} → a ≡ fault p → (a.number ≡ 0 → ⊥)
    → record { number = a.number; place = a.place; bytes = replicate largest 0; count = 0 } ≡ writing p
unfolding faultless
writing-not p e ne = rw (e, ne_eqb (fault p).number 0 (subst (λ (b : Answer). b.number ≡ 0 → ⊥) e ne)) refl
