-- Numbers of one byte and of four, in a list of bytes; such numbers read and stored turn by turn.
use mathlib.Core.Path.{◌≡◌, sym, ◌∙◌, ap, refl}
use mathlib.Core.List.{List, [], ◌∷◌, ◌++◌}
use Prim.Native.Nat.{ℕ, suc, ◌+◌, ◌-◌, ◌*◌, ◌≤◌, ◌<◌}
use native.Mathlib.Numerals.{add-one, add-two, add-three, add-four}
use native.Mathlib.Omega.{arith}
use lib.ListN.{length, take, drop}
use lib.Seq.{drop-cons, drop-drop, take_all, sets}
use Rattle.std.proofs.lemmas.List.Edits.{sets-eq}
use Rattle.std.proofs.Common.{append_assoc, drop_of_length-le}
use Rattle.laws.specs.Parts.{put_part}
use Rattle.rules.specs.Bits.{row}
use Rattle.rules.specs.Profile.{number, all_bytes, word_bytes}
use Rattle.laws.specs.Run.{Run, run_start, run_more, run_done, sets_all}
use Rattle.profile.proofs.Words.{bytes-length}

-- ---- one number

four : (s : List ℕ) (at : ℕ) → at + 4 ≤ length s
    → drop at s ≡ row s at ∷ row s (at + 1) ∷ row s (at + 2) ∷ row s (at + 3) ∷ drop (at + 4) s
four s at h =
    rw (add-one, add-two, add-three, add-four)
    (drop-cons s at 0 (omega arith)
    ∙ rw (drop-cons s (suc at) 0 (omega arith), drop-cons s (suc (suc at)) 0 (omega arith), drop-cons s (suc (suc (suc at))) 0 (omega arith)))

pub number_at : (s : List ℕ) (at : ℕ) → at + 4 ≤ length s
    → number (take 4 (drop at s)) ≡ ((row s at * 256 + row s (at + 1)) * 256 + row s (at + 2)) * 256 + row s (at + 3)
number_at s at h = rw (four s at h) (omega arith)

pub number-four : (s : List ℕ) → length s ≡ 4 → number s ≡ ((row s 0 * 256 + row s 1) * 256 + row s 2) * 256 + row s 3
number-four s e = sym (ap number (take_all 4 s (omega arith))) ∙ number_at s 0 (omega arith)

pub number-one : (s : List ℕ) → length s ≡ 1 → number s ≡ row s 0
number-one [] e = absurd (omega arith)
number-one (x ∷ []) e = omega arith
number-one (x ∷ y ∷ s) e = absurd (omega arith)

-- ---- values that are copied in

pub put-sets : {A : Type 0} (a e : ℕ) (s : List A) {ys : List A} (vs : List A) → ys ≡ vs → e ≡ a + length vs → e ≤ length s
    → put_part a e s ys ≡ sets s a vs
put-sets {A} a e s {ys} vs f q le =
    let d : a + (e - a) ≡ a + length vs = omega arith in
    let parts : sets s a vs ≡ take a s ++ (vs ++ drop (a + length vs) s) = sets-eq vs s a (omega arith) ∙ append_assoc (take a s) vs (drop (a + length vs) s) in
    ap (λ (l : List A). take a s ++ (l ++ drop (e - a) (drop a s))) f
    ∙ ap (λ (l : List A). take a s ++ (vs ++ l)) (drop-drop (e - a) a s ∙ ap (λ (n : ℕ). drop n s) d) ∙ sym parts

-- ---- the bytes of the numbers in l, stored

pub record Putting (s₀ l s : List ℕ) (i : ℕ) : Type 0 where
  pub within : i ≤ length l
  pub run : Run s₀ 0 (all_bytes l) s (4 * i) (all_bytes (drop i l))

pub putting-start : {s₀ l : List ℕ} → Putting s₀ l s₀ 0
putting-start {s₀} {l} = record { within = omega arith; run = run_start s₀ 0 (all_bytes l) }

pub putting-more : {s₀ l s y : List ℕ} {i : ℕ} → Putting s₀ l s i → i < length l → y ≡ word_bytes (row l i) → 4 * i + 4 ≤ length s
    → Putting s₀ l (put_part (4 * i) (4 * i + 4) s y) (i + 1)
putting-more {s₀} {l} {s} {y} {i} h lt e le =
    let next : all_bytes (drop i l) ≡ word_bytes (row l i) ++ all_bytes (drop (i + 1) l) = rw add-one (ap all_bytes (drop-cons l i 0 lt)) in
    record {
      within = omega arith;
      run = run_more (word_bytes (row l i)) h.run next (put-sets (4 * i) (4 * i + 4) s (word_bytes (row l i)) e refl le) (omega arith);
    }

pub putting-done : {s₀ l s : List ℕ} {i : ℕ} → Putting s₀ l s i → length l ≤ i → length s₀ ≡ 4 * length l → s ≡ all_bytes l
putting-done {s₀} {l} {s} {i} h le e =
    run_done h.run (ap all_bytes (drop_of_length-le l {i = i} le)) ∙ sets_all s₀ (all_bytes l) (e ∙ sym (bytes-length l))
