-- Lists of bytes, and numbers of four bytes: what is written of some numbers reads as them, and the other way round.
use mathlib.Core.Path.{◌≡◌, refl, sym, ap, ap₂, ◌∙◌, subst}
use mathlib.Core.Bool.{Bool}
use mathlib.Core.List.{List, [], ◌∷◌, ◌++◌}
use Prim.Native.Nat.{ℕ, zero, suc, ◌+◌, ◌*◌, ◌/◌, ◌%◌, ◌^◌, ◌<◌}
use native.Mathlib.Omega.{arith}
use lib.Dec.{T, eqb, eqb→eq}
use lib.Ieee.Fits.{and_l, and_r}
use lib.ListN.{length, take, drop, take-append-drop, length-drop}
use lib.Pow.{shr-shr}
use lib.Seq.{length-take-le}
use Rattle.rules.specs.Bits.{row}
use Rattle.rules.specs.Profile.{number, words, word_bytes, all_bytes, each}
use Rattle.profile.proofs.Tests.{all_good}

-- ---- bytes

abbrev pub Bytes : List ℕ → Type 0
Bytes [] = Unit {0}
Bytes (x ∷ s) = (x < 256) × Bytes s

pub bytes_of : (s : List ℕ) → ((i : ℕ) → row s i < 256) → Bytes s
bytes_of [] b = tt
bytes_of (x ∷ s) b = (b 0, bytes_of s (λ i. b (suc i)))

pub bytes-at : (s : List ℕ) → Bytes s → (i : ℕ) → row s i < 256
bytes-at [] b i = omega arith
bytes-at (x ∷ s) b zero = b.0
bytes-at (x ∷ s) b (suc i) = bytes-at s b.1 i

pub bytes-both : (v s : List ℕ) → Bytes v → Bytes s → Bytes (v ++ s)
bytes-both [] s a b = b
bytes-both (x ∷ v) s a b = (a.0, bytes-both v s a.1 b)

pub bytes_apart : (v s : List ℕ) → Bytes (v ++ s) → Bytes v × Bytes s
bytes_apart [] s b = (tt, b)
bytes_apart (x ∷ v) s b = let r = bytes_apart v s b.1 in ((b.0, r.0), r.1)

-- ---- one number of four bytes

pub word_read : (x : ℕ) → x < 2 ^ 32 → number (word_bytes x) ≡ x
word_read x h =
    let e₁ : x / 2 ^ 16 * 256 + x / 2 ^ 8 % 256 ≡ x / 2 ^ 8 = omega (arith, shr-shr x 8 8) in
    let e₂ : x / 2 ^ 24 * 256 + x / 2 ^ 16 % 256 ≡ x / 2 ^ 16 = omega (arith, shr-shr x 16 8) in
    let e₃ : x / 2 ^ 24 % 256 ≡ x / 2 ^ 24 = omega arith in
    omega arith

pub word-written : (s : List ℕ) → length s ≡ 4 → Bytes s → (number s < 2 ^ 32) × (word_bytes (number s) ≡ s)
word-written [] e b = absurd (omega arith)
word-written (x ∷ []) e b = absurd (omega arith)
word-written (x ∷ y ∷ []) e b = absurd (omega arith)
word-written (x ∷ y ∷ z ∷ []) e b = absurd (omega arith)
word-written (x ∷ y ∷ z ∷ w ∷ []) e b =
    let e₀ : number (x ∷ y ∷ z ∷ w ∷ []) / 2 ^ 24 % 256 ≡ x = omega arith in
    let e₁ : number (x ∷ y ∷ z ∷ w ∷ []) / 2 ^ 16 % 256 ≡ y = omega arith in
    let e₂ : number (x ∷ y ∷ z ∷ w ∷ []) / 2 ^ 8 % 256 ≡ z = omega arith in
    let e₃ : number (x ∷ y ∷ z ∷ w ∷ []) % 256 ≡ w = omega arith in
    (omega arith, λ i. e₀ i ∷ e₁ i ∷ e₂ i ∷ e₃ i ∷ [])
word-written (x ∷ y ∷ z ∷ w ∷ u ∷ s) e b = absurd (omega arith)

-- ---- many of them

pub words-length : (n : ℕ) (s : List ℕ) → length (words n s) ≡ n
words-length zero s = refl
words-length (suc n) s = ap suc (words-length n (drop 4 s))

pub bytes-length : (xs : List ℕ) → length (all_bytes xs) ≡ 4 * length xs
bytes-length [] = refl
bytes-length (x ∷ xs) = omega (arith, bytes-length xs)

pub all-bytes : (xs : List ℕ) → Bytes (all_bytes xs)
all-bytes [] = tt
all-bytes (x ∷ xs) = bytes-both (word_bytes x) (all_bytes xs) (omega arith) (all-bytes xs)

-- numbers below 2^32
pub words-read : (n : ℕ) (xs : List ℕ) → length xs ≡ n → ((i : ℕ) → row xs i < 2 ^ 32) → words n (all_bytes xs) ≡ xs
words-read zero [] e low = refl
words-read zero (x ∷ xs) e low = absurd (omega arith)
words-read (suc n) [] e low = absurd (omega arith)
words-read (suc n) (x ∷ xs) e low = ap₂ ◌∷◌ (word_read x (low 0)) (words-read n xs (omega arith) (λ i. low (suc i)))

-- numbers that pass a test are below 2^32 where each that passes is
pub good-low : (good : ℕ → Bool) → ((x : ℕ) → T (good x) → x < 2 ^ 32) → (xs : List ℕ) → T (all_good (each 4 good xs)) → (i : ℕ) → row xs i < 2 ^ 32
good-low good low [] g i = omega arith
good-low good low (x ∷ xs) g zero = low x (and_l (good x) (all_good (each 4 good xs)) g)
good-low good low (x ∷ xs) g (suc i) = good-low good low xs (and_r (good x) (all_good (each 4 good xs)) g) i

pub words-written : (n : ℕ) (s : List ℕ) → length s ≡ 4 * n → Bytes s → all_bytes (words n s) ≡ s
words-written zero [] e b = refl
words-written zero (x ∷ s) e b = absurd (omega arith)
words-written (suc n) s e b =
    let b' : Bytes (take 4 s) × Bytes (drop 4 s) =
    bytes_apart (take 4 s) (drop 4 s) (subst Bytes (sym (take-append-drop 4 s)) b) in
    ap₂ ◌++◌ (word-written (take 4 s) (length-take-le 4 s (omega arith)) b'.0).1
    (words-written n (drop 4 s) (length-drop 4 s ∙ omega arith) b'.1)
    ∙ take-append-drop 4 s

-- ---- zeros

pub zeros : (s : List ℕ) → T (all_good (each 4 (eqb 0) s)) → (i : ℕ) → row s i ≡ 0
zeros [] z i = refl
zeros (x ∷ s) z zero = sym (eqb→eq 0 x (and_l (eqb 0 x) (all_good (each 4 (eqb 0) s)) z))
zeros (x ∷ s) z (suc i) = zeros s (and_r (eqb 0 x) (all_good (each 4 (eqb 0) s)) z) i
