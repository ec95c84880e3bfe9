-- The six entries of the table of fields obey the laws of a field, and a profile that is filled with the fields of P is P.
use mathlib.Core.Path.{◌≡◌, refl, sym, ap, ap₂, ◌∙◌}
use mathlib.Core.Bool.{Bool, true, false, not, ◌&&◌, ◌||◌}
use mathlib.Core.List.{List, [], ◌∷◌, ◌++◌}
use Prim.Native.Nat.{ℕ, ◌+◌, ◌-◌, ◌*◌, ◌^◌, ◌<◌, ◌≤◌}
use native.Mathlib.Omega.{arith}
use mathlib.Core.Logic.{◌⊎◌, inl, inr, ⊎_elim}
use mir.Facts.{or_yes}
use lib.Dec.{T, eqb, ltb, ltb→lt, eqb→eq, lit<}
use native.Mathlib.Decide.{dec_lt}
use lib.Ieee.{Float, nan, inf, fin, binary32, fits, of_bits, to_bits, is_nan, add, lt, eq, le}
use lib.Ieee.Bits.{of_bits-to_bits, to_bits-lt, to_bits-of_bits}
use lib.Ieee.Fits.{and_l, and_r}
use lib.ListN.{length, take, drop, replicate, take-append-drop, length-drop, length-replicate, get_or-replicate, get_or-eq_default}
use lib.Seq.{length-take-le, take_at, get_or-take, get_or-drop, ext_get_or}
use Rattle.rules.specs.Bits.{pick, row}
use Rattle.rules.specs.Outer.{is_k}
use Rattle.rules.specs.Modes.{is_mode, slots}
use Rattle.modes.proofs.Figures.{figures}
use Rattle.rules.specs.Answers.{names_field}
use Rattle.rules.specs.Profile.{number, words, all_bytes, word_bytes, each, in20, is_level, is_floor, floor_under, sends, level_in_mode, only, fields, blank}
use Rattle.rules.specs.Answers.{Answer}
use Rattle.rules.specs.declared.Profile.{Profile}
use Rattle.rules.specs.Profile.{Shape, Whole}
use Rattle.profile.proofs.Tests.{all_good, good-apart}
use Rattle.profile.proofs.Words.{Bytes, all-bytes, bytes-length, word_read, word-written, words-length, words-read, good-low, words-written, zeros}
use Rattle.profile.proofs.Table.{Laws, end, ◌&◌, Ordered, Good, filled}

-- ---- what the ranges give

in20-low : (x : ℕ) → T (in20 x) → x < 2 ^ 32
in20-low x t = omega (arith, ltb→lt x (2 ^ 20) (and_r (ltb 0 x) (ltb x (2 ^ 20)) t))

k-low : (k : ℕ) → T (is_k k) → k < 256
k-low k t =
    ⊎_elim (λ u. ⊎_elim (λ v. omega (arith, eqb→eq)) (λ v. omega (arith, eqb→eq)) (or_yes (eqb k 8) (eqb k 12) u))
    (λ u. omega (arith, eqb→eq)) (or_yes (eqb k 8 || eqb k 12) (eqb k 14) t)

-- ---- one byte

byte-read : (x : ℕ) → number (x ∷ []) ≡ x
byte-read x = omega arith

byte-written : (s : List ℕ) → length s ≡ 1 → number s ∷ [] ≡ s
byte-written [] e = absurd (omega arith)
byte-written (x ∷ []) e = ap (λ (y : ℕ). y ∷ []) (byte-read x)
byte-written (x ∷ y ∷ s) e = absurd (omega arith)

-- ---- the level and the floor

level-not-nan : (a : Float) → T (is_level a) → T (not (is_nan a))
unfolding is_nan le lt eq
level-not-nan nan t = and_r (le (of_bits binary32 0x0080_0000) nan) false t
level-not-nan (inf s) t = tt
level-not-nan (fin s m e) t = tt

floor-not-nan : (level a : Float) → T (floor_under level a) → T (not (is_nan a))
unfolding is_nan add le lt eq
floor-not-nan level nan t = and_r (is_floor nan) false t
floor-not-nan level (inf s) t = tt
floor-not-nan level (fin s m e) t = tt

part-read : (a : Float) → T (fits binary32 a) → of_bits binary32 (number (word_bytes (to_bits binary32 a))) ≡ a
part-read a h = ap (of_bits binary32) (word_read (to_bits binary32 a) (to_bits-lt binary32 a h)) ∙ of_bits-to_bits binary32 a h

part-written : (s : List ℕ)
    → length s ≡ 4
    → Bytes s
    → T (not (is_nan (of_bits binary32 (number s))))
    → word_bytes (to_bits binary32 (of_bits binary32 (number s))) ≡ s
part-written s e b n =
    let w = word-written s e b in
    ap word_bytes (to_bits-of_bits binary32 (number s) w.0 n) ∙ w.1

-- ---- the seeds

pub slots_most : (m : ℕ) → slots m ≤ 48
slots_most m = (figures m).slots_most

seeds-length : (m : ℕ) (l : List ℕ) → length l ≡ 48 → length (all_bytes (take (slots m) l)) ≡ 4 * slots m
seeds-length m l e =
    bytes-length (take (slots m) l)
    ∙ ap (λ (n : ℕ). 4 * n) (length-take-le (slots m) l (omega (arith, slots_most m)))

seeds-read : (m : ℕ) (l : List ℕ)
    → length l ≡ 48
    → ((i : ℕ) → row l i < 2 ^ 32)
    → ((i : ℕ) → slots m ≤ i → row l i ≡ 0)
    → words (slots m) (all_bytes (take (slots m) l)) ++ replicate (48 - slots m) 0 ≡ l
seeds-read m l e low unused =
    let n = slots m in
    let most = slots_most m in
    let rest : length (drop n l) ≡ 48 - n = length-drop n l ∙ omega arith in
    ap₂ ◌++◌ (words-read n (take n l) (length-take-le n l (omega arith)) (λ i. first i (dec_lt i n)))
    (sym (ext_get_or 0 (drop n l) (replicate (48 - n) 0) (rest ∙ sym (length-replicate {A = ℕ} (48 - n) 0))
    (λ i h. get_or-drop n l i 0 ∙ unused (n + i) (omega arith) ∙ sym (get_or-replicate (48 - n) i 0 0 (omega arith)))))
    ∙ take-append-drop n l
  where
    first : (i : ℕ) → Dec (i < slots m) → row (take (slots m) l) i < 2 ^ 32
    first i (yes h) = rw (get_or-take (slots m) l i 0 h) (low i)
    first i (no h) = rw (get_or-eq_default (take (slots m) l) 0 {n = i} (omega (arith, length-take-le (slots m) l (omega (arith, slots_most m))))) (lit< tt)

seeds-written : (n : ℕ) (s : List ℕ) → length s ≡ 4 * n → Bytes s → all_bytes (take n (words n s ++ replicate (48 - n) 0)) ≡ s
seeds-written n s e b =
    ap all_bytes (take_at (words n s) (replicate (48 - n) 0) n (words-length n s)) ∙ words-written n s e b

-- ---- one number under a test, and whatever else is asked; and a mode that can't send the level

pub single : (b c : Bool) → T ((b && true) && c) → T b
single b c t = and_l b true (and_l (b && true) c t)

level-named : (P : Profile) → ((level_in_mode P).number ≡ 0) ⊎ T (names_field (level_in_mode P).number)
level-named P = go (sends P.mode P.level)
  where
    go : (b : Bool)
        → (let a : Answer = pick b (only 0) (record { number = 41; place = 38 }) in (a.number ≡ 0) ⊎ T (names_field a.number))
    go true = inl refl
    go false = inr tt

-- ---- the entries, in the table's order

pub laws : Laws fields
laws =
    record {
      tagged = omega arith;
      named = tt;
      also_named = λ P. inl refl;
      short = λ P. omega arith;
      measured = λ P S. omega (arith, bytes-length P.masks, S.masks);
      each = λ P g. all-bytes P.masks;
      back = λ p s e b g. words-written 8 s e b;
    }
    & record {
      tagged = omega arith;
      named = tt;
      also_named = λ P. inl refl;
      short = λ P. omega arith;
      measured = λ P S. refl;
      each = λ P g. all-bytes (to_bits binary32 P.level ∷ []);
      back = λ p s e b g.
          let a = of_bits binary32 (number s) in
          part-written s e b (level-not-nan a (single (is_level a) true g));
    }
    & record {
      tagged = omega arith;
      named = tt;
      also_named = level-named;
      short = λ P. omega arith;
      measured = λ P S. refl;
      each = λ P g. (omega (arith, ltb→lt P.mode 5 (single (is_mode P.mode) (eqb (level_in_mode P).number 0) g)), tt);
      back = λ p s e b g. byte-written s e;
    }
    & record {
      tagged = omega arith;
      named = tt;
      also_named = λ P. inl refl;
      short = λ P. omega arith;
      measured = λ P S. refl;
      each = λ P g. (k-low P.k (single (is_k P.k) true g), tt);
      back = λ p s e b g. byte-written s e;
    }
    & record {
      tagged = omega arith;
      named = tt;
      also_named = λ P. inl refl;
      short = λ P. omega (arith, slots_most P.mode);
      measured = λ P S. seeds-length P.mode P.seeds S.seeds;
      each = λ P g. all-bytes (take (slots P.mode) P.seeds);
      back = λ p s e b g. seeds-written (slots p.mode) s e b;
    }
    & record {
      tagged = omega arith;
      named = tt;
      also_named = λ P. inl refl;
      short = λ P. omega arith;
      measured = λ P S. refl;
      each = λ P g. all-bytes (to_bits binary32 P.floor ∷ []);
      back = λ p s e b g.
          let a = of_bits binary32 (number s) in
          part-written s e b (floor-not-nan p.level a (single (floor_under p.level a) true g));
    }
    & end

pub ordered : Ordered fields
ordered = (search, search, search, search, (search, search, search, search, search))

-- what is filled from a value's bytes is the value
pub whole : (P : Profile) → Shape P → Whole P → filled fields blank P ≡ P
whole P S w =
    let seeds =
    ap (λ (m : ℕ). words (slots m) (all_bytes (take (slots P.mode) P.seeds)) ++ replicate (48 - slots m) 0) (byte-read P.mode)
    ∙ seeds-read P.mode P.seeds S.seeds w.seeds w.unused in
    λ i. record {
      masks = words-read 8 P.masks S.masks w.masks i;
      level = part-read P.level S.level i;
      mode = byte-read P.mode i;
      k = byte-read P.k i;
      seeds = seeds i;
      floor = part-read P.floor S.floor i;
    }

-- a value all of whose fields are good is whole
pub good-whole : (P : Profile) → Good fields P → Whole P
good-whole P g =
    let n = slots P.mode in
    let l = P.seeds in
    let used = each 4 in20 (take n l) in
    let unused = each 4 (eqb 0) (drop n l) in
    let both = good-apart used unused (and_l (all_good (used ++ unused)) true g.1.1.1.1.0) in
    let rest : (i : ℕ) → n ≤ i → row l i ≡ 0 = λ i h.
    ap (row l) (sym (back n i h)) ∙ sym (get_or-drop n l (i - n) 0) ∙ zeros (drop n l) both.1 (i - n) in
    record {
      masks = good-low in20 in20-low P.masks (and_l (all_good (each 4 in20 P.masks)) true g.0);
      seeds = λ i. each-low n l (good-low in20 in20-low (take n l) both.0) rest i (dec_lt i n);
      unused = rest;
    }
  where
    back : (n i : ℕ) → n ≤ i → n + (i - n) ≡ i
    back n i h = omega arith

    each-low : (n : ℕ) (l : List ℕ) → ((i : ℕ) → row (take n l) i < 2 ^ 32) → ((i : ℕ) → n ≤ i → row l i ≡ 0) → (i : ℕ) → Dec (i < n) → row l i < 2 ^ 32
    each-low n l low rest i (yes h) = rw (get_or-take n l i 0 h) at (low i)
    each-low n l low rest i (no h) = rw (rest i (omega arith)) (lit< tt)
