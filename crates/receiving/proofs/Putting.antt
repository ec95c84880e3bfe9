-- A piece's bytes in a list, and put into a state: what stands at each place.
use mathlib.Core.Path.{◌≡◌, refl, sym, ◌∙◌, ap, subst}
use mathlib.Core.Bool.{Bool}
use mathlib.Core.List.{List, [], ◌∷◌, ◌++◌}
use Prim.Native.Nat.{ℕ, zero, suc, ◌+◌, ◌-◌, ◌/◌, ◌%◌, ◌<◌, ◌≤◌}
use native.Mathlib.Decide.{dec_lt}
use native.Mathlib.Omega.{arith}
use lib.Ieee.{Float}
use lib.Dec.{lit<}
use lib.ListN.{length, take, drop, replicate, length-append, length-replicate, get_or-append}
use lib.Seq.{length-take-le, get_or-take}
use Rattle.std.specs.Int.{w16, to_be_bytes}
use Rattle.std.proofs.lemmas.Nat.{be_bytes_2}
use Rattle.std.proofs.Common.{get_or-append-add, get_or-drop}
use borrow.Author.Tests.{eq-eqb}
use Rattle.rules.specs.Bits.{row}
use Rattle.rules.specs.Pieces.{seen, cell_in, byte_at, fed_cell, Put}
use Rattle.rules.specs.declared.Profile.{Profile}
use Rattle.laws.specs.Holds.{Holds}
use Rattle.laws.specs.Parts.{put_part, put-long, put-before, put_in, put-after}
use Rattle.deciding.specs.Deciding.{DecideRule}
use Rattle.receiving.proofs.Fed.{fed-before, fed-in, fed-after}

-- what deciding leaves in a list that is as long as the piece's two
pub piece_bytes : (P : Profile) (f s : List Float) (before y : List ℕ) (r : Bool)
    → length f ≡ length before
    → length s ≡ length before
    → DecideRule P.mode P.level P.floor f s before y r
    → Holds 0 (length f) (byte_at P f s) y
piece_bytes P f s before y r lf ls d =
    subst (λ (k : ℕ). Holds 0 k (byte_at P f s) y) (sym lf) (d.done (d.answer ∙ rw (eq-eqb _ _ lf, eq-eqb _ _ ls)))

-- the first part of an array of zeros, and of an array whose first part was lent and came back
pub zeros-long : (n m : ℕ) → m ≤ n → length {A = ℕ} (take m (replicate n 0)) ≡ m
zeros-long n m h = length-take-le {A = ℕ} m (replicate n 0) (omega (arith, length-replicate {A = ℕ} n 0))

module _ (n : ℕ) (y rest : List ℕ) (long : length y ≡ n) where
  pub whole_long : length (y ++ rest) ≡ n + length rest
  whole_long = length-append y rest ∙ omega arith

  pub front_long : length (take n (y ++ rest)) ≡ n
  front_long = length-take-le n (y ++ rest) (omega (arith, whole_long))

  pub front_at : (c : ℕ) → c < n → row (take n (y ++ rest)) c ≡ row y c
  front_at c h = get_or-take n (y ++ rest) c 0 h ∙ get_or-append y rest 0 c (omega arith)

-- a count in two bytes, high byte first
spelled : (n : ℕ) → n < 65536 → to_be_bytes w16 n ≡ n / 256 ∷ n % 256 ∷ []
spelled n lt = be_bytes_2 (n / 256 ∷ n % 256 ∷ []) n refl each (omega arith)
  where
    each : (i : ℕ) → row (n / 256 ∷ n % 256 ∷ []) i < 256
    each zero = omega arith
    each (suc zero) = omega arith
    each (suc (suc i)) = lit< tt

-- n cells have come, and the bytes y of a piece's cells are put after them
module _ (P : Profile) (f s : List Float) (state y : List ℕ) (n end : ℕ) (long : length state ≡ 28674) (count : n ≡ seen state)
    (ends : end ≡ n + length f) (room : 2 + end ≤ 28674) (bytes : Holds 0 (length f) (byte_at P f s) y) where
  middle : List ℕ
  middle = put_part (2 + n) (2 + end) state y

  y-long : length y ≡ 2 + end - (2 + n)
  y-long = bytes.long ∙ omega arith

  middle-long : length middle ≡ 28674
  unfolding middle
  middle-long = put-long (2 + n) (2 + end) state (omega arith) (omega arith) y y-long ∙ long

  -- the bytes that count the cells stand in front, and do not touch the cells
  after-cell : (front : List ℕ) → length front ≡ 2 → (c : ℕ) → cell_in (front ++ drop 2 middle) c ≡ cell_in middle c
  after-cell front two c =
      ap (λ (k : ℕ). row (front ++ drop 2 middle) (k + c)) (sym two)
      ∙ get_or-append-add front (drop 2 middle) c 0 ∙ get_or-drop 2 middle c 0

  middle-cell : (c : ℕ) → 2 + c < 28674 → cell_in middle c ≡ fed_cell P (seen state) f s (cell_in state) c
  unfolding middle
  middle-cell c h = go (dec_lt c n) (dec_lt c end)
    where
      go : Dec (c < n) → Dec (c < end) → cell_in (put_part (2 + n) (2 + end) state y) c ≡ fed_cell P (seen state) f s (cell_in state) c
      go (yes l) r =
          put-before (2 + n) (2 + end) state (omega arith) (omega arith) y y-long (2 + c) 0 (omega arith)
          ∙ sym (fed-before P (seen state) f s (cell_in state) c (omega arith))
      go (no l) (yes r) =
          let at : 2 + c ≡ 2 + n + (c - seen state) = omega arith in
          ap (row (put_part (2 + n) (2 + end) state y)) at
          ∙ put_in (2 + n) (2 + end) state (omega arith) (omega arith) y y-long (c - seen state) 0 (omega arith)
          ∙ bytes.each (c - seen state) (omega arith)
          ∙ sym (fed-in P (seen state) f s (cell_in state) c (omega arith) (omega arith))
      go (no l) (no r) =
          let at : 2 + c ≡ 2 + end + (c - end) = omega arith in
          ap (row (put_part (2 + n) (2 + end) state y)) at
          ∙ put-after (2 + n) (2 + end) state (omega arith) (omega arith) y y-long (c - end) 0
          ∙ ap (row state) (sym at)
          ∙ sym (fed-after P (seen state) f s (cell_in state) c (omega arith) (omega arith))

  pub put-done : (front : List ℕ) → front ≡ to_be_bytes w16 end → Put P f s state (front ++ drop 2 (put_part (2 + n) (2 + end) state y))
  unfolding middle
  put-done front e =
      let is : front ≡ end / 256 ∷ end % 256 ∷ [] = e ∙ spelled end (omega arith) in
      let two : length front ≡ 2 = ap length is in
      record {
        high =
            get_or-append front (drop 2 middle) 0 0 (omega arith) ∙ ap (λ (l : List ℕ). row l 0) is ∙ ap (λ (k : ℕ). k / 256) whole;
        low =
            get_or-append front (drop 2 middle) 0 1 (omega arith) ∙ ap (λ (l : List ℕ). row l 1) is ∙ ap (λ (k : ℕ). k % 256) whole;
        cells = λ c lt. after-cell front two c ∙ middle-cell c lt;
      }
    where
      whole : end ≡ seen state + length f
      whole = omega arith
