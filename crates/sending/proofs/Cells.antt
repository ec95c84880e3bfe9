-- From the sent bits to the cells.
use mathlib.Core.Path.{◌≡◌, refl, ◌∙◌, ap, ap₂}
use mathlib.Core.List.{List}
use Prim.Native.Nat.{ℕ, ◌+◌, ◌*◌, ◌/◌, ◌%◌, ◌<◌}
use native.Mathlib.Omega.{arith}
use lib.Ieee.{Float}
use lib.ListN.{length, take}
use lib.Seq.{length-take-le, get_or-take}
use Rattle.rules.specs.Bits.{row}
use Rattle.rules.specs.Modes.{part_bits, slot_bits, slots, symbols}
use Rattle.rules.specs.Points.{first_part, second_part}
use Rattle.rules.specs.Cells.{carried}
use Rattle.rules.specs.Block.{sent_bit, cell_for, sent_cell, Cells}
use Rattle.rules.specs.declared.Profile.{Profile}
use Rattle.std.specs.Prelude.{Option, Some, None}
use Rattle.rules.specs.declared.PointOf.{PointOf}
use Rattle.rules.specs.declared.Cell.TheVariants.{Carries}
use Rattle.cells.specs.Symbol.{slot_bit, symbol_cell, Written}
use Rattle.cells.proofs.Inverse.{cell-carried}
use Rattle.laws.specs.Parts.{part-number, part-place, part-within}
use Rattle.laws.specs.Points.{point-same}
use Rattle.modes.proofs.Figures.{figures, block-most}
use Rattle.sending.specs.Steps.{Grid}
use Rattle.sending.proofs.Sent.{SentRow}

module _ (P : Profile) (d : List ℕ) where
  abbrev m : ℕ
  m = P.mode

  -- ---- the first bits alone

  pub record Front (l : List ℕ) : Type 0 where
    pub long : length l ≡ slot_bits m * slots m
    pub sent : SentRow P d l

  pub front : (n : ℕ) (l : List ℕ) → n ≡ slot_bits m * slots m → length l ≡ 48000 → SentRow P d l → Front (take n l)
  front n l e long sent =
      record { long = length-take-le n l (omega (arith, block-most m)) ∙ e; sent = λ g lt. get_or-take n l g 0 (omega arith) ∙ sent g lt }

  -- ---- a cell has the bits of a point of the block

  module _ (l : List ℕ) (sent : SentRow P d l) where
    slot-bit : (t i : ℕ) → t < slots m → i < slot_bits m → row l (slot_bits m * t + i) ≡ sent_bit P d t i
    slot-bit t i t< i< =
        sent (slot_bits m * t + i) (omega (arith, part-within (slot_bits m) t (slots m) t<))
        ∙ ap₂ (sent_bit P d) (part-number (slot_bits m) t i i<) (part-place (slot_bits m) t i i<)

    -- the bits of point i are among its slot's
    point-bit : (i j : ℕ) → i < 500 → j < 2 * part_bits m → 2 * part_bits m * i + j < slot_bits m
    point-bit i j hi hj = omega (arith, (figures m).slot, part-within (2 * part_bits m) i 500 hi)

    cell-is : (y c : ℕ) → symbol_cell m P.level l y c ≡ sent_cell P d y c
    cell-is y c = go (carried m y c) refl
      where
        go : (x : Option PointOf) → carried m y c ≡ x
            → cell_for (part_bits m) P.level (slot_bit m l) x ≡ cell_for (part_bits m) P.level (sent_bit P d) x
        go None e = refl
        go (Some p) e =
            let w = cell-carried m y c p.slot p.point e in
            ap Carries (point-same (part_bits m) P.level _ _ (figures m).part
            (λ j h. slot-bit p.slot (2 * part_bits m * p.point + j) w.0 (point-bit p.point j w.1 h)))

    -- one symbol, and all of them
    pub symbol_cells : (y : ℕ) (firsts seconds : List Float) → Written m P.level l y firsts seconds → Cells P d y 1 firsts seconds
    symbol_cells y firsts seconds w =
        record {
          firsts_long = w.firsts_are.long;
          seconds_long = w.seconds_are.long;
          firsts_are = λ i lt. w.firsts_are.each i lt ∙ ap first_part (at i lt);
          seconds_are = λ i lt. w.seconds_are.each i lt ∙ ap second_part (at i lt);
        }
      where
        at : (i : ℕ) → i < 4096 → symbol_cell m P.level l y i ≡ sent_cell P d (y + i / 4096) (i % 4096)
        at i lt = cell-is y i ∙ ap₂ (sent_cell P d) (omega arith) (omega arith)

    pub grid_cells : (firsts seconds : List Float) → Grid m P.level l firsts seconds → Cells P d 0 (symbols m) firsts seconds
    grid_cells firsts seconds w =
        record {
          firsts_long = w.firsts_are.long;
          seconds_long = w.seconds_are.long;
          firsts_are = λ i lt. w.firsts_are.each i lt ∙ ap first_part (at i);
          seconds_are = λ i lt. w.seconds_are.each i lt ∙ ap second_part (at i);
        }
      where
        at : (i : ℕ) → symbol_cell m P.level l (i / 4096) (i % 4096) ≡ sent_cell P d (0 + i / 4096) (i % 4096)
        at i = cell-is (i / 4096) (i % 4096) ∙ ap (λ (y : ℕ). sent_cell P d y (i % 4096)) (omega arith)
