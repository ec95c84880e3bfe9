-- Document 01, "Slots, scrambling, points": interlaces and cells; which point a cell carries. The places of points are those of document 02, Req 01.
use Rattle.std.specs.Prelude.{Option, Some, None, ◌&&◌, ◌||◌, ℕ, ◌+◌, ◌-◌, ◌*◌, ◌/◌, ◌%◌, eqb, leb, ltb}
use Rattle.rules.specs.Bits.{pick}
use Rattle.rules.specs.Kept.{reversed, kept, count}
use Rattle.rules.specs.Modes.{slots}
use Rattle.rules.specs.Slots.{symbol_of, slot_number}
use Rattle.rules.specs.declared.PointOf.{PointOf}

-- Run i from 0 to 511, reverse its nine bits, drop results of 500 and above; the n-th kept result is the place, in its interlace, of point n
unfoldable pub place_of : ℕ → ℕ
place_of n = kept (reversed 9) 512 500 n

-- and the point at a place, whose counter is the place's own nine bits reversed: as many results are kept before it
unfoldable pub point_at : ℕ → ℕ
point_at place = count (λ i. ltb (reversed 9 i) 500) (reversed 9 place)

-- slot number k uses interlace k in every symbol; and the slot number that an interlace serves, 0 where it is none of the slots 1 to 7
abbrev pub interlace_of : ℕ → ℕ → ℕ
interlace_of symbol k = k

abbrev pub slot_of : ℕ → ℕ → ℕ
slot_of symbol interlace = interlace

-- Interlace k, place i, is cell 48 + k + 8i, but for k = 0 and i ≥ 250 it is 56 + 8i, so that 2048 stays unused
abbrev pub cell_of : ℕ → ℕ → ℕ
cell_of k i = pick (eqb k 0 && leb 250 i) (56 + 8 * i) (48 + k + 8 * i)

-- the cell, in its symbol, of point i of block slot t
abbrev pub point_cell : ℕ → ℕ → ℕ
point_cell t i = cell_of (interlace_of (symbol_of t) (slot_number t)) (place_of i)

-- the same in the whole grid, symbol after symbol
abbrev pub grid_cell : ℕ → ℕ → ℕ
grid_cell t i = 4096 * symbol_of t + point_cell t i

-- ---- the same read from the cell: crates/cells/proofs/Inverse.antt shows that each of the two is the other's inverse

-- what a cell belongs to: interlace k, place i; or to no interlace
pub data Belongs : Type 0 where
  outside : Belongs
  place : ℕ → ℕ → Belongs

unfoldable pub belongs : ℕ → Belongs
belongs c =
    pick (ltb c 48 || eqb c 2048 || ltb 4048 c) outside
    (pick (eqb (c % 8) 0 && ltb 2048 c) (place 0 ((c - 56) / 8)) (place (c % 8) ((c - 48) / 8)))

-- what a cell carries: nothing, or point i of block slot t
abbrev pub carried_by : ℕ → ℕ → ℕ → Option PointOf
carried_by m t i = pick (ltb t (slots m)) (Some (record { slot = t; point = i })) None

abbrev pub carried_at : ℕ → ℕ → Belongs → Option PointOf
carried_at m symbol outside = None
carried_at m symbol (place k i) =
    pick (eqb (slot_of symbol k) 0) None (carried_by m (7 * symbol + slot_of symbol k - 1) (point_at i))

-- cell c of a symbol, in mode m
unfoldable pub carried : ℕ → ℕ → ℕ → Option PointOf
carried m symbol c = carried_at m symbol (belongs c)
