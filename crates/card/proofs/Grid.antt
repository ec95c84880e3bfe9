-- A grid that was sent, with nothing changed, is heard as it was sent.
use mathlib.Core.Path.{◌≡◌, ap, ap₂, ◌∙◌}
use mathlib.Core.List.{List}
use Prim.Native.Nat.{ℕ, ◌+◌, ◌*◌, ◌/◌, ◌%◌, ◌<◌}
use native.Mathlib.Omega.{arith}
use lib.Dec.{T}
use lib.Ieee.{Float}
use Rattle.rules.specs.Modes.{slot_bits, packet_bits, slots, symbols}
use Rattle.rules.specs.Slots.{symbol_of}
use Rattle.rules.specs.Points.{first_part, second_part}
use Rattle.rules.specs.Cells.{point_cell, grid_cell}
use Rattle.rules.specs.Profile.{faultless}
use Rattle.rules.specs.Block.{Cells, sent_bit, sent_cell, heard}
use Rattle.rules.specs.Demands.{heard_in_place, sent_in_place}
use Rattle.rules.specs.declared.Profile.{Profile}
use Rattle.cells.proofs.Inverse.{point-cell-lt}
use Rattle.hearing.proofs.Heard.{heard-sent}
use Rattle.modes.proofs.Figures.{in-block, in-slot}
use Rattle.profile.proofs.InRange.{good-level}

bit-lt : (P : Profile) (d : List ℕ) (t i : ℕ) → sent_bit P d t i < 2
unfolding sent_bit
bit-lt P d t i = omega arith

module _ (P : Profile) (d : List ℕ) (f s : List Float) (t : T (faultless P)) (c : Cells P d 0 (symbols P.mode) f s) where
  at : (t i : ℕ) → t < slots P.mode → i < 500
      → (grid_cell t i < 4096 * symbols P.mode)
      × (sent_cell P d (0 + grid_cell t i / 4096) (grid_cell t i % 4096) ≡ sent_cell P d (symbol_of t) (point_cell t i))
  at t i h l =
      let b : point_cell t i < 4096 = point-cell-lt t i l in
      let y : 0 + grid_cell t i / 4096 ≡ symbol_of t = omega arith in
      let x : grid_cell t i % 4096 ≡ point_cell t i = omega arith in
      (omega arith, ap₂ (sent_cell P d) y x)

  slot-heard : (t i : ℕ) → t < slots P.mode → i < slot_bits P.mode → heard P f s t i ≡ sent_bit P d t i
  slot-heard =
      heard-sent P (sent_bit P d) f s (good-level P t) (bit-lt P d)
      (λ t i h l. c.firsts_are (grid_cell t i) (at t i h l).0 ∙ ap first_part (at t i h l).1)
      (λ t i h l. c.seconds_are (grid_cell t i) (at t i h l).0 ∙ ap second_part (at t i h l).1)

  pub grid-heard : (p i : ℕ) → p < 16 → i < packet_bits P.mode → heard_in_place P f s p i ≡ sent_in_place P d p i
  grid-heard p i h l = let w = in-slot P.mode _ (in-block P.mode p i h l) in slot-heard _ _ w.0 w.1
