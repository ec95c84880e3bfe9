-- A number before any judgement, or the judgement of what the state keeps.
use mathlib.Core.Path.{◌≡◌, sym, ◌∙◌, ap}
use Prim.Native.Nat.{◌+◌, ◌*◌}
use native.Mathlib.Omega.{arith}
use lib.Dec.{T}
use lib.ListN.{length}
use Rattle.rules.specs.Bits.{row}
use Rattle.rules.specs.Modes.{symbols}
use Rattle.rules.specs.Profile.{faultless}
use Rattle.rules.specs.Block.{understood, in_block}
use Rattle.rules.specs.Pieces.{is_state, state_bytes, seen, cell_in, kept_bit, asking}
use Rattle.rules.specs.Answers.{Answer}
use Rattle.laws.specs.Parts.{part, part-long, part_at}
use Rattle.receiving.proofs.Numbers.{answered-judged}
use Rattle.receiving.proofs.States.{is_state_lem, asking-0}
use Rattle.receiving.proofs.Judgement.{cells-judged}
use Rattle.receiving.proofs.ask.Goals.{After-symbol_count}
use Rattle.receiving.proofs.ask.Goals as goal

module _ (c : After-symbol_count) where
  -- the first answer is 0
  zero : let a = c.args in (asking a.p a.state.now (length a.«data».now)).number ≡ 0
  zero = sym (ap (λ (x : Answer). x.number) c.in_default.ensures)

  -- the last cell has come
  passed : let a = c.args in
      T (faultless a.p) × T (is_state a.p.mode a.state.now) × (length a.«data».now ≡ 122 * a.p.k)
      × (seen a.state.now ≡ 4096 * symbols a.p.mode)
  passed = let a = c.args in (asking-0 a.p a.state.now (length a.«data».now)).0 zero

  long : length c.args.state.now ≡ state_bytes
  long = ((is_state_lem _ _).0 passed.1).long

  -- the bytes of the grid's cells
  kept-long : length (part 2 (2 + 4096 * c.symbol_count.result) c.args.state.now) ≡ 4096 * symbols c.args.p.mode
  kept-long =
      let n = c.symbol_count in
      part-long 2 (2 + 4096 * n.result) c.args.state.now (omega arith) (omega (arith, long, n.ensures.1)) ∙ omega (arith, n.ensures.0)

pub slice_bounds-judge_cells-end : goal.slice_bounds-judge_cells-end
slice_bounds-judge_cells-end c =
    omega (arith, long (goal.at.slice_bounds-judge_cells-end c).After-symbol_count, c.symbol_count.ensures.1)

pub judge_cells-requires : goal.judge_cells-requires
judge_cells-requires c =
    let w = passed (goal.at.judge_cells-requires c).After-symbol_count in
    (w.0, w.2, kept-long (goal.at.judge_cells-requires c).After-symbol_count)

pub returns : goal.returns
returns c =
    let a = c.args in
    let long = long (goal.at.returns c).After-symbol_count in
    let state = a.state.now in
    answered-judged a.p a.marks _ (understood a.p (in_block a.p.mode (kept_bit a.p.mode (cell_in state)))) a.«data».now _ c.judge_cells.result
    (zero (goal.at.returns c).After-symbol_count)
    (cells-judged a.p a.marks (row (part 2 (2 + 4096 * c.symbol_count.result) state)) (cell_in state)
    (λ j h.
    part_at 2 (2 + 4096 * c.symbol_count.result) state (omega arith) (omega (arith, long, c.symbol_count.ensures.1)) j 0
    (omega (arith, h, c.symbol_count.ensures.0)))
    c.judge_cells.ensures)
