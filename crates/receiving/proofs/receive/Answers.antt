-- A number before any judgement; or every cell is decided, and the block judged.
use mathlib.Core.Path.{◌≡◌, sym, ◌∙◌, ap}
use mathlib.Core.List.{List, ◌++◌}
use Prim.Native.Nat.{ℕ, ◌*◌}
use native.Mathlib.Omega.{arith}
use lib.ListN.{length, take, drop, replicate}
use Rattle.rules.specs.Bits.{row}
use Rattle.rules.specs.Modes.{symbols}
use Rattle.rules.specs.Block.{early, decided}
use Rattle.rules.specs.Answers.{Answer}
use Rattle.laws.specs.Holds.{Holds}
use Rattle.rules.specs.Pieces.{byte_at}
use Rattle.block.proofs.Passed.{Right, right, early-symbols}
use Rattle.receiving.proofs.Numbers.{answered-judged}
use Rattle.receiving.proofs.Judgement.{kept-judged}
use Rattle.receiving.proofs.Putting.{piece_bytes, zeros-long, whole_long, front_long, front_at}
use Rattle.receiving.proofs.receive.Goals.{After-decide_cells}
use Rattle.receiving.proofs.receive.Goals as goal

module _ (c : After-decide_cells) where
  -- the first answer is 0
  zero : (early c.args.p (length c.args.«data».now) (length c.args.firsts.now) (length c.args.seconds.now) (4096 * symbols c.args.p.mode)).number ≡ 0
  zero =
      sym (ap (λ (x : Answer). x.number) (early-symbols c.args.p _ _ _ c.symbol_count-n.ensures.0 c.in_default.ensures))

  -- everything passed
  passed : Right c.args.p (length c.args.«data».now) (length c.args.firsts.now) (length c.args.seconds.now) (4096 * symbols c.args.p.mode)
  passed = right _ _ _ _ _ zero

  -- what was decided, how many of it the grid has, and the zeros after it
  abbrev made : List ℕ
  made = c.decide_cells.new.out

  abbrev many : ℕ
  many = 4096 * c.symbol_count-n.result

  abbrev rest : List ℕ
  rest = drop many (replicate 28672 0)

  bytes : Holds 0 (length c.args.firsts.now) (byte_at c.args.p c.args.firsts.now c.args.seconds.now) made
  bytes =
      let a = c.args in
      let n = c.symbol_count-n in
      let long = zeros-long 28672 (4096 * n.result) (omega (arith, n.ensures.1)) in
      piece_bytes a.p a.firsts.now a.seconds.now _ _ _
      (passed.firsts_long ∙ ap (λ (k : ℕ). 4096 * k) (sym n.ensures.0) ∙ sym long)
      (passed.seconds_long ∙ ap (λ (k : ℕ). 4096 * k) (sym n.ensures.0) ∙ sym long) c.decide_cells.ensures

  -- as many as the grid has
  bytes-long : length made ≡ many
  bytes-long = bytes.long ∙ passed.firsts_long ∙ ap (λ (k : ℕ). 4096 * k) (sym c.symbol_count-n.ensures.0)

pub slice_bounds-decide_cells-end : goal.slice_bounds-decide_cells-end
slice_bounds-decide_cells-end c = sym (zeros-long 28672 (4096 * c.symbol_count-n.result) (omega (arith, c.symbol_count-n.ensures.1)))

pub slice_bounds-decided-end-2 : goal.slice_bounds-decided-end-2
slice_bounds-decided-end-2 c =
    let whole = whole_long (many (goal.at.slice_bounds-decided-end-2 c).After-decide_cells) (made (goal.at.slice_bounds-decided-end-2 c).After-decide_cells) (rest (goal.at.slice_bounds-decided-end-2 c).After-decide_cells) (bytes-long (goal.at.slice_bounds-decided-end-2 c).After-decide_cells) in
    omega (arith, whole)

pub slice_bounds-judge_cells-end : goal.slice_bounds-judge_cells-end
slice_bounds-judge_cells-end c = sym (front_long (many (goal.at.slice_bounds-judge_cells-end c).After-decide_cells) (made (goal.at.slice_bounds-judge_cells-end c).After-decide_cells) (rest (goal.at.slice_bounds-judge_cells-end c).After-decide_cells) (bytes-long (goal.at.slice_bounds-judge_cells-end c).After-decide_cells))

pub judge_cells-requires : goal.judge_cells-requires
judge_cells-requires c =
    let ok = passed (goal.at.judge_cells-requires c).After-decide_cells in
    (ok.range, ok.data_long, front_long (many (goal.at.judge_cells-requires c).After-decide_cells) (made (goal.at.judge_cells-requires c).After-decide_cells) (rest (goal.at.judge_cells-requires c).After-decide_cells) (bytes-long (goal.at.judge_cells-requires c).After-decide_cells) ∙ ap (λ (k : ℕ). 4096 * k) c.symbol_count-n.ensures.0)

pub returns : goal.returns
returns c =
    let a = c.args in
    let f = a.firsts.now in
    let s = a.seconds.now in
    let n = c.symbol_count-n in
    answered-judged a.p a.marks _ (decided a.p f s) a.«data».now _ c.judge_cells.result (zero (goal.at.returns c).After-decide_cells)
    (kept-judged a.p a.marks (row (take (many (goal.at.returns c).After-decide_cells) (made (goal.at.returns c).After-decide_cells ++ rest (goal.at.returns c).After-decide_cells))) f s
    (λ k h.
    front_at (many (goal.at.returns c).After-decide_cells) (made (goal.at.returns c).After-decide_cells) (rest (goal.at.returns c).After-decide_cells) (bytes-long (goal.at.returns c).After-decide_cells) k (omega (arith, n.ensures.0))
    ∙ (bytes (goal.at.returns c).After-decide_cells).each k (omega (arith, (passed (goal.at.returns c).After-decide_cells).firsts_long)))
    c.judge_cells.ensures)
