-- `sending::send` meets its contract.
use mathlib.Core.Path.{refl, sym, ◌∙◌, ap}
use Prim.Native.Nat.{◌*◌}
use borrow.Author.Rules.{rules}
use lib.ListN.{length, take}
use Rattle.rules.specs.Modes.{symbols}
use Rattle.rules.specs.Answers.{Answer}
use Rattle.block.proofs.Passed.{Right, right, early-symbols}
use Rattle.sending.proofs.Cells.{Front, front, grid_cells}
use Rattle.laws.specs.Refused.{refusal-not-zero, passed_answer}
use Rattle.sending.proofs.send.Goals.{After-block_bits-n, In_ok-early}
use Rattle.sending.proofs.send.Goals as goal

-- everything passed
passed : (c : In_ok-early)
    → (let a = c.args in
    Right a.p (length a.«data».now) (length a.firsts.now) (length a.seconds.now) (4096 * symbols a.p.mode))
passed c =
    right _ _ _ _ _
    (sym (ap (λ (x : Answer). x.number) (early-symbols c.args.p _ _ _ c.symbol_count.ensures.0 c.in_ok-early.ensures)))

-- the bits that are lent
lent : (c : After-block_bits-n)
    → (let a = c.args in
    Front a.p a.«data».now (take c.block_bits-n.result c.sent_bits-bits.result))
lent c =
    let a = c.args in
    let b = c.sent_bits-bits in
    front a.p a.«data».now c.block_bits-n.result b.result c.block_bits-n.ensures.0
    (search rules) b.ensures

pub returns-in_err-early : goal.returns-in_err-early
returns-in_err-early c =
    let e = c.from_residual.ensures.1 in
    record {
      answer = passed_answer _ _ e (early-symbols c.args.p _ _ _ c.symbol_count.ensures.0 c.in_err-early.ensures);
      cells = λ z. absurd (refusal-not-zero _ (sym (ap (λ (x : Answer). x.number) (passed_answer _ _ e refl)) ∙ z));
      kept = λ _. (refl, refl);
    }

pub sent_bits-bits-requires : goal.sent_bits-bits-requires
sent_bits-bits-requires c = ((passed (goal.at.sent_bits-bits-requires c).In_ok-early).range, (passed (goal.at.sent_bits-bits-requires c).In_ok-early).data_long)

pub slice_bounds-write_grid-end : goal.slice_bounds-write_grid-end
slice_bounds-write_grid-end c = c.block_bits-n.ensures.0 ∙ sym (lent (goal.at.slice_bounds-write_grid-end c).After-block_bits-n).long

pub write_grid-requires : goal.write_grid-requires
write_grid-requires c =
    let ok = passed (goal.at.write_grid-requires c).In_ok-early in
    ((lent (goal.at.write_grid-requires c).After-block_bits-n).long, ok.firsts_long, ok.seconds_long)

pub returns : goal.returns
returns c =
    let a = c.args in
    record {
      answer = early-symbols c.args.p _ _ _ c.symbol_count.ensures.0 c.in_ok-early.ensures;
      cells = λ _. grid_cells a.p a.«data».now _ (lent (goal.at.returns c).After-block_bits-n).sent _ _ c.write_grid.ensures;
      kept = λ n. absurd (n refl);
    }
