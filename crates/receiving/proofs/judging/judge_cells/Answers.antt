-- The block's bits are read, and judged.
use Rattle.receiving.proofs.Judgement.{read-judged}
use Rattle.receiving.proofs.judging.judge_cells.Goals as goal

pub returns : goal.returns
returns c =
    let a = c.args in
    let k = c.kept_bits in
    read-judged a.p a.marks a.cells.now k.result k.ensures c.judge.ensures
