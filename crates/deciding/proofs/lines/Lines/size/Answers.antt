-- `Lines::size` meets its contract, by the four tests.
use mathlib.Core.Path.{sym, ◌∙◌}
use mathlib.Core.Bool.{true≢false}
use native.Mathlib.Omega.{arith}
use Rattle.rules.specs.Points.{twice, near_end, far_end, size_of}
use Rattle.deciding.proofs.lines.Lines.size.Goals.{then-part-far, else-part-far, else-part-near-via-then-part-near+else-part-near-2, else-part-near-via-else-part-near}
use Rattle.deciding.proofs.lines.Lines.size.Goals as goal

pub returns-then-part-far-2 : goal.returns-then-part-far-2
unfolding size_of near_end far_end twice
returns-then-part-far-2 c =
    elim c.if-part-far.branch [
      | then-part-far w ↦ (simp w.if-part-far.true, omega arith)
      | else-part-far w ↦ (simp (w.if-part-far.false, sym w.value-is ∙ c.if-part-far-2.true), omega arith)
    ]

pub returns-then-part-near-2 : goal.returns-then-part-near-2
unfolding size_of near_end far_end twice
returns-then-part-near-2 c =
    elim c.if-part-far.branch [
      | then-part-far w ↦ absurd (true≢false (sym w.if-part-far.true ∙ sym w.value-is ∙ c.if-part-far-2.false))
      | else-part-far w ↦ (simp (w.if-part-far.false, sym w.value-is ∙ c.if-part-far-2.false, c.if-part-near.true, c.if-part-near-2.true), omega arith)
    ]

pub returns-else-part-near : goal.returns-else-part-near
unfolding size_of near_end far_end twice
returns-else-part-near c =
    elim c.if-part-far.branch [
      | then-part-far w ↦ absurd (true≢false (sym w.if-part-far.true ∙ sym w.value-is ∙ c.if-part-far-2.false))
      | else-part-far w ↦
          let far = sym w.value-is ∙ c.if-part-far-2.false in
          elim c.else-part-near.branch [
            | else-part-near-via-then-part-near+else-part-near-2 v ↦ (simp (w.if-part-far.false, far, v.if-part-near.true, v.if-part-near-2.false), omega arith)
            | else-part-near-via-else-part-near v ↦ (simp (w.if-part-far.false, far, v.if-part-near.false), omega arith)
          ]
    ]
