-- `spread_byte` meets its contract. The loop's invariant: the first k bits are in.
use mathlib.Core.Path.{◌∙◌, ap}
use Prim.Native.Nat.{ℕ, ◌%◌}
use native.Mathlib.Omega.{arith}
use Rattle.rules.specs.Bits.{row}
use Rattle.rules.specs.Points.{bit_in}
use Rattle.laws.specs.Filled.{holds-next}
use Rattle.hearing.specs.Reading.{spread_bit}
use Rattle.hearing.proofs.Reading.{part-of}
use Rattle.hearing.proofs.spread.spread_byte.Goals as goal

pub decision_in-requires : goal.decision_in-requires
decision_in-requires g c = (c.requires.0, c.requires.1, part-of (omega arith) (omega arith))

pub loop-k-preserved : goal.loop-k-preserved
loop-k-preserved g c =
    let a = c.args in
    let k = c.loop-k.k in (
      omega arith,
      holds-next (spread_bit g.row.W (λ i. a.byte)) (row a.bits.now) 0 k c.bit_of.result (omega arith)
          (c.bit_of.ensures ∙ ap (λ (d : ℕ). bit_in g.row.W d (k % g.row.W)) c.decision_in.ensures) c.loop-k.invariant.1,
    )
