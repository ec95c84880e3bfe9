-- `spread` meets its contract. The loop's invariant: the bits of the first i bytes are in.
use mathlib.Core.Path.{refl, ◌∙◌}
use Prim.Native.Nat.{◌*◌}
use native.Mathlib.Omega.{arith}
use Rattle.rules.specs.Bits.{row}
use Rattle.laws.specs.Parts.{part-within, holds-part}
use Rattle.hearing.specs.Reading.{spread_bit}
use Rattle.hearing.proofs.Reading.{spread-in}
use Rattle.hearing.proofs.spread.spread.Goals as goal

pub loop-i-preserved : goal.loop-i-preserved
loop-i-preserved g c =
    let a = c.args in
    let i = c.loop-i.i in
    let W = g.row.W in
    let byte = c.spread_byte.ensures in (
      omega arith,
      holds-part 0 (spread_bit W (row a.bytes.now)) (row a.bits.now) (2 * W) i _
          c.spread_byte.new.bits refl (part-within (2 * W) i 500 (omega arith)) byte.long
          (λ k h. byte.each k h ∙ spread-in W (row a.bytes.now) i k (omega arith) h)
          c.loop-i.invariant.1,
    )
