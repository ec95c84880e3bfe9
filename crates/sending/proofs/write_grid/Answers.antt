-- `sending::write_grid` meets its contract. The loop's invariant: the symbols before y are written in both lists.
use mathlib.Core.Path.{◌≡◌, refl, ◌∙◌}
use mathlib.Core.List.{List}
use Prim.Native.Nat.{◌+◌, ◌*◌, ◌≤◌}
use native.Mathlib.Omega.{arith}
use lib.Ieee.{Float}
use lib.ListN.{length, get_or}
use Rattle.rules.specs.Points.{zero_part, first_part, second_part}
use Rattle.rules.specs.Modes.{symbols}
use Rattle.laws.specs.Holds.{Holds}
use Rattle.laws.specs.Filled.{holds-first, holds-whole}
use Rattle.laws.specs.Parts.{part, part-long}
use Rattle.cells.proofs.Fits.{write_done}
use Rattle.sending.proofs.Grid.{grid-turn}
use Rattle.sending.proofs.write_grid.Goals as goal

pub loop-y-init : goal.loop-y-init
loop-y-init c =
    let whole : (l : List Float) → length l ≡ 4096 * symbols c.args.mode
    → Holds zero_part (4096 * symbols c.args.mode) (λ i. get_or l i zero_part) l
    = λ l e. record { long = e; each = λ k lt. refl } in
    (omega arith, holds-first _ _ zero_part (whole _ c.requires.1), holds-first _ _ zero_part (whole _ c.requires.2))

pub loop-y-preserved : goal.loop-y-preserved
loop-y-preserved c =
    let a = c.args in
    let pre = c.requires in
    let here = 4096 * c.loop-y.y in
    let part-4096 : (x : List Float) → here + 4096 ≤ length x → length (part here (here + 4096) x) ≡ 4096
    = λ x room. part-long here (here + 4096) x (omega arith) room ∙ omega arith in
    let written = write_done c.write_symbol.ensures
    (record {
      firsts_long = part-4096 c.loop-y.firsts (omega (arith, c.loop-y.invariant.1.long));
      seconds_long = part-4096 c.loop-y.seconds (omega (arith, c.loop-y.invariant.2.long));
      in_grid = omega arith;
      bits_long = pre.0;
    }) in (
      omega arith,
      grid-turn first_part a.mode a.level a.bits.now _ c.loop-y.firsts _ c.loop-y.y _ refl (omega arith)
          written.firsts_are c.loop-y.invariant.1,
      grid-turn second_part a.mode a.level a.bits.now _ c.loop-y.seconds _ c.loop-y.y _ refl (omega arith)
          written.seconds_are c.loop-y.invariant.2,
    )

pub shape_of-firsts : goal.shape_of-firsts
shape_of-firsts c = omega (arith, c.loop-y.invariant.1.long, c.requires.1)

pub shape_of-seconds : goal.shape_of-seconds
shape_of-seconds c = omega (arith, c.loop-y.invariant.2.long, c.requires.2)

pub returns : goal.returns
returns c =
    let l = c.loop-y in
    let all : 4096 * l.y ≡ 4096 * symbols c.args.mode = omega arith in
    record { firsts_are = holds-whole _ _ zero_part _ all l.invariant.1; seconds_are = holds-whole _ _ zero_part _ all l.invariant.2 }
