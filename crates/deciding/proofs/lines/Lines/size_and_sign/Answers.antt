-- `Lines::size_and_sign` meets its contract: the sum is the number, or more than 4.
use mathlib.Core.Path.{◌∙◌, ap, ap₂}
use Prim.Native.Nat.{ℕ, ◌+◌, min}
use native.Mathlib.Omega.{arith}
use Rattle.std.proofs.Math.Nat.{min-le_right}
use Rattle.deciding.proofs.Deciding.{decide-min}
use Rattle.deciding.proofs.lines.Lines.size_and_sign.Goals as goal

pub returns : goal.returns
returns c =
    let s = c.args.self in (
      c.min.ensures
          ∙ ap (λ (n : ℕ). min n 4) (ap₂ ◌+◌ c.size.ensures.0 c.sign.ensures.0)
          ∙ decide-min s.level s.floor c.args.part,
      omega (arith, c.min.ensures, min-le_right (c.size.result + c.sign.result) 4),
    )
