-- One bit more.
use mathlib.Core.Path.{sym, ap, ◌∙◌}
use mathlib.Core.Bool.{Bool, ◌&&◌}
use Prim.Native.Nat.{ℕ}
use lib.Dec.{ltb}
use Rattle.rules.specs.Bits.{row}
use Rattle.laws.specs.Every.{every-next}
use Rattle.turbo.proofs.plain.Goals as goal

pub loop-bit-preserved : goal.loop-bit-preserved
loop-bit-preserved c =
    let l = c.loop-bit in
    let v : ℕ → ℕ = row c.args.v.now in
    ap (λ (b : Bool). b && ltb (v l.bit-index) 2) l.invariant ∙ sym (every-next l.bit-index (λ i. ltb (v i) 2))
