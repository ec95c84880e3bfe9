-- By the rate.
use mathlib.Core.Path.{◌≡◌, sym, ap, ◌∙◌}
use Prim.Native.Nat.{ℕ}
use native.Mathlib.Omega.{arith}
use Rattle.rules.specs.Turbo.{entered, coded_length}
use Rattle.rules.specs.Modes.{rate, packet_bits}
use Rattle.rules.specs.declared.Rate.{Rate}
use Rattle.modes.proofs.packet_bits.Goals as goal

bits_of : (m : ℕ) (R : Rate) → R ≡ rate m → coded_length R entered ≡ packet_bits m
unfolding packet_bits
bits_of m R e = ap (λ (r : Rate). coded_length r entered) e

pub returns-in-Half : goal.returns-in-Half
returns-in-Half c =
    (bits_of c.args.mode _ (sym c.in-Half.is ∙ c.rate.ensures), omega arith, omega arith)

pub returns-in-Third : goal.returns-in-Third
returns-in-Third c =
    (bits_of c.args.mode _ (sym c.in-Third.is ∙ c.rate.ensures), omega arith, omega arith)

pub returns-in-TwoThirds : goal.returns-in-TwoThirds
returns-in-TwoThirds c =
    (bits_of c.args.mode _ (sym c.in-TwoThirds.is ∙ c.rate.ensures), omega arith, omega arith)
