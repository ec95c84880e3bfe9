-- The 16 bits reversed begin with the five; worked out for each i.
use mathlib.Core.Path.{◌≡◌, ap, ◌∙◌}
use Prim.Native.Nat.{ℕ, ◌/◌, ◌<◌}
use lib.Dec.{eqb, eqb→eq}
use Rattle.std.specs.Int.{reverse_bits, reverse_bits_onto, w16}
use Rattle.rules.specs.Kept as keeping
use Rattle.laws.specs.Every.{every-at}
use Rattle.interleaver.proofs.reversed.Goals as goal

five : (i : ℕ) → i < 32 → reverse_bits w16 i / 2048 ≡ keeping.reversed 5 i
unfolding reverse_bits_onto
five i lt = eqb→eq _ _ (every-at 32 (λ k. eqb (reverse_bits w16 k / 2048) (keeping.reversed 5 k)) tt i lt)

pub returns : goal.returns
returns c = ap (λ (r : ℕ). r / 2048) c.reverse_bits.ensures ∙ five c.args.i c.requires
