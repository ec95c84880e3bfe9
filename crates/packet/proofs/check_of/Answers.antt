-- The register after all bits, complemented.
use mathlib.Core.Path.{◌≡◌, refl, ap, ◌∙◌}
use mathlib.Core.List.{List}
use Prim.Native.Nat.{ℕ, ◌-◌}
use borrow.Author.Rules.{rules}
use lib.ListN.{length}
use Rattle.std.specs.List.{fold}
use Rattle.rules.specs.Bits.{row}
use Rattle.rules.specs.Packet.{check_step, check_register, check_word}
use Rattle.packet.proofs.Folds.{folded}
use Rattle.packet.proofs.check_of.Goals as goal

register : (l : List ℕ) → fold check_step 65535 l ≡ check_register (row l) (length l)
unfolding check_register
register l = folded check_step (check_register (row l)) l (λ k lt. refl)

pub returns : goal.returns
unfolding check_word
returns c =
    let e : c.fold.result ≡ fold check_step 65535 c.args.x.now = search rules in
    ap (λ (s : ℕ). 65535 - s) (e ∙ register c.args.x.now)
