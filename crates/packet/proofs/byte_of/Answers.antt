-- The number that 8 bits spell.
use mathlib.Core.Path.{◌≡◌, ap, ◌∙◌}
use mathlib.Core.List.{List}
use Prim.Native.Nat.{ℕ, ◌+◌, ◌*◌, ◌%◌, ◌<◌}
use native.Mathlib.Omega.{arith}
use borrow.Author.Rules.{rules}
use lib.Bits.{bit_or, or_shifted}
use lib.Pow.{pow_mono}
use lib.ListN.{length}
use Rattle.std.specs.List.{fold}
use Rattle.rules.specs.Bits.{row}
use Rattle.packet.proofs.Number.{number, number-lt, number-byte, number_same}
use Rattle.packet.proofs.Folds.{folded}
use Rattle.packet.proofs.byte_of.Goals as goal

-- one bit more
abbrev more : ℕ → ℕ → ℕ
more b bit = bit_or (b * 2 % 256) (bit % 2)

more-is : (b bit : ℕ) → b < 128 → more b bit ≡ b * 2 + bit % 2
more-is b bit lt =
    let whole : b * 2 % 256 ≡ b * 2 = omega arith in
    rw whole (or_shifted b 1 (bit % 2) (omega arith))

spelt : (l : List ℕ) → length l ≡ 8 → fold more 0 l ≡ number (λ k. row l k % 2) 8
unfolding number
spelt l long =
    let x : ℕ → ℕ = λ (k : ℕ). row l k % 2 in
    folded more (number x) l (λ k lt. more-is (number x k) (row l k) (omega (arith, number-lt x k (λ i. omega arith), pow_mono {i = k} {j = 7} (omega arith))))
    ∙ ap (number x) long

pub returns : goal.returns
returns c =
    let l = c.args.bits.now in
    let x : ℕ → ℕ = λ (k : ℕ). row l k % 2 in
    let e : c.fold.result ≡ fold more 0 l = search rules in
    e ∙ spelt l c.requires ∙ number_same x (λ k. x (8 * 0 + k)) 8 (λ k lt. ap x (omega arith)) ∙ number-byte x 0
