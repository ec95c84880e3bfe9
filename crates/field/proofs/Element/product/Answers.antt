-- `product` answers `◌⊗◌`: what it gathers from the factors' words is the product.
use mathlib.Core.Path.{◌≡◌, ap₂, ◌∙◌}
use Prim.Native.Nat.{ℕ}
use native.Mathlib.Omega.{arith}
use lib.Bits.{xor_lt}
use lib.Pow.{shr_lt}
use borrow.Author.Rules.{rules}
use Rattle.rules.specs.Field.{◌⊕◌}
use Rattle.field.specs.Words.{multiples}
use Rattle.field.proofs.Words.{halves, by-words}
use Rattle.field.proofs.Element.product.Goals as goal

pub overflow_cast-high : goal.overflow_cast-high
overflow_cast-high c = record { fits = shr_lt 32 32 (xor_lt 64 c.low_multiples.result c.high_multiples.result (search rules) (search rules)) }

pub returns : goal.returns
returns c =
    let a : ℕ = c.args.self.0 in
    let b : ℕ = c.args.other.0 in
    let word : c.low_multiples.result ⊕ c.high_multiples.result ≡ multiples a =
    ap₂ ◌⊕◌ c.low_multiples.ensures c.high_multiples.ensures ∙ halves a in
    rw (word, c.mask.ensures, c.mask-2.ensures) (by-words a b (omega arith) (omega arith))
