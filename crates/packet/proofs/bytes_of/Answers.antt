-- The loop's invariant: the first j bytes are made.
use mathlib.Core.Path.{◌≡◌, sym, ap, ◌∙◌}
use mathlib.Core.List.{List}
use Prim.Native.Nat.{ℕ, ◌+◌, ◌*◌, ◌%◌, ◌<◌}
use native.Mathlib.Omega.{arith}
use borrow.Author.Rules.{rules}
use lib.ListN.{length}
use Rattle.rules.specs.Bits.{row}
use Rattle.laws.specs.Filled.{holds-new, holds-next}
use Rattle.laws.specs.Parts.{part, part_at}
use Rattle.packet.proofs.Number.{number_same, number-byte}
use Rattle.packet.proofs.bytes_of.Invariants.{byte}
use Rattle.packet.proofs.bytes_of.Goals as goal

-- the byte of the part that is lent
byte-part : (x : List ℕ) (j : ℕ) → j < 122 → length x ≡ 994 → byte (part (8 * j) (8 * j + 8) x) 0 ≡ byte x j
byte-part x j lt long =
    let p : List ℕ = part (8 * j) (8 * j + 8) x in
    sym (number-byte (λ i. row p i % 2) 0)
    ∙ number_same (λ k. row p (8 * 0 + k) % 2) (λ k. row x (8 * j + k) % 2) 8
    (λ k k<8. ap (λ (b : ℕ). b % 2) (ap (row p) (omega arith) ∙ part_at (8 * j) (8 * j + 8) x (omega arith) (omega arith) k 0 (omega arith)))
    ∙ number-byte (λ i. row x i % 2) j

pub loop-j-init : goal.loop-j-init
loop-j-init c = holds-new 122 (byte c.args.x)

pub loop-j-preserved : goal.loop-j-preserved
loop-j-preserved c =
    let l = c.loop-j in
    let long : length c.args.x ≡ 994 = search rules in
    holds-next (byte c.args.x) (λ k. 0) 0 l.j _ (omega arith) (c.byte_of.ensures ∙ byte-part c.args.x l.j (omega arith) long) l.invariant
