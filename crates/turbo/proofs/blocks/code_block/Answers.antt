-- `code_block` meets its contract. The loop's invariant: the packets before p are coded.
use mathlib.Core.Path.{◌≡◌, refl, ap, ap₂, subst, ◌∙◌}
use lib.ListN.{length, length-take, length-drop}
use Prim.Native.Nat.{ℕ, ◌+◌, ◌*◌, ◌≤◌}
use native.Mathlib.Omega.{arith}
use Rattle.laws.specs.Holds.{Holds}
use Rattle.rules.specs.Modes.{packet_bits}
use Rattle.laws.specs.Parts.{part-within, part-long}
use Rattle.turbo.specs.Blocks.{coded_row}
use Rattle.turbo.proofs.Coding.{coded_none, coded-turn}
use Rattle.turbo.proofs.blocks.code_block.Goals.{In-loop-p}
use Rattle.turbo.proofs.blocks.code_block.Goals as goal

-- the packet's room is within the bits
room : (c : In-loop-p) → (let n = c.packet_bits-n.result in n * c.loop-p.p + n ≤ 48000)
room c =
    let n = c.packet_bits-n.result in
    omega (arith, part-within n c.loop-p.p 16 c.loop-p-test.true)

bytes : (c : In-loop-p) → length c.args.block ≡ 1952
bytes c = c.well_formed.1.0.1.0.1

pub loop-p-init : goal.loop-p-init
loop-p-init c =
    let a = c.args in (omega arith, coded_none a.mode c.packet_bits-n.result a.block)

pub code-requires : goal.code-requires
code-requires c =
    let l = c.loop-p in
    let n : ℕ = c.packet_bits-n.result in (
      simp (length-take, length-drop) (omega (arith, bytes (goal.at.code-requires c).In-loop-p)),
      part-long (n * l.p) _ l.bits (omega arith) (omega (arith, room (goal.at.code-requires c).In-loop-p, l.invariant.1.long)) ∙ omega (arith, ap packet_bits c.new-encoder.ensures),
    )

pub loop-p-preserved : goal.loop-p-preserved
loop-p-preserved c =
    let l = c.loop-p in
    let a = c.args in
    let r = rw c.new-encoder.ensures at c.code.ensures in (
      omega arith,
      coded-turn a.mode c.packet_bits-n.result c.packet_bits-n.ensures.0 a.block l.bits _ l.p _ _
          (bytes (goal.at.loop-p-preserved c).In-loop-p) (omega arith) c.loop-p-test.true refl refl r l.invariant.1,
    )

pub returns : goal.returns
returns c =
    let a = c.args in
    let all : c.loop-p.p ≡ 16 = omega arith in
    subst (λ (n : ℕ). Holds 0 48000 (coded_row a.mode n a.block) c.loop-p.bits)
    (ap₂ ◌*◌ c.packet_bits-n.ensures.0 all) c.loop-p.invariant.1
