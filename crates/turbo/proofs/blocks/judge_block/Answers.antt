-- The loop's invariant: the first p packets are judged.
use mathlib.Core.Path.{◌≡◌, refl, ◌∙◌, ap}
use Prim.Native.Nat.{ℕ, suc, ◌+◌, ◌*◌, ◌%◌, ◌^◌, ◌≤◌, ◌<◌}
use native.Mathlib.Omega.{arith}
use mathlib.Core.List.{List}
use lib.Pow.{pow_mono}
use lib.Bits.{bit_or, or_shifted_r}
use lib.ListN.{length}
use borrow.Author.Rules.{rules}
use Rattle.rules.specs.Bits.{row}
use Rattle.rules.specs.Modes.{packet_bits}
use Rattle.rules.specs.Block.{packet_part}
use Rattle.laws.specs.Parts.{part, part-within, part-long, part_at}
use Rattle.turbo.proofs.Weighing.{weighed-none, weighed-lt, weighed-kept, weighed-lost}
use Rattle.turbo.proofs.blocks.judge_block.Goals.{in-Ok, in-Err, In-loop-p}
use Rattle.turbo.proofs.blocks.judge_block.Goals as goal

-- a packet's bits are within the block's
within : (n p : ℕ) → n ≤ 3000 → p < 16 → n * p + n ≤ 48000
within n p h l = omega (arith, part-within n p 16 l)

bits_long : (c : In-loop-p) → length c.args.bits ≡ 48000
bits_long c = search rules

place : (c : In-loop-p)
    → let n = c.packet_bits-n.result in
    n * c.loop-p.p + n ≤ length c.args.bits
place c =
    omega (
      arith,
      bits_long c,
      within c.packet_bits-n.result c.loop-p.p (omega arith) (omega arith),
    )

-- the part that is lent holds the packet's own bits
own : (c : In-loop-p)
    → let n = c.packet_bits-n.result in
    let at = n * c.loop-p.p in
    let a = c.args in
    (i : ℕ) → i < packet_bits a.mode → row (part at (at + n) a.bits) i ≡ packet_part a.mode (row a.bits) c.loop-p.p i
own c i lt =
    let n = c.packet_bits-n in
    let p = c.loop-p.p in
    let l = c.args.bits in
    part_at (n.result * p) (n.result * p + n.result) l (omega arith) (place c) i 0 (omega arith)
    ∙ ap (λ (k : ℕ). row l (k * p + i)) n.ensures.0

pub loop-p-init : goal.loop-p-init
loop-p-init c =
    let a = c.args in
    (omega arith, weighed-none a.mode a.marks (row a.bits))

pub weigh-requires : goal.weigh-requires
weigh-requires c =
    let n = c.packet_bits-n in
    let at : ℕ = n.result * c.loop-p.p in
    let s = c in (
      omega arith,
      omega (arith, ap packet_bits c.new-decoder.ensures, part-long at (at + n.result) s.args.bits (omega arith) (place (goal.at.weigh-requires c).In-loop-p)),
    )

-- the packet's bit stands above those of the packets before it
bit-added : (c : In-loop-p) → bit_or c.loop-p.lost (1 * 2 ^ c.loop-p.p % 65536) ≡ c.loop-p.lost + 2 ^ c.loop-p.p
bit-added c =
    let p = c.loop-p.p in
    let a = c.args in
    let top : 2 ^ suc p ≤ 65536 = pow_mono {j = 16} (omega arith) in
    let whole : 1 * 2 ^ p % 65536 ≡ 1 * 2 ^ p = omega arith in
    rw whole (or_shifted_r 1 p c.loop-p.lost (weighed-lt p a.mode a.marks (row a.bits) c.loop-p.invariant.1) ∙ omega arith)

pub loop-p-preserved : goal.loop-p-preserved
loop-p-preserved c =
    let l = c.loop-p in
    let a = c.args in
    let n = c.packet_bits-n in
    let at : ℕ = n.result * l.p in
    let bits : List ℕ = part at (at + n.result) a.bits in
    let i = (goal.at.loop-p-preserved c).In-loop-p in
    elim c.match-weigh.branch [
      | in-Ok w ↦ (
        omega arith,
        rw (w.lost-is, w.reasons-is, w.block-is)
            (weighed-kept a.mode a.marks l.p (row a.bits) (row bits) c.loop-p-test.true (own i) (122 * l.p + 122) w.in-Ok.bytes w.copy_from_slice.new.self
            (rw c.new-decoder.ensures at w.in-Ok.ensures) refl w.copy_from_slice.ensures.after l.invariant.1),
      )
      | in-Err w ↦ (
        omega arith,
        rw (w.lost-is, w.reasons-is, w.block-is)
            (weighed-lost a.mode a.marks l.p (row a.bits) (row bits) c.loop-p-test.true (own i) w.in-Err.reason w.number.result _ w.number.ensures
            (rw c.new-decoder.ensures at w.in-Err.ensures) (bit-added i) l.invariant.1),
      )
    ]

pub returns : goal.returns
returns c =
    let l = c.loop-p in
    let end : l.p ≡ 16 = omega arith in
    rw end at l.invariant.1
