-- `hearing::read_block` meets its contract. The loop's invariant: the slots before t are read.
use mathlib.Core.Path.{◌≡◌, refl, sym, ◌∙◌, ap, ap₂}
use mathlib.Core.Bool.{true≢false}
use Prim.Native.Nat.{ℕ, ◌+◌, ◌*◌, ◌<◌, ◌≤◌}
use native.Mathlib.Nat.{mul-zero}
use native.Mathlib.Omega.{arith}
use lib.ListN.{length}
use borrow.Author.Tests.{eq-eqb, ne_eqb}
use Rattle.rules.specs.Bits.{row}
use Rattle.rules.specs.Modes.{slot_bits, slots, symbols}
use Rattle.rules.specs.Block.{in_block}
use Rattle.rules.specs.Pieces.{kept_bit}
use Rattle.laws.specs.Filled.{holds-first, holds-whole}
use Rattle.laws.specs.Parts.{part-long, part-within, holds-part}
use Rattle.modes.proofs.Figures.{block-most}
use Rattle.hearing.proofs.Reading.{kept-in-block}
use Rattle.hearing.proofs.read_block.Goals.{After-loop-t, After-places, Else-bits-block_bits, Else-cells-symbol_count, In-loop-t}
use Rattle.hearing.proofs.read_block.Goals as goal

-- there are as many cells as the grid has, and as many bits as the block
cells-long : (c : Else-cells-symbol_count) → let a = c.args in length a.cells.now ≡ 4096 * symbols a.mode
cells-long c = omega arith

bits_long : (c : Else-bits-block_bits)
    → let a = c.args in length a.bits.now ≡ slot_bits a.mode * slots a.mode
bits_long c = omega arith

-- slot t is within the block
room : (c : In-loop-t)
    → let m = c.args.mode in
    let slot = c.slot_bits-slot.result in
    (slot * c.loop-t.t + slot ≤ slot_bits m * slots m) × (slot_bits m * slots m ≤ 48000)
room c =
    let m = c.args.mode in
    let slot = c.slot_bits-slot in
    (rw slot.ensures.0 (part-within (slot_bits m) c.loop-t.t (slots m) (omega arith)), block-most m)

-- all slots are the block
full : (c : After-loop-t)
    → let m = c.args.mode in
    c.slot_bits-slot.result * c.loop-t.t ≡ slot_bits m * slots m
full c = ap₂ ◌*◌ c.slot_bits-slot.ensures.0 (omega arith)

pub returns-then-cells-symbol_count : goal.returns-then-cells-symbol_count
returns-then-cells-symbol_count c =
    let a = c.args in
    record {
      answer = sym (rw (ne_eqb (length a.cells.now) (4096 * symbols a.mode) (λ e. c.if-cells-symbol_count.true (omega arith))));
      done = λ e. absurd (true≢false (sym e));
      kept = λ _. refl;
    }

pub returns-then-bits-block_bits : goal.returns-then-bits-block_bits
returns-then-bits-block_bits c =
    let a = c.args in
    record {
      answer = sym (rw (
        eq-eqb _ _ (cells-long (goal.at.returns-then-bits-block_bits c).Else-cells-symbol_count),
        ne_eqb (length a.bits.now) (slot_bits a.mode * slots a.mode) (λ e. c.if-bits-block_bits.true (omega arith)),
      ));
      done = λ e. absurd (true≢false (sym e));
      kept = λ _. refl;
    }

pub loop-t-init : goal.loop-t-init
loop-t-init c =
    let a = c.args in (
      omega arith,
      rw mul-zero
          (holds-first (in_block a.mode (kept_bit a.mode (row a.cells.now))) (row a.bits.now) 0
          (record { long = bits_long (goal.at.loop-t-init c).Else-bits-block_bits; each = λ k lt. refl })),
    )

pub overflow_mul-at : goal.overflow_mul-at
overflow_mul-at c = omega (arith, room (goal.at.overflow_mul-at c).In-loop-t)

pub overflow_add-at : goal.overflow_add-at
overflow_add-at c = omega (arith, room (goal.at.overflow_add-at c).In-loop-t)

pub read_slot-requires : goal.read_slot-requires
read_slot-requires c =
    let slot = c.slot_bits-slot in
    let at = slot.result * c.loop-t.t in (
      omega arith,
      part-long at (at + slot.result) c.loop-t.bits (omega arith) (omega (arith, room (goal.at.read_slot-requires c).In-loop-t, c.loop-t.invariant.1.long)) ∙ omega arith,
    )

pub loop-t-preserved : goal.loop-t-preserved
loop-t-preserved c =
    let a = c.args in
    let cells = row a.cells.now in
    let t = c.loop-t.t in
    let slot = c.slot_bits-slot in
    let read = c.read_slot.ensures in (
      omega arith,
      holds-part 0 (in_block a.mode (kept_bit a.mode cells)) (row a.bits.now) slot.result t _
          c.read_slot.new.bits refl (omega (arith, room (goal.at.loop-t-preserved c).In-loop-t)) (read.long ∙ sym slot.ensures.0)
          (λ k h.
          let h' : k < slot_bits a.mode = omega arith in
          read.each k h' ∙ kept-in-block a.mode cells t k h'
          ∙ ap (λ (s : ℕ). in_block a.mode (kept_bit a.mode cells) (s * t + k)) (sym slot.ensures.0))
          c.loop-t.invariant.1,
    )

pub shape_of-bits : goal.shape_of-bits
shape_of-bits c = c.loop-t.invariant.1.long ∙ sym (bits_long (goal.at.shape_of-bits c).Else-bits-block_bits)

pub returns : goal.returns
returns c =
    record {
      answer = sym (rw (eq-eqb _ _ (cells-long (goal.at.returns c).Else-cells-symbol_count), eq-eqb _ _ (bits_long (goal.at.returns c).Else-bits-block_bits)));
      done = λ _. holds-whole _ _ 0 _ (full (goal.at.returns c).After-loop-t) c.loop-t.invariant.1;
      kept = λ e. absurd (true≢false e);
    }
