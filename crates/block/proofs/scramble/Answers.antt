-- `block::scramble` meets its contract. The loop's invariant: the slots before t are scrambled.
use mathlib.Core.Path.{◌≡◌, refl, subst, ◌∙◌, ap₂}
use Prim.Native.Nat.{ℕ, ◌+◌, ◌*◌, ◌<◌, ◌≤◌}
use native.Mathlib.Omega.{arith}
use lib.ListN.{length}
use Rattle.rules.specs.Bits.{row}
use Rattle.rules.specs.Modes.{slot_bits}
use Rattle.laws.specs.Holds.{Holds, holds_self}
use Rattle.laws.specs.Parts.{part-within}
use Rattle.block.specs.Steps.{held, scrambled_row}
use Rattle.block.proofs.Scrambling.{scrambled-none, scrambled-turn}
use Rattle.block.proofs.scramble.Goals.{In-loop-t}
use Rattle.block.proofs.scramble.Goals as goal

-- slot t lies within the bits
within : (m n b t bits : ℕ) → b ≡ slot_bits m → slot_bits m * n ≤ bits → t < n → b * t + b ≤ bits
within m n b t bits e room lt = rw e (omega (arith, part-within (slot_bits m) t n lt, room))

module _ (c : In-loop-t) where
  abbrev b : ℕ
  b = c.slot_bits-b.result

  abbrev t : ℕ
  t = c.loop-t.t

  inside : b * t + b ≤ length c.args.bits.now
  inside =
      let n = c.slots_in-n in
      within c.args.p.mode n.result b t _ c.slot_bits-b.ensures.0 n.ensures.1 (omega arith)

  small : b * t + b ≤ 96000
  small = omega (arith, part-within b t 48 (omega (arith, c.slots_in-n.ensures.2)), c.slot_bits-b.ensures.2)

whole-block : (m n b t bits : ℕ) → b ≡ slot_bits m → t ≡ n → slot_bits m * n ≡ held m bits → b * t ≡ held m bits
whole-block m n b t bits e f g = ap₂ ◌*◌ e f ∙ g

pub loop-t-init : goal.loop-t-init
loop-t-init c =
    let a = c.args in
    (omega arith, scrambled-none c.slot_bits-b.result a.p.seeds a.p.masks (row a.bits.now) _ _ (holds_self 0 a.bits.now))

pub overflow_mul-at : goal.overflow_mul-at
overflow_mul-at c = omega (arith, small (goal.at.overflow_mul-at c).In-loop-t)

pub overflow_add-at : goal.overflow_add-at
overflow_add-at c = omega (arith, small (goal.at.overflow_add-at c).In-loop-t)

pub loop-t-preserved : goal.loop-t-preserved
loop-t-preserved c =
    let a = c.args in (
      omega arith,
      scrambled-turn c.slot_bits-b.result a.p.seeds a.p.masks (row a.bits.now) _ c.loop-t.bits _ c.loop-t.t _ (omega arith) refl
          (inside (goal.at.loop-t-preserved c).In-loop-t) c.scramble.ensures c.loop-t.invariant.1,
    )

pub shape_of-bits : goal.shape_of-bits
shape_of-bits c = c.loop-t.invariant.1.long

pub returns : goal.returns
returns c =
    let a = c.args in
    let e = c.slot_bits-b.ensures.0 in
    let n = c.slots_in-n in
    let all = whole-block a.p.mode n.result c.slot_bits-b.result c.loop-t.t (length a.bits.now) e (omega arith) n.ensures.0 in
    subst (λ (b : ℕ). Holds 0 (length a.bits.now)
    (scrambled_row b a.p.seeds a.p.masks (held a.p.mode (length a.bits.now)) (row a.bits.now)) c.loop-t.bits) e
    (subst (λ (k : ℕ). Holds 0 (length a.bits.now) (scrambled_row c.slot_bits-b.result a.p.seeds a.p.masks k (row a.bits.now)) c.loop-t.bits)
    all c.loop-t.invariant.1)
