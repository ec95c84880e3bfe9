-- The first i bits are scrambled; the loop goes over as many as the slot has bits here.
use mathlib.Core.Path.{◌≡◌, sym, ◌∙◌, ap, ap₂}
use mathlib.Core.List.{List, [], ◌++◌}
use Prim.Native.Nat.{ℕ, ◌+◌, ◌-◌, ◌<◌, min}
use native.Mathlib.Decide.{dec_lt}
use native.Mathlib.Nat.{le_refl}
use native.Mathlib.Omega.{arith}
use Rattle.std.proofs.Common.{length-append, length-drop, length-take-le, get_or-take, get_or-drop}
use Rattle.std.proofs.Math.ListN.{get_or-append}
use Rattle.std.proofs.Common.{get_or-append-add}
use lib.ListN.{length, take, drop}
use Rattle.rules.specs.Bits.{row}
use Rattle.rules.specs.Slots.{scrambling}
use Rattle.rules.specs.Block.{unscrambled}
use Rattle.laws.specs.Holds.{Holds}
use Rattle.laws.specs.Filled.{up_to, up_to-below, up_to-from, holds-next, holds-whole}
use Rattle.slots.proofs.Seed.{scrambling-low}
use Rattle.slots.proofs.scramble.Invariants.{after}
use Rattle.slots.proofs.scramble.Goals.{After-outputs-out}
use Rattle.slots.proofs.scramble.Goals as goal

-- element i of what is added
put : (c : After-outputs-out) (i : ℕ) → i < c.min-n.result → (let a = c.args in row c.outputs-out.result i ≡ scrambling a.seed a.mask i)
put c i lt =
    let a = c.args in
    c.outputs-out.ensures i lt ∙ ap₂ (λ (s m : ℕ). scrambling s m i) c.new.ensures.0 c.new.ensures.1 ∙ scrambling-low a.seed a.mask i

-- where the slot's bits are scrambled, the list is as the rule says
module _ (seed mask : ℕ) (l done : List ℕ) (n : ℕ) (is : n ≡ min (length l) 2000) where
  long : length (take n l) ≡ n
  long = length-take-le n l (omega arith)

  whole : Holds 0 (length (take n l)) (after seed mask (take n l)) done → Holds 0 (length l) (up_to 2000 (after seed mask l) (row l)) (done ++ drop n l)
  whole h =
      record {
        long = length-append done (drop n l) ∙ omega (arith, h.long, long, length-drop n l);
        each = λ k lt. at k lt (dec_lt k n);
      }
    where
      at : (k : ℕ) → k < length l → Dec (k < n) → row (done ++ drop n l) k ≡ up_to 2000 (after seed mask l) (row l) k
      at k lt (yes inside) =
          get_or-append done (drop n l) 0 k (omega (arith, h.long, long)) ∙ h.each k (omega (arith, long))
          ∙ ap (λ (b : ℕ). unscrambled b (scrambling seed mask k)) (get_or-take n l k 0 inside)
          ∙ sym (up_to-below (after seed mask l) (row l) 2000 k (omega arith))
      at k lt (no behind) =
          let place : length done + (k - n) ≡ k = omega (arith, h.long, long) in
          ap (row (done ++ drop n l)) (sym place) ∙ get_or-append-add done (drop n l) (k - n) 0 ∙ get_or-drop n l (k - n) 0
          ∙ ap (row l) (omega arith) ∙ sym (up_to-from (after seed mask l) (row l) 2000 k (omega arith))

pub loop-i-preserved : goal.loop-i-preserved
loop-i-preserved c =
    let a = c.args in
    let l = c.loop-i in
    let part : List ℕ = take c.min-n.result a.bits.now in
    let there = long a.seed a.mask a.bits.now [] c.min-n.result (omega arith) in
    let was = l.invariant.each l.i (omega arith) ∙ up_to-from (after a.seed a.mask part) (row part) l.i l.i (le_refl l.i) in
    let bit = c.added.ensures ∙ ap₂ unscrambled was (put (goal.at.loop-i-preserved c).After-outputs-out l.i (omega (arith, there))) in
    holds-next (after a.seed a.mask part) (row part) 0 l.i _ (omega arith) bit l.invariant

pub returns : goal.returns
returns c =
    let a = c.args in
    let l = c.loop-i in
    whole a.seed a.mask a.bits.now l.bit-items c.min-n.result (omega arith)
    (holds-whole (after a.seed a.mask (take c.min-n.result a.bits.now)) (row (take c.min-n.result a.bits.now)) 0 l.i (omega arith) l.invariant)
