-- `places` works the places out one after the other.
use mathlib.Core.Path.{◌≡◌, sym, ap, ◌∙◌}
use mathlib.Core.List.{List, ◌++◌}
use Prim.Native.Nat.{ℕ, ◌+◌, ◌-◌, ◌≤◌, ◌<◌}
use native.Mathlib.Decide.{dec_lt}
use lib.ListN.{length, take, drop, replicate, length-replicate, get_or-replicate}
use Rattle.std.proofs.Common.{length-append, length-drop, length-take-le, get_or-take, get_or-drop, get_or-append-add}
use Rattle.std.proofs.Math.ListN.{get_or-append}
use Rattle.rules.specs.Bits.{row}
use Rattle.laws.specs.Holds.{Holds}
use native.Mathlib.Omega.{arith}
use Rattle.laws.specs.Filled.{up_to, up_to-below, up_to-from, holds-first, holds-next, holds-whole}
use Rattle.modes.proofs.Figures.{figures}
use Rattle.patterns.specs.Places.{sent_place}
use Rattle.patterns.proofs.Modes.{rate-quarters, rate-sent}
use Rattle.patterns.proofs.places.Goals as goal

module _ (f : ℕ → ℕ) (n m : ℕ) where
  -- before the first turn
  begun : n ≤ m → Holds 0 n (up_to 0 f (λ k. 0)) (take n (replicate m 0))
  begun le =
      holds-first f (λ k. 0) 0
      (record {
        long = length-take-le n (replicate m 0) (omega (arith, length-replicate {A = ℕ} m 0));
        each = λ k lt. get_or-take n (replicate m 0) k 0 lt ∙ get_or-replicate m k 0 0 (omega arith);
      })

  -- the first n are made, and zeros follow
  done : (l : List ℕ) → n ≤ m → Holds 0 n f l → Holds 0 m (up_to n f (λ k. 0)) (l ++ drop n (replicate m 0))
  done l le h =
      record {
        long = length-append l (drop n (replicate m 0)) ∙ omega (arith, h.long, length-replicate {A = ℕ} m 0, length-drop {A = ℕ} n (replicate m 0));
        each = λ k lt. at k lt (dec_lt k n);
      }
    where
      at : (k : ℕ) → k < m → Dec (k < n) → row (l ++ drop n (replicate m 0)) k ≡ up_to n f (λ k. 0) k
      at k lt (yes inside) =
          get_or-append l (drop n (replicate m 0)) 0 k (omega (arith, h.long)) ∙ h.each k inside ∙ sym (up_to-below f (λ k. 0) n k inside)
      at k lt (no behind) =
          let place : length l + (k - n) ≡ k = omega (arith, h.long) in
          ap (row (l ++ drop n (replicate m 0))) (sym place) ∙ get_or-append-add l (drop n (replicate m 0)) (k - n) 0
          ∙ get_or-drop n (replicate m 0) (k - n) 0 ∙ get_or-replicate m (n + (k - n)) 0 0 (omega arith)
          ∙ sym (up_to-from f (λ k. 0) n k (omega arith))

pub loop-i-init : goal.loop-i-init
loop-i-init c = begun (sent_place c.args.mode) c.packet_bits-n.result 3000 (omega arith)

pub sent_place-requires : goal.sent_place-requires
sent_place-requires c =
    let q = rate-quarters c.args.mode c.rate-rate.result c.rate-rate.ensures c.packet_bits-n.result
    c.packet_bits-n.ensures.0 in
    (q.0, q.1, omega (arith, (figures c.args.mode).four, c.loop-i.invariant.long))

pub loop-i-preserved : goal.loop-i-preserved
loop-i-preserved c =
    let l = c.loop-i in
    let mode = c.args.mode in
    holds-next (sent_place mode) (λ k. 0) 0 l.i _ (omega (arith, l.invariant.long))
    (c.sent_place.ensures.0 ∙ rate-sent mode c.rate-rate.result c.rate-rate.ensures l.i) l.invariant

pub returns : goal.returns
returns c =
    let m = c.args.mode in
    let l = c.loop-i in
    let n = c.packet_bits-n in
    let made = done (sent_place m) n.result 3000 l.place-items (omega arith) (holds-whole (sent_place m) (λ k. 0) 0 l.i (omega (arith, l.invariant.long)) l.invariant) in
    rw (← n.ensures.0) made
