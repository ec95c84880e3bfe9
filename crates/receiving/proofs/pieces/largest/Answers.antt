-- The loop's invariant: of the bytes before it, no one is above `most`, and nothing smaller is so.
use mathlib.Core.Path.{◌≡◌, sym, ◌∙◌, subst}
use mathlib.Core.Logic.{◌⊎◌, inl, inr}
use mathlib.Core.List.{List}
use Prim.Native.Nat.{ℕ, max, ◌+◌, ◌<◌, ◌≤◌}
use Rattle.std.proofs.Math.Nat.{le-max_left, le-max_right, max-eq_left, max-eq_right}
use native.Mathlib.Decide.{ℕ_discrete, dec_lt}
use native.Mathlib.Omega.{arith}
use Rattle.rules.specs.Bits.{row}
use Rattle.receiving.proofs.pieces.largest.Invariants.{Above}
use Rattle.receiving.proofs.pieces.largest.Goals as goal

-- one byte more
above-next : (l : List ℕ) (i most new : ℕ) → Above l i most → most ≤ new → row l i ≤ new → Above l (i + 1) new
above-next l i most new h le here k lt = go (ℕ_discrete k i)
  where
    go : Dec (k ≡ i) → row l k ≤ new
    go (yes e) = subst (λ (j : ℕ). row l j ≤ new) (sym e) here
    go (no ne) = omega (arith, h k (omega arith))

least-next : (l : List ℕ) (i most new : ℕ) → ((b : ℕ) → Above l i b → most ≤ b) → (new ≡ most) ⊎ (new ≡ row l i)
    → (b : ℕ) → Above l (i + 1) b → new ≤ b
least-next l i most new h (inl e) b all = omega (arith, h b (λ k lt. all k (omega arith)))
least-next l i most new h (inr e) b all = omega (arith, all i (omega arith))

-- the larger of two is one of them
either : {a b r : ℕ} → r ≡ max a b → (r ≡ a) ⊎ (r ≡ b)
either {a} {b} {r} e = go (dec_lt a b)
  where
    go : Dec (a < b) → (r ≡ a) ⊎ (r ≡ b)
    go (yes h) = inr (e ∙ max-eq_right (omega arith))
    go (no h) = inl (e ∙ max-eq_left (omega arith))

pub loop-b-preserved : goal.loop-b-preserved
loop-b-preserved c =
    let l = c.loop-b in
    let bytes = c.args.bytes.now in
    let b : ℕ = row bytes l.b-index in
    let is = c.max-most.ensures in (
      above-next bytes l.b-index l.most c.max-most.result l.invariant.0 (omega (arith, is, le-max_left l.most b)) (omega (arith, is, le-max_right l.most b)),
      least-next bytes l.b-index l.most c.max-most.result l.invariant.1 (either is),
    )
