-- The loop's invariant: b holds the product over those packets below n.
use mathlib.Core.Path.{◌≡◌, refl, sym, ap, ap₂, ◌∙◌}
use mathlib.Core.Bool.{Bool, true, false}
use mathlib.Core.List.{List}
use Prim.Native.Nat.{ℕ, ◌+◌, ◌-◌, ◌<◌}
use native.Mathlib.Numerals.{add-one}
use lib.Dec.{eqb}
use Rattle.rules.specs.Bits.{pick, row}
use Rattle.rules.specs.Field.{◌⊕◌, ◌⊗◌}
use Rattle.laws.specs.Holds.{Holds, holds_as}
use Rattle.outer.specs.Solve.{other, node, raised, basis}
use Rattle.laws.specs.Filled.{holds-computed}
use native.Mathlib.Omega.{arith}
use Rattle.outer.proofs.matrix.Missing.basis.Goals.{else-other, then-other}
use Rattle.outer.proofs.matrix.Missing.basis.Goals as goal

raised-same : (n : ℕ) {f g : ℕ → ℕ} → ((k : ℕ) → k < n → f k ≡ g k) → (j : ℕ) → j < n → raised f j ≡ raised g j
unfolding raised
raised-same n e j l = ap (pick (eqb j 0) 0) (e (j - 1) (omega arith))

-- a turn
module _ (t : ℕ → Bool) (n : ℕ) {b : List ℕ} where
  factor : {a : ℕ} {next : List ℕ} → t n ≡ true → a ≡ node n → Holds 0 8 (basis t n) b → Holds 0 8 (λ j. raised (row b) j ⊕ a ⊗ row b j) next
      → Holds 0 8 (basis t (n + 1)) next
  unfolding basis
  factor {a} on is h =
      holds_as 0 (basis t (n + 1))
      (λ j l. rw (add-one n, on) (ap₂ ◌⊕◌ (raised-same 8 h.each j l) (ap₂ ◌⊗◌ is (h.each j l))))

  no-factor : t n ≡ false → Holds 0 8 (basis t n) b → Holds 0 8 (basis t (n + 1)) b
  unfolding basis
  no-factor off = holds_as 0 (basis t (n + 1)) (λ j l. rw (add-one n, off))

pub loop-n-init : goal.loop-n-init
unfolding basis
loop-n-init c = (omega arith, holds-computed 8 (basis (other c.args.self.lost c.args.self.p) 0) _ refl tt)

pub loop-n-preserved : goal.loop-n-preserved
loop-n-preserved c =
    let l = c.loop-n in
    let a = c.args in
    let t = other a.self.lost a.self.p in
    let is = c.other.ensures in (
      omega arith,
      elim c.if-other.branch [ then-other w ↦ rw w.b-is (factor t l.n (sym is ∙ w.if-other.true) w.node.ensures l.invariant.1 w.grow.ensures) | else-other w ↦ rw w.b-is (no-factor t l.n (sym is ∙ w.if-other.false) l.invariant.1) ],
    )

pub returns : goal.returns
returns c = let l = c.loop-n in let end : l.n ≡ 16 = omega arith in rw end at l.invariant.1
