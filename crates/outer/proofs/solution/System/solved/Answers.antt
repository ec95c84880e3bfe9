-- The loop's invariant: the first j columns are worked out, and they are codewords.
use mathlib.Core.Path.{◌≡◌, refl, sym, ◌∙◌, subst}
use mathlib.Core.List.{List}
use Prim.Native.Nat.{ℕ, ◌+◌, ◌≤◌, ◌<◌}
use borrow.Author.Count.{below_more}
use Rattle.rules.specs.Bits.{row}
use Rattle.rules.specs.Outer.{column, Codeword}
use Rattle.laws.specs.Holds.{Holds}
use Rattle.outer.specs.Solve.{solved}
use Rattle.outer.specs.Steps.{Put, Says, Solved}
use Rattle.outer.proofs.Roots.{codeword-same}
use native.Mathlib.Omega.{arith}
use Rattle.outer.proofs.solution.System.solved.Goals as goal

-- a turn
column-more : (r lost j : ℕ) (block out out' c : List ℕ) → r ≤ 8 → j < 122 → Solved j r lost block out → Holds 0 16 (solved r lost (column block j)) c
    → Codeword r (row c) → Put (row c) j out out' → Solved (j + 1) r lost block out'
column-more r lost j block out out' c most lt before h good put =
    below_more (λ (i : ℕ). Codeword r (solved r lost (column block i)) × ((p : ℕ) → p < 16 → column out' i p ≡ solved r lost (column block i) p)) j
    (λ i l. ((before i l).0, λ p m. put.there i (omega arith) (omega arith) p m ∙ (before i l).1 p m))
    (codeword-same most (λ p m. sym (h.each p m)) good, λ p m. put.here p m ∙ h.each p m)

pub loop-j-init : goal.loop-j-init
loop-j-init c = (omega arith, omega arith, λ i l. absurd (omega arith))

pub returns-then-not-is_codeword : goal.returns-then-not-is_codeword
returns-then-not-is_codeword c =
    let l = c.loop-j in
    let s = c.column-c in
    let t = c.is_codeword in
    let none = subst (Says (Codeword c.args.self.now.parity.r (row s.result))) (c.if-not-is_codeword.true) t.ensures in
    (refl, (l.j, omega arith, λ w. none (codeword-same (omega arith) s.ensures.each w)))

pub loop-j-preserved : goal.loop-j-preserved
loop-j-preserved c =
    let l = c.loop-j in
    let s = c.column-c in
    let t = c.is_codeword in
    let good = subst (Says (Codeword c.args.self.now.parity.r (row s.result))) (c.if-not-is_codeword.false) t.ensures in (
      omega arith,
      c.put.ensures.long,
      column-more c.args.self.now.parity.r c.args.self.now.lost l.j c.args.block.now l.out _ s.result (omega arith) (omega arith)
          l.invariant.2 s.ensures good c.put.ensures,
    )

pub returns : goal.returns
returns c = λ j l. c.loop-j.invariant.2 j (omega arith)
