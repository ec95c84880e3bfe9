-- The loop's invariant: i lost packets were passed, and each has its row.
use mathlib.Core.Path.{◌≡◌, refl, sym, ◌∙◌, subst₂}
use mathlib.Core.List.{List, []}
use Prim.Native.Nat.{◌^◌, ℕ, ◌+◌, ◌≤◌, ◌<◌}
use lib.ListN.{set, length-set, get_or}
use lib.Seq.{get_or-set_same, get_or-set_other}
use borrow.Author.Count.{below_more}
use borrow.Author.Tests.{eqb-true, eqb-false}
use Rattle.rules.specs.Outer.{marked}
use Rattle.outer.specs.Solve.{tally, entry}
use Rattle.outer.specs.Steps.{Starts}
use Rattle.outer.proofs.Ones.{tally-next, tally-lt, place-lt}
use native.Mathlib.Omega.{arith}
use lib.Count.{ones}
use Rattle.outer.proofs.matrix.rows.Invariants.{Placed}
use Rattle.outer.proofs.matrix.rows.Goals.{After-entries, After-lost_at, else-lost_at, then-lost_at}
use Rattle.outer.proofs.matrix.rows.Goals as goal

module _ (r lost p : ℕ) {m : List (List ℕ)} {i : ℕ} (f : Placed r lost p m i) where
  -- a turn at a lost packet
  row_more : (e : List ℕ) → i < 8 → marked lost p ≡ 1 → Starts r (entry r lost p) e → Placed r lost (p + 1) (set m i e) (i + 1)
  row_more e lt on here =
      record {
        long = length-set m i e ∙ f.long;
        place = omega (arith, tally-next (marked lost) p, f.place);
        rows = below_more (λ (q : ℕ). marked lost q ≡ 1 → Starts r (entry r lost q) (get_or (set m i e) (at q) [])) p
            (λ q l o. rw (get_or-set_other m i (at q) e [] (λ s. omega (arith, tally-lt (marked lost) q p l o, f.place))) (f.rows q l o))
            (λ o. rw (← f.place, get_or-set_same m i e [] (omega (arith, f.long))) here);
      }
    where
      at : ℕ → ℕ
      at = tally (marked lost)

  -- and at another
  row_same : ¬ (marked lost p ≡ 1) → Placed r lost (p + 1) m i
  row_same off =
      record {
        long = f.long;
        place = omega (arith, tally-next (marked lost) p, f.place);
        rows = below_more (λ (q : ℕ). marked lost q ≡ 1 → Starts r (entry r lost q) (get_or m (tally (marked lost) q) [])) p f.rows
            (λ on. absurd (off on));
      }

-- the next row is there
next_row : (lost p i : ℕ) → lost < 2 ^ 16 → p < 16 → ones lost ≤ 8 → marked lost p ≡ 1 → i ≡ tally (marked lost) p → i < 8
next_row lost p i fits l few on is = omega (arith, place-lt lost p fits few l on, is)

room : (c : After-entries) → c.loop-p.i < 8
room c =
    let l = c.loop-p in
    let on : marked c.args.lost l.p ≡ 1 = eqb-true _ _ (sym c.lost_at.ensures ∙ c.if-lost_at.true) in
    next_row c.args.lost l.p l.i (omega arith) (omega arith) (omega arith) on l.invariant.1.place

pub loop-p-init : goal.loop-p-init
unfolding tally
loop-p-init c = (omega arith, record { long = refl; place = refl; rows = λ q l. absurd (omega arith) })

pub offset_bounds-m-i : goal.offset_bounds-m-i
offset_bounds-m-i c = omega (arith, room (goal.at.offset_bounds-m-i c).After-entries)

pub bounds-m-i : goal.bounds-m-i
bounds-m-i c = room (goal.at.bounds-m-i c).After-entries

pub overflow_add-i : goal.overflow_add-i
overflow_add-i c = omega (arith, room (goal.at.overflow_add-i c).After-entries)

pub loop-p-preserved : goal.loop-p-preserved
loop-p-preserved c =
    let l = c.loop-p in
    let a = c.args in
    let is = c.lost_at.ensures in
    let next = Placed a.parity.r a.lost (l.p + 1) in (
      omega arith,
      elim c.if-lost_at.branch [
        | then-lost_at w ↦ subst₂ next (sym w.m-is) (sym w.i-is)
            (row_more a.parity.r a.lost l.p l.invariant.1 _ (next_row a.lost l.p l.i (omega arith) (omega arith) (omega arith) (eqb-true _ _ (sym is ∙ w.if-lost_at.true)) l.invariant.1.place)
            (eqb-true _ _ (sym is ∙ w.if-lost_at.true)) w.entries.ensures)
        | else-lost_at w ↦ subst₂ next (sym w.m-is) (sym w.i-is)
            (row_same a.parity.r a.lost l.p l.invariant.1 (eqb-false _ _ (sym is ∙ w.if-lost_at.false)))
      ],
    )

pub returns : goal.returns
returns c = let l = c.loop-p in let end : l.p ≡ 16 = omega arith in rw end at l.invariant.1.rows
