-- The loop's invariant: i lost packets were passed, and the bytes of the first p packets are worked out.
use mathlib.Core.Path.{◌≡◌, refl, sym, ap, ap₂, ◌∙◌, subst₂}
use mathlib.Core.Bool.{true, false}
use mathlib.Core.List.{List, []}
use Prim.Native.Nat.{ℕ, ◌+◌, ◌≤◌, ◌<◌}
use lib.ListN.{set, get_or}
use borrow.Author.Tests.{eqb-true, eqb-false}
use Rattle.rules.specs.Bits.{row}
use Rattle.rules.specs.Field.{◌⊗◌}
use Rattle.rules.specs.Outer.{marked, column, value, root}
use Rattle.laws.specs.Holds.{Holds}
use Rattle.outer.specs.Solve.{sum, tally, lost_at, syndrome, kept, solved}
use Rattle.outer.specs.Steps.{Starts, Rows}
use Rattle.laws.specs.Filled.{holds-first, holds-next, holds-skip, holds-whole}
use Rattle.outer.proofs.Ones.{tally-next, place-lt}
use Rattle.outer.proofs.Poly.{sum_same, value_same}
use native.Mathlib.Omega.{arith}
use Rattle.outer.proofs.solution.System.column.Invariants.{Worked}
use Rattle.outer.proofs.solution.System.column.Goals.{Then-lost_at, else-lost_at, then-lost_at}
use Rattle.outer.proofs.solution.System.column.Goals as goal

module _ (r lost : ℕ) (d : ℕ → ℕ) (p : ℕ) {c : List ℕ} {i : ℕ} (f : Worked r lost d p c i) where
  -- a turn at a lost packet
  byte_more : (v : ℕ) → p < 16 → marked lost p ≡ 1 → v ≡ solved r lost d p → Worked r lost d (p + 1) (set c p v) (i + 1)
  byte_more v l on e =
      record {
        place = omega (arith, tally-next (marked lost) p, f.place);
        bytes = holds-next (solved r lost d) (kept lost d) 0 p v l e f.bytes;
      }

  -- and at another
  byte-same : ¬ (marked lost p ≡ 1) → kept lost d p ≡ solved r lost d p → Worked r lost d (p + 1) c i
  byte-same off e =
      record {
        place = omega (arith, tally-next (marked lost) p, f.place);
        bytes = holds-skip (solved r lost d) (kept lost d) 0 p e f.bytes;
      }

-- the byte of a lost packet, by its row and the syndromes
lost-byte : (r lost : ℕ) (d : ℕ → ℕ) (p i : ℕ) (m : List (List ℕ)) (s c : List ℕ) → p < 16 → lost_at lost p ≡ true → i ≡ tally (marked lost) p
    → Rows 16 r lost m → Holds 0 16 (kept lost d) c → Starts r (syndrome r (row c)) s → sum r (λ j. row (get_or m i []) j ⊗ row s j) ≡ solved r lost d p
unfolding solved
lost-byte r lost d p i m s c l on place rows hc hs =
    rw (on, place) (sum_same r (λ j k. ap₂ ◌⊗◌ (rows p l (eqb-true _ _ on) j k) (hs j k ∙ value_same 16 _ hc.each)))

-- the values at the roots are the syndromes
at-roots : (r : ℕ) (x c s : List ℕ) → r ≤ 8 → Holds 0 8 (root r) x → Holds 0 8 (λ j. value 16 (row c) (row x j)) s → Starts r (syndrome r (row c)) s
at-roots r x c s most hx hs j l = hs.each j (omega arith) ∙ ap (value 16 (row c)) (hx.each j (omega arith))

-- and of one that is kept
kept_byte_lem : (r lost : ℕ) (d : ℕ → ℕ) (p : ℕ) → lost_at lost p ≡ false → kept lost d p ≡ solved r lost d p
unfolding solved
kept_byte_lem r lost d p off = rw off

-- there is a next row
room : (c : Then-lost_at) → c.loop-p.i < 8
room c =
    let l = c.loop-p in
    let a = c.args in
    let on : marked a.self.now.lost l.p ≡ 1 = eqb-true _ _ (sym c.lost_at.ensures ∙ c.if-lost_at.true) in
    omega (arith, place-lt a.self.now.lost l.p (omega arith) a.self.now.few (omega arith) on, l.invariant.1.place)

pub kept-c-requires : goal.kept-c-requires
kept-c-requires c = c.requires

pub loop-p-init : goal.loop-p-init
unfolding tally
loop-p-init c =
    let a = c.args in
    let d = column a.block.now a.j in
    (omega arith, record { place = refl; bytes = holds-first (solved a.self.now.parity.r a.self.now.lost d) (kept a.self.now.lost d) 0 c.kept-c.ensures })

pub offset_bounds-self-i : goal.offset_bounds-self-i
offset_bounds-self-i c = omega (arith, room (goal.at.offset_bounds-self-i c).Then-lost_at)

pub bounds-self-i : goal.bounds-self-i
bounds-self-i c = room (goal.at.bounds-self-i c).Then-lost_at

pub overflow_add-i : goal.overflow_add-i
overflow_add-i c = omega (arith, room (goal.at.overflow_add-i c).Then-lost_at)

pub loop-p-preserved : goal.loop-p-preserved
loop-p-preserved c =
    let l = c.loop-p in
    let a = c.args in
    let d = column a.block.now a.j in
    let is = c.lost_at.ensures in
    let lt : l.p < 16 = omega arith in
    let next = Worked a.self.now.parity.r a.self.now.lost d (l.p + 1) in (
      omega arith,
      elim c.if-lost_at.branch [
        | then-lost_at w ↦ let on = sym is ∙ w.if-lost_at.true in
            subst₂ next (sym w.c-is) (sym w.i-is)
            (byte_more a.self.now.parity.r a.self.now.lost d l.p l.invariant.1 _ lt (eqb-true _ _ on)
            (w.dot.ensures
            ∙ lost-byte a.self.now.parity.r a.self.now.lost d l.p l.i a.self.now.rows c.values-s.result c.kept-c.result lt on l.invariant.1.place
            a.self.now.inverse c.kept-c.ensures (at-roots a.self.now.parity.r a.self.now.roots c.kept-c.result c.values-s.result a.self.now.parity.few a.self.now.powers c.values-s.ensures)))
        | else-lost_at w ↦ let off = sym is ∙ w.if-lost_at.false in
            subst₂ next (sym w.c-is) (sym w.i-is)
            (byte-same a.self.now.parity.r a.self.now.lost d l.p l.invariant.1 (eqb-false _ _ off) (kept_byte_lem a.self.now.parity.r a.self.now.lost d l.p off))
      ],
    )

pub returns : goal.returns
returns c =
    let l = c.loop-p in
    let a = c.args in
    let d = column a.block.now a.j in
    holds-whole (solved a.self.now.parity.r a.self.now.lost d) (kept a.self.now.lost d) 0 l.p (omega arith) l.invariant.1.bytes
