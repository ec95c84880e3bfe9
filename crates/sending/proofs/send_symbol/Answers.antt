-- `sending::send_symbol` meets its contract.
use mathlib.Core.Path.{◌≡◌, refl, sym, ◌∙◌, ap}
use Prim.Native.Nat.{◌<◌, ◌≤◌}
use native.Mathlib.Omega.{arith}
use borrow.Author.Rules.{rules}
use borrow.Author.Tests.{lt-ltb, le-ltb}
use lib.ListN.{length, take}
use Rattle.rules.specs.Modes.{symbols}
use Rattle.rules.specs.Block.{early}
use Rattle.rules.specs.Answers.{Answer}
use Rattle.profile.proofs.Table.{first-passed, first-stays}
use Rattle.cells.proofs.Fits.{Fits, fit as fit_lem, write_done}
use Rattle.block.proofs.Passed.{Right, right}
use Rattle.sending.proofs.Cells.{Front, front, symbol_cells}
use Rattle.laws.specs.Refused.{refusal-not-zero, passed_answer}
use Rattle.sending.proofs.send_symbol.Goals.{After-block_bits-n, In_ok-early, Else-symbol-symbol_count}
use Rattle.sending.proofs.send_symbol.Goals as goal

-- the first answer is 0
zero : (c : In_ok-early)
    → (let a = c.args in
    (early a.p (length a.«data».now) (length a.firsts.now) (length a.seconds.now) 4096).number ≡ 0)
zero c = sym (ap (λ (x : Answer). x.number) c.in_ok-early.ensures)

passed : (c : In_ok-early)
    → (let a = c.args in
    Right a.p (length a.«data».now) (length a.firsts.now) (length a.seconds.now) 4096)
passed c = right _ _ _ _ _ (zero c)

-- the bits that are lent
lent : (c : After-block_bits-n)
    → (let a = c.args in
    Front a.p a.«data».now (take c.block_bits-n.result c.sent_bits-bits.result))
lent c =
    let a = c.args in
    let b = c.sent_bits-bits in
    front a.p a.«data».now c.block_bits-n.result b.result c.block_bits-n.ensures.0
    (search rules) b.ensures

pub returns-in_err-early : goal.returns-in_err-early
returns-in_err-early c =
    let e = c.from_residual.ensures.1 in
    record {
      answer = passed_answer _ _ e (c.in_err-early.ensures ∙ sym (first-stays _ _ (λ z. refusal-not-zero _ (ap (λ (x : Answer). x.number) c.in_err-early.ensures ∙ z))));
      cells = λ z. absurd (refusal-not-zero _ (sym (ap (λ (x : Answer). x.number) (passed_answer _ _ e refl)) ∙ z));
      kept = λ _. (refl, refl);
    }

pub returns-then-symbol-symbol_count : goal.returns-then-symbol-symbol_count
returns-then-symbol-symbol_count c =
    let a = c.args in
    let past : symbols a.p.mode ≤ a.symbol = omega (arith, c.symbol_count.ensures.0) in
    record {
      answer = sym (first-passed _ _ (zero (goal.at.returns-then-symbol-symbol_count c).In_ok-early) ∙ rw (le-ltb _ _ past));
      cells = λ z. absurd (omega arith);
      kept = λ _. (refl, refl);
    }

pub sent_bits-bits-requires : goal.sent_bits-bits-requires
sent_bits-bits-requires c = let ok = passed (goal.at.sent_bits-bits-requires c).In_ok-early in (ok.range, ok.data_long)

pub slice_bounds-write_symbol-end : goal.slice_bounds-write_symbol-end
slice_bounds-write_symbol-end c = c.block_bits-n.ensures.0 ∙ sym (lent (goal.at.slice_bounds-write_symbol-end c).After-block_bits-n).long

-- a symbol of the grid fits its lists and the bits
fit : (c : After-block_bits-n)
    → (let a = c.args in
    Fits a.p.mode a.symbol (length (take c.block_bits-n.result c.sent_bits-bits.result)) (length a.firsts.now) (length a.seconds.now))
fit c =
    let a = c.args in
    let ok = right _ _ _ _ _ (sym (ap (λ (x : Answer). x.number) c.in_ok-early.ensures)) in
    let one : a.symbol < symbols a.p.mode = omega (arith, c.if-symbol-symbol_count.false, c.symbol_count.ensures.0) in
    record { firsts_long = ok.firsts_long; seconds_long = ok.seconds_long; in_grid = one; bits_long = (lent c).long }

pub unwrap-requires : goal.unwrap-requires
unwrap-requires c =
    c.write_symbol.ensures.answer ∙ fit_lem _ _ _ _ _ (fit (goal.at.unwrap-requires c).After-block_bits-n)

pub returns : goal.returns
returns c =
    let a = c.args in
    let one : a.symbol < symbols a.p.mode = omega (arith, c.if-symbol-symbol_count.false, c.symbol_count.ensures.0) in
    let written = write_done c.write_symbol.ensures (fit (goal.at.returns c).After-block_bits-n) in
    record {
      answer = sym (first-passed _ _ (zero (goal.at.returns c).In_ok-early) ∙ rw (lt-ltb _ _ one));
      cells = λ _. symbol_cells a.p a.«data».now _ (lent (goal.at.returns c).After-block_bits-n).sent a.symbol _ _ written;
      kept = λ n. absurd (n refl);
    }
