-- Nothing is at fault where the profile, the state and both lengths have passed.
use mathlib.Core.Path.{sym, ap, ◌∙◌}
use Prim.Native.Nat.{◌+◌, ◌*◌, ◌≤◌}
use native.Mathlib.Omega.{arith}
use borrow.Author.Tests.{eq-eqb, le-ltb}
use lib.Ieee.Bits.{is_true}
use Rattle.rules.specs.Answers.{Answer}
use Rattle.rules.specs.Modes.{symbols}
use Rattle.rules.specs.Pieces.{seen}
use Rattle.profile.proofs.Table.{first-passed}
use Rattle.receiving.proofs.States.{is_state_lem}
use Rattle.receiving.proofs.pieces.feeding.Goals as goal

pub overflow_sub-symbol_count : goal.overflow_sub-symbol_count
overflow_sub-symbol_count c = omega (arith, ((is_state_lem _ _).0 c.in_ok-come.ensures.state.0).within, c.in_ok-come.ensures.state.1, c.symbol_count.ensures.0)

pub returns : goal.returns
returns c =
    let a = c.args in
    let w = c.in_ok-come.ensures.state in
    let within : seen a.state.now + a.firsts ≤ 4096 * symbols a.p.mode =
    omega (arith, ((is_state_lem _ _).0 w.0).within, w.1, c.symbol_count.ensures.0, c.if-firsts-symbol_count.false) in
    sym (first-passed _ _ (sym (ap (λ (x : Answer). x.number) c.in_ok-fault.ensures))
    ∙ rw (is_true _ w.0, eq-eqb _ _ c.if-firsts-seconds.false, le-ltb _ _ within))
