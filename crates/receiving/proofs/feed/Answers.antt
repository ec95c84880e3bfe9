-- A piece that nothing is at fault with is put in.
use mathlib.Core.Path.{sym, ap}
use native.Mathlib.Omega.{arith}
use lib.ListN.{length}
use Rattle.rules.specs.Answers.{Answer}
use Rattle.receiving.proofs.States.{is_state_lem, grid-fits, feeding-taken}
use Rattle.receiving.proofs.feed.Goals as goal

pub put-requires : goal.put-requires
put-requires c =
    let a = c.args in
    let t = (feeding-taken a.p a.state.now (length a.firsts.now) (length a.seconds.now)).0 (sym (ap (λ (x : Answer). x.number) c.in_ok-feeding.ensures)) in
    (((is_state_lem _ _).0 t.1).long, t.2, omega (arith, t.3, grid-fits a.p.mode))
