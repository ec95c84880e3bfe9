-- The piece's bytes go to their part of the state, and the two bytes in front count them.
use mathlib.Core.Path.{refl, ◌∙◌}
use Prim.Native.Nat.{◌+◌}
use native.Mathlib.Omega.{arith}
use lib.ListN.{length}
use Rattle.laws.specs.Holds.{Holds}
use Rattle.laws.specs.Parts.{part-long}
use Rattle.rules.specs.Pieces.{byte_at}
use Rattle.receiving.proofs.Putting.{piece_bytes, put-done}
use Rattle.receiving.proofs.pieces.put.Goals.{After-decide_cells}
use Rattle.receiving.proofs.pieces.put.Goals as goal

-- what was put in
bytes : (c : After-decide_cells)
    → let a = c.args in
    Holds 0 (length a.firsts.now) (byte_at a.p a.firsts.now a.seconds.now) c.decide_cells.new.out
bytes c =
    let a = c.args in
    let n = c.seen-from.result in
    let long = part-long (2 + n) (2 + (n + length a.firsts.now)) a.state.now (omega arith) (omega arith) in
    piece_bytes a.p a.firsts.now a.seconds.now _ _ _ (omega (arith, long)) (omega (arith, long, c.requires.1)) c.decide_cells.ensures

pub returns : goal.returns
returns c =
    let n = c.seen-from in
    let a = c.args in
    put-done a.p a.firsts.now a.seconds.now a.state.now c.decide_cells.new.out n.result (n.result + length a.firsts.now)
    c.requires.0 n.ensures.0 refl (omega arith) (bytes (goal.at.returns c).After-decide_cells) c.copy_from_slice.new.self
    (c.copy_from_slice.ensures.after ∙ c.to_be_bytes.ensures)
