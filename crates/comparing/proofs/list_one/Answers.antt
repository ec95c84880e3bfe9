-- Whether the difference has a place.
use mathlib.Core.Path.{◌≡◌, sym}
use Prim.Native.Nat.{◌*◌, ◌+◌, ◌-◌}
use native.Mathlib.Omega.{arith}
use borrow.Author.Rules.{rules}
use lib.ListN.{length}
use Rattle.std.proofs.lemmas.Slice.{put_mid-paste}
use Rattle.comparing.proofs.Filling.{none-gone, one-gone}
use Rattle.comparing.proofs.list_one.Goals.{Start}
use Rattle.comparing.proofs.list_one.Goals as goal

six : (c : Start) → length c.args.difference ≡ 6
six c = search rules

pub returns-then-k-list : goal.returns-then-k-list
returns-then-k-list c =
    let a = c.args in
    let whole : length a.difference ≡ 6 = six (goal.at.returns-then-k-list c).Start in
    one-gone a.list.now a.k a.difference _ c.if-k-list.true whole
    (put_mid-paste (6 * a.k) (6 * a.k + 6 - 6 * a.k) a.list.now _ a.difference 6 c.copy_from_slice.ensures.after (omega arith) (sym whole))

pub returns-else-k-list : goal.returns-else-k-list
returns-else-k-list c = none-gone c.args.list.now c.args.k c.args.difference (omega (arith, c.if-k-list.false))
