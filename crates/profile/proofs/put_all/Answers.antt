-- At the loop's head, what is left to store gives all the bytes.
use Rattle.std.proofs.Common.{rules, arith, ◌+◌, ◌≤◌, length}
use Rattle.rules.specs.Profile.{Shape}
use Rattle.profile.proofs.Walk.{place_at}
use Rattle.profile.proofs.Written.{store-start, store-room, store-more}
use Rattle.profile.proofs.put_all.Goals.{After-due-due, Start}
use Rattle.profile.proofs.put_all.Goals as goal

shaped : (c : Start) → Shape c.args.p
shaped c = record { masks = search rules; level = search rules; seeds = search rules; floor = search rules }

-- the field has room
room : (c : After-due-due) → Shape c.args.p → c.loop-field.at + 3 + c.due-due.result ≤ length c.loop-field.s
room c z =
    let turn = c.loop-field in
    store-room turn.invariant z (search rules) (rw (place_at _ turn.field-index (search rules)) at c.due-due.ensures.0) c.requires

pub loop-field-init : goal.loop-field-init
loop-field-init c = store-start

pub slice_bounds-put-end : goal.slice_bounds-put-end
slice_bounds-put-end c =
    omega (arith, room (goal.at.slice_bounds-put-end c).After-due-due (shaped (goal.at.slice_bounds-put-end c).Start))

pub slice_bounds-put_value-end : goal.slice_bounds-put_value-end
slice_bounds-put_value-end c =
    omega (arith, room (goal.at.slice_bounds-put_value-end c).After-due-due (shaped (goal.at.slice_bounds-put_value-end c).Start), c.put.auto.s)

pub put-requires : goal.put-requires
put-requires c = (omega (arith, room (goal.at.put-requires c).After-due-due (shaped (goal.at.put-requires c).Start)), omega arith)

pub put_value-requires : goal.put_value-requires
put_value-requires c =
    omega (arith, room (goal.at.put_value-requires c).After-due-due (shaped (goal.at.put_value-requires c).Start), c.due-due.ensures.0, c.put.auto.s)

pub loop-field-preserved : goal.loop-field-preserved
loop-field-preserved c =
    let turn = c.loop-field in
    store-more turn.invariant (shaped (goal.at.loop-field-preserved c).Start) (search rules)
    (rw (place_at _ turn.field-index (search rules)) at c.due-due.ensures.0) c.requires
    (rw (c.tag.ensures, place_at _ turn.field-index (search rules)) at c.put.ensures)
    (rw (place_at _ turn.field-index (search rules)) at c.put_value.ensures)
