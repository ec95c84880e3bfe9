-- By the field's number.
use mathlib.Core.Path.{◌≡◌, refl, ◌∙◌}
use Prim.Native.Nat.{◌+◌}
use lib.ListN.{length}
use Rattle.profile.specs.Fields.{field}
use Rattle.profile.proofs.Table.{alone}
use Rattle.profile.proofs.Tests.{masks-fault, seeds-fault}
use borrow.Author.Rules.{rules}
use Rattle.profile.proofs.fields.Field.fault.Goals as goal

pub returns-in-Masks : goal.returns-in-Masks
unfolding field
returns-in-Masks c =
    let a = c.args in
    let long : length a.p.masks ≡ 8 = search rules in
    c.unless.ensures
    ∙ masks-fault 40 (a.at + 3) c.masks_passing-n.result a.p.masks long c.masks_passing-n.ensures.0
    ∙ rw c.in-Masks.is (alone (field 0) a.at a.p tt refl)

pub returns-in-Level : goal.returns-in-Level
unfolding field
returns-in-Level c =
    let a = c.args in
    c.unless-in-Level.ensures ∙ rw (c.level_good.ensures, c.in-Level.is) (alone (field 1) a.at a.p tt refl)

pub returns-in-Mode : goal.returns-in-Mode
unfolding field
returns-in-Mode c = c.mode_fault.ensures ∙ rw c.in-Mode.is refl

pub returns-in-K : goal.returns-in-K
unfolding field
returns-in-K c =
    let a = c.args in
    c.unless-in-K.ensures ∙ rw (c.k_good.ensures, c.in-K.is) (alone (field 3) a.at a.p tt refl)

pub returns-in-Seeds : goal.returns-in-Seeds
unfolding field
returns-in-Seeds c =
    let a = c.args in
    let long : length a.p.seeds ≡ 48 = search rules in
    c.unless-in-Seeds.ensures
    ∙ seeds-fault 44 (a.at + 3) c.seeds_passing-n.result a.p.seeds a.p.mode long c.seeds_passing-n.ensures.0
    ∙ rw c.in-Seeds.is (alone (field 4) a.at a.p tt refl)

pub returns-in-Floor : goal.returns-in-Floor
unfolding field
returns-in-Floor c =
    let a = c.args in
    c.unless-in-Floor.ensures ∙ rw (c.floor_good.ensures, c.in-Floor.is) (alone (field 5) a.at a.p tt refl)
