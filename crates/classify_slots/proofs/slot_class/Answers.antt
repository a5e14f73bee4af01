use Rattle.layout.specs.declared.Slot.TheVariants.{Names}
use mathlib.Core.Path.{◌≡◌, sym, ◌∙◌}
use borrow.Author.Tests.{not-true, not-false}
use Rattle.classify_places.proofs.ClaimLaws.{found_at}
use Rattle.tables.proofs.SoundLaws.{sound_facts}
use Rattle.classify_slots.proofs.SlotLaws.{class_hole, class_multiple, class_keeper}
use Rattle.classify_slots.proofs.slot_class.Goals as goal
use Rattle.classify_slots.proofs.slot_class.Goals.{In-Names}

-- the slot names an object
names : (c : goal.In-Names) →
    c.slot_of.result ≡ Names c.in-Names.f c.in-Names.field-1 c.in-Names.ost
names c = cc

pub slot_of-requires : goal.slot_of-requires
slot_of-requires c = ((sound_facts _ _ c.requires.0).layouts, c.requires.1)

pub keeper_by-keeper-requires : goal.keeper_by-keeper-requires
keeper_by-keeper-requires c = let k = sound_facts _ _ c.requires.0 in (k.layouts, k.parents_differ)

pub returns-then-ne : goal.returns-then-ne
returns-then-ne c =
    let a = c.args in
    class_multiple a.parents.now a.objects.now a.r a.j _ c.slot_of.ensures c.in-Names.f c.in-Names.field-1 c.in-Names.ost (names (goal.at.returns-then-ne c).In-Names)
    _ c.lookup-found.ensures _ c.claim_in.ensures _ c.keeper_by-keeper.ensures _ (found_at _ a.r a.j) (not-true _ (sym c.ne.ensures ∙ c.if-ne.true))

pub returns-in-Hole : goal.returns-in-Hole
returns-in-Hole c =
    let a = c.args in
    class_hole a.parents.now a.objects.now a.r a.j _ c.slot_of.ensures (cc)

pub returns-else-ne : goal.returns-else-ne
returns-else-ne c =
    let a = c.args in
    class_keeper a.parents.now a.objects.now a.r a.j _ c.slot_of.ensures c.in-Names.f c.in-Names.field-1 c.in-Names.ost (names (goal.at.returns-else-ne c).In-Names)
    _ c.lookup-found.ensures _ c.claim_in.ensures _ c.keeper_by-keeper.ensures _ (found_at _ a.r a.j) (not-false _ (sym c.ne.ensures ∙ c.if-ne.false))
    _ _ _ _ c.requires.1 c.row_at-row.ensures.0 c.self_of.ensures c.owner_of.ensures c.keeper_class.ensures
