use mathlib.Core.Path.{sym, ◌∙◌}
use Rattle.search.proofs.FoundRows.{parent_inside}
use Rattle.classify_places.proofs.PlaceLaws.{way_far, way_absent, way_row}
use Rattle.classify_places.proofs.places.way.Goals as goal

pub returns-then-place-ge-MAX_SLOTS : goal.returns-then-place-ge-MAX_SLOTS
returns-then-place-ge-MAX_SLOTS c = let a = c.args in way_far a.parents.now a.objects.now a.place c.if-place-ge-MAX_SLOTS.true

pub row_way-requires : goal.row_way-requires
row_way-requires c = let a = c.args in (c.requires, parent_inside a.parents.now a.place.file c.in-Some.r (sym c.parent_row.ensures ∙ c.in-Some.is))

pub returns-in-None : goal.returns-in-None
returns-in-None c = let a = c.args in way_absent a.parents.now a.objects.now a.place c.if-place-ge-MAX_SLOTS.false (sym c.parent_row.ensures ∙ c.in-None.is)

pub returns-in-Some : goal.returns-in-Some
returns-in-Some c = let a = c.args in way_row a.parents.now a.objects.now a.place c.if-place-ge-MAX_SLOTS.false c.in-Some.r _ (sym c.parent_row.ensures ∙ c.in-Some.is) c.row_way.ensures
