use mathlib.Core.Path.{sym, ◌∙◌}
use native.Mathlib.Omega.{arith}
use Rattle.search.proofs.FoundRows.{object_inside}
use Rattle.decide_slots.proofs.SlotLaws.{mend_absent, mend_done}
use Rattle.decide_slots.proofs.mend.Goals as goal

pub row_at-requires : goal.row_at-requires
row_at-requires c = let a = c.args in let h = object_inside a.objects.now a.at.fid c.in-Some.o (sym c.object_row.ensures ∙ c.in-Some.is) in omega arith

pub returns-in_default : goal.returns-in_default
returns-in_default c = let a = c.args in mend_absent a.parents.now a.objects.now a.at.fid a.class a.at.row a.at.index a.at.generation a.at.ost (sym c.object_row.ensures ∙ c.in_default.is)

pub returns : goal.returns
returns c = let d = c in let a = d.args in mend_done a.parents.now a.objects.now a.at.fid a.class a.at.row a.at.index a.at.generation a.at.ost d.in-Some.o (sym d.object_row.ensures ∙ d.in-Some.is) _ c.row_at.ensures.0 _ c.decode_object-x.ensures _ _ c.mend_write-object.ensures c.index_write-layout.ensures
