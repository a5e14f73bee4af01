use mathlib.Core.Path.{sym, ◌∙◌}
use Rattle.decide_slots.proofs.SlotLaws.{redirect_none, redirect_done}
use Rattle.decide_slots.proofs.redirect_to.Goals as goal

pub returns-in_default : goal.returns-in_default
returns-in_default c = let a = c.args in redirect_none a.parents.now a.objects.now a.at.row a.at.index a.at.ost a.f (sym c.free_object.ensures ∙ c.in_default.is)

pub returns : goal.returns
returns c = let a = c.args in redirect_done a.parents.now a.objects.now a.at.row a.at.index a.at.ost a.f c.in-Some.o (sym c.free_object.ensures ∙ c.in-Some.is) _ c.new_object-x.ensures
