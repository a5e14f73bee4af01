use mathlib.Core.Path.{sym, ◌∙◌}
use Rattle.decide_objects.proofs.ObjectLaws.{new_none, new_row}
use Rattle.decide_objects.proofs.adopt_new.Goals as goal

pub returns-in_default : goal.returns-in_default
returns-in_default c = let a = c.args in new_none a.parents.now a.objects.now 0 a.x a.place (sym c.free_parent.ensures ∙ c.in_default.is)

pub returns : goal.returns
returns c = let d = c in let a = d.args in new_row a.parents.now a.objects.now d.requires.0 0 a.x a.place _ c.slot_for-s.ensures c.in-Some.r (sym c.free_parent.ensures ∙ c.in-Some.is)
