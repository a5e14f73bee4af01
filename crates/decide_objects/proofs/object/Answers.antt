use mathlib.Core.Logic.{⊎_elim}
use mathlib.Core.Path.{sym, ◌∙◌}
use Rattle.writes.proofs.RowLaws.{decides_rest, decides_same}
use Rattle.decide_objects.proofs.ObjectLaws.{object_kept, object_unused_row, object_named, object_spare, object_conflict, object_empty, object_orphan}
use Rattle.rules.specs.Settings.{settings_of}
use Rattle.decide_objects.proofs.object.Goals as goal

pub returns-then-not-may_adopt : goal.returns-then-not-may_adopt
unfolding settings_of
returns-then-not-may_adopt c = let a = c.args in decides_rest a.parents.now a.objects.now _ (object_kept a.parents.now a.objects.now (settings_of a.policy a.reserve.now) a.k (sym c.may_adopt.ensures ∙ c.if-not-may_adopt.true))

pub returns-in-UNUSED : goal.returns-in-UNUSED
returns-in-UNUSED c =
    let a = c.args in
    let s = settings_of a.policy a.reserve.now in
    decides_rest a.parents.now a.objects.now _
    (⊎_elim (object_unused_row a.parents.now a.objects.now s a.k _ c.object_class.ensures)
    (⊎_elim (object_named a.parents.now a.objects.now s a.k _ c.object_class.ensures)
    (⊎_elim (object_spare a.parents.now a.objects.now s a.k _ c.object_class.ensures)
    (object_conflict a.parents.now a.objects.now s a.k _ c.object_class.ensures))) c.in-UNUSED.is)

pub returns-in-EMPTY : goal.returns-in-EMPTY
unfolding settings_of
returns-in-EMPTY c = let d = c in let a = d.args in object_empty a.parents.now a.objects.now (settings_of a.policy a.reserve.now) a.k _ c.object_class.ensures d.requires.1 c.in-EMPTY.is (sym c.may_adopt.ensures ∙ c.if-not-may_adopt.false)

pub returns-in-ORPHAN : goal.returns-in-ORPHAN
unfolding settings_of
returns-in-ORPHAN c = let d = c in let a = d.args in decides_same a.parents.now a.objects.now _ _ _ c.adopt.ensures (object_orphan a.parents.now a.objects.now (settings_of a.policy a.reserve.now) a.k _ c.object_class.ensures d.requires.1 c.in-ORPHAN.is (sym c.may_adopt.ensures ∙ c.if-not-may_adopt.false))
