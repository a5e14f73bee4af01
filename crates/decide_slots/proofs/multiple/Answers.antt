use mathlib.Core.Path.{sym, ◌∙◌}
use Rattle.tables.specs.Bytes.{parse_parents}
use Rattle.tables.proofs.SoundLaws.{sound_facts}
use Rattle.rules.specs.Settings.{settings_of}
use Rattle.stores.specs.UsedRow.{row_bytes}
use Rattle.writes.proofs.RowLaws.{decides_rest, decides_same}
use Rattle.taking.proofs.TakingLaws.{reusable_inside, reusable_used}
use Rattle.decide_slots.proofs.SlotLaws.{multiple_off, multiple_none, multiple_some}
use Rattle.decide_slots.proofs.multiple.Goals as goal

pub returns-then-not-creates : goal.returns-then-not-creates
unfolding settings_of
returns-then-not-creates c =
    let a = c.args in
    decides_rest a.parents.now a.objects.now _
    (multiple_off a.parents.now a.objects.now (settings_of a.policy a.reserve.now) a.at.row a.at.index a.at.ost (sym c.creates.ensures ∙ c.if-not-creates.true))

pub reusable-requires : goal.reusable-requires
reusable-requires c = (sound_facts _ _ c.requires.tables).layouts

pub reuse-requires : goal.reuse-requires
reuse-requires c =
    let s = c in let a = s.args in let e = sym c.reusable.ensures ∙ c.in-Some.is in
    (s.requires, reusable_inside a.objects.now (parse_parents a.parents.now) _ c.in-Some.o e, reusable_used a.objects.now (parse_parents a.parents.now) _ c.in-Some.o e)

pub returns-in-None : goal.returns-in-None
unfolding settings_of row_bytes
returns-in-None c =
    let d = c in let s = d in let a = s.args in
    decides_same a.parents.now a.objects.now _ _ _ c.redirect.ensures
    (multiple_none a.parents.now a.objects.now (settings_of a.policy a.reserve.now) a.at.row a.at.index a.at.ost s.requires.row _ d.row_at-row.ensures.0 _ d.self_of.ensures _
    d.reusable.ensures (sym d.creates.ensures ∙ d.if-not-creates.false) c.in-None.is)

pub returns-in-Some : goal.returns-in-Some
unfolding settings_of row_bytes
returns-in-Some c =
    let d = c in let s = d in let a = s.args in decides_same a.parents.now a.objects.now _ _ _ c.reuse.ensures
    (multiple_some a.parents.now a.objects.now (settings_of a.policy a.reserve.now) a.at.row a.at.index a.at.ost s.requires.row _ d.row_at-row.ensures.0 _ d.self_of.ensures _
    d.reusable.ensures (sym d.creates.ensures ∙ d.if-not-creates.false) c.in-Some.o c.in-Some.is)
