use mathlib.Core.Path.{sym, ◌∙◌}
use Rattle.tables.proofs.SoundLaws.{sound_facts}
use Rattle.classify_objects.proofs.ObjectLaws.{class_unused, class_kept, class_unnamed}
use Rattle.classify_objects.proofs.object_class.Goals as goal

pub returns-then-not-is_used : goal.returns-then-not-is_used
returns-then-not-is_used c =
    let a = c in
    class_unused a.args.parents.now a.args.objects.now a.args.o _ a.requires.1 c.row_at-row.ensures.0 (sym c.is_used.ensures ∙ c.if-not-is_used.true)

pub keeper_by-requires : goal.keeper_by-requires
keeper_by-requires c = let k = sound_facts _ _ c.requires.0 in (k.layouts, k.parents_differ)

pub returns-then-is_some : goal.returns-then-is_some
returns-then-is_some c =
    let a = c in
    class_kept a.args.parents.now a.args.objects.now a.args.o _ a.requires.1 c.row_at-row.ensures.0
    (sym c.is_used.ensures ∙ c.if-not-is_used.false) _ c.decode_object-x.ensures _ c.keeper_by.ensures _ c.is_some.ensures c.if-is_some.true

pub unnamed_class-requires : goal.unnamed_class-requires
unnamed_class-requires c = (sound_facts _ _ c.requires.0).layouts

pub returns : goal.returns
returns c =
    let a = c in
    class_unnamed a.args.parents.now a.args.objects.now a.args.o _ a.requires.1 c.row_at-row.ensures.0
    (sym c.is_used.ensures ∙ c.if-not-is_used.false) _ c.decode_object-x.ensures _ c.keeper_by.ensures _ c.is_some.ensures c.if-is_some.false _ c.unnamed_class.ensures
