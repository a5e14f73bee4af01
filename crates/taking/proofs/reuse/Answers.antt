use mathlib.Core.Path.{ap, ◌∙◌}
use native.Mathlib.Omega.{arith}
use Rattle.tables.specs.Bytes.{is_used}
use Rattle.stores.specs.UsedRow.{row_bytes}
use Rattle.taking.proofs.TakingLaws.{reuse_done}
use Rattle.taking.proofs.reuse.Goals as goal

pub row_at-requires : goal.row_at-requires
row_at-requires c = omega (arith, c.requires.1)

pub returns : goal.returns
unfolding row_bytes
returns c =
    let s = c in let a = s.args in let line = c.row_at.ensures.0 in
    reuse_done a.parents.now a.objects.now a.r a.j a.o s.requires.0.row _ c.row_at-2.ensures.0 _ c.owner_of-w.ensures
    s.requires.1 _ line (ap is_used line ∙ s.requires.2) _ c.decode_object-x.ensures _ _ c.owner_write-object.ensures c.slot_for.ensures
