use native.Mathlib.Omega.{arith}
use mathlib.Core.Path.{sym, ◌∙◌}
use lib.ListN.{length}
use Rattle.tables.specs.Bytes.{object_size}
use Rattle.tables.proofs.AllLaws.{row_fits}
use Rattle.intake_close.proofs.FillLaws.{free_is}
use Rattle.intake_close.proofs.CloseLaws.{object_none, object_filled}
use Rattle.intake_close.proofs.closing.close_object.Goals as goal

pub fill_object-requires : goal.fill_object-requires
fill_object-requires c =
    let a = c.args in
    (row_fits object_size _ (length a.objects.now) (omega arith) (free_is object_size a.objects.now _ (sym c.free_row.ensures ∙ c.in-Some.is)).1, omega arith)

pub returns-in_default : goal.returns-in_default
returns-in_default c =
    let p = c in let a = p.args in
    object_none a.buf.now a.w a.index a.objects.now (sym c.free_row.ensures ∙ c.in_default.is)

pub returns : goal.returns
returns c =
    let p = c in let a = p.args in
    object_filled a.buf.now a.w a.index a.objects.now _ _ (omega arith) (sym c.free_row.ensures ∙ c.in-Some.is) c.fill_object.ensures
