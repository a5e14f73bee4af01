use native.Mathlib.Omega.{arith}
use mathlib.Core.Path.{sym, ◌∙◌}
use lib.ListN.{length}
use Rattle.tables.specs.Bytes.{parent_size}
use Rattle.tables.proofs.AllLaws.{row_fits}
use Rattle.intake_close.proofs.FillLaws.{free_is}
use Rattle.intake_close.proofs.CloseLaws.{parent_long, parent_none, parent_filled}
use Rattle.intake_close.proofs.closing.close_parent.Goals as goal

pub returns-then-size-gt-LAYOUT_ROOM : goal.returns-then-size-gt-LAYOUT_ROOM
returns-then-size-gt-LAYOUT_ROOM c =
    let p = c in let a = p.args in
    parent_long a.buf.now a.size a.w a.parents.now c.if-size-gt-LAYOUT_ROOM.true

pub fill_parent-requires : goal.fill_parent-requires
fill_parent-requires c =
    let a = c.args in
    (row_fits parent_size _ (length a.parents.now) (omega arith) (free_is parent_size a.parents.now _ (sym c.free_row.ensures ∙ c.in-Some.is)).1, omega arith, omega arith)

pub returns-in_default : goal.returns-in_default
returns-in_default c =
    let p = c in let a = p.args in
    parent_none a.buf.now a.size a.w a.parents.now (omega arith) (sym c.free_row.ensures ∙ c.in_default.is)

pub returns : goal.returns
returns c =
    let p = c in let a = p.args in
    parent_filled a.buf.now a.size a.w a.parents.now (omega arith) _ _ p.requires (sym c.free_row.ensures ∙ c.in-Some.is) c.fill_parent.ensures
