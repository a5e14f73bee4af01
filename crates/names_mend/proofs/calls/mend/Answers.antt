use mathlib.Core.Path.{◌≡◌, refl, sym, ap, ◌∙◌}
use Prim.Native.Nat.{ℕ}
use borrow.Author.Rules.{rules}
use Rattle.std.specs.Prelude.{Err}
use Rattle.refusals.specs.Numbers.{answer}
use Rattle.names.specs.Calls.{left}
use Rattle.names_check.proofs.CallLaws.{refused_not}
use Rattle.names_mend.proofs.CallLaws.{mend_facts, mend_refused, mend_done}
use Rattle.names_mend.proofs.calls.mend.Goals as goal

pub returns-in_err-mend_check : goal.returns-in_err-mend_check
returns-in_err-mend_check c =
    let a = c.args in
    let x = c.in_err-mend_check.field-0.0 in
    let e : c.from_residual.result ≡ Err x = search rules in
    ap (λ (n : ℕ). left n a.entries.now a.children.now a.marks.now a.report.now) (ap answer e)
    ∙ mend_refused a.entries.now a.children.now a.index.now a.room.now a.marks.now a.report.now _ c.in_err-mend_check.ensures (refused_not x)

pub mend_told-requires : goal.mend_told-requires
mend_told-requires c =
    let a = c.args in
    let f = mend_facts a.entries.now a.children.now a.index.now a.room.now a.marks.now a.report.now (sym c.in_ok-mend_check.ensures) in
    (f.sound, f.marked, f.index_long, f.room_long, f.report_long)

pub returns : goal.returns
returns c =
    let a = c.args in
    c.mend_told.ensures a.marks.now ∙ mend_done a.entries.now a.children.now a.index.now a.room.now a.marks.now a.report.now _ c.in_ok-mend_check.ensures refl
