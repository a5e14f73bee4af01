use Rattle.fid.proofs.SameLaws.{eq_same}
use Rattle.std.proofs.Common.{sym, ◌∙◌}
use Rattle.names_check.proofs.LinkLaws.{neither_fid, no_self_fid, no_dirent_fid, fid_agrees, fid_differs}
use Rattle.names_check.proofs.finding.fids_finding.Goals as goal

pub returns-in-true-true : goal.returns-in-true-true
returns-in-true-true c = neither_fid _ _ (sym c.in-true-true.ensures') (sym c.in-true-true.ensures)

pub returns-in-true-false : goal.returns-in-true-false
returns-in-true-false c = no_dirent_fid _ _ (sym c.in-true-false.ensures') (sym c.in-true-false.ensures)

pub returns-in-false-true : goal.returns-in-false-true
returns-in-false-true c = no_self_fid _ _ (sym c.in-false-true.ensures') (sym c.in-false-true.ensures)

pub returns-then-eq : goal.returns-then-eq
returns-then-eq c =
    fid_agrees _ _ (sym c.in-false-false.ensures') (sym c.in-false-false.ensures) (sym (c.eq.ensures ∙ eq_same _ _) ∙ c.if-eq.true)

pub returns-else-eq : goal.returns-else-eq
returns-else-eq c =
    fid_differs _ _ (sym c.in-false-false.ensures') (sym c.in-false-false.ensures) (sym (c.eq.ensures ∙ eq_same _ _) ∙ c.if-eq.false)
