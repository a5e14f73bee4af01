use Rattle.std.proofs.Common.{refl, sym, ap, ◌∙◌}
use Rattle.refusals.specs.Numbers.{answer}
use Rattle.tables.proofs.CheckLaws.{tables_told}
use Rattle.capi_keeper.proofs.AskedLaws.{number_good, bad_table, bad_layout, bad_fid}
use Rattle.capi_keeper.proofs.check_asked.Goals as goal

pub returns-then-good_asked : goal.returns-then-good_asked
returns-then-good_asked c =
    let a = c.args in
    ap answer c.check_tables-tables.ensures ∙ tables_told a.parents.now a.objects.now _ ∙ number_good _ _ _ _ (sym c.good_asked.ensures ∙ c.if-good_asked.true)

pub returns-in_default : goal.returns-in_default
returns-in_default c =
    bad_fid _ _ _ _ (sym c.good_asked.ensures ∙ c.if-good_asked.false) (λ e. cc (c.in_default.ensures, e)) (λ e. cc (c.in_default.ensures, e))

pub returns-in-BadTable : goal.returns-in-BadTable
returns-in-BadTable c = bad_table _ _ _ _ (sym c.good_asked.ensures ∙ c.if-good_asked.false) (rw c.in-BadTable.is at c.in-Err.ensures)

pub returns-in-BadLayout : goal.returns-in-BadLayout
returns-in-BadLayout c = bad_layout _ _ _ _ (sym c.good_asked.ensures ∙ c.if-good_asked.false) (rw c.in-BadLayout.is at c.in-Err.ensures)

pub returns-in_default-refusal : goal.returns-in_default-refusal
returns-in_default-refusal c =
    bad_fid _ _ _ _ (sym c.good_asked.ensures ∙ c.if-good_asked.false)
    (λ e. c.in_default-refusal.not-BadTable (cc (c.in-Err.ensures, e)))
    (λ e. c.in_default-refusal.not-BadLayout (cc (c.in-Err.ensures, e)))
