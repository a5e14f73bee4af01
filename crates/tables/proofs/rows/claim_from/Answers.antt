use mathlib.Core.Path.{sym, ◌∙◌}
use Rattle.tables.proofs.RowReads.{claim_none, claim_some}
use Rattle.tables.proofs.rows.claim_from.Goals as goal

pub returns-then-is_zero : goal.returns-then-is_zero
returns-then-is_zero c = claim_none _ (sym c.is_zero.ensures ∙ c.if-is_zero.true)

pub returns : goal.returns
returns c = claim_some _ (sym c.is_zero.ensures ∙ c.if-is_zero.false)
