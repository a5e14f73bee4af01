use mathlib.Core.Path.{sym, ◌∙◌}
use Rattle.names_check.proofs.LinkLaws.{record_there, no_record}
use Rattle.names_check.proofs.finding.link_finding.Goals as goal

pub returns-then-has_record : goal.returns-then-has_record
returns-then-has_record c = record_there _ _ (sym c.has_record.ensures ∙ c.if-has_record.true)

pub returns : goal.returns
returns c = no_record _ _ (sym c.has_record.ensures ∙ c.if-has_record.false)
