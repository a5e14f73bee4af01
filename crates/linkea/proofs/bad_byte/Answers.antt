use Rattle.linkea.proofs.RecordLaws.{is_zero, slash_bad}
use Rattle.linkea.proofs.bad_byte.Goals as goal

pub returns-then-b-eq-SLASH : goal.returns-then-b-eq-SLASH
returns-then-b-eq-SLASH c = slash_bad _ c.if-b-eq-SLASH.true

pub returns-else-b-eq-SLASH : goal.returns-else-b-eq-SLASH
returns-else-b-eq-SLASH c = is_zero _ c.if-b-eq-SLASH.false
