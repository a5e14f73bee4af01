use native.Mathlib.Omega.{arith}
use mathlib.Core.Path.{sym, ◌∙◌}
use borrow.Author.Tests.{le-leb}
use Rattle.intake_bytes.proofs.WordLaws.{named_not, named_end, named_more}
use Rattle.intake_bytes.proofs.named.Goals as goal

pub returns-then-not-starts : goal.returns-then-not-starts
returns-then-not-starts c = let a = c.args in named_not a.w.now a.s.now (sym c.starts.ensures ∙ c.if-not-starts.true)

pub returns-then-s-n : goal.returns-then-s-n
returns-then-s-n c = let a = c.args in le-leb _ _ (omega arith) ∙ named_end a.w.now a.s.now (sym c.starts.ensures ∙ c.if-not-starts.false) (omega arith)

pub returns-else-s-n : goal.returns-else-s-n
returns-else-s-n c = let a = c.args in sym (named_more a.w.now a.s.now (sym c.starts.ensures ∙ c.if-not-starts.false) (omega arith))
