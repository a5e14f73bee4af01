use native.Mathlib.Omega.{arith}
use mathlib.Core.Path.{sym, ap, ◌∙◌}
use Rattle.std.specs.Prelude.{Result, Ok}
use Rattle.refusals.specs.declared.Refusal.{Refusal}
use Rattle.linkea.specs.declared.LinkHeader.{LinkHeader}
use Rattle.linkea.proofs.RecordLaws.{good_link, read_refused, read_accepted}
use Rattle.linkea.proofs.read.Goals as goal

pub returns-then-refused : goal.returns-then-refused
returns-then-refused c = read_refused c.args.l.now (sym c.refused.ensures ∙ c.if-refused.true)

pub read_header-requires : goal.read_header-requires
read_header-requires c =
    omega (arith, good_link c.args.l.now (sym c.refused.ensures ∙ c.if-refused.false))

pub returns : goal.returns
returns c =
    let b = c in
    ap {B = Result LinkHeader Refusal} Ok c.read_header.ensures ∙ read_accepted b.args.l.now (sym b.refused.ensures ∙ c.if-refused.false)
