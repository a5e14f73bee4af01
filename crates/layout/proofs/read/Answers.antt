use native.Mathlib.Omega.{arith}
use mathlib.Core.Path.{sym, ◌∙◌}
use Rattle.layout.proofs.LayoutLaws.{read_refused, read_accepted, accepted_long}
use Rattle.layout.proofs.read.Goals as goal

pub returns-then-not-accepted : goal.returns-then-not-accepted
returns-then-not-accepted c = read_refused _ (sym c.accepted.ensures ∙ c.if-not-accepted.true)

pub read_header-requires : goal.read_header-requires
read_header-requires c = accepted_long _ (sym c.accepted.ensures ∙ c.if-not-accepted.false)

pub stripe_count-requires : goal.stripe_count-requires
stripe_count-requires c = omega (arith, accepted_long _ (sym c.accepted.ensures ∙ c.if-not-accepted.false))

pub returns : goal.returns
returns c = read_accepted _ _ _ (sym c.accepted.ensures ∙ c.if-not-accepted.false) c.read_header.ensures c.stripe_count.ensures
