use mathlib.Core.Path.{sym, ap, ◌∙◌}
use Rattle.rules.specs.Keeper.{claim_in}
use Rattle.search.proofs.keeper.claim_in.Goals as goal

pub returns-in_err-found : goal.returns-in_err-found
unfolding claim_in
returns-in_err-found c = c.from_residual.ensures ∙ ap claim_in (sym c.in_err-found.was)

pub returns : goal.returns
unfolding claim_in
returns c = ap claim_in (sym c.in_ok-found.was)
