use Rattle.std.proofs.Common.{ap, ◌∙◌}
use Rattle.refusals.specs.Numbers.{answer}
use Rattle.tables.specs.Positions.{place}
use Rattle.tables.proofs.CheckLaws.{check_told}
use Rattle.capi_tables.proofs.check.Goals as goal

pub returns : goal.returns
unfolding place
returns c =
    let a = c.args in
    ap answer c.check.ensures ∙ check_told a.parents.now a.objects.now a.reserve.now a.policy (place a.stage a.row a.part)
