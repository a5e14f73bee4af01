use mathlib.Core.Path.{◌∙◌}
use Rattle.intake_feed.proofs.FedLaws.{out_none, out_set}
use Rattle.intake_feed.proofs.feeding.told.Goals as goal
use Rattle.intake_feed.proofs.feeding.told.Goals.{then-k-ne0, else-k-ne0}

pub returns : goal.returns
returns c =
    let a = c.args in (
      c.told.ensures,
      elim c.if-k-ne0.branch [
        | then-k-ne0 w ↦ w.out-is ∙ out_set a.k.answer a.k.named a.out.now w.if-k-ne0.true
        | else-k-ne0 w ↦ w.out-is ∙ out_none a.k.answer a.k.named a.out.now w.if-k-ne0.false
      ],
    )
