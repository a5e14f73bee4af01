use mathlib.Core.Path.{◌∙◌}
use Rattle.intake_bytes.proofs.StartsLaws.{starts_is}
use Rattle.intake_bytes.proofs.starts.Goals as goal

pub returns : goal.returns
returns c = c.starts_with.ensures.value ∙ starts_is c.args.s.now c.args.w.now
