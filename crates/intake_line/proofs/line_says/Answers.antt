use mathlib.Core.Path.{◌∙◌}
use Rattle.intake_bytes.specs.Lent.{kept_in}
use Rattle.intake_line.proofs.EndLaws.{ends_lent, ends_whole}
use Rattle.intake_line.proofs.line_says.Goals as goal

pub returns : goal.returns
returns c =
    let a = c.args in
    record {
      says = c.head_says.ensures.says (kept_in a.buf.now a.x) ∙ ends_lent a.buf.now a.x;
      whole = λ k e. ends_whole a.buf.now a.x k (c.head_says.ensures.whole k e);
    }
