use mathlib.Core.Path.{refl}
use Rattle.intake_feed.specs.Piece.{with_line}
use Rattle.intake_feed.proofs.lines.with_line.Goals as goal

pub returns : goal.returns
unfolding with_line
returns c = refl
