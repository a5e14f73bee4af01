use Rattle.intake_feed.specs.Piece.{stopped_at}
use Rattle.intake_feed.proofs.lines.stopped.Goals as goal

pub returns : goal.returns
unfolding stopped_at
returns c = rw (c.new_line-line.ensures, c.number.ensures)
