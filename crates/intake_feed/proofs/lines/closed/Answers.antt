use Rattle.intake_feed.specs.Piece.{closed_at}
use Rattle.intake_feed.proofs.lines.closed.Goals as goal

pub returns : goal.returns
unfolding closed_at
returns c = rw (c.new_line.ensures, c.no_marks.ensures)
