use Rattle.tables.proofs.PositionLaws.{parsed_width}
use Rattle.tables.proofs.SoundLaws.{layout_at_lem}
use Rattle.positions.proofs.width.Goals as goal

pub row_width-requires : goal.row_width-requires
row_width-requires c = let d = c in (c.row_at.ensures.1, layout_at_lem d.args.parents.now _ d.args.r d.requires.0 d.requires.1 c.row_at.ensures.0)

pub returns : goal.returns
returns c = let d = c in parsed_width d.args.parents.now d.args.r d.requires.1 _ _ c.row_at.ensures.0 c.row_width.ensures
