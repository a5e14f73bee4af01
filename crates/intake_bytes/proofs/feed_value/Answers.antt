use Rattle.intake_bytes.proofs.FeedLaws.{digits_then}
use Rattle.intake_bytes.proofs.feed_value.Goals as goal

pub returns : goal.returns
returns c =
    let a = c.args in
    digits_then a.buf.now a.line a.piece.now a.from _ _ _ _ _ c.feed_second-second.ensures c.feed_whole.ensures
