use Rattle.intake_bytes.proofs.FeedLaws.{digits_then}
use Rattle.intake_bytes.proofs.feed_whole.Goals as goal

pub returns : goal.returns
returns c =
    let a = c.args in
    digits_then a.buf.now a.line a.piece.now a.from _ _ _ _ _ c.feed_pairs-pairs.ensures c.feed_digits-2.ensures
