use native.Mathlib.Omega.{arith}
use mathlib.Core.Path.{refl}
use Rattle.intake_bytes.proofs.FeedLaws.{digits_start, digits_step}
use Rattle.intake_bytes.proofs.feed_second.Goals as goal

pub returns-then-eq : goal.returns-then-eq
returns-then-eq c = let a = c.args in digits_start a.buf.now a.line a.piece.now a.from c.requires

pub returns : goal.returns
returns c =
    let a = c.args in
    digits_step a.buf.now a.line a.piece.now a.from a.buf.now a.line a.from _ _ _
    (digits_start a.buf.now a.line a.piece.now a.from c.requires) c.requires (omega arith) refl
    c.if-piece-from-eq-NEWLINE.false c.digit_byte-x.ensures
