use native.Mathlib.Omega.{arith}
use mathlib.Core.Path.{sym, ◌∙◌}
use Rattle.intake_feed.proofs.FedLaws.{refuse_piece, refuse_tables, refuse_state, refuse_place, refuse_none}
use Rattle.intake_feed.proofs.feeding.refusal.Goals as goal

pub returns-then-piece-gt-MAX_PIECE : goal.returns-then-piece-gt-MAX_PIECE
returns-then-piece-gt-MAX_PIECE c = let a = c.args in refuse_piece a.s.now a.piece.now a.file.now a.parents.now a.objects.now a.places (omega arith)

pub returns-then-not-both_whole : goal.returns-then-not-both_whole
returns-then-not-both_whole c = let a = c.args in refuse_tables a.s.now a.piece.now a.file.now a.parents.now a.objects.now a.places (omega arith) (sym c.both_whole.ensures ∙ c.if-not-both_whole.true)

pub returns-then-not-state_stands : goal.returns-then-not-state_stands
returns-then-not-state_stands c = let a = c.args in refuse_state a.s.now a.piece.now a.file.now a.parents.now a.objects.now a.places (omega arith) (sym c.both_whole.ensures ∙ c.if-not-both_whole.false) (sym c.state_stands.ensures ∙ c.if-not-state_stands.true)

pub returns-then-places-lt1 : goal.returns-then-places-lt1
returns-then-places-lt1 c = let a = c.args in refuse_place a.s.now a.piece.now a.file.now a.parents.now a.objects.now a.places (omega arith) (sym c.both_whole.ensures ∙ c.if-not-both_whole.false) (sym c.state_stands.ensures ∙ c.if-not-state_stands.false) (omega arith)

pub returns : goal.returns
returns c = let a = c.args in refuse_none a.s.now a.piece.now a.file.now a.parents.now a.objects.now a.places (omega arith) (sym c.both_whole.ensures ∙ c.if-not-both_whole.false) (sym c.state_stands.ensures ∙ c.if-not-state_stands.false) (omega arith)
