use native.Mathlib.Omega.{arith}
use Prim.Native.Nat.{ℕ}
use mathlib.Core.Path.{sym, subst}
use Rattle.std.proofs.lemmas.Result.{err_from_is_err_and}
use Rattle.refusals.specs.Numbers.{number}
use Rattle.intake_feed.specs.Feed.{PieceFed, Fed}
use Rattle.intake_feed.proofs.FedLaws.{some_number, passed, fed_refused, fed_stopped, fed_piece, goes_in, answer_fits, long_state}
use Rattle.intake_feed.proofs.feeding.feed.Goals as goal

pub returns-in_err-refusal : goal.returns-in_err-refusal
unfolding PieceFed
returns-in_err-refusal c =
    let a = c.args in
    let p = err_from_is_err_and c.from_residual.result c.from_residual.ensures.1 in
    rw (p.1, p.2) (subst (λ (n : ℕ). Fed n a.s.now a.piece.now a.file.now a.parents.now a.objects.now a.out.now a.s.now a.parents.now a.objects.now a.out.now (number c.in_err-refusal.field-0.0)) c.in_err-refusal.ensures
    (fed_refused a.s.now a.piece.now a.file.now a.parents.now a.objects.now a.out.now _ (some_number c.in_err-refusal.field-0.0)))

pub load-k-requires : goal.load-k-requires
load-k-requires c = let a = c.args in long_state a.s.now a.piece.now a.file.now a.parents.now a.objects.now _ (passed a.s.now a.piece.now a.file.now a.parents.now a.objects.now _ (sym c.in_ok-refusal.ensures))

pub told-requires : goal.told-requires
told-requires c = let a = c.args in let h = answer_fits a.s.now a.piece.now a.file.now a.parents.now a.objects.now _ _ (passed a.s.now a.piece.now a.file.now a.parents.now a.objects.now _ (sym c.in_ok-refusal.ensures)) c.load-k.ensures in ((passed a.s.now a.piece.now a.file.now a.parents.now a.objects.now _ (sym c.in_ok-refusal.ensures)).place, h.0, h.1)

pub returns-then-k-ne0 : goal.returns-then-k-ne0
unfolding PieceFed
returns-then-k-ne0 c = let a = c.args in fed_stopped a.s.now a.piece.now a.file.now a.parents.now a.objects.now a.out.now _ _ _ _ (passed a.s.now a.piece.now a.file.now a.parents.now a.objects.now _ (sym c.in_ok-refusal.ensures)) (sym c.in_ok-refusal.ensures) c.load-k.ensures c.if-k-ne0.true c.told.ensures

pub read_piece-after-requires : goal.read_piece-after-requires
read_piece-after-requires c = let a = c.args in goes_in a.s.now a.piece.now a.file.now a.parents.now a.objects.now _ _ (passed a.s.now a.piece.now a.file.now a.parents.now a.objects.now _ (sym c.in_ok-refusal.ensures)) c.load-k.ensures c.if-k-ne0.false

pub told-requires-2 : goal.told-requires-2
told-requires-2 c = let a = c.args in ((passed a.s.now a.piece.now a.file.now a.parents.now a.objects.now _ (sym c.in_ok-refusal.ensures)).place, c.read_piece-after.ensures.kept.answer, c.read_piece-after.ensures.kept.number)

pub returns : goal.returns
unfolding PieceFed
returns c = let a = c.args in fed_piece a.s.now a.piece.now a.file.now a.parents.now a.objects.now a.out.now _ _ _ _ _ _ _ _ _ (passed a.s.now a.piece.now a.file.now a.parents.now a.objects.now _ (sym c.in_ok-refusal.ensures)) (sym c.in_ok-refusal.ensures) c.load-k.ensures c.if-k-ne0.false c.read_piece-after.ensures c.store.ensures c.told-2.ensures (omega arith) (omega arith)
