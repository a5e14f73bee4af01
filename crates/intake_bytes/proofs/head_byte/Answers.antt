use native.Mathlib.Omega.{arith}
use Prim.Native.Nat.{ℕ, ◌+◌}
use lib.ListN.{length, set, length-set}
use mathlib.Core.Path.{◌≡◌, ap, ◌∙◌}
use Rattle.intake_bytes.specs.Lent.{want_of, base_of}
use Rattle.intake_bytes.proofs.HoldLaws.{head_step, full_step, want_fits}
use Rattle.intake_bytes.proofs.head_byte.Goals as goal

pub returns-then-x-lt-HEAD_LAST : goal.returns-then-x-lt-HEAD_LAST
returns-then-x-lt-HEAD_LAST c =
    let p = c in let a = p.args in
    head_step (want_of a.m _) a.buf.now a.x a.b p.requires.0 p.requires.1 (omega arith) (omega arith)

pub slice_bounds-kind_of-end : goal.slice_bounds-kind_of-end
slice_bounds-kind_of-end c = simp length-set (omega arith)

pub returns : goal.returns
returns c =
    let p = c in let a = p.args in
    let n : length (set a.buf.now (128 + a.x.seen) a.b) ≡ length a.buf.now = length-set a.buf.now (128 + a.x.seen) a.b in
    let most : c.most_of-most.result ≡ want_of a.m (length a.buf.now) c.kind_of-k.result =
    c.most_of-most.ensures ∙ ap (λ (z : ℕ). want_of a.m z c.kind_of-k.result) n in
    full_step (want_of a.m (length a.buf.now)) a.buf.now a.x a.b p.requires.0 p.requires.1 (omega arith) (omega arith) _ _
    (c.base_of-base.ensures ∙ ap base_of c.kind_of-k.ensures)
    (most ∙ ap (want_of a.m (length a.buf.now)) c.kind_of-k.ensures)
    (want_fits a.m (length a.buf.now) _ _ _ p.requires.0 c.base_of-base.ensures most)
