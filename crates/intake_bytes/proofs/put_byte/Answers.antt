use mathlib.Core.Path.{sym, subst}
use mathlib.Core.List.{List}
use Prim.Native.Nat.{ℕ, ◌+◌}
use Rattle.intake_bytes.specs.declared.Half.TheVariants.{Even}
use Rattle.intake_bytes.specs.Lent.{valued, ByteStep}
use Rattle.intake_bytes.proofs.StoreLaws.{byte_stores, byte_counts}
use Rattle.intake_bytes.proofs.put_byte.Goals as goal
use Rattle.intake_bytes.proofs.put_byte.Goals.{then-x, else-x}

pub returns : goal.returns
returns c =
    let a = c.args in
    elim c.if-x.branch [
      | then-x w ↦ subst (λ (l : List ℕ). ByteStep a.buf.now a.x a.v l (valued a.x Even (a.x.size + 1))) (sym w.buf-is) (byte_stores a.buf.now a.x a.v c.requires w.if-x.true)
      | else-x w ↦ subst (λ (l : List ℕ). ByteStep a.buf.now a.x a.v l (valued a.x Even (a.x.size + 1))) (sym w.buf-is) (byte_counts a.buf.now a.x a.v c.requires w.if-x.false)
    ]
