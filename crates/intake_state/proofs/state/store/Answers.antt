use Prim.Native.Nat.{ℕ}
use mathlib.Core.Path.{ap, ◌∙◌}
use mathlib.Core.List.{[], ◌∷◌}
use lib.Seq.{sets}
use Rattle.intake_state.specs.State.{eights}
use native.Mathlib.Omega.{arith}
use Rattle.intake_state.proofs.NumberLaws.{stored_is}
use Rattle.intake_state.proofs.state.store.Goals as goal

pub returns : goal.returns
returns c =
    let a = c.args in stored_is a.state.now a.k _ _ _ _ (omega arith) c.put_three.ensures c.put_three-2.ensures c.put_three-3.ensures (c.put_three-4.ensures ∙ ap (λ (n : ℕ). sets c.put_three-3.new.state 72 (eights (n ∷ a.k.reader.line.size ∷ 0 ∷ []))) c.half_number.ensures) (omega arith) (omega arith) (omega arith) (omega arith) (omega arith) (omega arith) (omega arith) (omega arith) (omega arith) (omega arith) (omega arith)
