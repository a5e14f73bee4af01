use Rattle.std.proofs.Common.{Bool, true, false, ℕ, ◌≡◌}
use mir.Val.{bool_byte}
use Rattle.names_judge.specs.Levels.{visible_bit}
use Rattle.names_judge.proofs.NoteLaws.{note_put}
use Rattle.names_judge.proofs.climb.put_note.Goals as goal

bit_is : (v : Bool) (n : ℕ) → n ≡ bool_byte v → n ≡ visible_bit v
unfolding visible_bit
bit_is true n e = e
bit_is false n e = e

pub returns : goal.returns
returns c =
    let a = c.args in
    note_put a.r a.d _ a.v a.room.now _ (bit_is a.v _ c.from.ensures) c.put.ensures
