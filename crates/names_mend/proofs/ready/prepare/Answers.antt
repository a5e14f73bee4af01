use mathlib.Core.Path.{sym, subst}
use Prim.Native.Nat.{ℕ}
use native.Mathlib.Omega.{arith}
use lib.ListN.{take}
use lib.Seq.{length-take-le}
use Rattle.names_marks.specs.Directories.{IndexedUnder}
use Rattle.names_mend.specs.Ready.{entries_at}
use Rattle.names_mend.proofs.ready.prepare.Goals as goal

pub slice_bounds-note-end : goal.slice_bounds-note-end
unfolding entries_at
slice_bounds-note-end c =
    omega (arith, c.entries_at-at.ensures, c.index_both-n.auto.index)

pub slice_bounds-note-end-2 : goal.slice_bounds-note-end-2
unfolding entries_at
slice_bounds-note-end-2 c =
    sym (length-take-le c.entries_at-at.result _ (omega (arith, c.entries_at-at.ensures, c.index_both-n.auto.index)))

pub note-requires : goal.note-requires
note-requires c =
    let k = c.index_both-n in
    let a = c.args in
    (subst (λ (i : ℕ). IndexedUnder a.children.now a.marks.now (take i k.new.index) k.result) (sym c.entries_at-at.ensures) k.ensures.0, omega (arith, k.auto.room))

pub returns : goal.returns
unfolding entries_at
returns c =
    let k = c.index_both-n in
    record { index_long = omega (arith, k.auto.index); notes_long = omega (arith, k.auto.room, c.note.auto.notes); directories = k.ensures.0; by_child = k.ensures.1; noted = c.note.ensures }
