use native.Mathlib.Omega.{arith}
use Rattle.names_append.specs.Asking.{appends_of}
use Rattle.names_mend.proofs.SweepLaws.{third_ready, all_swept}
use Rattle.names_mend.proofs.sweeps.sweep.Goals as goal

pub take_selves-taken-requires : goal.take_selves-taken-requires
take_selves-taken-requires c =
    (c.requires.0, c.requires.2.notes_long)

pub write_fids-written-requires : goal.write_fids-written-requires
write_fids-written-requires c =
    (c.take_selves-taken.ensures.0, c.requires.2.notes_long)

pub append_all-swept-requires : goal.append_all-swept-requires
append_all-swept-requires c =
    (c.write_fids-written.ensures.0, omega (arith, c.requires.2.notes_long, c.write_fids-written.auto.entries))

pub remove-removed-requires : goal.remove-removed-requires
unfolding appends_of
remove-removed-requires c =
    let v = c.args in
    let t = c.take_selves-taken in
    let w = c.write_fids-written in
    let u = c.append_all-swept in (
      c.append_all-swept.ensures.0,
      third_ready v.entries.now v.children.now v.marks.now v.index.now v.notes.now v.n c.requires.1 c.requires.2 t.new.children w.new.entries u.new.children
          t.auto.children w.auto.entries u.auto.children _ _ _ _ _ t.ensures.1 w.ensures.1 u.ensures.1,
    )

pub returns : goal.returns
unfolding appends_of
returns c =
    let v = c.args in
    let t = c.take_selves-taken in
    let w = c.write_fids-written in
    let u = c.append_all-swept in
    let m = c.remove-removed in (
      m.ensures.2,
      all_swept v.entries.now v.children.now v.marks.now v.index.now v.notes.now v.n c.requires.1 c.requires.2 t.new.children w.new.entries u.new.children
          t.auto.children w.auto.entries u.auto.children _ _ _ _ _ t.ensures.1 w.ensures.1 u.ensures.1 _ _ m.ensures.0 m.ensures.1,
    )
