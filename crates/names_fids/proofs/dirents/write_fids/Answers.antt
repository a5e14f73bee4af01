use mathlib.Core.Path.{sym, ap, ◌∙◌}
use native.Mathlib.Omega.{arith}
use lib.Seq.{get_or-take, length-take-le}
use Rattle.names.specs.Rows.{parse_children}
use Rattle.names.specs.Sweeps.{one}
use Rattle.names_store.specs.Notes.{note_of}
use Rattle.names_store.proofs.NoteLaws.{note_at_lem}
use Rattle.names_fids.proofs.NotedLaws.{flag_one, flag_most}
use Rattle.names_fids.proofs.DirentLaws.{done_start, done_at, done_next, done_all}
use Rattle.names_fids.proofs.dirents.write_fids.Goals as goal

pub loop-i-init : goal.loop-i-init
loop-i-init c =
    let a = c.args in
    (omega arith, omega arith, omega arith, c.requires.0, λ seen q. done_start seen (parse_children a.children.now) a.entries.now)

pub write_fid-requires : goal.write_fid-requires
write_fid-requires c = (c.loop-i.invariant.3, omega (arith, length-take-le _ c.args.notes.now c.requires.1))

pub loop-i-preserved : goal.loop-i-preserved
loop-i-preserved c =
    let a = c.args in
    let cs = parse_children a.children.now in
    let b = length-take-le _ a.notes.now c.requires.1 in
    let t = c.write_fid.ensures in (
      omega (arith, b),
      omega (arith, flag_most _ _ c.from-n.ensures),
      omega arith,
      t.0,
      λ seen q.
          let i = c.loop-i.invariant.4 seen q in
          let m = done_at seen cs a.entries.now c.loop-i.i c.loop-i.entries (omega (arith, b)) c.loop-i.invariant.2 i.0 in
          let d = t.1 seen (get_or-take _ a.notes.now c.loop-i.i 0 (omega (arith, b)) ∙ note_at_lem seen a.entries.now a.notes.now c.loop-i.i (omega (arith, b)) q ∙ ap (note_of seen) (sym m)) in
          let k = done_next seen cs a.entries.now c.loop-i.i c.loop-i.entries _ _ c.loop-i.n (omega (arith, b)) c.loop-i.invariant.2 i.0
          (d.0, flag_one _ _ c.from-n.ensures ∙ ap one d.1) in
          (k.0, i.1 ∙ k.1),
    )

pub returns : goal.returns
returns c =
    let a = c.args in (
      c.loop-i.invariant.3,
      λ seen q.
          let i = c.loop-i.invariant.4 seen q in
          let k = done_all seen (parse_children a.children.now) a.entries.now c.loop-i.i c.loop-i.entries c.loop-i.n (omega (arith, length-take-le _ a.notes.now c.requires.1)) i.0 in
          (k.0, sym (i.1 ∙ k.1)),
    )
