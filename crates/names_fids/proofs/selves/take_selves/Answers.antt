use mathlib.Core.Path.{sym, ap, ◌∙◌}
use native.Mathlib.Omega.{arith}
use lib.Seq.{get_or-take, length-take-le}
use Rattle.names.specs.Rows.{parse_children}
use Rattle.names.specs.Sweeps.{one}
use Rattle.names_store.proofs.NoteLaws.{note_at_lem}
use Rattle.names_fids.proofs.NotedLaws.{flag_one, flag_most}
use Rattle.names_fids.proofs.SelvesLaws.{swept_start, swept_next, swept_end}
use Rattle.names_fids.proofs.selves.take_selves.Goals as goal

pub loop-i-init : goal.loop-i-init
loop-i-init c =
    let a = c.args in
    (omega arith, omega arith, omega arith, c.requires.0, λ seen q. swept_start seen a.entries.now (parse_children a.children.now))

pub take_self-requires : goal.take_self-requires
take_self-requires c = (c.loop-i.invariant.3, omega (arith, length-take-le _ c.args.notes.now c.requires.1))

pub loop-i-preserved : goal.loop-i-preserved
loop-i-preserved c =
    let a = c.args in
    let t = c.take_self.ensures in
    let m = length-take-le _ a.notes.now c.requires.1 in (
      omega (arith, m),
      omega (arith, flag_most _ _ c.from-n.ensures),
      omega arith,
      t.0,
      λ seen q.
          let i = c.loop-i.invariant.4 seen q in
          let d = t.1 seen (get_or-take _ a.notes.now c.loop-i.i 0 (omega (arith, m)) ∙ note_at_lem seen a.entries.now a.notes.now c.loop-i.i (omega (arith, m)) q) in
          let k = swept_next seen a.entries.now c.loop-i.i (parse_children c.loop-i.children) _ _ c.loop-i.n (omega (arith, m))
          (d.0, flag_one _ _ c.from-n.ensures ∙ ap one d.1) in
          (i.0 ∙ k.0, i.1 ∙ k.1),
    )

pub returns : goal.returns
returns c =
    let a = c.args in (
      c.loop-i.invariant.3,
      λ seen q.
          let i = c.loop-i.invariant.4 seen q in
          let k = swept_end seen a.entries.now c.loop-i.i (parse_children c.loop-i.children) c.loop-i.n (omega (arith, length-take-le _ a.notes.now c.requires.1)) in
          (sym (i.0 ∙ k.0), sym (i.1 ∙ k.1)),
    )
