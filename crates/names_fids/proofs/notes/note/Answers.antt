use mathlib.Core.Path.{◌∙◌}
use native.Mathlib.Omega.{arith}
use lib.ListN.{length-set}
use lib.Seq.{length-take-le}
use Rattle.names.specs.Rows.{parse_children}
use Rattle.names.specs.Visible.{seen_by}
use Rattle.names_fids.proofs.NotedLaws.{noted_start, noted_next, noted_all, noted_flag}
use Rattle.names_fids.proofs.notes.note.Goals as goal

pub loop-i-init : goal.loop-i-init
loop-i-init c =
    let a = c.args in
    (omega arith, length-take-le _ a.notes.now (omega arith), noted_start (seen_by a.marks.now (parse_children a.children.now)) a.entries.now _)

pub loop-i-preserved : goal.loop-i-preserved
loop-i-preserved c =
    let a = c.args in (
      omega (arith, c.loop-i.invariant.1),
      length-set c.loop-i.note-items c.loop-i.i c.from.result ∙ c.loop-i.invariant.1,
      noted_next (seen_by a.marks.now (parse_children a.children.now)) a.entries.now c.loop-i.i c.loop-i.note-items _ (omega arith) (omega arith) c.loop-i.invariant.2
          (noted_flag _ _ _ _ c.from.ensures c.entry_seen.ensures),
    )

pub returns : goal.returns
returns c =
    let a = c.args in
    noted_all (seen_by a.marks.now (parse_children a.children.now)) a.entries.now c.loop-i.i c.loop-i.note-items _ (omega arith) (omega arith) (omega arith) c.loop-i.invariant.2
