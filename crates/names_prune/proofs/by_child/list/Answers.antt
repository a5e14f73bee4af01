use mathlib.Core.Path.{◌≡◌, sym, ap, ◌∙◌}
use Prim.Native.Nat.{ℕ, ◌/◌}
use native.Mathlib.Omega.{arith}
use lib.ListN.{length}
use Rattle.index.specs.Entries.{entries}
use Rattle.names.specs.Rows.{Entry, entry_size, parse_entries}
use Rattle.names.proofs.SoundLaws.{parsed_entries}
use Rattle.names_prune.proofs.ByChildLaws.{list_start, list_next, list_end, row_entry}
use Rattle.names_prune.proofs.by_child.list.Goals as goal

pub loop-i-init : goal.loop-i-init
loop-i-init c =
    let a = c.args in
    (omega arith, omega arith, list_start (parse_entries a.entries.now) a.index.now)

pub loop-i-preserved : goal.loop-i-preserved
loop-i-preserved c =
    let a = c.args in
    let r = c.row_at-row in
    let q = c.child_of in
    let es = parse_entries a.entries.now in (
      omega arith,
      omega arith,
      list_next es c.loop-i.i _ c.loop-i.index _ (omega (arith, parsed_entries a.entries.now)) (omega arith)
          (q.ensures ∙ ap (λ (e : Entry). e.child) (row_entry a.entries.now c.loop-i.i _ (omega arith) r.ensures.0)) (omega arith) (omega arith)
          c.put.ensures c.loop-i.invariant.2,
    )

pub returns : goal.returns
returns c =
    let a = c.args in
    let n : c.loop-i.i ≡ length a.entries.now / entry_size = omega arith in
    ap (λ (k : ℕ). entries k c.loop-i.index) (sym n)
    ∙ list_end (parse_entries a.entries.now) c.loop-i.i c.loop-i.index (omega (arith, parsed_entries a.entries.now)) c.loop-i.invariant.2
