use Prim.Native.Nat.{◌≤◌}
use Rattle.std.proofs.Common.{◌≡◌, length}
use Rattle.names.specs.Rows.{parse_children}
use Rattle.names.specs.Visible.{seen_by}
use Rattle.names_fids.proofs.NotedLaws.{NotedTo}
use Rattle.names_fids.proofs.notes.note.Given as goal

abbrev pub invariant-loop-i : goal.invariant-loop-i
invariant-loop-i l = (l.i ≤ l.count) × (length l.note-items ≡ l.count) × NotedTo (seen_by l.marks (parse_children l.children)) l.entries l.i l.note-items
