-- A mending of tables that pass under marks that fit, over the bytes: what it leaves, and nothing by a second. Assumes nothing.
use mathlib.Core.Path.{◌≡◌, refl, ap, fun_ext}
use mathlib.Core.Bool.{Bool}
use mathlib.Core.List.{List}
use Prim.Native.Nat.{ℕ}
use lib.ListN.{length}
use lib.Seq.{sets}
use Rattle.wire.proofs.NumberLaws.{Bytes}
use Rattle.fid.specs.declared.MdtFid.{MdtFid}
use Rattle.names.specs.Rows.{Entry, Child, parse_entries, parse_children, render_entries, render_children}
use Rattle.names.specs.Check.{SoundNames}
use Rattle.names.specs.Visible.{seen_by}
use Rattle.names.specs.Mend.{Mended, mended}
use Rattle.names.specs.Calls.{report_numbers, left, mended_bytes}
use Rattle.names.specs.Promises.{Belong, entry_at, quiet, EveryMend, EveryNamesMend}
use Rattle.names_promises.proofs.EachLaws.{each_at}
use Rattle.names_promises.proofs.Mending.{every_mend}
use Rattle.names_again.specs.Pass.{EveryBare, mended_under, EveryUnderMarks}
use Rattle.names_again.proofs.FitRows.{FitEntry, child_there_lem}
use Rattle.names_again.proofs.FitTables.{entries_fit}
use Rattle.names_again.proofs.Again.{every_names_mend}
use Rattle.names_again.proofs.BareLaws.{every_bare}

-- every child's row is in the table
belong : (e c : List ℕ) → Bytes e → SoundNames e c → Belong (parse_entries e) (parse_children c)
unfolding Belong
belong e c b h i k =
    let n : ℕ = length (parse_children c) in
    child_there_lem n (entry_at (parse_entries e) i) (each_at (FitEntry n) (parse_entries e) (entries_fit e c h b) i k)

-- a second mending of the bytes, from one of the records
bytes_again : (seen after : MdtFid → Bool) (m : Mended) (n : ℕ) → after ≡ seen → parse_entries (render_entries m.entries) ≡ m.entries →
    parse_children (render_children m.children) ≡ m.children →
    mended seen m.entries m.children ≡ record { answer = 0; entries = m.entries; children = m.children; report = quiet n } → (ms r : List ℕ) →
    mended_bytes after (render_entries m.entries) (render_children m.children) ms r
    ≡ left 0 (render_entries m.entries) (render_children m.children) ms (sets r 0 (report_numbers (quiet n)))
unfolding mended_bytes
bytes_again seen after m n s p q h ms r =
    let t : mended after (parse_entries (render_entries m.entries)) (parse_children (render_children m.children))
    ≡ record { answer = 0; entries = m.entries; children = m.children; report = quiet n } = rw (s, p, q) h in
    ap (λ (z : Mended). left z.answer (render_entries z.entries) (render_children z.children) ms (sets r 0 (report_numbers z.report))) t

pub every_under_marks : EveryUnderMarks
unfolding EveryUnderMarks EveryNamesMend EveryMend EveryBare mended_under mended_bytes left
every_under_marks entries children marks report be bc h g ms =
    let es : List Entry = parse_entries entries in
    let cs : List Child = parse_children children in
    let seen : (MdtFid → Bool) = seen_by marks cs in
    let b = every_names_mend entries children marks report be bc h g in
    let w = every_mend seen es cs (belong entries children be h) in
    let m : Mended = mended seen es cs in
    record {
      bytes = record { sound = b.sound; marked = b.marked; entries_say = b.entries_say; children_say = b.children_say; same_seen = b.same_seen };
      mending = w;
      bare = every_bare seen es cs;
      answer = refl;
      out = refl;
      again = λ a ns r.
          bytes_again seen (seen_by marks (parse_children (render_children m.children))) m (length es) (fun_ext b.same_seen) b.entries_say
          b.children_say (w.again a) ns r;
    }
