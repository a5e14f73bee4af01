-- A mending of tables that pass leaves tables that pass, the marks with them. Assumes nothing.
use mathlib.Core.Path.{◌≡◌, sym, ap, subst, ◌∙◌}
use mathlib.Core.Bool.{Bool}
use mathlib.Core.List.{List}
use Prim.Native.Nat.{ℕ, ◌≤◌}
use native.Mathlib.Omega.{arith}
use lib.ListN.{length}
use Rattle.wire.proofs.NumberLaws.{Bytes}
use Rattle.fid.specs.declared.MdtFid.{MdtFid}
use Rattle.names.specs.Rows.{Child, parse_entries, parse_children, render_entries, render_children}
use Rattle.names.specs.Check.{max_rows, SoundNames}
use Rattle.names.specs.Visible.{seen_by, good_marks}
use Rattle.names.specs.Mend.{Mended, mended}
use Rattle.names.specs.Calls.{left, mended_bytes}
use Rattle.names.specs.Promises.{EveryNamesMend}
use Rattle.names.proofs.SoundLaws.{names_facts, parsed_entries, parsed_children}
use Rattle.names_promises.proofs.EachLaws.{Each}
use Rattle.names_promises.proofs.FrameLaws.{entries_many, children_many}
use Rattle.names_promises.proofs.SelfLaws.{mended_self}
use Rattle.names_marks.proofs.KeepLaws.{seen_same}
use Rattle.names_marks.proofs.MarksKept.{SelvesStay, stays_keeps, marks_kept}
use Rattle.names_again.proofs.FitRows.{FitEntry}
use Rattle.names_again.proofs.FitSweeps.{FitChildren, mended_fit}
use Rattle.names_again.proofs.FitTables.{entries_fit, children_fit, entries_say, children_say, fit_sound}

module _ (seen : MdtFid → Bool) (e c : List ℕ) (be : Bytes e) (bc : Bytes c) (h : SoundNames e c) where
  m : Mended
  m = mended seen (parse_entries e) (parse_children c)

  many : length m.children ≡ length (parse_children c)
  unfolding m
  many = children_many seen (parse_entries e) (parse_children c)

  -- what the mending leaves fits rows
  fits : Each (FitEntry (length m.children)) m.entries × FitChildren m.children
  unfolding m
  fits =
      let f = mended_fit seen (parse_entries e) (parse_children c) (entries_fit e c h be) (children_fit e c h bc) in
      (subst (λ (n : ℕ). Each (FitEntry n) m.entries) (sym many) f.0, f.1)

  rendered_sound : SoundNames (render_entries m.entries) (render_children m.children)
  unfolding m
  rendered_sound =
      let w = names_facts e c h in
      let ne : length m.entries ≤ max_rows = omega (arith, entries_many seen (parse_entries e) (parse_children c), parsed_entries e, w.entries_whole.few) in
      let nc : length m.children ≤ max_rows = omega (arith, many, parsed_children c, w.children_whole.few) in
      fit_sound m.entries m.children fits.0 fits.1 ne nc

  rendered_entries : parse_entries (render_entries m.entries) ≡ m.entries
  rendered_entries = entries_say (length m.children) m.entries fits.0

  rendered_children : parse_children (render_children m.children) ≡ m.children
  rendered_children = children_say m.children fits.1

  stay : SelvesStay (parse_children c) m.children
  unfolding SelvesStay m
  stay r k = mended_self seen (parse_entries e) (parse_children c) r k

pub every_names_mend : EveryNamesMend
unfolding EveryNamesMend mended_bytes left m
every_names_mend entries children marks report be bc h g =
    let cs : List Child = parse_children children in
    let seen : (MdtFid → Bool) = seen_by marks cs in
    let ds : List Child = (m seen entries children be bc h).children in
    let q : parse_children (render_children ds) ≡ ds = rendered_children seen entries children be bc h in
    let l : length ds ≡ length cs = many seen entries children be bc h in
    let s : SelvesStay cs ds = stay seen entries children be bc h in
    record {
      sound = rendered_sound seen entries children be bc h;
      marked = ap (good_marks marks) q ∙ marks_kept marks cs ds g l s;
      entries_say = rendered_entries seen entries children be bc h;
      children_say = q;
      same_seen = λ f. ap (λ (xs : List Child). seen_by marks xs f) q ∙ seen_same marks cs ds (stays_keeps marks cs ds g l s) f;
    }
