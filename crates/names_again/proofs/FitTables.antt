-- Tables that pass the check say records that fit rows, and records that fit are written as tables that pass and say them. Assumes nothing.
use mathlib.Core.Path.{◌≡◌, refl, sym, ap, ap₂, ◌∙◌}
use mathlib.Core.Bool.{Bool, true}
use mathlib.Core.List.{List, [], ◌∷◌, map}
use Prim.Native.Nat.{ℕ, ◌*◌, ◌/◌, ◌≤◌, ◌<◌}
use native.Mathlib.Nat.{mul-div_right}
use native.Mathlib.Omega.{arith}
use borrow.Author.Tests.{lt-ltb}
use lib.ListN.{length, take, drop, get_or, length-map}
use Rattle.wire.proofs.NumberLaws.{Bytes}
use Rattle.wire.proofs.Both.{and_both}
use Rattle.tables.specs.Check.{all}
use Rattle.tables.proofs.AllLaws.{row_fits, part_length}
use Rattle.tables.proofs.ParseLaws.{join_length, rows_join}
use Rattle.tables.proofs.SoundLaws.{WholeFacts}
use Rattle.names.specs.Rows.{Entry, Child, entry_size, child_size, child_row, decode_entry, encode_entry, decode_child, encode_child, entry_rows, child_rows, parse_entries, parse_children, render_entries, render_children, no_child, child_at}
use Rattle.names.specs.Check.{max_rows, child_there, children_there, good_name, good_link_ea, SoundNames}
use Rattle.names.specs.Promises.{no_entry, entry_at}
use Rattle.names.proofs.SoundLaws.{name_at_lem, child_at_lem, link_at, parsed_entries, parsed_children, parsed_child}
use Rattle.names_promises.proofs.EachLaws.{Each, each_from, each_at}
use Rattle.names_check.specs.Asked.{entry_at as entry_of}
use Rattle.names_check.proofs.FindingLaws.{entry_row}
use Rattle.names_store.proofs.RenderBack.{row_bytes_lem}
use Rattle.names_store.proofs.StoreLaws.{facts_sound}
use Rattle.names_again.proofs.FitRows.{FitEntry, FitChild, entry_written, child_written}
use Rattle.names_again.proofs.FitSweeps.{FitChildren, fit_from_lem, fit_at}

-- ## Read

module _ (e c : List ℕ) (h : SoundNames e c) where
  pub entries_fit : Bytes e → Each (FitEntry (length (parse_children c))) (parse_entries e)
  unfolding entry_at no_entry entry_of
  entries_fit b = each_from (FitEntry (length (parse_children c))) (parse_entries e) (λ i k. fit i (omega (arith, k, parsed_entries e)))
    where
      fit : (i : ℕ) → i < length e / entry_size → FitEntry (length (parse_children c)) (entry_at (parse_entries e) i)
      fit i k =
          record {
            row = take entry_size (drop (entry_size * i) e);
            bytes = row_bytes_lem entry_size i e b;
            long = part_length entry_size i e (row_fits entry_size i (length e) (omega arith) k);
            good = name_at_lem e c h i k;
            there = omega (arith, child_at_lem e c h i k, parsed_children c);
            says = sym (entry_row e i k);
          }

  pub children_fit : Bytes c → FitChildren (parse_children c)
  children_fit b = fit_from_lem (parse_children c) (λ r k. fit r (omega (arith, k, parsed_children c)))
    where
      fit : (r : ℕ) → r < length c / child_size → FitChild (child_at (parse_children c) r)
      fit r k =
          record {
            row = take child_size (drop (child_size * r) c);
            bytes = row_bytes_lem child_size r c b;
            long = part_length child_size r c (row_fits child_size r (length c) (omega arith) k);
            good = link_at e c h r k;
            says = sym (parsed_child c r k);
          }

-- ## Written

module _ (n : ℕ) where
  entries_said : (es : List Entry) → Each (FitEntry n) es → map decode_entry (map encode_entry es) ≡ es
  entries_said [] t = refl
  entries_said (e ∷ es) t =
      ap₂ (λ (x : Entry) (xs : List Entry). x ∷ xs) (ap decode_entry (entry_written n e t.0) ∙ t.0.says) (entries_said es t.1)

  entries_pass : (test : List ℕ → Bool) → ((e : Entry) (t : FitEntry n e) → test t.row ≡ true) → (es : List Entry) → Each (FitEntry n) es →
      all test (map encode_entry es) ≡ true
  unfolding all
  entries_pass test h [] t = refl
  entries_pass test h (e ∷ es) t =
      and_both (test (encode_entry e)) (all test (map encode_entry es)) (ap test (entry_written n e t.0) ∙ h e t.0) (entries_pass test h es t.1)

children_said : (cs : List Child) → FitChildren cs → map decode_child (map encode_child cs) ≡ cs
children_said [] f = refl
children_said (c ∷ cs) f =
    ap₂ (λ (x : Child) (xs : List Child). x ∷ xs) (ap decode_child (child_written c f.0) ∙ f.0.says) (children_said cs f.1)

children_pass : (cs : List Child) → FitChildren cs → all good_link_ea (map encode_child cs) ≡ true
unfolding all
children_pass [] f = refl
children_pass (c ∷ cs) f =
    and_both (good_link_ea (encode_child c)) (all good_link_ea (map encode_child cs)) (ap good_link_ea (child_written c f.0) ∙ f.0.good) (children_pass cs f.1)

whole : (size n : ℕ) (l : List ℕ) → 1 ≤ size → length l ≡ size * n → n ≤ max_rows → WholeFacts size max_rows l
whole size n l p h k =
    let e : length l / size ≡ n = rw h (mul-div_right n p) in
    record { exact = rw e (sym h); few = rw e k }

module _ (n : ℕ) (es : List Entry) (t : Each (FitEntry n) es) where
  entry_size_lem : (i : ℕ) → i < length es → length (encode_entry (get_or es i no_entry)) ≡ entry_size
  unfolding entry_at
  entry_size_lem i k =
      let f = each_at (FitEntry n) es t i k in
      ap length (entry_written n (entry_at es i) f) ∙ f.long

  entries_length : length (render_entries es) ≡ entry_size * length es
  unfolding render_entries
  entries_length = join_length encode_entry entry_size no_entry es entry_size_lem

  entry_rows_lem : entry_rows (render_entries es) ≡ map encode_entry es
  unfolding render_entries entry_rows
  entry_rows_lem = rows_join encode_entry entry_size no_entry (omega arith) es entry_size_lem

  pub entries_say : parse_entries (render_entries es) ≡ es
  unfolding parse_entries
  entries_say = ap (λ (l : List (List ℕ)). map decode_entry l) entry_rows_lem ∙ entries_said n es t

module _ (cs : List Child) (f : FitChildren cs) where
  child_size_lem : (r : ℕ) → r < length cs → length (encode_child (get_or cs r no_child)) ≡ child_size
  unfolding child_at
  child_size_lem r k =
      let g = fit_at cs f r k in
      ap length (child_written (child_at cs r) g) ∙ g.long

  children_length : length (render_children cs) ≡ child_size * length cs
  unfolding render_children
  children_length = join_length encode_child child_size no_child cs child_size_lem

  child_rows_lem : child_rows (render_children cs) ≡ map encode_child cs
  unfolding render_children child_rows
  child_rows_lem = rows_join encode_child child_size no_child (omega arith) cs child_size_lem

  pub children_say : parse_children (render_children cs) ≡ cs
  unfolding parse_children
  children_say = ap (λ (l : List (List ℕ)). map decode_child l) child_rows_lem ∙ children_said cs f

pub fit_sound : (es : List Entry) (cs : List Child) → Each (FitEntry (length cs)) es → FitChildren cs → length es ≤ max_rows → length cs ≤ max_rows →
    SoundNames (render_entries es) (render_children cs)
unfolding children_there child_there
fit_sound es cs t f me mc =
    let n : ℕ = length cs in
    let m : length (child_rows (render_children cs)) ≡ n = ap (λ (l : List (List ℕ)). length l) (child_rows_lem cs f) ∙ length-map cs encode_child in
    facts_sound (render_entries es) (render_children cs)
    (record {
      entries_whole = whole entry_size (length es) (render_entries es) (omega arith) (entries_length n es t) me;
      children_whole = whole child_size n (render_children cs) (omega arith) (children_length cs f) mc;
      there = rw (m, entry_rows_lem n es t) (entries_pass n (child_there n) (λ e u. lt-ltb (child_row u.row) n u.there) es t);
      names = rw (entry_rows_lem n es t) (entries_pass n good_name (λ e u. u.good) es t);
      links = rw (child_rows_lem cs f) (children_pass cs f);
    })
