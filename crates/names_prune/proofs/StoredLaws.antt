-- The row of a child as it is lent, and the directories after a row is stored. Assumes nothing.
use mathlib.Core.Path.{◌≡◌, refl, sym, ap, ◌∙◌}
use mathlib.Core.List.{List, [], ◌∷◌}
use Prim.Native.Nat.{ℕ, zero, suc, ◌+◌, ◌-◌, ◌*◌, ◌/◌, ◌<◌}
use native.Mathlib.Omega.{arith}
use lib.ListN.{length, take, drop, get_or, set, length-set}
use Rattle.index.specs.Entries.{sorted}
use Rattle.tables.proofs.AllLaws.{row_fits, part_length, part_is}
use Rattle.names.specs.Rows.{Child, child_size, parse_children, no_child}
use Rattle.names.specs.Visible.{seen_by}
use Rattle.names_marks.specs.Directories.{IndexedUnder, Keeps}
use Rattle.names_marks.proofs.KeepLaws.{numbers_same, seen_same}
use Rattle.names_prune.specs.Ready.{child_bytes}

-- ## The rows

module _ (c : List ℕ) (r : ℕ) where
  -- the part that is lent is the row
  pub part_row : take (child_size * r + child_size - child_size * r) (drop (child_size * r) c) ≡ child_bytes c r
  unfolding child_bytes
  part_row = part_is child_size (child_size * r) c

  pub row_size : r < length c / child_size → length (child_bytes c r) ≡ child_size
  unfolding child_bytes
  row_size h = part_length child_size r c (row_fits child_size r (length c) (omega arith) h)

-- ## The directories

self_set : (cs : List Child) (r : ℕ) (d : Child) (j : ℕ) → d.self ≡ (get_or cs r no_child).self → (get_or (set cs r d) j no_child).self ≡ (get_or cs j no_child).self
self_set [] r d j e = refl
self_set (c ∷ cs) zero d zero e = e
self_set (c ∷ cs) zero d (suc j) e = refl
self_set (c ∷ cs) (suc r) d zero e = refl
self_set (c ∷ cs) (suc r) d (suc j) e = self_set cs r d j e

module _ (marks : List ℕ) (cs ds : List Child) (r : ℕ) (d : Child) (e : ds ≡ set cs r d) (s : d.self ≡ (get_or cs r no_child).self) where
  keeps : Keeps marks cs ds
  keeps = record { long = ap length e ∙ length-set cs r d; selves = λ j h t. ap (λ (l : List Child). (get_or l j no_child).self) e ∙ self_set cs r d j s }

  pub seen_stays : seen_by marks ds ≡ seen_by marks cs
  seen_stays = λ i f. seen_same marks cs ds keeps f i

pub indexed_stays : (c d marks index : List ℕ) (n r : ℕ) (x : Child) → IndexedUnder c marks index n → length d ≡ length c →
    parse_children d ≡ set (parse_children c) r x → x.self ≡ (get_or (parse_children c) r no_child).self → IndexedUnder d marks index n
indexed_stays c d marks index n r x u l e s =
    record {
      few = rw l u.few;
      marked = rw l u.marked;
      room = u.room;
      rows = u.rows ∙ ap sorted (sym (numbers_same marks (parse_children c) (parse_children d) (keeps marks (parse_children c) (parse_children d) r x e s)));
    }
