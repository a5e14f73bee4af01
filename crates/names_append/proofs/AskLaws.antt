-- Sweep 3 by entries: what one asks of its child, and what is left to be appended. Assumes nothing.
use mathlib.Core.Path.{◌≡◌, refl, sym, ap, ap₂, subst, ◌∙◌}
use mathlib.Core.Bool.{Bool, true, false, not, ◌&&◌}
use mathlib.Core.List.{List, [], ◌∷◌}
use mathlib.Core.Logic.{◌⊎◌, inl, inr}
use Prim.Native.Nat.{ℕ, suc, ◌+◌, ◌-◌, ◌*◌, ◌/◌, ◌≤◌, ◌<◌}
use native.Mathlib.Numerals.{add-one}
use native.Mathlib.Omega.{arith}
use borrow.Author.Tests.{leb-true, not-true}
use borrow.Rule.Slice.PartMut.{put_mid}
use lib.ListN.{length, take, drop, set, drop_of_length-le}
use lib.Dec.{leb}
use lib.Seq.{sets, drop-cons}
use Rattle.wire.proofs.Both.{and_first, and_second}
use Rattle.fid.specs.declared.MdtFid.{MdtFid}
use Rattle.linkea.specs.Link.{Link}
use Rattle.linkea.specs.Conditions.{some, bad_byte}
use Rattle.tables.proofs.AllLaws.{part_is}
use Rattle.names.specs.Rows.{Entry, Child, entry_size, child_size, name_room, is_none, child_at, child_of, with_link_ea, name_length, name_bytes, decode_entry, decode_child, parse_entries, parse_children}
use Rattle.names.specs.Check.{good_name, good_link_ea, SoundNames}
use Rattle.names.specs.Findings.{link_for, has_link}
use Rattle.names.specs.Sweeps.{mends, lacks, grown_link, outgrows, appending, asks, onward, Appends, sweep3}
use Rattle.names.proofs.SoundLaws.{parsed_entries, parsed_child}
use Rattle.names_check.specs.Asked.{asked, entry_at}
use Rattle.names_check.proofs.LinkLaws.{asked_for}
use Rattle.names_check.proofs.FindingLaws.{entry_row}
use Rattle.names_store.proofs.StoreLaws.{row_back, child_stored, child_sound}
use Rattle.names_append.specs.Asking.{asked_by, children_after, appends_of}
use Rattle.names_append.specs.declared.Asked.{Asked}
use Rattle.names_append.specs.declared.Asked.TheVariants.{Nothing, Room, More}

-- ## What an entry asks

-- x is what entry e asks of the children cs, and ds are the children after it
abbrev pub Answers : (MdtFid → Bool) → List Child → Entry → Asked → List Child → Type 0
Answers seen cs e x ds = (asked_by x ≡ asks seen cs e) × (ds ≡ children_after (asked_by x) cs e)

module _ (seen : MdtFid → Bool) (cs : List Child) (e : Entry) where
  lacks_not : lacks seen cs e ≡ false → Answers seen cs e Nothing cs
  unfolding asks asked_by children_after
  lacks_not h = (rw h, refl)

  pub not_visible : seen e.parent ≡ false → Answers seen cs e Nothing cs
  unfolding lacks mends
  not_visible h = lacks_not (rw h)

  pub no_self : is_none (child_of cs e).self ≡ true → Answers seen cs e Nothing cs
  unfolding lacks mends
  no_self h = lacks_not (go (seen e.parent))
    where
      go : (b : Bool) → (b && not (is_none (child_of cs e).self) && not (has_link (link_for e) (child_of cs e))) ≡ false
      go true = rw h
      go false = refl

  pub has_its : has_link (link_for e) (child_of cs e) ≡ true → Answers seen cs e Nothing cs
  unfolding lacks
  has_its h = lacks_not (go (mends seen cs e))
    where
      go : (b : Bool) → (b && not (has_link (link_for e) (child_of cs e))) ≡ false
      go true = rw h
      go false = refl

  -- an entry whose child lacks its record
  module _ (v : seen e.parent ≡ true) (s : is_none (child_of cs e).self ≡ false) (l : has_link (link_for e) (child_of cs e) ≡ false) where
    pub has_no_room : outgrows (child_of cs e) (link_for e) ≡ true → Answers seen cs e More cs
    unfolding asks lacks mends asked_by children_after
    has_no_room h = (rw (v, s, l, h), refl)

    pub has_room : outgrows (child_of cs e) (link_for e) ≡ false → Answers seen cs e Room (appending cs e)
    unfolding asks lacks mends asked_by children_after
    has_room h = (rw (v, s, l, h), refl)

-- ## Names

module _ (row : List ℕ) (h : good_name row ≡ true) where
  pub name_some : 1 ≤ name_length row
  unfolding good_name
  name_some =
      let a : Bool = leb 1 (name_length row) in
      let b : Bool = leb (name_length row) name_room in
      leb-true 1 (name_length row) (and_first a b (and_first (a && b) (not (some bad_byte (name_bytes row))) h))

  pub name_clean : some bad_byte (decode_entry row).name ≡ false
  unfolding good_name decode_entry
  name_clean =
      not-true _ (and_second (leb 1 (name_length row) && leb (name_length row) name_room) (not (some bad_byte (name_bytes row))) h)

-- ## The record of an entry written in the row of its child

-- entry i, its name and its record, by its row
module _ (e row : List ℕ) (i : ℕ) (p : row ≡ take entry_size (drop (entry_size * i) e)) where
  pub its_entry : decode_entry row ≡ entry_at e i
  unfolding entry_at
  its_entry = ap decode_entry p

  pub its_length : (name : List ℕ) → name ≡ (decode_entry row).name → length (link_for (entry_at e i)).name ≡ length name
  unfolding link_for
  its_length name q = ap (λ (n : Entry). length n.name) (sym its_entry) ∙ ap length (sym q)

  pub its_record : (f : MdtFid) (name : List ℕ) → f ≡ (decode_entry row).parent → name ≡ (decode_entry row).name → asked f name ≡ link_for (entry_at e i)
  its_record f name q s = ap₂ asked q s ∙ asked_for row ∙ ap link_for its_entry

  pub its_has : (x y : Child) → x ≡ y → has_link (link_for (decode_entry row)) x ≡ has_link (link_for (entry_at e i)) y
  its_has x y q = rw (its_entry, q)

module _ (e c : List ℕ) (h : SoundNames e c) (r : ℕ) (k : r < length c / child_size) (x : Link) where
  pub link_stored : (z : List ℕ) → length z ≡ child_size →
      (let p = decode_child (take (child_size * r + child_size - child_size * r) (drop (child_size * r) c)) in decode_child z ≡ with_link_ea p (grown_link p x)) →
      good_link_ea z ≡ true →
      (parse_children (put_mid (child_size * r) (child_size * r + child_size - child_size * r) c z)
      ≡ set (parse_children c) r (with_link_ea (child_at (parse_children c) r) (grown_link (child_at (parse_children c) r) x)))
      × SoundNames e (put_mid (child_size * r) (child_size * r + child_size - child_size * r) c z)
  link_stored z n q g =
      let b : put_mid (child_size * r) (child_size * r + child_size - child_size * r) c z ≡ sets c (child_size * r) z = row_back child_size r c z z (omega arith) refl n k in
      let w : decode_child (take (child_size * r + child_size - child_size * r) (drop (child_size * r) c)) ≡ child_at (parse_children c) r =
      ap decode_child (part_is child_size (child_size * r) c) ∙ sym (parsed_child c r k) in (
        ap parse_children b ∙ child_stored e c h r k z n ∙ ap (set (parse_children c) r) (q ∙ ap (λ (y : Child). with_link_ea y (grown_link y x)) w),
        subst (SoundNames e) (sym b) (child_sound e c h r k z n g),
      )

-- what an entry appends, by its row and its record
pub record_of_entry : (cs : List Child) (e : Entry) (r : ℕ) (x : Link) → r ≡ e.child → x ≡ link_for e →
    set cs r (with_link_ea (child_at cs r) (grown_link (child_at cs r) x)) ≡ appending cs e
unfolding appending child_of
record_of_entry cs e r x p q = rw (p, q)

-- ## The sweep

module _ (seen : MdtFid → Bool) (e : List ℕ) where
  -- what is left to do from entry i on, with n records appended before
  pub swept_from : ℕ → List Child → ℕ → Appends
  swept_from i cs n = sweep3 seen (drop i (parse_entries e)) cs n i

  pub swept_start : (cs : List Child) → sweep3 seen (parse_entries e) cs 0 0 ≡ swept_from 0 cs 0
  unfolding swept_from
  swept_start cs = refl

  module _ (i : ℕ) (cs ds : List Child) (n : ℕ) (h : i < length e / entry_size) (x : Asked) (p : Answers seen cs (entry_at e i) x ds) where
    swept_next : swept_from i cs n ≡ onward (λ (ds : List Child) (m : ℕ). swept_from (i + 1) ds m) cs n i (entry_at e i) (asked_by x)
    unfolding swept_from sweep3
    swept_next =
        let d : drop i (parse_entries e) ≡ entry_at e i ∷ drop (suc i) (parse_entries e) =
        rw (drop-cons (parse_entries e) i (decode_entry []) (omega (arith, parsed_entries e)), entry_row e i h) in
        rw (add-one i, d, p.0)

    -- m records appended after an entry that asks for nothing, or for a record for which there is room
    pub swept_on : (m : ℕ) → ((x ≡ Nothing) × (m ≡ n)) ⊎ ((x ≡ Room) × (m ≡ n + 1)) → swept_from i cs n ≡ swept_from (i + 1) ds m
    unfolding asked_by children_after onward
    swept_on m (inl q) = swept_next ∙ rw (p.1, q.0, q.1)
    swept_on m (inr q) = swept_next ∙ rw (p.1, q.0, q.1, add-one n)

    pub swept_more : x ≡ More → appends_of ds (record { count = n; reached = i; full = true }) ≡ swept_from i cs n
    unfolding asked_by children_after onward appends_of
    swept_more q = sym (swept_next ∙ rw (p.1, q))

  pub swept_end : (i : ℕ) (cs : List Child) (n : ℕ) → length e / entry_size ≤ i → i ≤ length e / entry_size →
      appends_of cs (record { count = n; reached = length e / entry_size; full = false }) ≡ swept_from i cs n
  unfolding swept_from sweep3 appends_of
  swept_end i cs n h k =
      let l : length (parse_entries e) ≤ i = omega (arith, parsed_entries e) in
      let d : drop i (parse_entries e) ≡ [] = drop_of_length-le (parse_entries e) l in
      let z : i ≡ length e / entry_size = omega arith in
      rw (d, z)
