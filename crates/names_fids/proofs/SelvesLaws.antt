-- Sweep 1 by entries: what one gives its child, and what is left to be taken. Assumes nothing.
use mathlib.Core.Path.{◌≡◌, refl, sym, ap, subst, ◌∙◌}
use mathlib.Core.Bool.{Bool, true, false, not, ◌&&◌}
use mathlib.Core.List.{List, [], ◌∷◌}
use Prim.Native.Nat.{ℕ, ◌+◌, ◌-◌, ◌*◌, ◌/◌, ◌≤◌, ◌<◌}
use native.Mathlib.Numerals.{add-one}
use native.Mathlib.Omega.{arith}
use borrow.Rule.Slice.PartMut.{put_mid}
use lib.ListN.{length, take, drop, set, drop_of_length-le}
use lib.Seq.{sets, drop-cons, length-sets}
use Rattle.fid.specs.Fid.{encode_fid}
use Rattle.fid.specs.declared.MdtFid.{MdtFid}
use Rattle.fid.proofs.FidLaws.{Fits}
use Rattle.tables.proofs.AllLaws.{row_fits, part_length, part_is}
use Rattle.names.specs.Rows.{Entry, Child, entry_size, child_size, is_none, child_at, child_of, with_self, decode_entry, decode_child, parse_entries, parse_children}
use Rattle.names.specs.Check.{good_link_ea, SoundNames}
use Rattle.names.specs.Sweeps.{one, gives, taking, sweep1, taken}
use Rattle.names.proofs.SoundLaws.{parsed_entries, parsed_child, link_at}
use Rattle.names_check.specs.Asked.{entry_at}
use Rattle.names_check.proofs.FindingLaws.{entry_row}
use Rattle.names_marks.proofs.PutLaws.{self_put, self_link}
use Rattle.names_store.proofs.StoreLaws.{row_back, child_stored, child_sound}

module _ (seen : MdtFid → Bool) (cs : List Child) (e : Entry) where
  gives_not : gives seen cs e ≡ false → (cs ≡ taking seen cs e) × (false ≡ gives seen cs e)
  unfolding taking
  gives_not h = (rw h, rw h)

  pub not_visible : seen e.parent ≡ false → (cs ≡ taking seen cs e) × (false ≡ gives seen cs e)
  unfolding gives
  not_visible h = gives_not (rw h)

  pub no_fid : is_none e.fid ≡ true → (cs ≡ taking seen cs e) × (false ≡ gives seen cs e)
  unfolding gives
  no_fid h = gives_not (go (seen e.parent))
    where
      go : (b : Bool) → (b && not (is_none e.fid) && is_none (child_of cs e).self) ≡ false
      go true = rw h
      go false = refl

  pub has_self_lem : is_none (child_of cs e).self ≡ false → (cs ≡ taking seen cs e) × (false ≡ gives seen cs e)
  unfolding gives
  has_self_lem h = gives_not (go (seen e.parent && not (is_none e.fid)))
    where
      go : (b : Bool) → (b && is_none (child_of cs e).self) ≡ false
      go true = h
      go false = refl

  pub takes : seen e.parent ≡ true → is_none e.fid ≡ false → is_none (child_of cs e).self ≡ true →
      (set cs e.child (with_self (child_of cs e) e.fid) ≡ taking seen cs e) × (true ≡ gives seen cs e)
  unfolding taking gives
  takes h k m = (rw (h, k, m), rw (h, k, m))

-- the child of entry i, by its row
module _ (e c : List ℕ) (i : ℕ) (row : List ℕ) (p : row ≡ take entry_size (drop (entry_size * i) e)) where
  pub its_fid : (f : MdtFid) → f ≡ (decode_entry row).fid → f ≡ (entry_at e i).fid
  unfolding entry_at
  its_fid f q = q ∙ ap (λ (l : List ℕ). (decode_entry l).fid) p

  pub its_row : (r : ℕ) → r ≡ (decode_entry row).child → r ≡ (entry_at e i).child
  unfolding entry_at
  its_row r q = q ∙ ap (λ (l : List ℕ). (decode_entry l).child) p

  pub its_child : (r : ℕ) (y : List ℕ) → r ≡ (decode_entry row).child → r < length c / child_size → y ≡ take child_size (drop (child_size * r) c) →
      decode_child y ≡ child_of (parse_children c) (entry_at e i)
  unfolding child_of
  its_child r y q h k = ap decode_child k ∙ sym (parsed_child c r h) ∙ ap (child_at (parse_children c)) (its_row r q)

-- the self FID written in row r
module _ (e c : List ℕ) (h : SoundNames e c) (r : ℕ) (k : r < length c / child_size) (f : MdtFid) (w : Fits f.0) where
  row : List ℕ
  row = take child_size (drop (child_size * r) c)

  self_row : List ℕ
  self_row = sets row 0 (encode_fid f.0)

  row_long : length row ≡ child_size
  unfolding row
  row_long = part_length child_size r c (row_fits child_size r (length c) (omega arith) k)

  self_long : length self_row ≡ child_size
  unfolding self_row
  self_long = length-sets row 0 (encode_fid f.0) ∙ row_long

  pub self_stored : (z : List ℕ) → z ≡ sets (take (child_size * r + child_size - child_size * r) (drop (child_size * r) c)) 0 (encode_fid f.0) →
      (parse_children (put_mid (child_size * r) (child_size * r + child_size - child_size * r) c z) ≡ set (parse_children c) r (with_self (child_at (parse_children c) r) f))
      × SoundNames e (put_mid (child_size * r) (child_size * r + child_size - child_size * r) c z)
  unfolding row self_row
  self_stored z q =
      let x : z ≡ self_row = q ∙ ap (λ (l : List ℕ). sets l 0 (encode_fid f.0)) (part_is child_size (child_size * r) c) in
      let b : put_mid (child_size * r) (child_size * r + child_size - child_size * r) c z ≡ sets c (child_size * r) self_row =
      row_back child_size r c self_row z (omega arith) x self_long k in
      let d : decode_child self_row ≡ with_self (child_at (parse_children c) r) f = self_put row f w row_long ∙ ap (λ (y : Child). with_self y f) (sym (parsed_child c r k)) in
      let g : good_link_ea self_row ≡ true = self_link row f w ∙ link_at e c h r k in (
        ap parse_children b ∙ child_stored e c h r k self_row self_long ∙ ap (set (parse_children c) r) d,
        subst (SoundNames e) (sym b) (child_sound e c h r k self_row self_long g),
      )

-- what an entry gives, by its row and its FID
pub self_of_entry : (cs : List Child) (e : Entry) (r : ℕ) (f : MdtFid) → r ≡ e.child → f ≡ e.fid →
    set cs r (with_self (child_at cs r) f) ≡ set cs e.child (with_self (child_of cs e) e.fid)
unfolding child_of
self_of_entry cs e r f p q = rw (p, q)

-- ## The sweep

module _ (seen : MdtFid → Bool) (e : List ℕ) where
  -- what is left to do from entry i on
  pub swept_from : ℕ → List Child → List Child
  swept_from i cs = sweep1 seen (drop i (parse_entries e)) cs

  pub taken_from : ℕ → List Child → ℕ
  taken_from i cs = taken seen (drop i (parse_entries e)) cs

  pub swept_start : (cs : List Child) → (sweep1 seen (parse_entries e) cs ≡ swept_from 0 cs) × (taken seen (parse_entries e) cs ≡ 0 + taken_from 0 cs)
  unfolding swept_from taken_from
  swept_start cs = (refl, omega arith)

  pub swept_next : (i : ℕ) (cs ds : List Child) (m n : ℕ) → i < length e / entry_size →
      (ds ≡ taking seen cs (entry_at e i)) × (m ≡ one (gives seen cs (entry_at e i))) →
      (swept_from i cs ≡ swept_from (i + 1) ds) × (n + taken_from i cs ≡ n + m + taken_from (i + 1) ds)
  unfolding swept_from taken_from sweep1 taken
  swept_next i cs ds m n h p =
      let d : drop i (parse_entries e) ≡ entry_at e i ∷ drop (i + 1) (parse_entries e) =
      rw (add-one i, drop-cons (parse_entries e) i (decode_entry []) (omega (arith, parsed_entries e)), entry_row e i h) in
      (rw (d, p.0), rw (d, p.0, p.1) (omega arith))

  pub swept_end : (i : ℕ) (cs : List Child) (n : ℕ) → length e / entry_size ≤ i → (swept_from i cs ≡ cs) × (n + taken_from i cs ≡ n)
  unfolding swept_from taken_from sweep1 taken
  swept_end i cs n h =
      let k : length (parse_entries e) ≤ i = omega (arith, parsed_entries e) in
      let d : drop i (parse_entries e) ≡ [] = drop_of_length-le (parse_entries e) k in
      (rw d, rw d (omega arith))
