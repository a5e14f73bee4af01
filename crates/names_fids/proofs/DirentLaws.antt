-- Sweep 2 by entries: what is written in one, and what stands when some are done. Assumes nothing.
use mathlib.Core.Path.{◌≡◌, refl, sym, ap, subst, ◌∙◌}
use mathlib.Core.Bool.{Bool, true, false, cond, not, ◌&&◌}
use mathlib.Core.List.{List, [], ◌∷◌, map}
use Prim.Native.Nat.{ℕ, zero, suc, ◌+◌, ◌-◌, ◌*◌, ◌/◌, ◌≤◌, ◌<◌}
use native.Mathlib.Numerals.{add-one}
use native.Mathlib.Omega.{arith}
use borrow.Rule.Slice.PartMut.{put_mid}
use lib.ListN.{length, take, drop, get_or, set, drop_of_length-le}
use lib.Seq.{sets, drop-cons, length-sets, set-get_or}
use Rattle.fid.specs.Fid.{encode_fid}
use Rattle.fid.specs.declared.MdtFid.{MdtFid}
use Rattle.fid.proofs.FidLaws.{Fits}
use Rattle.fid.proofs.SameLaws.{same_is}
use Rattle.tables.proofs.AllLaws.{row_fits, part_length, part_is}
use Rattle.names.specs.Rows.{Entry, Child, entry_size, child_fid_at, is_none, child_of, with_fid, decode_entry, parse_entries}
use Rattle.names.specs.Check.{good_name, SoundNames}
use Rattle.names.specs.Findings.{same}
use Rattle.names.specs.Sweeps.{one, mends, written, differs, sweep2, writes}
use Rattle.names.proofs.SoundLaws.{parsed_entries, name_at_lem, child_at_lem}
use Rattle.names_check.specs.Asked.{entry_at}
use Rattle.names_check.proofs.FindingLaws.{entry_row}
use Rattle.names_marks.proofs.PutLaws.{entry_put, fid_name, fid_child}
use Rattle.names_store.proofs.StoreLaws.{row_back, entry_stored, entry_sound}

module _ (seen : MdtFid → Bool) (cs : List Child) (e : Entry) where
  mends_not : mends seen cs e ≡ false → (e ≡ written seen cs e) × (false ≡ differs seen cs e)
  unfolding written differs
  mends_not h = (rw h, rw h)

  pub not_visible : seen e.parent ≡ false → (e ≡ written seen cs e) × (false ≡ differs seen cs e)
  unfolding mends
  not_visible h = mends_not (rw h)

  pub no_self : is_none (child_of cs e).self ≡ true → (e ≡ written seen cs e) × (false ≡ differs seen cs e)
  unfolding mends
  no_self h = mends_not (go (seen e.parent))
    where
      go : (b : Bool) → (b && not (is_none (child_of cs e).self)) ≡ false
      go true = rw h
      go false = refl

  -- the FID that an entry has, written
  stays : (f : MdtFid) → same e.fid f ≡ true → e ≡ with_fid e f
  unfolding same with_fid
  stays f h = let p : e.fid.0 ≡ f.0 = same_is e.fid.0 f.0 h in λ i. record { parent = e.parent; child = e.child; fid = record { 0 = p i }; name = e.name; rest = e.rest }

  pub agrees : same e.fid (child_of cs e).self ≡ true → (e ≡ written seen cs e) × (false ≡ differs seen cs e)
  unfolding written differs
  agrees h = go (mends seen cs e)
    where
      go : (b : Bool) → (e ≡ cond b (with_fid e (child_of cs e).self) e) × (◌≡◌ {A = Bool} false (b && not (same e.fid (child_of cs e).self)))
      go true = (stays (child_of cs e).self h, rw h)
      go false = (refl, refl)

  pub wins : seen e.parent ≡ true → is_none (child_of cs e).self ≡ false → same e.fid (child_of cs e).self ≡ false →
      (with_fid e (child_of cs e).self ≡ written seen cs e) × (true ≡ differs seen cs e)
  unfolding written differs mends
  wins h k m = (rw (h, k), rw (h, k, m))

-- an entry that stays as it was
pub entry_stays : (e : List ℕ) (i : ℕ) (w : Entry) → i < length e / entry_size → entry_at e i ≡ w → parse_entries e ≡ set (parse_entries e) i w
entry_stays e i w h p =
    sym (set-get_or (parse_entries e) i (decode_entry [])) ∙ ap (set (parse_entries e) i) (entry_row e i h ∙ p)

-- the FID-in-dirent written in row i
module _ (e c : List ℕ) (h : SoundNames e c) (i : ℕ) (k : i < length e / entry_size) (f : MdtFid) (w : Fits f.0) where
  row : List ℕ
  row = take entry_size (drop (entry_size * i) e)

  fid_row : List ℕ
  fid_row = sets row child_fid_at (encode_fid f.0)

  row_long : length row ≡ entry_size
  unfolding row
  row_long = part_length entry_size i e (row_fits entry_size i (length e) (omega arith) k)

  fid_long : length fid_row ≡ entry_size
  unfolding fid_row
  fid_long = length-sets row child_fid_at (encode_fid f.0) ∙ row_long

  pub fid_stored : (z : List ℕ) → z ≡ sets (take (entry_size * i + entry_size - entry_size * i) (drop (entry_size * i) e)) child_fid_at (encode_fid f.0) →
      (parse_entries (put_mid (entry_size * i) (entry_size * i + entry_size - entry_size * i) e z) ≡ set (parse_entries e) i (with_fid (entry_at e i) f))
      × SoundNames (put_mid (entry_size * i) (entry_size * i + entry_size - entry_size * i) e z) c
  unfolding row fid_row entry_at
  fid_stored z q =
      let x : z ≡ fid_row = q ∙ ap (λ (l : List ℕ). sets l child_fid_at (encode_fid f.0)) (part_is entry_size (entry_size * i) e) in
      let b : put_mid (entry_size * i) (entry_size * i + entry_size - entry_size * i) e z ≡ sets e (entry_size * i) fid_row =
      row_back entry_size i e fid_row z (omega arith) x fid_long k in
      let g : good_name fid_row ≡ true = fid_name row f w ∙ name_at_lem e c h i k in (
        ap parse_entries b ∙ entry_stored e c h i k fid_row fid_long ∙ ap (set (parse_entries e) i) (entry_put row f w row_long),
        subst (λ (t : List ℕ). SoundNames t c) (sym b) (entry_sound e c h i k fid_row fid_long g (omega (arith, fid_child row f w, child_at_lem e c h i k))),
      )

pub fid_wins : (e : List ℕ) (i : ℕ) (x : Entry) (f g : MdtFid) → f ≡ g → set (parse_entries e) i (with_fid x f) ≡ set (parse_entries e) i (with_fid x g)
fid_wins e i x f g p = ap (λ (y : MdtFid). set (parse_entries e) i (with_fid x y)) p

-- ## The sweep

module _ (w : Entry → Entry) where
  -- the first i entries changed
  pub changed_to : List Entry → ℕ → List Entry
  changed_to es zero = es
  changed_to [] (suc i) = []
  changed_to (e ∷ es) (suc i) = w e ∷ changed_to es i

  pub changed_at : (es : List Entry) (i : ℕ) (d : Entry) → get_or (changed_to es i) i d ≡ get_or es i d
  unfolding changed_to
  changed_at es zero d = refl
  changed_at [] (suc i) d = refl
  changed_at (e ∷ es) (suc i) d = changed_at es i d

  pub changed_next : (es : List Entry) (i : ℕ) (d : Entry) → i < length es → set (changed_to es i) i (w (get_or es i d)) ≡ changed_to es (suc i)
  unfolding changed_to
  changed_next [] zero d h = refl
  changed_next [] (suc i) d h = refl
  changed_next (e ∷ es) zero d h = refl
  changed_next (e ∷ es) (suc i) d h = ap (λ (l : List Entry). w e ∷ l) (changed_next es i d (omega arith))

  pub changed_all : (es : List Entry) (i : ℕ) → length es ≤ i → changed_to es i ≡ map w es
  unfolding changed_to
  changed_all [] zero h = refl
  changed_all [] (suc i) h = refl
  changed_all (e ∷ es) zero h = absurd (omega arith)
  changed_all (e ∷ es) (suc i) h = ap (λ (l : List Entry). w e ∷ l) (changed_all es i (omega arith))

module _ (seen : MdtFid → Bool) (cs : List Child) (e : List ℕ) where
  -- the table t when the first i entries are done
  pub done_to : ℕ → List ℕ → Type 0
  done_to i t = parse_entries t ≡ changed_to (written seen cs) (parse_entries e) i

  pub writes_from : ℕ → ℕ
  writes_from i = writes seen cs (drop i (parse_entries e))

  pub done_start : done_to 0 e × (writes seen cs (parse_entries e) ≡ 0 + writes_from 0)
  unfolding done_to writes_from changed_to
  done_start = (refl, omega arith)

  -- entry i is still as it was
  pub done_at : (i : ℕ) (t : List ℕ) → i < length e / entry_size → length t ≡ length e → done_to i t → entry_at t i ≡ entry_at e i
  unfolding done_to
  done_at i t h l d =
      sym (entry_row t i (rw l h)) ∙ ap (λ (es : List Entry). get_or es i (decode_entry [])) d
      ∙ changed_at (written seen cs) (parse_entries e) i (decode_entry []) ∙ entry_row e i h

  pub done_next : (i : ℕ) (t u : List ℕ) (m n : ℕ) → i < length e / entry_size → length t ≡ length e → done_to i t →
      (parse_entries u ≡ set (parse_entries t) i (written seen cs (entry_at t i))) × (m ≡ one (differs seen cs (entry_at t i))) →
      done_to (i + 1) u × (n + writes_from i ≡ n + m + writes_from (i + 1))
  unfolding done_to writes_from writes
  done_next i t u m n h l d p =
      let a : entry_at t i ≡ entry_at e i = done_at i t h l d in
      let k : i < length (parse_entries e) = omega (arith, parsed_entries e) in
      let b : drop i (parse_entries e) ≡ entry_at e i ∷ drop (i + 1) (parse_entries e) =
      rw (add-one i, drop-cons (parse_entries e) i (decode_entry []) k, entry_row e i h) in
      let x : set (changed_to (written seen cs) (parse_entries e) i) i (written seen cs (entry_at e i)) ≡ changed_to (written seen cs) (parse_entries e) (i + 1) =
      rw (add-one i, ← entry_row e i h) (changed_next (written seen cs) (parse_entries e) i (decode_entry []) k) in
      (p.0 ∙ rw (d, a) x, rw (b, p.1, a) (omega arith))

  pub done_all : (i : ℕ) (t : List ℕ) (n : ℕ) → length e / entry_size ≤ i → done_to i t →
      (parse_entries t ≡ sweep2 seen cs (parse_entries e)) × (n + writes_from i ≡ n)
  unfolding done_to writes_from writes sweep2
  done_all i t n h d =
      let k : length (parse_entries e) ≤ i = omega (arith, parsed_entries e) in
      let b : drop i (parse_entries e) ≡ [] = drop_of_length-le (parse_entries e) k in
      (d ∙ changed_all (written seen cs) (parse_entries e) i k, rw b (omega arith))
