-- Entries and children that a row of bytes which passes the check says. Assumes nothing.
use mathlib.Core.Path.{◌≡◌, subst}
use mathlib.Core.Bool.{true, false}
use mathlib.Core.List.{List}
use Prim.Native.Nat.{ℕ, ◌≤◌, ◌<◌}
use native.Mathlib.Omega.{arith}
use lib.ListN.{length, drop}
use Rattle.wire.proofs.NumberLaws.{Bytes, bytes_drop, bytes_take}
use Rattle.fid.proofs.FidLaws.{Fits, fid_fits}
use Rattle.linkea.specs.Conditions.{some, bad_byte}
use Rattle.names.specs.Rows.{Entry, Child, entry_size, child_size, name_room, child_fid_at, entry_name_at, mdt_fid, child_row, name_length, name_bytes, decode_entry, encode_entry, decode_child, encode_child}
use Rattle.names.specs.Check.{good_name, good_link_ea}
use Rattle.names.proofs.BackLaws.{name_length_lem, entry_again, child_again}
use Rattle.names_check.proofs.TestLaws.{name_room_lem}
use Rattle.names_append.proofs.AskLaws.{name_some, name_clean}

-- its child is one of n
pub record FitEntry (n : ℕ) (e : Entry) : Type 0 where
  pub row : List ℕ
  pub bytes : Bytes row
  pub long : length row ≡ entry_size
  pub good : good_name row ≡ true
  pub there : child_row row < n
  pub says : decode_entry row ≡ e

pub record FitChild (c : Child) : Type 0 where
  pub row : List ℕ
  pub bytes : Bytes row
  pub long : length row ≡ child_size
  pub good : good_link_ea row ≡ true
  pub says : decode_child row ≡ c

-- ## What is known of one

module _ (n : ℕ) (e : Entry) (f : FitEntry n e) where
  -- what holds of what the row says
  said : (P : Entry → Type 0) → P (decode_entry f.row) → P e
  said P p = subst P f.says p

  -- it is written as its row
  pub entry_written : encode_entry e ≡ f.row
  entry_written = said (λ x. encode_entry x ≡ f.row) (entry_again f.row f.bytes f.long (name_room_lem f.row f.good))

  pub parent_fits : Fits e.parent.0
  unfolding decode_entry mdt_fid
  parent_fits = said (λ x. Fits x.parent.0) (fid_fits f.row f.bytes)

  pub fid_in_fits : Fits e.fid.0
  unfolding decode_entry mdt_fid
  fid_in_fits = said (λ x. Fits x.fid.0) (fid_fits (drop child_fid_at f.row) (bytes_drop child_fid_at f.row f.bytes))

  pub child_there_lem : e.child < n
  unfolding decode_entry
  child_there_lem = said (λ x. x.child < n) f.there

  pub name_bytes_lem : Bytes e.name
  unfolding decode_entry name_bytes
  name_bytes_lem = said (λ x. Bytes x.name) (bytes_take (name_length f.row) (drop entry_name_at f.row) (bytes_drop entry_name_at f.row f.bytes))

  pub name_long : (1 ≤ length e.name) × (length e.name ≤ name_room)
  unfolding decode_entry
  name_long =
      let k : name_length f.row ≤ name_room = name_room_lem f.row f.good in
      let l : length (name_bytes f.row) ≡ name_length f.row = name_length_lem f.row f.long k in
      said (λ x. (1 ≤ length x.name) × (length x.name ≤ name_room)) (omega (arith, l, name_some f.row f.good), omega (arith, l))

  pub name_is_clean : some bad_byte e.name ≡ false
  name_is_clean = said (λ x. some bad_byte x.name ≡ false) (name_clean f.row f.good)

module _ (c : Child) (f : FitChild c) where
  pub child_written : encode_child c ≡ f.row
  child_written = subst (λ x. encode_child x ≡ f.row) f.says (child_again f.row f.bytes f.long f.good)

  pub self_fits : Fits c.self.0
  unfolding decode_child mdt_fid
  self_fits = subst (λ x. Fits x.self.0) f.says (fid_fits f.row f.bytes)
