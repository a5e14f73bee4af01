-- What a mending leaves as it was: entries but for the FID-in-dirent, entries of hidden directories, and the numbers of rows. Assumes nothing.
use mathlib.Core.Path.{◌≡◌, refl, ap, ap₂, ◌∙◌}
use mathlib.Core.Bool.{Bool, true, false, cond}
use mathlib.Core.List.{List, [], ◌∷◌, map}
use Prim.Native.Nat.{ℕ, zero, suc}
use lib.ListN.{length, get_or, set, length-map, length-set}
use Rattle.fid.specs.declared.MdtFid.{MdtFid}
use Rattle.names.specs.Rows.{Entry, Child, with_fid, with_self, with_link_ea, child_of}
use Rattle.names.specs.Sweeps.{Asks, nothing, room, more, grown_link, gives, taking, sweep1, mends, written, sweep2, appending, onward, asks, sweep3, sweep4}
use Rattle.names.specs.Findings.{link_for}
use Rattle.names.specs.Mend.{first, second, third, finish, mended}
use Rattle.names.specs.Promises.{no_entry, entry_at, SameEntry}

module _ (seen : MdtFid → Bool) where
  -- ## Entries

  pub same_written : (cs : List Child) (e : Entry) → SameEntry e (written seen cs e)
  unfolding written with_fid
  same_written cs e = go (mends seen cs e)
    where
      go : (b : Bool) → SameEntry e (cond b (with_fid e (child_of cs e).self) e)
      go true = record { parent = refl; child = refl; name = refl; rest = refl }
      go false = record { parent = refl; child = refl; name = refl; rest = refl }

  same_at : (cs : List Child) (es : List Entry) (i : ℕ) → SameEntry (get_or es i no_entry) (get_or (map (written seen cs) es) i no_entry)
  same_at cs [] i = record { parent = refl; child = refl; name = refl; rest = refl }
  same_at cs (e ∷ es) zero = same_written cs e
  same_at cs (e ∷ es) (suc i) = same_at cs es i

  hidden_written : (cs : List Child) (e : Entry) → seen e.parent ≡ false → written seen cs e ≡ e
  unfolding written mends
  hidden_written cs e h = rw h

  hidden_at : (cs : List Child) (es : List Entry) (i : ℕ) → seen (get_or es i no_entry).parent ≡ false →
      get_or (map (written seen cs) es) i no_entry ≡ get_or es i no_entry
  hidden_at cs [] i h = refl
  hidden_at cs (e ∷ es) zero h = hidden_written cs e h
  hidden_at cs (e ∷ es) (suc i) h = hidden_at cs es i h

  -- after sweep 2 each field but the FID-in-dirent is as it was
  module _ (cs : List Child) where
    field_written : {A : Type 0} (f : Entry → A) → ((e : Entry) (g : MdtFid) → f (with_fid e g) ≡ f e) → (e : Entry) → f (written seen cs e) ≡ f e
    unfolding written
    field_written {A} f h e = go (mends seen cs e)
      where
        go : (b : Bool) → f (cond b (with_fid e (child_of cs e).self) e) ≡ f e
        go true = h e (child_of cs e).self
        go false = refl

    field_second : {A : Type 0} (f : Entry → A) → ((e : Entry) (g : MdtFid) → f (with_fid e g) ≡ f e) → (es : List Entry) →
        map f (sweep2 seen cs es) ≡ map f es
    unfolding sweep2
    field_second f h [] = refl
    field_second {A} f h (e ∷ es) = ap₂ (λ (x : A) (xs : List A). x ∷ xs) (field_written f h e) (field_second f h es)

    pub second_parents : (es : List Entry) → map (λ (e : Entry). e.parent) (sweep2 seen cs es) ≡ map (λ (e : Entry). e.parent) es
    unfolding with_fid
    second_parents es = field_second (λ e. e.parent) (λ e g. refl) es

    pub second_childs : (es : List Entry) → map (λ (e : Entry). e.child) (sweep2 seen cs es) ≡ map (λ (e : Entry). e.child) es
    unfolding with_fid
    second_childs es = field_second (λ e. e.child) (λ e g. refl) es

    pub second_names : (es : List Entry) → map (λ (e : Entry). e.name) (sweep2 seen cs es) ≡ map (λ (e : Entry). e.name) es
    unfolding with_fid
    second_names es = field_second (λ e. e.name) (λ e g. refl) es

  module _ (es : List Entry) (cs : List Child) where
    entries_are : (mended seen es cs).entries ≡ map (written seen (first seen es cs)) es
    unfolding mended second sweep2 finish
    entries_are = go (third seen es cs).full
      where
        go : (b : Bool) → (finish seen es cs b).entries ≡ second seen es cs
        go true = refl
        go false = refl

    pub entries_same : (i : ℕ) → SameEntry (entry_at es i) (entry_at (mended seen es cs).entries i)
    unfolding entry_at
    entries_same i = rw entries_are (same_at (first seen es cs) es i)

    pub entries_hidden : (i : ℕ) → seen (entry_at es i).parent ≡ false → entry_at (mended seen es cs).entries i ≡ entry_at es i
    unfolding entry_at
    entries_hidden i h = rw entries_are (hidden_at (first seen es cs) es i h)

    pub entries_many : length (mended seen es cs).entries ≡ length es
    entries_many = rw entries_are (length-map es (written seen (first seen es cs)))

  -- ## Children

  pub taking_many : (cs : List Child) (e : Entry) → length (taking seen cs e) ≡ length cs
  unfolding taking
  taking_many cs e = go (gives seen cs e)
    where
      go : (b : Bool) → length (cond b (set cs e.child (with_self (child_of cs e) e.fid)) cs) ≡ length cs
      go true = length-set cs e.child (with_self (child_of cs e) e.fid)
      go false = refl

  pub sweep1_many : (es : List Entry) (cs : List Child) → length (sweep1 seen es cs) ≡ length cs
  unfolding sweep1
  sweep1_many [] cs = refl
  sweep1_many (e ∷ es) cs = sweep1_many es (taking seen cs e) ∙ taking_many cs e

  pub sweep4_many : (es : List Entry) (cs : List Child) (r : ℕ) → length (sweep4 seen es cs r) ≡ length cs
  unfolding sweep4
  sweep4_many es [] r = refl
  sweep4_many es (c ∷ cs) r = ap suc (sweep4_many es cs (suc r))

  pub appending_many : (cs : List Child) (e : Entry) → length (appending cs e) ≡ length cs
  unfolding appending
  appending_many cs e = length-set cs e.child (with_link_ea (child_of cs e) (grown_link (child_of cs e) (link_for e)))

  pub sweep3_many : (es : List Entry) (cs : List Child) (n i : ℕ) → length (sweep3 seen es cs n i).children ≡ length cs
  unfolding sweep3 onward
  sweep3_many [] cs n i = refl
  sweep3_many (e ∷ es) cs n i = go (asks seen cs e) (λ ds m. sweep3_many es ds m (suc i))
    where
      go : (a : Asks) → ((ds : List Child) (m : ℕ) → length (sweep3 seen es ds m (suc i)).children ≡ length ds) →
          length (onward (λ (ds : List Child) (m : ℕ). sweep3 seen es ds m (suc i)) cs n i e a).children ≡ length cs
      go nothing rec = rec cs n
      go room rec = rec (appending cs e) (suc n) ∙ appending_many cs e
      go more rec = refl

  module _ (es : List Entry) (cs : List Child) where
    third_many : length (third seen es cs).children ≡ length cs
    unfolding third first
    third_many = sweep3_many (second seen es cs) (first seen es cs) 0 0 ∙ sweep1_many es cs

    pub children_many : length (mended seen es cs).children ≡ length cs
    unfolding mended finish
    children_many = go (third seen es cs).full
      where
        go : (b : Bool) → length (finish seen es cs b).children ≡ length cs
        go true = third_many
        go false = sweep4_many (second seen es cs) (third seen es cs).children 0 ∙ third_many
