-- The line that closes an entry fills a row with the bytes that the entry's lines give. Assumes nothing.
use Prim.Native.Nat.{ℕ, ◌+◌, ◌≤◌}
use mathlib.Core.Path.{◌≡◌, refl, sym, ap, subst, ◌∙◌}
use mathlib.Core.List.{List, [], ◌∷◌, ◌++◌}
use mathlib.Core.Bool.{Bool, true, false, ◌&&◌, ◌||◌, true≢false}
use native.Mathlib.Nat.{add-zero}
use native.Mathlib.Omega.{arith}
use lib.ListN.{length, take, drop, get_or}
use lib.Seq.{take_all}
use lib.Dec.{leb, ltb, eqb}
use borrow.Author.Tests.{leb-true, ltb-true, eqb-true}
use Rattle.wire.proofs.Both.{and_first, and_second}
use Rattle.fid.specs.Fid.{fid_size}
use Rattle.intake.specs.declared.Kind.TheVariants.{Lov, Fid, Lma}
use Rattle.intake.specs.Says.{lma_self_at, lma_size, older_size, good_size, wanted}
use Rattle.intake.specs.Owners.{Owning, no_owner, owning, after_line, next_owner}
use Rattle.intake.specs.Reading.{Attribute, none, had, Entry, Reading, stops_at, first_unused, parent_from, object_from, filled, fills, with_self, closes_entry, is_going}
use Rattle.intake.specs.Given.{closings, EntryAt, owners_from, ClosedEntry, GivenParent, FidSize, sixteen, older, GivenObject, RowsGiven}
use Rattle.intake.proofs.TestLaws.{by_test}
use Rattle.intake.proofs.EntryLaws.{closings_append, closings_full, closings_empty, shut_empty, Had, Kept, Opened, Stage}
use Rattle.intake.proofs.FilledLaws.{next_rest, parent_used, object_used, fill}

-- ## The reading S after these lines of all, read from R

-- one that goes on has closed an entry at each empty line, and taken an owners line for it
pub record Goes (room : ℕ) (R : Reading) (done : List (List ℕ)) (S : Reading) : Type 0 where
  pub owners : S.owners ≡ owners_from (closings done) R.owners
  pub stage : Stage room done S.entry

-- its rows, and where it goes on
pub record After (room : ℕ) (all : List (List ℕ)) (R : Reading) (done : List (List ℕ)) (S : Reading) : Type 0 where
  pub rows : RowsGiven room all R S
  pub goes : is_going S.stop ≡ true → Goes room R done S

-- a line that stops leaves the rows
pub stops : (room : ℕ) (all : List (List ℕ)) (R : Reading) (done : List (List ℕ)) (S : Reading) (q line : ℕ) → RowsGiven room all R S
    → After room all R done (stops_at S q line)
unfolding stops_at is_going
stops room all R done S q line rows =
    record { rows = record { parents = rows.parents; objects = rows.objects }; goes = λ h. absurd (true≢false (sym h)) }

-- ## The closing line

module _ (room : ℕ) (all : List (List ℕ)) (R S : Reading) (line : ℕ) (done todo : List (List ℕ)) (is : all ≡ done ++ [] ∷ todo)
    (rows : RowsGiven room all R S) (own : S.owners ≡ owners_from (closings done) R.owners) (e : Entry) (o : Opened room done e) where
  abbrev Closed : Reading → Type 0
  Closed T = After room all R (done ++ [] ∷ []) T

  refused : (q : ℕ) → Closed (stops_at S q line)
  refused q = stops room all R (done ++ [] ∷ []) S q line rows

  entry_at : EntryAt all o.entry (closings done)
  entry_at = record {
    front = o.front;
    file = o.file;
    back = todo;
    is = is ∙ ap (λ (d : List (List ℕ)). d ++ [] ∷ todo) o.is;
    begins = o.begins;
    opens = o.opens;
    unbroken = o.unbroken;
    number =
        ap closings o.is ∙ closings_append o.front (o.file ∷ o.entry)
        ∙ ap (λ (n : ℕ). closings o.front + n) (closings_full o.file o.entry o.full ∙ o.unbroken) ∙ add-zero (closings o.front);
  }

  module _ (u g i : ℕ) (rest : List ℕ) (x : next_owner S.owners ≡ owning u g i rest) where
    -- the next entry's owner is on the next line
    moves_on : (parents objects : List (List ℕ)) → RowsGiven room all R (filled S line rest parents objects) → Closed (filled S line rest parents objects)
    unfolding filled owners_from
    moves_on parents objects rs =
        record {
          rows = rs;
          goes = λ h. record {
            owners = next_rest S.owners u g i rest x ∙ ap after_line own ∙ ap (λ (n : ℕ). owners_from n R.owners) (sym (closings_empty done));
            stage = shut_empty done;
          };
        }

    module _ (m : ℕ) (z : List ℕ) (lma : Had room Lma o.entry m z) where
      lma_long : length lma.value ≡ lma_size
      unfolding good_size
      lma_long = sym lma.long ∙ eqb-true m lma_size lma.good

      -- all of the lma is kept
      lma_kept : z ≡ lma.value
      unfolding wanted
      lma_kept = lma.kept ∙ take_all lma_size lma.value (omega (arith, lma_long))

      closed_entry : ClosedEntry R.owners all
      closed_entry = record {
        entry = o.entry;
        n = closings done;
        at = entry_at;
        lma = lma.value;
        has_lma = lma.gives;
        lma_whole = lma_long;
        uid = u;
        gid = g;
        index = i;
        rest = rest;
        owner = ap next_owner (sym own) ∙ x;
      }

      -- ### A parent

      module _ (n : ℕ) (v : List ℕ) (lov : Had room Lov o.entry n v) (nothing : Kept room Fid o.entry none) where
        layout_fits : n ≤ room → length lov.value ≤ room
        layout_fits h = subst (λ (k : ℕ). k ≤ room) lov.long h

        -- a layout that fits is kept whole
        layout_kept : n ≤ room → v ≡ lov.value
        unfolding wanted
        layout_kept h = lov.kept ∙ take_all room lov.value (layout_fits h)

        parent_given_lem : n ≤ room → (before : List ℕ) → GivenParent room R.owners all before (parent_from (drop lma_self_at z) v u g before)
        unfolding closed_entry
        parent_given_lem h before = record {
          from = closed_entry;
          layout = lov.value;
          has_layout = lov.gives;
          no_fid = nothing;
          fits = layout_fits h;
          row = rw (lma_kept, layout_kept h);
        }

        fills_parent : Closed (fills room S line (drop lma_self_at z) u g i rest (had n v) none)
        unfolding fills filled
        fills_parent =
            let r : ℕ = first_unused S.parents in
            let B : List ℕ = get_or R.parents r [] in
            let free : Bool = ltb r (length S.parents) in
            by_test Closed (leb n room && free) _ _
            (λ h. moves_on _ S.objects (record {
              parents =
                  fill (GivenParent room R.owners all) (parent_used room R.owners all) R.parents S.parents _ rows.parents
                  (ltb-true r (length S.parents) (and_second (leb n room) free h))
                  (λ q. subst (λ (row : List ℕ). GivenParent room R.owners all B (parent_from (drop lma_self_at z) v u g row)) (sym q)
                  (parent_given_lem (leb-true n room (and_first (leb n room) free h)) B));
              objects = rows.objects;
            })) (λ h. refused 37)

      -- ### An object

      module _ (n : ℕ) (v : List ℕ) (fid : Had room Fid o.entry n v) (nothing : Kept room Lov o.entry none) where
        fid_long : FidSize (length fid.value)
        unfolding good_size
        fid_long = go (eqb n fid_size) refl fid.good where
          go : (t : Bool) → eqb n fid_size ≡ t → (t || eqb n older_size) ≡ true → FidSize (length fid.value)
          go true h k = sixteen (sym fid.long ∙ eqb-true n fid_size h)
          go false h k = older (sym fid.long ∙ eqb-true n older_size k)

        -- "of which only the parent counts"
        claim_kept : v ≡ take fid_size fid.value
        unfolding wanted
        claim_kept = fid.kept

        object_given : (before : List ℕ) → GivenObject R.owners all before (object_from (drop lma_self_at z) v u g i)
        unfolding closed_entry
        object_given before = record {
          from = closed_entry;
          fid = fid.value;
          has_fid_lem = fid.gives;
          no_layout = nothing;
          fid_whole = fid_long;
          row = rw (lma_kept, claim_kept);
        }

        fills_object : Closed (fills room S line (drop lma_self_at z) u g i rest none (had n v))
        unfolding fills filled
        fills_object =
            let r : ℕ = first_unused S.objects in
            by_test Closed (ltb r (length S.objects)) _ _
            (λ h. moves_on S.parents _ (record {
              parents = rows.parents;
              objects =
                  fill (GivenObject R.owners all) (object_used R.owners all) R.objects S.objects _ rows.objects
                  (ltb-true r (length S.objects) h) (λ q. object_given (get_or R.objects r []));
            })) (λ h. refused 37)

      fills_given : (a b : Attribute) → Kept room Lov o.entry a → Kept room Fid o.entry b → Closed (fills room S line (drop lma_self_at z) u g i rest a b)
      unfolding fills
      fills_given none none p q = refused 36
      fills_given (had n v) (had k w) p q = refused 36
      fills_given (had n v) none p q = fills_parent n v p q
      fills_given none (had n v) p q = fills_object n v q p

  self_given : (x : Owning) → next_owner S.owners ≡ x → (a : Attribute) → Kept room Lma o.entry a → Closed (with_self room S line e x a)
  unfolding with_self
  self_given no_owner h a k = refused _
  self_given (owning u g i rest) h none k = refused 35
  self_given (owning u g i rest) h (had m z) k = fills_given u g i rest h m z k e.lov e.fid o.lov o.fid

  pub closes_given : After room all R (done ++ [] ∷ []) (closes_entry room S line e)
  unfolding closes_entry
  closes_given = self_given (next_owner S.owners) refl e.lma o.lma
