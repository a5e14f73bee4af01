-- Every row of a dump's tables stands, or an entry of the dump gave it. Assumes nothing.
use Prim.Native.Nat.{ℕ, suc}
use mathlib.Core.Path.{◌≡◌, refl, sym, ap, subst, ◌∙◌}
use mathlib.Core.List.{List, [], ◌∷◌, ◌++◌}
use mathlib.Core.Bool.{false, true≢false}
use lib.Seq.{append_snoc}
use Rattle.intake.specs.Lines.{lines}
use Rattle.intake.specs.Says.{Line, opens, closes, skipped, bad, takes, line_says, is_empty}
use Rattle.intake.specs.Reading.{Open, outside, inside, Reading, stops_at, goes_on, has, attribute_of, closes_entry, on_line, is_going, take_line, read_line, read_all, dump_reading}
use Rattle.intake.specs.Given.{closings, shut, owners_from, stands, RowsGiven, EveryRowGiven}
use Rattle.intake.proofs.TestLaws.{by_test}
use Rattle.intake.proofs.TellLaws.{Tells, tells}
use Rattle.intake.proofs.EntryLaws.{closings_more, Stage, opened, skips, takes_line}
use Rattle.intake.proofs.ClosedLaws.{After, stops, closes_given}

-- ## A line

module _ (room : ℕ) (all : List (List ℕ)) (R S : Reading) (line : ℕ) (done todo : List (List ℕ)) (l : List ℕ) (is : all ≡ done ++ l ∷ todo)
    (rows : RowsGiven room all R S) (own : S.owners ≡ owners_from (closings done) R.owners) where
  abbrev Next : Reading → Type 0
  Next T = After room all R (done ++ l ∷ []) T

  refused : (q : ℕ) → Next (stops_at S q line)
  refused q = stops room all R (done ++ l ∷ []) S q line rows

  -- a line that isn't empty takes no owner
  goes_on_lem : (o : Open) → is_empty l ≡ false → Stage room (done ++ l ∷ []) o → Next (goes_on S line o)
  unfolding goes_on
  goes_on_lem o f s =
      record {
        rows = record { parents = rows.parents; objects = rows.objects };
        goes = λ h. record { owners = own ∙ ap (λ (n : ℕ). owners_from n R.owners) (sym (closings_more done l f)); stage = s };
      }

  line_given : (o : Open) (x : Line) → Stage room done o → Tells room l x → Next (on_line room S line o x)
  unfolding on_line
  line_given outside opens s t = goes_on_lem (inside _) t.0 (opened room line done l s t.0 t.1)
  line_given outside closes s t = refused 33
  line_given outside skipped s t = refused 33
  line_given outside bad s t = refused 33
  line_given outside (takes k n v) s t = refused 33
  line_given (inside e) opens s t = refused 33
  line_given (inside e) closes s t =
      subst (λ (z : List ℕ). After room all R (done ++ z ∷ []) (closes_entry room S line e)) (sym t)
      (closes_given room all R S line done todo (is ∙ ap (λ (z : List ℕ). done ++ z ∷ todo) t) rows own e s)
  line_given (inside e) skipped s t = goes_on_lem (inside e) t.0 (skips room done e s l t.0 t.1)
  line_given (inside e) bad s t = refused 33
  line_given (inside e) (takes k n v) s t =
      by_test Next (has (attribute_of k e)) _ _ (λ h. refused 34)
      (λ h. goes_on_lem (inside _) t.0 (takes_line room done e s l t.0 k n v t.1 h t.2))

-- ## The dump

module _ (room : ℕ) (all : List (List ℕ)) (R : Reading) where
  read_given : (S : Reading) (done todo : List (List ℕ)) (l : List ℕ) → all ≡ done ++ l ∷ todo → After room all R done S
      → After room all R (done ++ l ∷ []) (read_line room S l)
  unfolding read_line take_line
  read_given S done todo l is a =
      let next = line_given room all R S (suc S.count) done todo l is a.rows in
      by_test (After room all R (done ++ l ∷ [])) (is_going S.stop) _ S
      (λ h. next (a.goes h).owners S.entry (line_says room l) (a.goes h).stage (tells room l))
      (λ h. record { rows = a.rows; goes = λ k. absurd (true≢false (sym k ∙ h)) })

  all_given_lem : (todo : List (List ℕ)) (S : Reading) (done : List (List ℕ)) → all ≡ done ++ todo → After room all R done S
      → RowsGiven room all R (read_all room S todo)
  unfolding read_all
  all_given_lem [] S done is a = a.rows
  all_given_lem (l ∷ todo) S done is a =
      all_given_lem todo (read_line room S l) (done ++ l ∷ []) (is ∙ sym (append_snoc done l todo)) (read_given S done todo l is a)

  -- before the first line
  begins : R.entry ≡ outside → After room all R [] R
  unfolding closings owners_from shut
  begins e =
      record {
        rows = record { parents = λ r. stands refl; objects = λ r. stands refl };
        goes = λ h. record { owners = refl; stage = subst (Stage room []) (sym e) refl };
      }

-- THE LAW OF A DUMP'S ROWS
pub every_row_given : EveryRowGiven
unfolding EveryRowGiven dump_reading
every_row_given room R dump e =
    let all : List (List ℕ) = (lines dump).complete in
    all_given_lem room all R all R [] refl (begins room all R e)
