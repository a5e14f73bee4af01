-- No object that a dump gave is fresh. Assumes nothing.
use Prim.Native.Nat.{ℕ, ◌-◌}
use mathlib.Core.Path.{◌≡◌, ap, ◌∙◌}
use mathlib.Core.List.{List, [], ◌∷◌, ◌++◌}
use native.Mathlib.Omega.{arith}
use lib.ListN.{length, take, drop, get_or, length-append, length-drop}
use lib.Seq.{length-take-le, get_or_at}
use Rattle.wire.specs.Numbers.{bytes}
use Rattle.wire.proofs.NumberLaws.{length_bytes}
use Rattle.fid.specs.Fid.{fid_size}
use Rattle.tables.specs.Bytes.{fresh_at, decode_object, parse_row, parse_object}
use Rattle.intake.specs.Lines.{lines}
use Rattle.intake.specs.Says.{lma_self_at}
use Rattle.intake.specs.Reading.{Reading, object_from}
use Rattle.intake.specs.Given.{FidSize, sixteen, older, GivenObject, Becomes, stands, given, EveryRowGiven, NotFresh, NothingFresh}
use Rattle.intake.proofs.FilledLaws.{object_used}
use Rattle.intake.proofs.GivenLaws.{every_row_given}

-- the parts of an object row fill it to the mark
mark_zero : (self claim : List ℕ) (u g i : ℕ) → length self ≡ fid_size → length claim ≡ fid_size → get_or (object_from self claim u g i) fresh_at 0 ≡ 0
unfolding object_from
mark_zero self claim u g i h k =
    get_or_at (1 ∷ self ++ bytes 4 i ++ bytes 4 u ++ bytes 4 g ++ claim) 0 [] 0 fresh_at
    (rw (length-append, length-append, length-append, length-append, length_bytes 4 i, length_bytes 4 u, length_bytes 4 g) (omega arith))

claim_long : (fid : List ℕ) → FidSize (length fid) → length (take fid_size fid) ≡ fid_size
claim_long fid (sixteen e) = length-take-le fid_size fid (omega arith)
claim_long fid (older e) = length-take-le fid_size fid (omega arith)

module _ (all : List (List ℕ)) (R : Reading) where
  not_fresh : (before after : List ℕ) → GivenObject R.owners all before after → NotFresh before after
  unfolding parse_object parse_row decode_object
  not_fresh before after s =
      let c = s.from in
      let self : List ℕ = drop lma_self_at c.lma in
      let long : length self ≡ fid_size = length-drop lma_self_at c.lma ∙ ap (λ (n : ℕ). n - lma_self_at) c.lma_whole in
      let here = mark_zero self (take fid_size s.fid) c.uid c.gid c.index long (claim_long s.fid s.fid_whole) in
      let zeroed : get_or after fresh_at 0 ≡ 0 = ap (λ (row : List ℕ). get_or row fresh_at 0) s.row ∙ here in
      record {
        mark = zeroed;
        object = decode_object after;
        parses = rw (object_used R.owners all before after s);
        fresh = rw zeroed;
      }

  row_fresh : (before after : List ℕ) → Becomes (GivenObject R.owners all) before after → Becomes NotFresh before after
  row_fresh before after (stands e) = stands e
  row_fresh before after (given u s) = given u (not_fresh before after s)

pub nothing_fresh : NothingFresh
unfolding NothingFresh EveryRowGiven
nothing_fresh room R dump e r = row_fresh (lines dump).complete R _ _ ((every_row_given room R dump e).objects r)
