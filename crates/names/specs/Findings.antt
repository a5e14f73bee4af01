-- The two findings of each entry, of the tables as lent. Document 02, 2026-06: "Give each entry, as lent, a FID finding .. and a link finding".
use Rattle.std.specs.Prelude.{ℕ, Bool, true, false, cond, ◌&&◌, ◌||◌, List, [], ◌∷◌, eqb}
use Rattle.fid.specs.Fid.{same_fid}
use Rattle.fid.specs.declared.MdtFid.{MdtFid}
use Rattle.linkea.specs.Link.{Link}
use Rattle.names.specs.Rows.{Entry, Child, is_none, links_of, child_of}
use Rattle.names.specs.declared.FidFinding.{FidFinding}
use Rattle.names.specs.declared.FidFinding.TheVariants.{FidAgrees, NoDirentFid, FidDiffers, NoSelfFid, NeitherFid}
use Rattle.names.specs.declared.LinkFinding.{LinkFinding}
use Rattle.names.specs.declared.LinkFinding.TheVariants.{RecordThere, NoRecord}

-- one of a list
unfoldable pub any : {A : Type 0} → (A → Bool) → List A → Bool
any test [] = false
any test (x ∷ xs) = test x || any test xs

-- ## The FID finding

unfoldable pub same : MdtFid → MdtFid → Bool
same f g = same_fid f.0 g.0

-- of the FID-in-dirent and the self FID
unfoldable pub fids_finding : MdtFid → MdtFid → FidFinding
fids_finding f self =
    cond (is_none self) (cond (is_none f) NeitherFid NoSelfFid) (cond (is_none f) NoDirentFid (cond (same f self) FidAgrees FidDiffers))

-- "missing or differing FID-in-dirent, missing self FID, neither present, consistent"
unfoldable pub fid_finding : Entry → Child → FidFinding
fid_finding e c = fids_finding e.fid c.self

abbrev pub fid_number : FidFinding → ℕ
fid_number FidAgrees = 0
fid_number NoDirentFid = 1
fid_number FidDiffers = 2
fid_number NoSelfFid = 3
fid_number NeitherFid = 4

-- ## The link finding

unfoldable pub same_name : List ℕ → List ℕ → Bool
same_name [] [] = true
same_name [] (y ∷ ys) = false
same_name (x ∷ xs) [] = false
same_name (x ∷ xs) (y ∷ ys) = eqb x y && same_name xs ys

unfoldable pub same_link : Link → Link → Bool
same_link x y = same x.parent y.parent && same_name x.name y.name

-- the record that an entry asks of its child: its directory and its name
unfoldable pub link_for : Entry → Link
link_for e = record { parent = e.parent; name = e.name }

-- whether a child has a record: one with the same directory and the same name
unfoldable pub has_link : Link → Child → Bool
has_link x c = any (same_link x) (links_of c)

-- "missing record, consistent"
unfoldable pub link_finding : Entry → Child → LinkFinding
link_finding e c = cond (has_link (link_for e) c) RecordThere NoRecord

abbrev pub link_number : LinkFinding → ℕ
link_number RecordThere = 0
link_number NoRecord = 1

-- ## Of a table

-- two numbers an entry, in their order
unfoldable pub findings : List Child → List Entry → List ℕ
findings cs [] = []
findings cs (e ∷ es) = fid_number (fid_finding e (child_of cs e)) ∷ link_number (link_finding e (child_of cs e)) ∷ findings cs es
