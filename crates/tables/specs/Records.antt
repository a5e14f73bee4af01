-- The tables as records. Document 01, "The tables".
use Rattle.std.specs.Prelude.{ℕ, List}
use Rattle.fid.specs.declared.MdtFid.{MdtFid}
use Rattle.layout.specs.Layout.{Layout}
use Rattle.tables.specs.declared.Owner.{Owner}
use Rattle.tables.specs.declared.Object.{Object}

-- a used parent row: a file, its owner and its layout; `tail` is the bytes of the room past the layout
pub record Parent : Type 0 where
  pub self : MdtFid
  pub owner : Owner
  pub layout : Layout
  pub tail : List ℕ

-- a row of a table: an unused one is its bytes after the mark, "Fields of an unused row are not examined"; else what it says
pub data TableRow (A : Type 0) : Type 0 where
  unused : List ℕ → TableRow A
  used : A → TableRow A

abbrev pub ParentRow : Type 0
ParentRow = TableRow Parent

abbrev pub ObjectRow : Type 0
ObjectRow = TableRow Object

pub record Tables : Type 0 where
  pub parents : List ParentRow
  pub objects : List ObjectRow
