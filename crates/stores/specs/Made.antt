-- The header of a parent that is made, as the rules' `made` has it.
use Rattle.fid.specs.declared.MdtFid.{MdtFid}
use Rattle.layout.specs.Layout.{magic_one, hole_pattern}
use Rattle.layout.specs.declared.Header.{Header}
use Rattle.rules.specs.Repairs.{made_stripe}

unfoldable pub made_header : MdtFid → Header
made_header f = record { magic = magic_one; pattern = hole_pattern; oid = f.0.oid; seq = f.0.seq; stripe = made_stripe; generation = 0 }
