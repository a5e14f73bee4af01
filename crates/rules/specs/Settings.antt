-- What a run is given besides the tables. Document 01: "A run is given a policy (bit 0 create, bit 1 adopt)".
use Rattle.std.specs.Prelude.{ℕ, ◌/◌, ◌%◌, List, Bool, eqb}
use Rattle.fid.specs.declared.OstFid.{OstFid}
use Rattle.tables.specs.Bytes.{parse_reserve}

-- policy and reserve travel together
pub record Settings : Type 0 where
  pub policy : ℕ
  pub reserve : List OstFid

-- of a policy and the lent bytes of a reserve
unfoldable pub settings_of : ℕ → List ℕ → Settings
settings_of policy reserve = record { policy = policy; reserve = parse_reserve reserve }

-- "bit 0 create, bit 1 adopt"
unfoldable pub creates : ℕ → Bool
creates policy = eqb (policy % 2) 1

unfoldable pub adopts : ℕ → Bool
adopts policy = eqb (policy / 2 % 2) 1
