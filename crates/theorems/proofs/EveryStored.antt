-- The writes of a step on bytes: its records, stored in order, are what it changes. Assumes nothing.
use Prim.Native.Nat.{ℕ, ◌*◌}
use native.Mathlib.Omega.{arith}
use mathlib.Core.Path.{◌≡◌, refl, sym, ap, ◌∙◌}
use mathlib.Core.Bool.{Bool, true, false}
use mathlib.Core.List.{List, Memᴰ}
use lib.ListN.{take, drop, replicate}
use Rattle.wire.specs.Numbers.{Bytes}
use Rattle.tables.specs.Records.{Tables}
use Rattle.tables.specs.Bytes.{object_size}
use Rattle.tables.specs.Positions.{is_position, is_end, place}
use Rattle.tables.specs.declared.Position.{Position}
use Rattle.rules.specs.declared.Step.{Step}
use Rattle.rules.specs.declared.Step.TheVariants.{Rests as rests}
use Rattle.rules.specs.Steps.{step_at}
use Rattle.rules.specs.Runs.{run, step_tables}
use Rattle.rules.specs.Calls.{run_of}
use Rattle.rules.specs.Settings.{Settings, settings_of}
use Rattle.rules.specs.Cuts.{Target, destroyed_record, targets, InOrder}
use Rattle.theorems.specs.Calls.{Lent, tables_of, call, Accepted, leaves}
use Rattle.theorems.specs.Cuts.{stored, stored_all, step_targets, EveryStored}
use Rattle.theorems.proofs.FromRules.{run_makes, is_end_lem, writes_ordered, writes_change}
use Rattle.theorems.proofs.Written.{written, Parts}
use Rattle.theorems.proofs.EveryRun.{Says, sound_says, request, parts, leaves_says, run_one, run_one_end}
use Rattle.theorems.proofs.CutRows.{Alike, stored_written, stored_stays, destroyed_zero}
use Rattle.theorems.proofs.CutWrites.{whole_copied, needed_copied, gone_copied}

-- ## One step of the rules' run

module _ (settings : Settings) where
  end_rests : (X : Tables) → step_at settings X (place 3 0 0) ≡ rests
  unfolding step_at place
  end_rests X = refl

  pub one_tables : (X : Tables) (p : Position) → (run settings 1 X p).tables ≡ step_tables (step_at settings X p) X
  unfolding step_tables
  one_tables X p = go (is_end p) refl
    where
      go : (b : Bool) → is_end p ≡ b → (run settings 1 X p).tables ≡ step_tables (step_at settings X p) X
      go true e =
          let s : step_at settings X p ≡ rests = ap (step_at settings X) (is_end_lem p e) ∙ end_rests X in
          run_one_end settings X p e ∙ ap (λ (u : Step). step_tables u X) (sym s)
      go false e = run_one settings X p e

-- ## A step on bytes

module _ (policy : ℕ) (reserve : List ℕ) (t : Lent) (p : Position) (a : Bytes t.parents) (b : Bytes t.objects) (e : Bytes reserve)
    (h : Accepted t (call policy reserve 1 p)) where
  abbrev T : Tables
  T = tables_of t

  abbrev R : Settings
  R = settings_of policy reserve

  abbrev Y : Tables
  Y = step_tables (step_at R T p) T

  passed : Parts t.parents t.objects reserve policy p
  passed = parts t (call policy reserve 1 p) h

  before : Says t T
  before = sound_says t passed.tables a b

  after : Says (leaves t (call policy reserve 1 p)) (run R 1 T p).tables
  unfolding request run_of
  after = leaves_says t (call policy reserve 1 p) before e h

  leaves_is : leaves t (call policy reserve 1 p) ≡ written Y
  leaves_is = after.bytes ∙ ap written (one_tables R T p)

  alike : Alike T Y
  alike =
      let g = (run_makes R 1 T p before.good.distinct).grows in
      rw (← one_tables R T p) (record { fits = before.good.fits; others = after.good.fits; tall = sym g.tall; size = sym g.size })

  exists : is_position T p ≡ true
  unfolding tables_of
  exists = passed.position

  ordered : InOrder p.row (step_at R T p)
  ordered = writes_ordered R T p before.good.distinct exists

  whole : stored_all (leaves t (call policy reserve 1 p)) (targets (step_at R T p)) t ≡ leaves t (call policy reserve 1 p)
  whole =
      let xs : List Target = targets (step_at R T p) in
      ap (λ (u : Lent). stored_all u xs t) leaves_is ∙ ap (λ (u : Lent). stored_all (written Y) xs u) before.bytes ∙ stored_written Y T xs alike
      ∙ ap written (whole_copied p.row (step_at R T p) T ordered) ∙ sym leaves_is

  needed : (x : Target) → Memᴰ x (targets (step_at R T p)) → stored (leaves t (call policy reserve 1 p)) x t ≡ t → ⊥
  needed x m k =
      let q : stored (written Y) x (written T) ≡ written T =
      sym (ap (λ (u : Lent). stored u x (written T)) leaves_is) ∙ sym (ap (λ (u : Lent). stored (leaves t (call policy reserve 1 p)) x u) before.bytes)
      ∙ k ∙ before.bytes in
      needed_copied p.row (step_at R T p) T ordered (writes_change R T p before.good.distinct exists) x m (stored_stays Y T x alike q)

  zeroed : (k : ℕ) → Memᴰ (destroyed_record k) (targets (step_at R T p)) →
      take object_size (drop (object_size * k) (leaves t (call policy reserve 1 p)).objects) ≡ replicate object_size 0
  unfolding written
  zeroed k m =
      let g = gone_copied p.row (step_at R T p) T ordered (writes_change R T p before.good.distinct exists) k m in
      ap (λ (u : Lent). take object_size (drop (object_size * k) u.objects)) leaves_is
      ∙ destroyed_zero Y alike.others k (let z = alike.size in let h = g.0 in omega arith) g.1

-- "Give each step as an ordered list of whole-record writes": of every step
pub every_stored : EveryStored
unfolding EveryStored step_targets
every_stored policy reserve t p a b e h =
    record {
      ordered = ordered policy reserve t p a b e h;
      whole = whole policy reserve t p a b e h;
      needed = needed policy reserve t p a b e h;
      zeroed = zeroed policy reserve t p a b e h;
    }
