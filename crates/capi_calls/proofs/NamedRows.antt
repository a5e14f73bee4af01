-- The rows that `lfsck_step_writes` names, stored, are the records of its step. Assumes nothing.
use Rattle.refusals.specs.Numbers.{number}
use Rattle.refusals.specs.declared.Refusal.{Refusal}
use Prim.Native.Nat.{ℕ, zero, suc, ◌*◌, ◌≤◌}
use native.Mathlib.Omega.{arith}
use mathlib.Core.Path.{◌≡◌, refl, sym, ap, subst, ◌∙◌}
use mathlib.Core.Bool.{Bool, true, false, cond}
use mathlib.Core.List.{List, [], ◌∷◌, ◌++◌}
use borrow.Author.Tests.{eqb-true, eqb-false, ltb-false}
use lib.Dec.{eqb, ltb}
use lib.ListN.{length, take, drop, replicate, length-append}
use Rattle.tables.specs.Check.{check_number}
use Rattle.tables.specs.Positions.{is_end}
use Rattle.tables.specs.Records.{Tables}
use Rattle.tables.specs.Bytes.{parse}
use Rattle.tables.specs.declared.Position.{Position}
use Rattle.tables.proofs.CheckLaws.{sound_pass}
use Rattle.rules.specs.Promises.{Distinct}
use Rattle.rules.specs.Settings.{settings_of}
use Rattle.rules.specs.Steps.{step_at}
use Rattle.rules.specs.Cuts.{Target, object_record, destroyed_record, parent_record, target, targets}
use Rattle.rules.specs.declared.Step.{Step}
use Rattle.rules.specs.declared.Step.TheVariants.{Rests as rests, Repairs as repairs, Stops as stops}
use Rattle.rules.specs.declared.Write.TheVariants.{Nothing}
use Rattle.repair.specs.StepBytes.{step_of}
use Rattle.theorems.specs.Calls.{Lent, tables_of, ran, left, leaves, from_start}
use Rattle.theorems.specs.Cuts.{stored, stored_all, step_targets, next_targets, cut_at, CutMended, EveryCut}
use Rattle.theorems.proofs.FromRules.{checked_distinct, step_makes, Makes}
use Rattle.theorems.proofs.Written.{accepted_parts}
use Rattle.theorems.proofs.EveryCut.{every_cut}
use Rattle.capi_writes.specs.Writes.{most_writes, writes_size, table_of, row_of, row_numbers, writes_numbers, step_number, told, writes_answer, writes_out}
use Rattle.capi_writes.proofs.WritesLaws.{target_one, numbers_front}
use Rattle.capi_calls.specs.InPlace.{store_row, store_rows, store_named, EveryNamed, asks, hears, keeps, EveryInPlace}

-- ## Rows by their numbers

store_row_lem : (u : Lent) (x : Target) (t : Lent) → store_row u (table_of x) (row_of x) t ≡ stored u x t
unfolding store_row table_of row_of stored
store_row_lem u (object_record o) t = refl
store_row_lem u (destroyed_record o) t = refl
store_row_lem u (parent_record r) t = refl

rows_stored : (u : Lent) (m : ℕ) (xs : List Target) (t : Lent) → store_rows u m (row_numbers xs) t ≡ stored_all u (take m xs) t
unfolding store_rows row_numbers stored_all
rows_stored u zero xs t = refl
rows_stored u (suc m) [] t = refl
rows_stored u (suc m) (x ∷ xs) t = rows_stored u m xs (store_row u (table_of x) (row_of x) t) ∙ ap (stored_all u (take m xs)) (store_row_lem u x t)

few_rows : (l : List Target) (rest : List ℕ) → length l ≤ most_writes →
    take (2 * length l) (take (2 * most_writes) (row_numbers l ++ replicate (2 * most_writes) 0) ++ rest) ≡ row_numbers l
unfolding row_numbers
few_rows [] rest h = refl
few_rows (a ∷ []) rest h = refl
few_rows (a ∷ b ∷ []) rest h = refl
few_rows (a ∷ b ∷ c ∷ []) rest h = refl
few_rows (a ∷ b ∷ c ∷ d ∷ l) rest h = absurd (omega arith)

named_rows : (u : Lent) (m : ℕ) (l : List Target) (rest : List ℕ) (t : Lent) → length l ≤ most_writes →
    store_named u m (writes_numbers l ++ rest) t ≡ stored_all u (take m l) t
unfolding store_named writes_numbers
named_rows u m l rest t h = ap (λ (k : List ℕ). store_rows u m k t) (few_rows l rest h) ∙ rows_stored u m l t

-- ## Of a step that doesn't stop

told_rows : (u : Lent) (m : ℕ) (out : List ℕ) (t : Lent) → writes_size ≤ length out → (d : Step) → step_number d ≡ 0 → ((n : Refusal) → d ≡ stops n → 21 ≤ number n) →
    store_named u m (told d out) t ≡ stored_all u (take m (targets d)) t
unfolding told targets step_number target
told_rows u m out t h rests e n =
    ap (λ (l : List ℕ). store_named u m l t) (numbers_front out h Nothing Nothing Nothing) ∙ named_rows u m [] (drop writes_size out) t (omega arith)
told_rows u m out t h (repairs k a b c) e n =
    ap (λ (l : List ℕ). store_named u m l t) (numbers_front out h a b c)
    ∙ named_rows u m (target a ++ target b ++ target c) (drop writes_size out) t
    (rw (length-append (target a ++ target b) (target c), length-append (target a) (target b)) (omega (arith, target_one a, target_one b, target_one c)))
told_rows u m out t h (stops a) e n = absurd (omega (arith, n a refl))

-- ## Where the answer is 0

module _ (p o s : List ℕ) (policy : ℕ) (at : Position) (out : List ℕ) where
  abbrev n : ℕ
  n = check_number p o s policy at

  abbrev d : Step
  d = step_of p o s policy at

  -- the input passes, there is room, the step doesn't stop, and its list is handed out
  answered : writes_answer p o s policy at out ≡ 0 → (n ≡ 0) × (writes_size ≤ length out) × (step_number d ≡ 0) × (writes_out p o s policy at out ≡ told d out)
  unfolding writes_answer writes_out
  answered e = go (eqb n 0) refl (is_end at) (ltb (length out) writes_size) refl e
    where
      go : (a : Bool) → eqb n 0 ≡ a → (b c : Bool) → ltb (length out) writes_size ≡ c → cond a (cond b 16 (cond c 17 (step_number d))) n ≡ 0 →
          (n ≡ 0) × (writes_size ≤ length out) × (step_number d ≡ 0) × (cond a (cond b out (cond c out (told d out))) out ≡ told d out)
      go false x b c z e = absurd (eqb-false n 0 x e)
      go true x true c z e = absurd (omega arith)
      go true x false true z e = absurd (omega arith)
      go true x false false z e = (eqb-true n 0 x, ltb-false (length out) writes_size z, e, refl)

-- a step that stops answers 21 to 23
stop_number_lem : (policy : ℕ) (reserve : List ℕ) (T : Tables) (p : Position) → Distinct T → (n : Refusal) → step_at (settings_of policy reserve) T p ≡ stops n → 21 ≤ number n
stop_number_lem policy reserve T p sound n e = (subst (Makes (settings_of policy reserve) T p) e (step_makes (settings_of policy reserve) T p sound)).0

pub every_named : EveryNamed
unfolding EveryNamed step_targets tables_of step_of
every_named policy reserve t p out e u s m =
    let a = answered t.parents t.objects reserve policy p out e in
    let sound = checked_distinct t.parents t.objects (sound_pass t.parents t.objects (accepted_parts t.parents t.objects reserve policy p a.0).tables).different in
    ap (λ (l : List ℕ). store_named u m l s) a.3
    ∙ told_rows u m out s a.1 (step_at (settings_of policy reserve) (parse t.parents t.objects) p) a.2
    (stop_number_lem policy reserve (parse t.parents t.objects) p sound)

-- ## Cut off

pub every_in_place : EveryInPlace
unfolding EveryInPlace EveryNamed EveryCut asks hears keeps cut_at next_targets leaves left
every_in_place policy reserve t b whole k m out e =
    let x = ran t (from_start policy reserve t k) in
    subst (CutMended policy reserve t)
    (sym (every_named policy reserve (left x) x.report.position out e (leaves t (from_start policy reserve t (suc k))) (left x) m))
    (every_cut policy reserve t b whole k m)
