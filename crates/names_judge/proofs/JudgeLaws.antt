-- The judging of rows, one by one. Assumes nothing.
use Rattle.std.specs.Prelude.{Result, Ok, Err, None, Some, ⊤, is_some}
use mathlib.Core.Path.{◌≡◌, refl, sym, ap, ◌∙◌}
use mathlib.Core.Bool.{Bool, true, false, cond, not, ◌||◌, true≢false}
use mathlib.Core.List.{List, [], ◌∷◌, ◌++◌, map}
use Prim.Native.Nat.{ℕ, zero, suc, ◌+◌, ◌≤◌, ◌<◌}
use native.Mathlib.Nat.{zero-add, not-suc-le-zero}
use native.Mathlib.Numerals.{add-one}
use native.Mathlib.Omega.{arith}
use lib.ListN.{length, take, drop, get_or, set, length-map, drop_of_length-le}
use lib.Seq.{sets, drop-cons, length-take-le}
use Rattle.wire.proofs.Splice.{sets_whole, sets_front, stored, stored_none, stored_next, stored_all_lem}
use Rattle.fid.specs.declared.MdtFid.{MdtFid}
use Rattle.names.specs.Rows.{Child, is_none, no_child, child_at}
use Rattle.names.specs.Findings.{any}
use Rattle.names.specs.Visible.{is_too_long, climbs_too_long, too_long, no_self_mark, visible_mark, hidden_mark, climb_mark, mark_of, judged}
use Rattle.refusals.specs.declared.Refusal.{Refusal}
use Rattle.refusals.specs.declared.Refusal.TheVariants.{LongClimb}
use Rattle.names_judge.specs.Levels.{Ended, ended, climbed_of}
use Rattle.names_judge.proofs.LevelLaws.{ended_climbed}

-- ## How a climb ends, as a mark

pub mark_endless : (e : Ended) → e ≡ None → hidden_mark ≡ climb_mark (climbed_of e)
unfolding climb_mark climbed_of
mark_endless e p = rw p

-- and whether it is too long
pub long_is : (b : Bool) (e : Ended) → is_some e ≡ not b → b ≡ is_too_long (climbed_of e)
unfolding is_too_long climbed_of
long_is true None h = refl
long_is false None h = absurd (true≢false (sym h))
long_is true (Some (d, v)) h = absurd (true≢false h)
long_is false (Some (d, true)) h = refl
long_is false (Some (d, false)) h = refl

module _ (e : Ended) (d : ℕ) (v : Bool) (p : e ≡ Some (d, v)) where
  pub mark_seen : v ≡ true → visible_mark ≡ climb_mark (climbed_of e)
  unfolding climb_mark climbed_of
  mark_seen h = rw (p, h)

  pub mark_hidden : v ≡ false → hidden_mark ≡ climb_mark (climbed_of e)
  unfolding climb_mark climbed_of
  mark_hidden h = rw (p, h)

-- ## A row, by its self FID

module _ (levels : ℕ) (cs : List Child) (c : Child) (f : MdtFid) (p : f ≡ c.self) where
  pub none_marked : is_none f ≡ true → no_self_mark ≡ mark_of levels cs c
  unfolding mark_of
  none_marked h = rw (← p, h)

  pub none_long : is_none f ≡ true → false ≡ climbs_too_long levels cs c
  unfolding climbs_too_long
  none_long h = rw (← p, h)

  module _ (h : is_none f ≡ false) (e : Ended) (q : e ≡ ended levels cs f) where
    pub some_marked : (m : ℕ) → m ≡ climb_mark (climbed_of e) → m ≡ mark_of levels cs c
    unfolding mark_of
    some_marked m s = rw (← p, h) (s ∙ ap (λ (x : Ended). climb_mark (climbed_of x)) q ∙ ap climb_mark (ended_climbed levels cs f))

    pub some_long : (b : Bool) → b ≡ is_too_long (climbed_of e) → b ≡ climbs_too_long levels cs c
    unfolding climbs_too_long
    some_long b s = rw (← p, h) (s ∙ ap (λ (x : Ended). is_too_long (climbed_of x)) q ∙ ap is_too_long (ended_climbed levels cs f))

-- ## Whether one is too long, from row r on

module _ (levels : ℕ) (cs : List Child) where
  pub long_from : ℕ → Bool
  long_from r = any (climbs_too_long levels cs) (drop r cs)

  pub long_start : too_long levels cs ≡ long_from 0
  unfolding too_long long_from
  long_start = refl

  next_long : (r : ℕ) → r < length cs → long_from r ≡ (climbs_too_long levels cs (child_at cs r) || long_from (r + 1))
  unfolding long_from any child_at
  next_long r h = rw (add-one r, drop-cons cs r no_child h)

  pub long_here : (r : ℕ) → r < length cs → climbs_too_long levels cs (child_at cs r) ≡ true → long_from r ≡ true
  long_here r h t = next_long r h ∙ rw t

  pub long_on : (r : ℕ) → r < length cs → climbs_too_long levels cs (child_at cs r) ≡ false → long_from r ≡ long_from (r + 1)
  long_on r h t = next_long r h ∙ rw t

  pub long_done : (r : ℕ) → length cs ≤ r → long_from r ≡ false
  unfolding long_from any
  long_done r h = rw (drop_of_length-le cs h)

  -- ## The marks of the first r rows stored

  mark_at_lem : (f : Child → ℕ) (ds : List Child) (r : ℕ) → r < length ds → get_or (map f ds) r 0 ≡ f (get_or ds r no_child)
  mark_at_lem f [] r h = absurd (not-suc-le-zero h)
  mark_at_lem f (d ∷ ds) zero h = refl
  mark_at_lem f (d ∷ ds) (suc r) h = mark_at_lem f ds r (omega arith)

  pub marked_to : List ℕ → ℕ → List ℕ
  marked_to marks r = stored marks 0 (judged levels cs) r

  pub marks_start : (marks : List ℕ) → marks ≡ marked_to marks 0
  unfolding marked_to
  marks_start marks = stored_none marks 0 (judged levels cs)

  pub marks_next : (marks l : List ℕ) (r m : ℕ) → l ≡ marked_to marks r → r < length cs → m ≡ mark_of levels cs (child_at cs r) →
      set l r m ≡ marked_to marks (r + 1)
  unfolding marked_to judged child_at
  marks_next marks l r m p h e =
      rw zero-add at (stored_next marks 0 (map (mark_of levels cs) cs) r m l p (rw (length-map cs (mark_of levels cs)) h) (e ∙ sym (mark_at_lem (mark_of levels cs) cs r h)))

  pub marks_all : (marks l : List ℕ) (n r : ℕ) → l ≡ marked_to (take n marks) r → n ≤ length marks → length cs ≡ n → n ≤ r →
      l ++ drop n marks ≡ sets marks 0 (judged levels cs)
  unfolding marked_to judged
  marks_all marks l n r p k q h =
      let js : List ℕ = map (mark_of levels cs) cs in
      let m : length js ≡ n = length-map cs (mark_of levels cs) ∙ q in
      let e : l ≡ js =
      stored_all_lem (take n marks) 0 js r l p (omega (arith, m)) ∙ sets_whole js (take n marks) (length-take-le n marks k ∙ sym m) in
      rw e (ap (λ (j : ℕ). js ++ drop j marks) (sym m) ∙ sym (sets_front js marks (omega (arith, m))))

-- ## The whole

module _ (t : Bool) (marks x : List ℕ) where
  pub judged_long : t ≡ true → (◌≡◌ {A = Result ⊤ Refusal} (Err LongClimb) (cond t (Err LongClimb) (Ok tt))) × (marks ≡ cond t marks x)
  judged_long h = (rw h, rw h)

  pub judged_all : (new : List ℕ) → t ≡ false → new ≡ x → (◌≡◌ {A = Result ⊤ Refusal} (Ok tt) (cond t (Err LongClimb) (Ok tt))) × (new ≡ cond t marks x)
  judged_all new h e = (rw h, rw h e)
