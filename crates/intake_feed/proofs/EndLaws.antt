-- The end of a dump, case by case. Assumes nothing.
use Prim.Native.Nat.{ℕ, zero, suc, ◌+◌, ◌≤◌, ◌<◌}
use mathlib.Core.Path.{◌≡◌, refl, sym, ap, subst, ◌∙◌}
use mathlib.Core.List.{List, [], ◌∷◌}
use mathlib.Core.Bool.{Bool, true, false, cond}
use native.Mathlib.Numerals.{add-one}
use native.Mathlib.Omega.{arith}
use lib.ListN.{length, take, drop, length-drop}
use lib.Dec.{eqb}
use borrow.Author.Tests.{ne_eqb, le-leb, lt-leb}
use Rattle.tables.specs.Check.{first_failing}
use Rattle.intake.specs.Says.{is_empty}
use Rattle.intake.specs.Reading.{Entry, outside, inside, Stop, going, stopped, is_going, at_end, ended}
use Rattle.intake.specs.Machine.{finish}
use Rattle.intake_bytes.specs.declared.Marks.{Marks}
use Rattle.intake_bytes.specs.Lent.{max_count, partial_in}
use Rattle.intake_line.specs.Entry.{entry_in, open_in}
use Rattle.intake_state.specs.declared.Kept.{Kept}
use Rattle.intake_state.specs.State.{stop_is, machine_of, kept_of, good_state, machine_in}
use Rattle.intake_feed.specs.Feed.{stop_number, out_line, stop_line}
use Rattle.intake_feed.specs.End.{unclosed_at, end_is, EndTold, end_refusal, end_stop, Ended}
use Rattle.intake_state.proofs.TestLaws.{state_long, state_end, state_stop}
use Rattle.intake_feed.proofs.FedLaws.{stop_number_lem, stop_line_lem}

module _ (k : Kept) where
  pub end_stopped : k.answer ≤ 37 → 33 ≤ k.answer → (k.answer ≡ 0 → ⊥) → EndTold k k
  unfolding stop_is end_is
  end_stopped h l e = record { stop = rw (ne_eqb k.answer 0 e); answer = h; number = λ z. l }

  module _ (z : k.answer ≡ 0) where
    pub end_open : (r : Kept) → (k.reader.from ≡ 0 → ⊥) → r ≡ unclosed_at k k.reader.from → EndTold k r
    unfolding stop_is end_is unclosed_at
    end_open r e q = subst (EndTold k) (sym q) (record { stop = rw (z, ne_eqb k.reader.from 0 e); answer = omega arith; number = λ y. omega arith })

    module _ (f : k.reader.from ≡ 0) where
      pub end_line : (r : Kept) → (k.reader.line.seen ≡ 0 → ⊥) → r ≡ unclosed_at k (k.reader.count + 1) → EndTold k r
      unfolding stop_is end_is unclosed_at
      end_line r e q = subst (EndTold k) (sym q) (record { stop = rw (z, f, ne_eqb k.reader.line.seen 0 e); answer = omega arith; number = λ y. omega arith })

      pub end_none : k.reader.line.seen ≡ 0 → EndTold k k
      unfolding stop_is end_is
      end_none e = record { stop = rw (z, f, e); answer = omega arith; number = λ y. absurd (y z) }

-- ## The end as the definition has it

empty_head : (n : ℕ) (l : List ℕ) → n ≤ length l → is_empty (take n l) ≡ eqb n 0
unfolding is_empty
empty_head zero l h = refl
empty_head (suc n) [] h = absurd (omega arith)
empty_head (suc n) (b ∷ l) h = sym (ne_eqb (suc n) 0 (λ z. omega arith))

at_outside : (n : ℕ) (H : List ℕ) (t : Bool) → is_empty H ≡ t → at_end outside n H ≡ cond t going (stopped 33 (n + 1))
unfolding at_end
at_outside n H t e = rw (e, add-one)

at_inside : (s : List ℕ) (from : ℕ) (m : Marks) (n : ℕ) (H : List ℕ) → at_end (inside (entry_in s from m)) n H ≡ stopped 33 from
unfolding at_end entry_in
at_inside s from m n H = refl

not_going : (a n : ℕ) (S : Stop) → cond (is_going (stopped a n)) S (stopped a n) ≡ stopped a n
unfolding is_going
not_going a n S = refl

finish_is : (s : List ℕ) (k : Kept) (file p o : List ℕ) → 208 ≤ length s → k.reader.line.seen ≤ 14 → finish (machine_of s k file p o) ≡ end_is k
unfolding finish machine_of ended stop_is open_in partial_in end_is is_going
finish_is s k file p o n h = go (eqb k.answer 0) (eqb k.reader.from 0) where
  E : Entry
  E = entry_in s k.reader.from k.reader.marks

  H : List ℕ
  H = take k.reader.line.seen (drop 128 s)

  empty : is_empty H ≡ eqb k.reader.line.seen 0
  empty = empty_head k.reader.line.seen (drop 128 s) (rw length-drop (omega arith))

  go : (a b : Bool)
      → cond (is_going (cond a going (stopped k.answer k.named))) (at_end (cond b outside (inside E)) k.reader.count H) (cond a going (stopped k.answer k.named))
      ≡ cond a (cond b (cond (eqb k.reader.line.seen 0) going (stopped 33 (k.reader.count + 1))) (stopped 33 k.reader.from)) (stopped k.answer k.named)
  go true true = at_outside k.reader.count H (eqb k.reader.line.seen 0) empty
  go true false = at_inside s k.reader.from k.reader.marks k.reader.count H
  go false b = not_going k.answer k.named (at_end (cond b outside (inside E)) k.reader.count H)

module _ (s out : List ℕ) where
  pub ended_bad : good_state s ≡ false → Ended (end_refusal s (length out)) s out out 16
  unfolding end_refusal first_failing
  ended_bad e = record { answer = rw e; line = rw e }

  module _ (g : good_state s ≡ true) where
    pub ended_short : length out < 1 → Ended (end_refusal s (length out)) s out out 17
    unfolding end_refusal first_failing
    ended_short h = record { answer = rw (g, lt-leb 1 (length out) h); line = rw (g, lt-leb 1 (length out) h) }

    refuses_none : 1 ≤ length out → end_refusal s (length out) ≡ 0
    unfolding end_refusal first_failing
    refuses_none h = rw (g, le-leb 1 (length out) h)

    stop_is_lem : (k r : Kept) → k ≡ kept_of s → EndTold k r → end_stop s ≡ stop_is r.answer r.named
    unfolding end_stop machine_in
    stop_is_lem k r q t =
        finish_is s (kept_of s) [] [] [] (omega (arith, state_long s g)) (state_end s g).2 ∙ ap end_is (sym q) ∙ sym t.stop

    pub ended_told : 1 ≤ length out → (k r : Kept) (n : ℕ) (out' : List ℕ) → k ≡ kept_of s → EndTold k r → (n ≡ r.answer) × (out' ≡ out_line r.answer r.named out)
        → Ended (end_refusal s (length out)) s out out' n
    ended_told h k r n out' q t w =
        subst (λ (m : ℕ). Ended m s out out' n) (sym (refuses_none h))
        (record {
          answer = w.0 ∙ sym (stop_number_lem r.answer r.named) ∙ ap stop_number (sym (stop_is_lem k r q t));
          line = w.1 ∙ sym (stop_line_lem r.answer r.named out) ∙ ap (λ (S : Stop). stop_line S out) (sym (stop_is_lem k r q t));
        })

    pub end_requires : (k : Kept) → k ≡ kept_of s → (k.answer ≤ 37) × ((k.answer ≡ 0 → ⊥) → 33 ≤ k.answer) × (k.reader.count < max_count)
    end_requires k q =
        let b = state_end s g in
        subst (λ (x : Kept). (x.answer ≤ 37) × ((x.answer ≡ 0 → ⊥) → 33 ≤ x.answer) × (x.reader.count < max_count)) (sym q) (b.0, state_stop s g, omega (arith, b.1))
