-- What the end of a dump answers, for every state. Document 02, 2026-03: "an unclosed last entry (33)", which names "an unclosed entry's first" line.
use Rattle.std.specs.Prelude.{ℕ, ◌+◌, ◌≤◌, ◌≡◌, List, [], ◌∷◌, cond, length, eqb, leb}
use Rattle.tables.specs.Check.{test, first_failing}
use Rattle.intake.specs.Reading.{bad_dump, no_fit, Stop, going, stopped}
use Rattle.intake.specs.Machine.{finish}
use Rattle.intake_state.specs.declared.Kept.{Kept}
use Rattle.intake_state.specs.State.{stop_is, good_state, machine_in}
use Rattle.intake_feed.specs.Feed.{stop_number, stop_line}

unfoldable pub unclosed_at : Kept → ℕ → Kept
unclosed_at k line = record { answer = bad_dump; named = line; taken = k.taken; reader = k.reader }

-- the stop that a state comes to at the end
unfoldable pub end_is : Kept → Stop
end_is k =
    cond (eqb k.answer 0)
    (cond (eqb k.reader.from 0) (cond (eqb k.reader.line.seen 0) going (stopped bad_dump (k.reader.count + 1))) (stopped bad_dump k.reader.from))
    (stopped k.answer k.named)

pub record EndTold (k r : Kept) : Type 0 where
  pub stop : stop_is r.answer r.named ≡ end_is k
  pub answer : r.answer ≤ no_fit
  pub number : (r.answer ≡ 0 → ⊥) → bad_dump ≤ r.answer

-- 16 and 17 in this order, else 0
unfoldable pub end_refusal : List ℕ → ℕ → ℕ
end_refusal s places = first_failing (test 16 (good_state s) ∷ test 17 (leb 1 places) ∷ [])

-- the owners file and the tables don't count
unfoldable pub end_stop : List ℕ → Stop
end_stop s = finish (machine_in s [] [] [])

pub record Ended (n : ℕ) (s out out' : List ℕ) (r : ℕ) : Type 0 where
  pub answer : r ≡ cond (eqb n 0) (stop_number (end_stop s)) n
  pub line : out' ≡ cond (eqb n 0) (stop_line (end_stop s) out) out

unfoldable pub DumpEnded : List ℕ → List ℕ → List ℕ → ℕ → Type 0
DumpEnded s out out' r = Ended (end_refusal s (length out)) s out out' r
