-- What is promised of the calls that mend, over the lent bytes and by the climb. Document 02, 2026-06.
use Rattle.std.specs.Prelude.{ℕ, ◌≤◌, ◌<◌, ◌≡◌, Bool, true, false, ◌||◌, List, length, take, eqb}
use Rattle.std.proofs.lemmas.List.Edits.{sets}
use Rattle.wire.specs.Numbers.{Bytes}
use Rattle.fid.specs.declared.MdtFid.{MdtFid}
use Rattle.names.specs.Rows.{Entry, Child, is_none, child_at, child_of, child_rows, parse_entries, parse_children}
use Rattle.names.specs.Check.{SoundNames}
use Rattle.names.specs.Visible.{climb, max_levels, too_long, judged, seen_by, good_marks}
use Rattle.names.specs.Mend.{Mended, link_full, mended}
use Rattle.names.specs.Calls.{Left, report_size, report_numbers, left, mended_bytes, mend_call, pass_call}
use Rattle.names.specs.Promises.{entry_at, quiet, EveryMending, EveryMendOfBytes}
use Rattle.names.specs.declared.Climbed.{Climbed}
use Rattle.names.specs.declared.Climbed.TheVariants.{TooLong, Hidden, Visible}

-- ## Marks and climbs

unfoldable pub is_visible : Climbed → Bool
is_visible TooLong = false
is_visible Hidden = false
is_visible Visible = true

-- what the judged marks make visible is what the climb finds: "follow `..` upward by at most 4,096 levels to the first such"
unfoldable pub MarksAreClimbs : Type 0
MarksAreClimbs = (levels : ℕ) (cs : List Child) (f : MdtFid) → seen_by (judged levels cs) cs f ≡ is_visible (climb levels cs f)

-- ## Children without a FID

-- "where no entry has one either nothing of that child is mended": of entries es and children cs, mended to m
pub record BareStay (seen : MdtFid → Bool) (es : List Entry) (cs : List Child) (m : Mended) : Type 0 where
  -- a child without self FID has none after it, where no entry of it, in a visible directory, has one
  pub none : (r : ℕ) → is_none (child_at cs r).self ≡ true →
      ((i : ℕ) → i < length es → (entry_at es i).child ≡ r → seen (entry_at es i).parent ≡ true → is_none (entry_at es i).fid ≡ true) →
      is_none (child_at m.children r).self ≡ true
  -- one that has none after it is as it was, and so is an entry of it
  pub children : (r : ℕ) → is_none (child_at m.children r).self ≡ true → child_at m.children r ≡ child_at cs r
  pub entries : (i : ℕ) → is_none (child_of m.children (entry_at es i)).self ≡ true → entry_at m.entries i ≡ entry_at es i

unfoldable pub EveryBare : Type 0
EveryBare = (seen : MdtFid → Bool) (es : List Entry) (cs : List Child) → BareStay seen es cs (mended seen es cs)

-- ## A mending of the bytes

-- what the tables say, mended under marks
unfoldable pub mended_under : List ℕ → List ℕ → List ℕ → Mended
mended_under entries children marks = mended (seen_by marks (parse_children children)) (parse_entries entries) (parse_children children)

-- of entries, children and report as lent, mended under marks to l
pub record UnderMarks (entries children marks report : List ℕ) (l : Left) : Type 0 where
  -- the tables that are left are accepted again and say what the mending leaves; its answer is given, its numbers are reported
  pub bytes : EveryMendOfBytes entries children marks l
  pub answer : l.answer ≡ (mended_under entries children marks).answer
  pub out : l.out ≡ sets report 0 (report_numbers (mended_under entries children marks).report)
  -- and it keeps what is promised
  pub mending : EveryMending (seen_by marks (parse_children children)) (parse_entries entries) (parse_children children) (mended_under entries children marks)
  pub bare : BareStay (seen_by marks (parse_children children)) (parse_entries entries) (parse_children children) (mended_under entries children marks)
  -- "a second pass under it, after a finished one, changes nothing": no byte of the tables, nor of what else it is handed; and it reports nothing
  pub again : l.answer ≡ 0 → (ms r : List ℕ) →
      mended_bytes (seen_by marks (parse_children l.children)) l.entries l.children ms r
      ≡ left 0 l.entries l.children ms (sets r 0 (report_numbers (quiet (length (parse_entries entries)))))

-- of tables that pass the check, and marks that fit them; ms is what is handed on as marks
unfoldable pub EveryUnderMarks : Type 0
EveryUnderMarks =
    (entries children marks report : List ℕ) → Bytes entries → Bytes children → SoundNames entries children →
    good_marks marks (parse_children children) ≡ true → (ms : List ℕ) →
    UnderMarks entries children marks report (mended_bytes (seen_by marks (parse_children children)) entries children ms report)

-- ## The calls

-- an answer that is no refusal: finished, or stopped "with 38"
unfoldable pub went : ℕ → Bool
went n = eqb n 0 || eqb n link_full

-- a refused call leaves all as lent
unfoldable pub AsLent : List ℕ → List ℕ → List ℕ → List ℕ → Left → Type 0
AsLent entries children marks report l = went l.answer ≡ false → l ≡ left l.answer entries children marks report

-- after a finished call lfsck_names_mend is not refused what it left, with the same index and room, and changes nothing
unfoldable pub CallAgain : List ℕ → List ℕ → List ℕ → List ℕ → Left → Type 0
CallAgain entries index room marks l =
    l.answer ≡ 0 → (r : List ℕ) → report_size ≤ length r →
    mend_call l.entries l.children index room marks r
    ≡ left 0 l.entries l.children marks (sets r 0 (report_numbers (quiet (length (parse_entries entries)))))

-- of lfsck_names_mend, that leaves l
pub record MendCalled (entries children index room marks report : List ℕ) (l : Left) : Type 0 where
  pub under : went l.answer ≡ true → UnderMarks entries children marks report l
  pub again : CallAgain entries index room marks l
  pub marks_stay : l.marks ≡ marks
  pub refused : AsLent entries children marks report l

unfoldable pub EveryMendCall : Type 0
EveryMendCall =
    (entries children index room marks report : List ℕ) → Bytes entries → Bytes children →
    MendCalled entries children index room marks report (mend_call entries children index room marks report)

-- "Visibility is judged once, as lent"
unfoldable pub lent_marks : List ℕ → List ℕ
lent_marks children = judged max_levels (parse_children children)

-- of lfsck_names_pass, that leaves l
pub record Passed (entries children index room marks report : List ℕ) (l : Left) : Type 0 where
  -- a pass that is not refused mends under the marks that are judged of the tables as lent
  pub under : went l.answer ≡ true → UnderMarks entries children (lent_marks children) report l
  -- under them that is visible which the climb finds, and no climb is too long: "for any directory a longer or circular climb is 39"
  pub visible : (f : MdtFid) → seen_by (lent_marks children) (parse_children children) f ≡ is_visible (climb max_levels (parse_children children) f)
  pub climbed : went l.answer ≡ true → too_long max_levels (parse_children children) ≡ false
  -- they are handed on in front of what was lent, one for each child, and under them a finished pass can be repeated
  pub marks_left : went l.answer ≡ true → l.marks ≡ sets marks 0 (lent_marks children)
  pub marks_front : went l.answer ≡ true → take (length (child_rows children)) l.marks ≡ lent_marks children
  pub again : CallAgain entries index room (lent_marks children) l
  pub refused : AsLent entries children marks report l

unfoldable pub EveryPass : Type 0
EveryPass =
    (entries children index room marks report : List ℕ) → Bytes entries → Bytes children →
    Passed entries children index room marks report (pass_call entries children index room marks report)
