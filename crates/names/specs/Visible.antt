-- Which directories are visible, judged of the tables as lent, and the marks that hand it on. Document 02, 2026-06.
use Rattle.std.specs.Prelude.{ℕ, zero, suc, Bool, true, false, cond, not, ◌&&◌, ◌||◌, List, [], ◌∷◌, map, ltb, eqb, Option, None, Some}
use Rattle.fid.specs.declared.MdtFid.{MdtFid}
use Rattle.names.specs.Rows.{Child, is_none, is_linked, child_at}
use Rattle.names.specs.Findings.{same, any}
use Rattle.names.specs.declared.Climbed.{Climbed}
use Rattle.names.specs.declared.Climbed.TheVariants.{TooLong, Hidden, Visible}

-- ## The climb

-- "ROOT ([0x200000007:1:0], row or not)"
abbrev pub root_sequence : ℕ
root_sequence = 0x200000007

unfoldable pub root : MdtFid
root = record { 0 = record { seq = root_sequence; oid = 1; ver = 0 } }

unfoldable pub is_root : MdtFid → Bool
is_root f = same f root

unfoldable pub first_row : MdtFid → List Child → ℕ → Option ℕ
first_row f [] r = None
first_row f (c ∷ cs) r = cond (same c.self f) (Some r) (first_row f cs (suc r))

-- "A directory (the first row with its FID)"; "a zero FID .. means none"
unfoldable pub directory : List Child → MdtFid → Option ℕ
directory cs f = cond (is_none f) None (first_row f cs 0)

-- "is visible if it .. has linkEA": else `..` is followed, and without it the climb "leads out of the lent table"
unfoldable pub at_row : (MdtFid → Climbed) → Child → Climbed
at_row above c = cond (is_linked c.link) Visible (cond (is_none c.up) Hidden (above c.up))

-- "What leads out of the lent table is hidden"
unfoldable pub at_directory : (MdtFid → Climbed) → List Child → Option ℕ → Climbed
at_directory above cs None = Hidden
at_directory above cs (Some r) = at_row above (child_at cs r)

-- "or is ROOT"
unfoldable pub arrive : (MdtFid → Climbed) → List Child → MdtFid → Climbed
arrive above cs f = cond (is_root f) Visible (at_directory above cs (directory cs f))

unfoldable pub none_left : MdtFid → Climbed
none_left f = TooLong

-- "follow `..` upward by at most 4,096 levels to the first such", with the levels that are left
unfoldable pub climb : ℕ → List Child → MdtFid → Climbed
climb zero cs f = arrive none_left cs f
climb (suc left) cs f = arrive (climb left cs) cs f

abbrev pub max_levels : ℕ
max_levels = 4096

-- "for any directory a longer or circular climb is 39"
abbrev pub long_climb : ℕ
long_climb = 39

unfoldable pub is_too_long : Climbed → Bool
is_too_long TooLong = true
is_too_long Hidden = false
is_too_long Visible = false

-- the climb of a child row with a self FID, within a number of levels
unfoldable pub climbs_too_long : ℕ → List Child → Child → Bool
climbs_too_long levels cs c = not (is_none c.self) && is_too_long (climb levels cs c.self)

unfoldable pub too_long : ℕ → List Child → Bool
too_long levels cs = any (climbs_too_long levels cs) cs

-- ## Marks

-- one number for each child row
abbrev pub hidden_mark : ℕ
hidden_mark = 0

abbrev pub visible_mark : ℕ
visible_mark = 1

-- of a row that has no self FID, and so is no directory
abbrev pub no_self_mark : ℕ
no_self_mark = 2

unfoldable pub climb_mark : Climbed → ℕ
climb_mark TooLong = hidden_mark
climb_mark Hidden = hidden_mark
climb_mark Visible = visible_mark

unfoldable pub mark_of : ℕ → List Child → Child → ℕ
mark_of levels cs c = cond (is_none c.self) no_self_mark (climb_mark (climb levels cs c.self))

-- "Visibility is judged once, as lent"
unfoldable pub judged : ℕ → List Child → List ℕ
judged levels cs = map (mark_of levels cs) cs

-- ## Visible under marks

-- the first row with the FID, of those that are marked as directories
unfoldable pub first_marked : MdtFid → List ℕ → List Child → Bool
first_marked f [] cs = false
first_marked f (m ∷ ms) [] = false
first_marked f (m ∷ ms) (c ∷ cs) = cond (ltb m no_self_mark && same c.self f) (eqb m visible_mark) (first_marked f ms cs)

unfoldable pub seen_by : List ℕ → List Child → MdtFid → Bool
seen_by marks cs f = is_root f || not (is_none f) && first_marked f marks cs

-- marks that fit a table: one for each row, at most 2, and 2 where there is no self FID
unfoldable pub good_mark : ℕ → Child → Bool
good_mark m c = ltb m no_self_mark && not (is_none c.self) || eqb m no_self_mark

unfoldable pub good_marks : List ℕ → List Child → Bool
good_marks [] [] = true
good_marks [] (c ∷ cs) = false
good_marks (m ∷ ms) [] = false
good_marks (m ∷ ms) (c ∷ cs) = good_mark m c && good_marks ms cs
