-- The findings of the entries, one after the other. Assumes nothing.
use mathlib.Core.Path.{◌≡◌, refl, sym, ap, ◌∙◌}
use mathlib.Core.List.{List, [], ◌∷◌, ◌++◌}
use Prim.Native.Nat.{ℕ, ◌+◌, ◌*◌, ◌/◌, ◌≤◌, ◌<◌}
use native.Mathlib.Numerals.{add-one}
use native.Mathlib.Omega.{arith}
use lib.ListN.{length, take, drop, get_or, set, get_or-map}
use lib.Seq.{sets, take-suc, take_all, length-take-le}
use Rattle.wire.specs.Rows.{rows}
use Rattle.wire.proofs.RowLaws.{rows_at}
use Rattle.wire.proofs.Splice.{sets_at}
use Rattle.names.specs.Rows.{Entry, Child, entry_size, child_size, child_of, child_at, decode_entry, decode_child, entry_rows, parse_entries, parse_children}
use Rattle.names.specs.Findings.{fids_finding, fid_finding, fid_number, link_finding, link_number, findings}
use Rattle.names.specs.declared.FidFinding.{FidFinding}
use Rattle.names.specs.declared.LinkFinding.{LinkFinding}
use Rattle.names.proofs.SoundLaws.{parsed_entries, parsed_child, child_at_lem}
use Rattle.names.specs.Check.{SoundNames}
use Rattle.names_check.specs.Asked.{entry_at}

findings_append : (cs : List Child) (es fs : List Entry) → findings cs (es ++ fs) ≡ findings cs es ++ findings cs fs
unfolding findings
findings_append cs [] fs = refl
findings_append cs (e ∷ es) fs =
    ap (λ (l : List ℕ). fid_number (fid_finding e (child_of cs e)) ∷ link_number (link_finding e (child_of cs e)) ∷ l) (findings_append cs es fs)

findings_length : (cs : List Child) (es : List Entry) → length (findings cs es) ≡ 2 * length es
unfolding findings
findings_length cs [] = refl
findings_length cs (e ∷ es) = omega (arith, findings_length cs es)

pub entry_row : (l : List ℕ) (i : ℕ) → i < length l / entry_size → get_or (parse_entries l) i (decode_entry []) ≡ entry_at l i
unfolding parse_entries entry_rows entry_at
entry_row l i h =
    get_or-map decode_entry (rows entry_size (length l / entry_size) l) i [] ∙ ap decode_entry (rows_at entry_size (length l / entry_size) i l h)

-- the child of an entry is there
pub child_in : (e c : List ℕ) → SoundNames e c → (i : ℕ) → i < length e / entry_size → (row : List ℕ) → row ≡ take entry_size (drop (entry_size * i) e) →
    (r : ℕ) → r ≡ (decode_entry row).child → r < length c / child_size
unfolding decode_entry
child_in e c h i k row p r q = rw (q, p) (child_at_lem e c h i k)

-- two stores of one entry
pub two_stores : (e c out : List ℕ) (i a b r : ℕ) (row : List ℕ) (f : FidFinding) (x : LinkFinding) → a ≡ fid_number f → b ≡ link_number x →
    f ≡ fids_finding (entry_at e i).fid (decode_child row).self → x ≡ link_finding (entry_at e i) (decode_child row) → r ≡ (entry_at e i).child →
    r < length c / child_size → row ≡ take child_size (drop (child_size * r) c) →
    set (set out (2 * i) a) (2 * i + 1) b ≡ sets out (2 * i) (findings (parse_children c) (entry_at e i ∷ []))
unfolding findings fid_finding child_of
two_stores e c out i a b r row f x p q s t u k w =
    let d : decode_child row ≡ child_at (parse_children c) (entry_at e i).child =
    ap decode_child w ∙ sym (parsed_child c r k) ∙ ap (child_at (parse_children c)) u in
    let y : a ≡ fid_number (fids_finding (entry_at e i).fid (child_at (parse_children c) (entry_at e i).child).self) =
    p ∙ ap fid_number s ∙ ap (λ (z : Child). fid_number (fids_finding (entry_at e i).fid z.self)) d in
    let v : b ≡ link_number (link_finding (entry_at e i) (child_at (parse_children c) (entry_at e i).child)) =
    q ∙ ap link_number t ∙ ap (λ (z : Child). link_number (link_finding (entry_at e i) z)) d in
    rw (y, v, add-one (2 * i))

module _ (e c out : List ℕ) where
  -- the findings of the first i entries stored
  pub found_to : ℕ → List ℕ
  found_to i = sets out 0 (findings (parse_children c) (take i (parse_entries e)))

  pub found_start : out ≡ found_to 0
  unfolding found_to findings
  found_start = refl

  pub found_next : (i : ℕ) (l m : List ℕ) → i < length e / entry_size → l ≡ found_to i →
      m ≡ sets l (2 * i) (findings (parse_children c) (entry_at e i ∷ [])) → m ≡ found_to (i + 1)
  unfolding found_to
  found_next i l m h p q =
      let n : length (parse_entries e) ≡ length e / entry_size = parsed_entries e in
      let t : take (i + 1) (parse_entries e) ≡ take i (parse_entries e) ++ (entry_at e i ∷ []) =
      rw (add-one i, take-suc (parse_entries e) i (decode_entry []) (omega arith), entry_row e i h) in
      let k : length (findings (parse_children c) (take i (parse_entries e))) ≡ 2 * i =
      findings_length (parse_children c) (take i (parse_entries e)) ∙ ap (λ (j : ℕ). 2 * j) (length-take-le i (parse_entries e) (omega arith)) in
      let z : 0 + 2 * i ≡ 2 * i = omega arith in
      let s = rw z at (sets_at (findings (parse_children c) (take i (parse_entries e))) (findings (parse_children c) (entry_at e i ∷ [])) out 0 (2 * i) k) in
      q ∙ ap (λ (x : List ℕ). sets x (2 * i) (findings (parse_children c) (entry_at e i ∷ []))) p ∙ s
      ∙ ap (λ (x : List ℕ). sets out 0 x) (sym (findings_append (parse_children c) (take i (parse_entries e)) (entry_at e i ∷ [])))
      ∙ ap (λ (x : List Entry). sets out 0 (findings (parse_children c) x)) (sym t)

  pub found_all : (i : ℕ) (l : List ℕ) → length e / entry_size ≤ i → l ≡ found_to i → l ≡ sets out 0 (findings (parse_children c) (parse_entries e))
  unfolding found_to
  found_all i l h p = p ∙ ap (λ (x : List Entry). sets out 0 (findings (parse_children c) x)) (take_all i (parse_entries e) (omega (arith, parsed_entries e)))
