-- The sweeps one after the other are the mending. Assumes nothing.
use mathlib.Core.Path.{◌≡◌, refl, sym, ap, subst, ◌∙◌}
use mathlib.Core.Bool.{Bool, true, false, cond}
use mathlib.Core.List.{List, map}
use lib.ListN.{length}
use Prim.Native.Nat.{ℕ}
use Rattle.fid.specs.declared.MdtFid.{MdtFid}
use Rattle.names.specs.Rows.{Entry, Child, parse_entries, parse_children}
use Rattle.names.specs.Visible.{seen_by, good_marks}
use Rattle.names.specs.Sweeps.{Appends, sweep1, taken, sweep2, writes, sweep3, sweep4, removals}
use Rattle.names.specs.Mend.{link_full, first, second, third, report_of, finish, mended}
use Rattle.names.proofs.SoundLaws.{parsed_children}
use Rattle.names_promises.proofs.FrameLaws.{second_parents, second_childs}
use Rattle.names_promises.proofs.SelfLaws.{sweep1_self, sweep3_self}
use Rattle.names_marks.specs.Directories.{Keeps}
use Rattle.names_store.specs.Notes.{Noted}
use Rattle.names_mend.specs.Ready.{Ready}
use Rattle.names_mend.specs.declared.Mending.{Mending}
use Rattle.names_mend.specs.Mending.{answer_of, report_by, mended_by}
use Rattle.names_marks.proofs.MarksKept.{SelvesStay, stays_keeps}
use Rattle.names_mend.proofs.ReadyLaws.{noted_kept, same_seen, ready_kept}

-- the self FIDs after sweep 3
pub third_stays : (seen : MdtFid → Bool) (es fs : List Entry) (cs : List Child) → SelvesStay cs (sweep3 seen fs (sweep1 seen es cs) 0 0).children
unfolding SelvesStay
third_stays seen es fs cs r h = sweep3_self seen fs (sweep1 seen es cs) 0 0 r ∙ sweep1_self seen es cs r h

-- what sweep 3 leaves, as the code tells it
pub swept : List Child → Mending → Appends
swept cs x = record { children = cs; count = x.appended; reached = x.reached; full = x.full }

module _ (seen : MdtFid → Bool) (es fs : List Entry) (cs bs ds gs : List Child) (x : Mending) (p : bs ≡ sweep1 seen es cs) (q : fs ≡ sweep2 seen bs es)
    (u : swept ds x ≡ sweep3 seen fs bs 0 0) where
  third_is : third seen es cs ≡ swept ds x
  unfolding third second first
  third_is = rw (← p, ← q) (sym u)

  second_is : fs ≡ second seen es cs
  unfolding second first
  second_is = rw (← p) q

  first_is : bs ≡ first seen es cs
  unfolding first
  first_is = p

  children_are : ds ≡ (third seen es cs).children
  unfolding swept
  children_are = ap (λ (a : Appends). a.children) (sym third_is)

  module _ (t : x.taken ≡ taken seen es cs) (w : x.written ≡ writes seen bs es) where
    report_is : (n : ℕ) → x.removed ≡ n → report_by x ≡ report_of seen es cs n
    unfolding report_by report_of swept
    report_is n m =
        let a : x.written ≡ writes seen (first seen es cs) es = w ∙ ap (λ (l : List Child). writes seen l es) first_is in
        let b : x.appended ≡ (third seen es cs).count = ap (λ (y : Appends). y.count) (sym third_is) in
        let c : x.reached ≡ (third seen es cs).reached = ap (λ (y : Appends). y.reached) (sym third_is) in
        λ i. record { taken = t i; written = a i; appended = b i; removed = m i; reached = c i }

    finish_is : (b : Bool) → x.full ≡ b → gs ≡ cond b ds (sweep4 seen fs ds 0) → x.removed ≡ cond b 0 (removals seen fs ds 0) →
        mended_by x fs gs ≡ finish seen es cs b
    unfolding mended_by answer_of finish
    finish_is true e v m =
        let a : answer_of x.full ≡ link_full = ap answer_of e in
        let c : gs ≡ (third seen es cs).children = v ∙ children_are in
        let r = report_is 0 m in
        λ i. record { answer = a i; entries = second_is i; children = c i; report = r i }
    finish_is false e v m =
        let a : answer_of x.full ≡ 0 = ap answer_of e in
        let c : gs ≡ sweep4 seen (second seen es cs) (third seen es cs).children 0 = v ∙ rw (second_is, children_are) in
        let r = report_is (removals seen (second seen es cs) (third seen es cs).children 0) (m ∙ rw (second_is, children_are)) in
        λ i. record { answer = a i; entries = second_is i; children = c i; report = r i }

    pub mended_is : gs ≡ cond x.full ds (sweep4 seen fs ds 0) → x.removed ≡ cond x.full 0 (removals seen fs ds 0) → mended_by x fs gs ≡ mended seen es cs
    unfolding mended swept
    mended_is v m = finish_is x.full refl v m ∙ ap (λ (a : Appends). finish seen es cs a.full) (sym third_is)

-- ## Over the lent bytes

-- the tables after sweeps 1, 2 and 3, as the sweeps tell them of every visibility that the notes are of
module _ (e c marks index notes : List ℕ) (n : ℕ) (g : good_marks marks (parse_children c) ≡ true) (r : Ready e c marks index notes n)
    (a x y : List ℕ) (la : length a ≡ length c) (lx : length x ≡ length e) (ly : length y ≡ length a) (t w k i : ℕ) (f : Bool)
    (p : (seen : MdtFid → Bool) → Noted seen e notes →
    (parse_children a ≡ sweep1 seen (parse_entries e) (parse_children c)) × (t ≡ taken seen (parse_entries e) (parse_children c)))
    (q : (seen : MdtFid → Bool) → Noted seen e notes →
    (parse_entries x ≡ sweep2 seen (parse_children a) (parse_entries e)) × (w ≡ writes seen (parse_children a) (parse_entries e)))
    (u : (seen : MdtFid → Bool) → Noted seen x notes →
    record { children = parse_children y; count = k; reached = i; full = f } ≡ sweep3 seen (parse_entries x) (parse_children a) 0 0) where
  seen : MdtFid → Bool
  seen = seen_by marks (parse_children c)

  ps : (parse_children a ≡ sweep1 seen (parse_entries e) (parse_children c)) × (t ≡ taken seen (parse_entries e) (parse_children c))
  unfolding seen
  ps = p seen r.noted

  qs : (parse_entries x ≡ sweep2 seen (parse_children a) (parse_entries e)) × (w ≡ writes seen (parse_children a) (parse_entries e))
  unfolding seen
  qs = q seen r.noted

  parents_same : map (λ (z : Entry). z.parent) (parse_entries x) ≡ map (λ (z : Entry). z.parent) (parse_entries e)
  parents_same = rw qs.0 (second_parents seen (parse_children a) (parse_entries e))

  childs_same : map (λ (z : Entry). z.child) (parse_entries x) ≡ map (λ (z : Entry). z.child) (parse_entries e)
  childs_same = rw qs.0 (second_childs seen (parse_children a) (parse_entries e))

  us : record { children = parse_children y; count = k; reached = i; full = f } ≡ sweep3 seen (parse_entries x) (parse_children a) 0 0
  unfolding seen
  us = u seen (noted_kept seen e x notes lx parents_same r.noted)

  selves_stay : SelvesStay (parse_children c) (parse_children y)
  selves_stay =
      subst (SelvesStay (parse_children c)) (sym (ap (λ (z : Appends). z.children) us ∙ ap (λ (l : List Child). (sweep3 seen (parse_entries x) l 0 0).children) ps.0))
      (third_stays seen (parse_entries e) (parse_entries x) (parse_children c))

  keeps : Keeps marks (parse_children c) (parse_children y)
  keeps = stays_keeps marks (parse_children c) (parse_children y) g (rw (parsed_children y, parsed_children c, ly, la)) selves_stay

  pub third_ready : Ready x y marks index notes n
  third_ready = ready_kept e x c y marks index notes n r lx (ly ∙ la) keeps parents_same childs_same

  pub all_swept : (z : List ℕ) (m : ℕ) → parse_children z ≡ cond f (parse_children y) (sweep4 (seen_by marks (parse_children y)) (parse_entries x) (parse_children y) 0) →
      m ≡ cond f 0 (removals (seen_by marks (parse_children y)) (parse_entries x) (parse_children y) 0) →
      mended_by (record { taken = t; written = w; appended = k; removed = m; reached = i; full = f }) (parse_entries x) (parse_children z)
      ≡ mended (seen_by marks (parse_children c)) (parse_entries e) (parse_children c)
  unfolding swept seen
  all_swept z m v o =
      let s : seen_by marks (parse_children y) ≡ seen = same_seen marks (parse_children c) (parse_children y) keeps in
      mended_is seen (parse_entries e) (parse_entries x) (parse_children c) (parse_children a) (parse_children y) (parse_children z)
      (record { taken = t; written = w; appended = k; removed = m; reached = i; full = f }) ps.0 qs.0 us ps.1 qs.1 (rw s at v) (rw s at o)
