use mathlib.Core.Path.{◌≡◌, sym, ap, ap₂, ◌∙◌}
use mathlib.Core.Bool.{true}
use mathlib.Core.List.{List}
use Prim.Native.Nat.{ℕ, ◌+◌, ◌-◌, ◌*◌, ◌/◌, ◌<◌}
use native.Mathlib.Omega.{arith}
use lib.ListN.{length, take, drop}
use Rattle.linkea.specs.Conditions.{some, bad_byte}
use Rattle.tables.proofs.AllLaws.{row_fits, part_is}
use Rattle.names.specs.Rows.{Child, child_size, is_none, child_of, decode_child, parse_children}
use Rattle.names.specs.Check.{good_name, good_link_ea}
use Rattle.names.specs.Findings.{link_for, has_link}
use Rattle.names.specs.Sweeps.{outgrows}
use Rattle.names.proofs.SoundLaws.{name_at_lem, link_at}
use Rattle.names_check.specs.Asked.{entry_at}
use Rattle.names_check.proofs.TestLaws.{name_room_lem}
use Rattle.names_check.proofs.FindingLaws.{child_in}
use Rattle.names_fids.proofs.NotedLaws.{hidden_note, visible_note}
use Rattle.names_fids.proofs.SelvesLaws.{its_row, its_child}
use Rattle.names_append.proofs.AskLaws.{not_visible, no_self, has_its, has_no_room, has_room, name_some, name_clean, its_length, its_record, its_has, link_stored, record_of_entry}
use Rattle.names_append.proofs.append_at.Goals as goal
use Rattle.names_append.proofs.append_at.Goals.{After-child_of-r, After-has_record, After-is_none, After-outgrows_room, After-row_at-child}

-- ## Of the row of the child
-- it is there
inside : (c : goal.After-child_of-r) → c.child_of-r.result < length c.args.children.now / child_size
inside c =
    let a = c.args in
    child_in a.entries.now a.children.now c.requires.0 a.i c.requires.1 _ c.row_at-row.ensures.0 _ c.child_of-r.ensures

-- the child of an entry, as it is lent
abbrev child_now : List ℕ → List ℕ → ℕ → Child
child_now entries children i = child_of (parse_children children) (entry_at entries i)

its_own : (c : goal.After-row_at-child) →
    c.child_of-r.result < length c.args.children.now / child_size →
    decode_child c.row_at-child.result.now ≡ child_now c.args.entries.now c.args.children.now c.args.i
its_own c h =
    let a = c.args in
    its_child a.entries.now a.children.now a.i _ c.row_at-row.ensures.0 _ _ c.child_of-r.ensures h c.row_at-child.ensures.0

-- the part of the table that is its row
part_row : (c : goal.After-row_at-child) →
    (let r = c.child_of-r.result in
    take (child_size * r + child_size - child_size * r) (drop (child_size * r) c.args.children.now)) ≡ c.row_at-child.result.now
part_row c = part_is child_size (child_size * c.child_of-r.result) c.args.children.now ∙ sym c.row_at-child.ensures.0

-- its link_ea, and the name of the entry, pass the check
link_good : (c : goal.After-row_at-child) → c.child_of-r.result < length c.args.children.now / child_size → good_link_ea c.row_at-child.result.now ≡ true
link_good c h =
    ap good_link_ea c.row_at-child.ensures.0 ∙ link_at c.args.entries.now c.args.children.now c.requires.0 _ h

name_good : (c : goal.After-row_at-child) → good_name c.row_at-row.result.now ≡ true
name_good c =
    ap good_name c.row_at-row.ensures.0 ∙ name_at_lem c.args.entries.now c.args.children.now c.requires.0 c.args.i c.requires.1

-- ## What the tests say of the child and its entry
none_is : (c : goal.After-is_none) →
    decode_child c.row_at-child.result.now ≡ child_now c.args.entries.now c.args.children.now c.args.i →
    c.is_none.result ≡ is_none (child_now c.args.entries.now c.args.children.now c.args.i).self
none_is c own = c.is_none.ensures ∙ ap is_none c.self_of.ensures ∙ ap (λ (x : Child). is_none x.self) own

has_is : (c : goal.After-has_record) →
    decode_child c.row_at-child.result.now ≡ child_now c.args.entries.now c.args.children.now c.args.i →
    c.has_record.result ≡ has_link (link_for (entry_at c.args.entries.now c.args.i)) (child_now c.args.entries.now c.args.children.now c.args.i)
has_is c own =
    let w = c.row_at-row in
    let a = c.args in
    c.has_record.ensures ∙ its_has a.entries.now w.result.now a.i w.ensures.0 _ _ own

room_is : (c : goal.After-outgrows_room) →
    decode_child c.row_at-child.result.now ≡ child_now c.args.entries.now c.args.children.now c.args.i →
    c.outgrows_room.result ≡ outgrows (child_now c.args.entries.now c.args.children.now c.args.i) (link_for (entry_at c.args.entries.now c.args.i))
room_is c own =
    let w = c.row_at-row in
    let a = c.args in
    let x = link_for (entry_at a.entries.now a.i) in
    c.outgrows_room.ensures x (its_length a.entries.now w.result.now a.i w.ensures.0 _ c.name_of-name.ensures.0)
    ∙ ap (λ (z : Child). outgrows z x) own

-- ## The needs
pub returns-then-note-eq0 : goal.returns-then-note-eq0
returns-then-note-eq0 c =
    let a = c.args in
    let e = entry_at a.entries.now a.i in
    (c.requires.0, λ seen q. not_visible seen (parse_children a.children.now) e (hidden_note seen e _ c.if-note-eq0.true q))

pub row_at-child-requires : goal.row_at-child-requires
row_at-child-requires c = row_fits child_size _ (length c.args.children.now) (omega arith) (inside c)

pub returns-then-is_none : goal.returns-then-is_none
returns-then-is_none c =
    let a = c.args in
    let s = goal.at.returns-then-is_none c in
    let own = its_own s.After-row_at-child (inside s.After-child_of-r) in
    (c.requires.0, λ seen q. no_self seen (parse_children a.children.now) (entry_at a.entries.now a.i) (sym (none_is s.After-is_none own) ∙ c.if-is_none.true))

pub has_record-requires : goal.has_record-requires
has_record-requires c =
    let s = goal.at.has_record-requires c in
    (c.row_at-row.ensures.1, c.row_at-child.ensures.1, name_good s.After-row_at-child, link_good s.After-row_at-child (inside s.After-child_of-r))

pub returns-then-has_record : goal.returns-then-has_record
returns-then-has_record c =
    let a = c.args in
    let s = goal.at.returns-then-has_record c in
    let own = its_own s.After-row_at-child (inside s.After-child_of-r) in
    (c.requires.0, λ seen q. has_its seen (parse_children a.children.now) (entry_at a.entries.now a.i) (sym (has_is s.After-has_record own) ∙ c.if-has_record.true))

pub name_of-name-requires : goal.name_of-name-requires
name_of-name-requires c =
    (c.row_at-row.ensures.1, name_room_lem c.row_at-row.result.now (name_good (goal.at.name_of-name-requires c).After-row_at-child))

pub outgrows_room-requires : goal.outgrows_room-requires
outgrows_room-requires c =
    let s = goal.at.outgrows_room-requires c in
    (c.row_at-child.ensures.1, link_good s.After-row_at-child (inside s.After-child_of-r), omega (arith, c.name_of-name.ensures.1, name_room_lem c.row_at-row.result.now (name_good s.After-row_at-child)))

pub returns-then-outgrows_room : goal.returns-then-outgrows_room
returns-then-outgrows_room c =
    let a = c.args in
    let e = entry_at a.entries.now a.i in
    let s = goal.at.returns-then-outgrows_room c in
    let own = its_own s.After-row_at-child (inside s.After-child_of-r) in (
      c.requires.0,
      λ seen q. has_no_room seen (parse_children a.children.now) e (visible_note seen e _ c.if-note-eq0.false q) (sym (none_is s.After-is_none own) ∙ c.if-is_none.false)
          (sym (has_is s.After-has_record own) ∙ c.if-has_record.false) (sym (room_is s.After-outgrows_room own) ∙ c.if-outgrows_room.true),
    )

pub slice_bounds-append_link-end : goal.slice_bounds-append_link-end
slice_bounds-append_link-end c =
    row_fits child_size _ (length c.args.children.now) (omega arith) (inside (goal.at.slice_bounds-append_link-end c).After-child_of-r)

pub append_link-requires : goal.append_link-requires
append_link-requires c =
    let a = c.args in
    let w = c.row_at-row in
    let n = c.name_of-name.ensures in
    let s = goal.at.append_link-requires c in
    let p = part_row s.After-row_at-child in
    let g = name_good s.After-row_at-child in
    let h = inside s.After-child_of-r in
    let own = its_own s.After-row_at-child h in
    let x = its_record a.entries.now w.result.now a.i w.ensures.0 _ _ c.parent_of-parent.ensures n.0 in (
      ap length p ∙ c.row_at-child.ensures.1,
      ap good_link_ea p ∙ link_good s.After-row_at-child h,
      omega (arith, n.1, name_some w.result.now g),
      omega (arith, n.1, name_room_lem w.result.now g),
      ap (some bad_byte) n.0 ∙ name_clean w.result.now g,
      ap₂ outgrows (ap decode_child p ∙ own) x ∙ sym (room_is s.After-outgrows_room own) ∙ c.if-outgrows_room.false,
    )

pub returns : goal.returns
returns c =
    let a = c.args in
    let e = entry_at a.entries.now a.i in
    let cs = parse_children a.children.now in
    let w = c.row_at-row in
    let l = c.append_link in
    let s = goal.at.returns c in
    let h = inside s.After-child_of-r in
    let own = its_own s.After-row_at-child h in
    let x = its_record a.entries.now w.result.now a.i w.ensures.0 _ _ c.parent_of-parent.ensures c.name_of-name.ensures.0 in
    let t = link_stored a.entries.now a.children.now c.requires.0 _ h _ l.new.row (l.auto.row ∙ ap length (part_row s.After-row_at-child) ∙ c.row_at-child.ensures.1) l.ensures.0 l.ensures.1 in (
      t.1,
      λ seen q.
          let v = has_room seen cs e (visible_note seen e _ c.if-note-eq0.false q) (sym (none_is s.After-is_none own) ∙ c.if-is_none.false) (sym (has_is s.After-has_record own) ∙ c.if-has_record.false)
          (sym (room_is s.After-outgrows_room own) ∙ c.if-outgrows_room.false) in
          (v.0, t.0 ∙ record_of_entry cs e _ _ (its_row a.entries.now a.children.now a.i _ w.ensures.0 _ c.child_of-r.ensures) x ∙ v.1),
    )
