use borrow.Author.Rules.{rules}
use mathlib.Core.Path.{◌≡◌, sym, ap, subst, ◌∙◌}
use mathlib.Core.List.{List}
use Prim.Native.Nat.{ℕ, ◌≤◌}
use native.Mathlib.Omega.{arith}
use lib.ListN.{length}
use Rattle.wire.specs.Numbers.{Bytes}
use Rattle.linkea.specs.Link.{decode_link_header, link_header}
use Rattle.linkea.specs.declared.LinkHeader.{LinkHeader}
use Rattle.names.specs.Rows.{link_room, link_length}
use Rattle.names.proofs.BackLaws.{link_room_lem}
use Rattle.names_links.proofs.RoomLaws.{new_header, old_long, old_header, old_room}
use Rattle.names_links.proofs.room.header_of.Goals as goal

pub returns-then-link_len-eq0 : goal.returns-then-link_len-eq0
returns-then-link_len-eq0 c =
    (new_header c.args.row.now (sym c.link_len.ensures ∙ c.if-link_len-eq0.true), omega arith)

pub link_of-requires : goal.link_of-requires
link_of-requires c = (c.requires.0, link_room_lem c.args.row.now c.requires.1)

pub read_header-requires : goal.read_header-requires
unfolding Bytes
read_header-requires c =
    let e = c.link_len.ensures in
    subst (λ (l : List ℕ). link_header ≤ length l) (sym c.link_of.ensures.0)
    (old_long c.args.row.now (λ i. search rules) c.requires.0 c.requires.1 (λ z. c.if-link_len-eq0.false (e ∙ z)))

pub returns : goal.returns
unfolding Bytes
returns c =
    let l = c.args.row.now in
    let e = c.link_len.ensures in
    let q = c.read_header.ensures ∙ ap (λ (m : List ℕ). decode_link_header m) c.link_of.ensures.0 in
    let b : Bytes l = λ i. search rules in
    let n : link_length l ≡ 0 → ⊥ = λ z. c.if-link_len-eq0.false (e ∙ z) in
    (q ∙ old_header l b c.requires.0 c.requires.1 n, subst (λ (h : LinkHeader). h.total ≤ link_room) (sym q) (old_room l b c.requires.0 c.requires.1 n))
