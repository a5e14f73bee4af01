use Rattle.std.proofs.Common.{rules, sym, ap, ◌∙◌, List, ℕ, arith}
use Rattle.index.specs.Search.{key_of, lowest_of, Tells}
use Rattle.names.specs.Rows.{parse_entries}
use Rattle.names.proofs.SoundLaws.{parsed_entries}
use Rattle.names_check.specs.Asked.{asked}
use Rattle.names_prune.specs.ByChild.{is_named}
use Rattle.names_prune.proofs.ByChildLaws.{first_found, listed_ordered}
use Rattle.names_prune.proofs.by_child.find.Goals as goal

pub find_by-requires-clause-ordered : goal.find_by-requires-clause-ordered
find_by-requires-clause-ordered c =
    (c.requires.0.room, listed_ordered (parse_entries c.args.entries.now) _ c.args.places.now c.requires.0.rows)

pub find_by-requires-clause-callable : goal.find_by-requires-clause-callable
find_by-requires-clause-callable c = search rules

pub returns : goal.returns
unfolding Tells
returns c =
    let a = c.args in
    let x = asked a.parent a.name.now in
    let es = parse_entries a.entries.now in
    c.find_by.ensures (is_named es x) (λ v b h p. search rules)
    ∙ sym (ap (λ (l : List ℕ). lowest_of (is_named es x) (key_of 0 a.r) l) (sym c.requires.0.rows))
    ∙ sym (first_found a.r x es (omega (arith, parsed_entries a.entries.now, c.requires.0.few)))
