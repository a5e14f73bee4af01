use Rattle.std.proofs.Common.{rules}
use Rattle.names.specs.Rows.{parse_children}
use Rattle.names.proofs.SoundLaws.{parsed_children}
use Rattle.names_judge.specs.Listed.{Names}
use Rattle.names_judge.proofs.listing.list.Goals as goal

pub returns : goal.returns
unfolding Names
returns c =
    let cs = parse_children c.args.children.now in
    (c.list_by.ensures.listed cs (parsed_children c.args.children.now) (λ r f h p. search rules), c.list_by.ensures.few)
