use Rattle.std.proofs.Common.{lit<, rules, ◌/◌, length, ◌∙◌}
use Rattle.names.specs.Rows.{child_size}
use Rattle.names.specs.Check.{child_there}
use Rattle.tables.proofs.AllLaws.{all_chunks}
use Rattle.names_check.proofs.TestLaws.{there_is}
use Rattle.names_check.proofs.check.children_there.Goals as goal

pub returns : goal.returns
returns c =
    let a = c.args in
    all_chunks (child_there (length a.children.now / child_size)) _ _ _ c.all.ensures.ran (lit< tt) c.chunks_exact.ensures.rest c.chunks_exact.ensures.size (λ x b q k. search rules)
    ∙ there_is a.entries.now a.children.now
