use Rattle.std.proofs.Common.{ap, ◌∙◌}
use Rattle.std.proofs.lemmas.List.Edits.{sets}
use Rattle.capi_class.proofs.put_class.Goals as goal

pub returns : goal.returns
returns c = let a = c.args in c.put_all.ensures ∙ ap (sets a.out.now a.at) c.class_numbers.ensures
