use Rattle.search.proofs.NamingLaws.{named_is}
use Rattle.search.proofs.naming.named.Goals as goal

pub returns : goal.returns
returns c = named_is _ _ _ _ c.first_naming.ensures.place c.is_some.ensures
