-- What is promised of a mending under a visibility, proved. Assumes nothing.
use Rattle.names.specs.Promises.{EveryMend}
use Rattle.names_promises.proofs.AgainLaws.{mended_again}
use Rattle.names_promises.proofs.FrameLaws.{entries_same, entries_hidden, entries_many, children_many}
use Rattle.names_promises.proofs.HiddenLaws.{mended_hidden}
use Rattle.names_promises.proofs.ChildLaws.{mended_child}
use Rattle.names_promises.proofs.SettledLaws.{mended_settled}
use Rattle.names_promises.proofs.StoppedLaws.{mended_stopped}

pub every_mend : EveryMend
unfolding EveryMend
every_mend seen es cs b =
    record {
      settled = mended_settled seen es cs b;
      again = λ a. mended_again seen es cs a b;
      hidden = entries_hidden seen es cs;
      hidden_links_lem = mended_hidden seen es cs;
      entries = entries_same seen es cs;
      children = mended_child seen es cs;
      entries_length = entries_many seen es cs;
      children_length = children_many seen es cs;
      stopped = mended_stopped seen es cs;
    }
