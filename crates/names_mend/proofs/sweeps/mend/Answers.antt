use Rattle.names_marks.proofs.MarksKept.{marks_many}
use Rattle.names_mend.proofs.sweeps.mend.Goals as goal

pub prepare-n-requires : goal.prepare-n-requires
prepare-n-requires c =
    (c.requires.0, marks_many c.args.marks.now c.args.children.now c.requires.1, c.requires.2, c.requires.3)
