-- The edits show as those of the machine.
use Rattle.theory.proofs.Shown.{shows_edits}
use Rattle.theory.proofs.edits_show.Goals as goal

pub returns : goal.returns
returns c = shows_edits
