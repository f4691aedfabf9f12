use Rattle.theory.proofs.Steady.{steady}
use Rattle.theory.proofs.records_steady.Goals as goal

pub returns : goal.returns
returns g c = steady g.K.PartialEq.eq g.K.Key.hash
