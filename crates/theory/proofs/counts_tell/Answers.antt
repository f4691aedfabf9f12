use Rattle.rules.proofs.Counting.{counted}
use Rattle.theory.proofs.Lengths.{tells}
use Rattle.theory.proofs.counts_tell.Goals as goal

pub returns : goal.returns
returns g c m = let same = g.K.PartialEq.eq in let hash = g.K.Key.hash in tells same hash m (counted same hash m)
