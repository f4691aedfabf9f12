use Rattle.theory.proofs.Reaching.{shows_reach}
use Rattle.theory.proofs.reach_shows.Goals as goal

pub returns : goal.returns
returns g c = shows_reach g.K.PartialEq.eq g.K.Key.hash
