use Rattle.theory.proofs.Feeding.{feeds}
use Rattle.theory.proofs.maps_agree.Goals as goal

pub returns : goal.returns
returns g c = feeds g.K.PartialEq.eq g.K.Key.hash
