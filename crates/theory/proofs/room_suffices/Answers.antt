use Rattle.theory.proofs.Lengths.{room_suffices_lem}
use Rattle.theory.proofs.room_suffices.Goals as goal

pub returns : goal.returns
returns g c = room_suffices_lem g.K.PartialEq.eq g.K.Key.hash
