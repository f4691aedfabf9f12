use Rattle.theory.proofs.Order.{orders}
use Rattle.theory.proofs.stamps_order.Goals as goal

pub returns : goal.returns
returns g c = orders g.K.PartialEq.eq g.K.Key.hash
