-- The log of every run stands, by the main theorem: pair by pair, and so value by value.
use Rattle.machine.proofs.Laws.{laws_of}
use Rattle.machine.proofs.Turns.{main_theorem}
use Rattle.machine.proofs.Worth.{stands_worth}
use Rattle.machine.proofs.machine_stands.Goals as goal

pub returns : goal.returns
returns g c = record {
  values = λ laws chunk es s r.
      stands_worth g.K.PartialEq.eq g.K.Key.hash chunk es s (main_theorem g.K.PartialEq.eq g.K.Key.hash chunk (laws_of g.K.PartialEq.eq g.K.Key.hash laws) es s r);
  pairs = λ laws chunk es s r. main_theorem g.K.PartialEq.eq g.K.Key.hash chunk (laws_of g.K.PartialEq.eq g.K.Key.hash laws) es s r;
}
