-- What holds of runs by the exact turns, by the theorems on them.
use Rattle.keys.specs.Routes.{chunk_at}
use Rattle.machine.proofs.Laws.{laws_of}
use Rattle.machine.proofs.Chunk.{chunks}
use Rattle.machine.proofs.Reach.{reach_walk, walk_reach}
use Rattle.machine.proofs.AtRest.{always, owners, at_rest}
use Rattle.machine.proofs.Worth.{stands_worth}
use Rattle.machine.proofs.rest_stands.Goals as goal

pub returns : goal.returns
returns g c = record {
  log = λ laws b es s run. stands_worth g.K.PartialEq.eq g.K.Key.hash chunk_at es s
      (always g.K.PartialEq.eq g.K.Key.hash chunk_at (laws_of g.K.PartialEq.eq g.K.Key.hash laws) chunks b es s run).inv.log;
  ruled = λ laws b es s run. (always g.K.PartialEq.eq g.K.Key.hash chunk_at (laws_of g.K.PartialEq.eq g.K.Key.hash laws) chunks b es s run).lawful.ruled;
  owned = λ laws es s run. owners g.K.PartialEq.eq g.K.Key.hash chunk_at (laws_of g.K.PartialEq.eq g.K.Key.hash laws) chunks es s run;
  rest = λ laws es s run idles. at_rest g.K.PartialEq.eq g.K.Key.hash chunk_at (laws_of g.K.PartialEq.eq g.K.Key.hash laws) chunks es s run idles;
  reached = λ M i c. (λ r. reach_walk chunk_at chunks M r, λ w. walk_reach chunk_at chunks M w.0 i c w.1);
}
