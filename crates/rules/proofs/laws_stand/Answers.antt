use Rattle.rules.proofs.Counting.{counted}
use Rattle.rules.proofs.Following.{followed}
use Rattle.rules.proofs.Freshness.{formats_fresh}
use Rattle.rules.proofs.Mapping.{map_laws}
use Rattle.rules.proofs.Refusing.{refusals, decides}
use Rattle.rules.proofs.laws_stand.Goals as goal

pub returns : goal.returns
returns g c =
    let same = g.K.PartialEq.eq in
    let hash = g.K.Key.hash in
    record {
      map = map_laws same hash g.met.K.Key.lawful;
      refusals = refusals same hash;
      decides = decides same hash;
      formats = formats_fresh same hash;
      followed = followed same hash;
      counted = counted same hash;
    }
