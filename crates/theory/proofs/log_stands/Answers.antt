-- The log theorem, for the key kind at hand.
use Rattle.theory.proofs.Log.{log_stands_lem, calls_stand, formats_stand}
use Rattle.theory.proofs.log_stands.Goals as goal

pub returns : goal.returns
returns g c =
    let same = g.K.PartialEq.eq in
    let hash = g.K.Key.hash in
    record { histories = log_stands_lem same hash; calls = calls_stand same hash; formats = formats_stand same hash }
