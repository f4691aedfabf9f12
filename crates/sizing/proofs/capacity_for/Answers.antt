use Rattle.std.proofs.Common.{rules}
use Rattle.sizing.proofs.Progress.{figures_count, figures_few}
use Rattle.sizing.proofs.capacity_for.Goals as goal

pub returns-clause-counts : goal.returns-clause-counts
returns-clause-counts g c =
    figures_count g.K.PartialEq.eq g.K.Key.hash g.met.K.Key.lawful c.args.keys.now _ _ (search rules) (search rules)

pub returns-clause-few : goal.returns-clause-few
returns-clause-few g c =
    figures_few g.K.PartialEq.eq g.K.Key.hash g.met.K.Key.lawful c.args.keys.now _ (search rules)
