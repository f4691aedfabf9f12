use Rattle.std.proofs.Common.{rules}
use Rattle.mains.proofs.Contracts.{replaces}
use Rattle.mains.proofs.Node.replaced.Goals as goal

pub returns-then-has-clause-law : goal.returns-then-has-clause-law
returns-then-has-clause-law c = replaces _ _ _ _ (search rules) (search rules) (search rules)
