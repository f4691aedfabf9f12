use Rattle.std.proofs.Common.{rules}
use Rattle.mains.proofs.Contracts.{inserts}
use Rattle.mains.proofs.Node.inserted.Goals as goal

pub returns-then-is_free-clause-law : goal.returns-then-is_free-clause-law
returns-then-is_free-clause-law c = inserts _ _ _ _ (search rules) (search rules) (search rules)
