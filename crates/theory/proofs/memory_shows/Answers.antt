-- The memory shows as the machine's.
use Rattle.theory.proofs.ShownMemory.{shows_memory}
use Rattle.theory.proofs.memory_shows.Goals as goal

pub returns : goal.returns
returns g c = shows_memory _
