use Rattle.std.proofs.Common.{refl}
use Rattle.sizing.specs.Demand.{different, cells_for}
use Rattle.samples.specs.Figures.{sample_figures_of}
use Rattle.samples.proofs.sample_figures.Goals as goal

pub returns : goal.returns
unfolding sample_figures_of different cells_for
returns c = refl
