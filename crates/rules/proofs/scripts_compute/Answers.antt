use Rattle.std.proofs.Common.{refl}
use Rattle.keys.specs.Routes.{parting_at}
use Rattle.mains.specs.Bits.{position}
use Rattle.rules.specs.Reached.{branches_of, cell_count, pair_count, tomb_count}
use Rattle.rules.proofs.scripts_compute.Goals as goal

pub returns : goal.returns
unfolding parting_at position branches_of cell_count pair_count tomb_count
returns c =
    record { collision = refl; helping = refl; deep = refl; narrow = (refl, refl); promising = refl; needs = (refl, refl, refl, refl) }
