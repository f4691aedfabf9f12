use Rattle.std.proofs.Common.{◌≡◌, take}
use Rattle.sizing.specs.Demand.{different}
use Rattle.sizing.proofs.different.Given as goal

-- The different keys among those so far.
abbrev pub invariant-loop-key : goal.invariant-loop-key
invariant-loop-key g l = l.chosen.items ≡ different g.K.PartialEq.eq (take l.key-index l.keys)
