use Rattle.std.proofs.Common.{◌≡◌, ◌+◌, ◌*◌, ◌≤◌, take}
use Rattle.sizing.specs.Demand.{cells_for}
use Rattle.sizing.proofs.cells_for.Given as goal

-- The cells for the hashes so far; each hash brings at most 7.
abbrev pub invariant-loop-i : goal.invariant-loop-i
invariant-loop-i l = record { so : l.cells ≡ cells_for (take l.i l.hashes); few : l.cells ≤ 1 + 7 * l.i }
