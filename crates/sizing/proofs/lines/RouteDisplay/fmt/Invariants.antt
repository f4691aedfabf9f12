use Rattle.std.proofs.Common.{◌-◌}
use Rattle.std.specs.Fmt.{HasWritten, IsPlainFormatter}
use Rattle.sizing.proofs.Routing.{route_to}
use Rattle.sizing.proofs.lines.RouteDisplay.fmt.Given as goal

-- The chunks so far are written.
abbrev pub invariant-loop-index : goal.invariant-loop-index
invariant-loop-index g l =
    IsPlainFormatter l.fn.f → HasWritten g.W.Write.write_str_gives l.fn.f (route_to l.fn.self.0 (l.index - 1)) l.f
