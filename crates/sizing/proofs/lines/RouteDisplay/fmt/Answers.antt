use Rattle.std.proofs.Common.{◌≡◌, ◌-◌, rules, refl, arith}
use Rattle.std.proofs.lemmas.Grind.{put_two}
use Rattle.sizing.proofs.Routing.{route_next, route_whole}
use Rattle.sizing.proofs.lines.RouteDisplay.fmt.Goals as goal

pub loop-index-init : goal.loop-index-init
loop-index-init g c = λ plain. rw c.chunk.ensures.value at (c.in_ok-write.ensures.writes plain refl)

pub loop-index-preserved : goal.loop-index-preserved
loop-index-preserved g c =
    λ plain.
    let so = c.loop-index.invariant plain in
    put_two g.W.Write.write_str_gives _ _ _ _ _ _ so (c.in_ok-write-2.ensures.writes so.plain refl)
    (route_next c.args.self.now.0 c.loop-index.index _ _ c.loop-index.auto.index c.chunk-in-loop-index.ensures.value (search rules))

pub returns-clause-writes : goal.returns-clause-writes
returns-clause-writes g c =
    λ plain ok.
    let end : c.loop-index.index - 1 ≡ 6 = omega arith in
    rw (end, route_whole) at (c.loop-index.invariant plain)
