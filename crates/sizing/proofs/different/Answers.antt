use Rattle.std.proofs.Common.{◌≡◌, ap, ◌∙◌, sym, arith}
use Rattle.std.proofs.lemmas.Bool.Decides.{nat_tests}
use Rattle.sizing.specs.Demand.{holds}
use Rattle.sizing.proofs.Progress.{different_more}
use Rattle.sizing.proofs.different.Goals as goal
use Rattle.sizing.proofs.different.Goals.{then-not-is_held+in_ok-push, else-not-is_held}

pub loop-key-preserved : goal.loop-key-preserved
loop-key-preserved g c =
    let same = g.K.PartialEq.eq in
    let key = c.key-item.result in
    let told : holds same c.loop-key.chosen.items key ≡ c.is_held.result =
    ap (λ ks. holds same ks key) (sym c.as_slice.ensures.value) ∙ sym c.is_held.ensures in
    let next = different_more same c.args.keys.now c.loop-key.key-index key c.loop-key-test.true c.key-item.is in
    elim c.if-not-is_held.branch [
      | then-not-is_held+in_ok-push w ↦ grind (arith, nat_tests, told, next, c.loop-key.invariant, w.chosen-is, w.in_ok-push.ensures.items)
      | else-not-is_held w ↦ grind (arith, nat_tests, told, next, c.loop-key.invariant, w.chosen-is)
    ]
