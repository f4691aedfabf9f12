use Rattle.std.proofs.Common.{rules, tests, sym, ◌∙◌}
use Rattle.std.proofs.lemmas.Iterator.{YieldsList-from_slice}
use Rattle.std.proofs.lemmas.Iterator.Search.{any_from_yields_List}
use Rattle.sizing.proofs.Progress.{holds_any}
use Rattle.sizing.proofs.is_held.Goals as goal

pub returns : goal.returns
returns g c =
    let same = g.K.PartialEq.eq in
    let key = c.args.key in
    any_from_yields_List (λ k. same k key) _ _ c.any.result c.any.ensures.ran (YieldsList-from_slice c.args.keys.now (search rules))
    (λ x b q k. (search rules, search (rules, tests)))
    ∙ sym (holds_any same c.args.keys.now key)
