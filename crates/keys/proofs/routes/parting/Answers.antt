use Rattle.std.proofs.Common.{rules, tests, ◌≡◌}
use Rattle.std.specs.Prelude.{◌≢◌}
use Rattle.std.proofs.lemmas.Iterator.{first_from_Range}
use Rattle.keys.specs.Routes.{chunk_at, Parts}
use Rattle.keys.proofs.Chunks.{parting_once, parts_found}
use Rattle.keys.proofs.routes.parting.Goals as goal

pub returns : goal.returns
returns c =
    let h = c.args.h in
    let g = c.args.g in
    let p : Parts h g c.args.from c.unwrap_or.result =
    rw c.unwrap_or.ensures
    (parts_found h g c.args.from c.find.result
    (first_from_Range _ _ _ _ (λ i. chunk_at h i ≢ chunk_at g i) (λ i. chunk_at h i ≡ chunk_at g i) c.find.ensures.ran
    (λ x q e. search (rules, tests)) (λ x q e. (search rules, search (rules, tests))))) in
    record { value = parting_once h g c.args.from _ p; parts = p }
