use Rattle.std.proofs.Common.{◌∙◌, ◌<◌, ◌++◌, arith}
use Rattle.std.proofs.lemmas.Result.{err_from_is_err_and}
use Rattle.std.proofs.lemmas.Bool.Decides.{nat_tests}
use Rattle.banks.specs.Layout.{capped, capped_few}
use Rattle.banks.proofs.Ways.{refused_above}
use Rattle.banks.proofs.Parts.{read_part}
use Rattle.banks.proofs.Joins.{sits_low, sits_high}
use Rattle.banks.proofs.joined.JoinedBankBank.read.Goals as goal

pub returns-then-cell-start : goal.returns-then-cell-start
returns-then-cell-start g c =
    let low = g.A.Bank.words c.args.self.now.first in
    let high = g.B.Bank.words c.args.self.now.second in
    let few = g.A.Bank.few c.args.self.now.first in
    let sits = sits_low 65535 low high c.args.cell (omega arith) (omega arith) in
    record { answer = c.read.ensures.answer ∙ read_part sits }

pub returns-in_err-inside : goal.returns-in_err-inside
returns-in_err-inside g c =
    let all = g.A.Bank.words c.args.self.now.first ++ g.B.Bank.words c.args.self.now.second in
    let told = refused_above (capped all) c.args.cell _ 65535 _ (capped_few all) c.in_err-inside.ensures in
    let p = err_from_is_err_and c.from_residual.result c.from_residual.ensures.1 in
    rw (p.1, p.2) (record { answer = told })

pub returns-in_ok-inside : goal.returns-in_ok-inside
returns-in_ok-inside g c =
    let low = g.A.Bank.words c.args.self.now.first in
    let high = g.B.Bank.words c.args.self.now.second in
    let k : c.args.cell < 65535 = grind (arith, nat_tests) in
    let sits = sits_high 65535 low high c.args.cell k _ c.size-start.ensures.answer c.if-cell-start.false in
    record { answer = c.read-else-cell-start.ensures.answer ∙ read_part sits }
