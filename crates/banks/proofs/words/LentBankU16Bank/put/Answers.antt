use Rattle.std.proofs.Common.{arith, length-take}
use Rattle.std.proofs.lemmas.Bool.Decides.{nat_tests}
use Rattle.banks.proofs.Front.{set_front}
use Rattle.banks.proofs.words.LentBankU16Bank.put.Goals as goal

pub offset_bounds-self-cell : goal.offset_bounds-self-cell
offset_bounds-self-cell c = grind (arith, nat_tests, length-take 65535 c.args.self.now.memory.now)

pub bounds-self-cell : goal.bounds-self-cell
bounds-self-cell c = grind (arith, nat_tests, length-take 65535 c.args.self.now.memory.now)

pub returns-clause-after : goal.returns-clause-after
returns-clause-after c = set_front 65535 _ c.args.cell c.args.word
