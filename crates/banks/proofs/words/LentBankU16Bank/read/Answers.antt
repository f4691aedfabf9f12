use Rattle.std.proofs.Common.{arith, length-take}
use Rattle.std.proofs.lemmas.Bool.Decides.{nat_tests}
use Rattle.banks.proofs.Front.{read_front}
use Rattle.banks.proofs.words.LentBankU16Bank.read.Goals as goal

pub offset_bounds-self-cell : goal.offset_bounds-self-cell
offset_bounds-self-cell c = grind (arith, nat_tests, length-take 65535 c.args.self.now.memory.now)

pub bounds-self-cell : goal.bounds-self-cell
bounds-self-cell c = grind (arith, nat_tests, length-take 65535 c.args.self.now.memory.now)

pub returns : goal.returns
returns c = record { answer = read_front 65535 _ _ (grind (arith, nat_tests)) }
