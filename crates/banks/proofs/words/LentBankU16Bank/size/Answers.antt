use Rattle.std.proofs.Common.{ℕ, arith, length-take}
use Rattle.banks.proofs.words.LentBankU16Bank.size.Goals as goal

pub returns : goal.returns
returns c = record { answer = omega (arith, length-take {A = ℕ} 65535) }
