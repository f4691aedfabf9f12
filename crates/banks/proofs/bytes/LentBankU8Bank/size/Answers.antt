use Rattle.std.proofs.Common.{ℕ, arith, length-take}
use Rattle.banks.proofs.Pairs.{length_paired}
use Rattle.banks.proofs.bytes.LentBankU8Bank.size.Goals as goal

pub returns : goal.returns
returns c = record { answer = omega (arith, length-take {A = ℕ} 65535, length_paired) }
