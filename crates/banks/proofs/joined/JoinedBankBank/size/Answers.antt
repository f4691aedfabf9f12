use Rattle.std.proofs.Common.{ℕ, arith, length-append, length-take}
use Rattle.banks.proofs.joined.JoinedBankBank.size.Goals as goal

pub returns : goal.returns
returns g c = record { answer = omega (arith, length-take {A = ℕ} 65535, length-append {A = ℕ}) }
