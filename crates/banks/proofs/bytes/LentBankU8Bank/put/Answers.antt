use Rattle.std.proofs.Common.{slice_set, ap, arith, length-take}
use Rattle.std.proofs.lemmas.List.{length-set}
use Rattle.std.proofs.lemmas.Bool.Decides.{nat_tests}
use Rattle.banks.specs.Layout.{capped, paired}
use Rattle.banks.proofs.Front.{set_front}
use Rattle.banks.proofs.Pairs.{length_paired, set_paired}
use Rattle.banks.proofs.bytes.LentBankU8Bank.put.Goals as goal

pub overflow_mul-at : goal.overflow_mul-at
overflow_mul-at c = grind (arith, nat_tests, length-take 65535 (paired c.args.self.now.memory.now))

pub bounds-self-at : goal.bounds-self-at
bounds-self-at c = grind (arith, nat_tests, length_paired, length-take 65535 (paired c.args.self.now.memory.now))

pub overflow_add-self : goal.overflow_add-self
overflow_add-self c = grind (arith, nat_tests, length-take 65535 (paired c.args.self.now.memory.now))

pub bounds-self-at-2 : goal.bounds-self-at-2
bounds-self-at-2 c = grind (arith, nat_tests, length_paired, length-set, length-take 65535 (paired c.args.self.now.memory.now))

pub returns-clause-after : goal.returns-clause-after
returns-clause-after c = rw (c.to_be_bytes.ensures, set_paired, set_front) (ap (slice_set (capped (paired c.args.self.now.memory.now)) c.args.cell) (omega arith))
