use Rattle.std.proofs.Common.{◌∙◌, Ok, ap, arith, length-take}
use Rattle.std.proofs.lemmas.Bool.Decides.{nat_tests}
use Rattle.banks.specs.Layout.{paired}
use Rattle.banks.proofs.Front.{read_front}
use Rattle.banks.proofs.Pairs.{length_paired, get_paired}
use Rattle.banks.proofs.bytes.LentBankU8Bank.read.Goals as goal

pub overflow_mul-at : goal.overflow_mul-at
overflow_mul-at c = grind (arith, nat_tests, length-take 65535 (paired c.args.self.now.memory.now))

pub bounds-self-at : goal.bounds-self-at
bounds-self-at c = grind (arith, nat_tests, length_paired, length-take 65535 (paired c.args.self.now.memory.now))

pub overflow_add-at : goal.overflow_add-at
overflow_add-at c = grind (arith, nat_tests, length-take 65535 (paired c.args.self.now.memory.now))

pub bounds-self-at-2 : goal.bounds-self-at-2
bounds-self-at-2 c = grind (arith, nat_tests, length_paired, length-take 65535 (paired c.args.self.now.memory.now))

pub returns : goal.returns
returns c =
    let bytes = c.args.self.now.memory.now in
    let word = get_paired bytes c.args.cell (grind (arith, nat_tests, length-take 65535 (paired bytes))) in
    record { answer = ap Ok (c.from_be_bytes.ensures ∙ word) ∙ read_front 65535 (paired bytes) c.args.cell (grind (arith, nat_tests)) }
