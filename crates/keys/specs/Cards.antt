-- Numbers as keys: equal if they are the same, hashed as cards are, keep the laws of a key kind.
use Rattle.std.specs.Prelude.{ℕ, ◌/◌, ◌%◌, ◌^◌, ◌==◌}
use Rattle.std.proofs.Common.{arith}
use Rattle.std.proofs.lemmas.Bool.Decides.{Decides-eqb}
use Rattle.std.proofs.lemmas.Nat.{xor_lt}
use Rattle.keys.specs.Hashes.{card_hash}
use Rattle.keys.specs.Laws.{KeyLaws, laws_by}

pub numbers_lawful : {K : Type 0} (number : K → ℕ) → KeyLaws (λ a b. number a == number b) (λ a. card_hash (number a))
numbers_lawful number =
    laws_by number (λ a b. number a == number b) card_hash (λ a b. Decides-eqb (number a) (number b))
    (λ a. xor_lt 32 (number a % 2 ^ 32) (number a / 2 ^ 32 % 2 ^ 32) (omega arith) (omega arith))
