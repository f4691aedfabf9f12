-- The first n words of a list: what is read from them and written into them, and that the list is a part of them there.
use Rattle.std.proofs.Common.{◌≡◌, ℕ, ◌<◌, List, length, get_or, take, set, Ok, arith}
use Rattle.std.proofs.lemmas.Grind.{common_steps}
use lib.Seq.{take-set-lt}
use Rattle.banks.specs.Words.{read_answer}
use Rattle.banks.proofs.Parts.{Sits}

module _ (n : ℕ) (all : List ℕ) (cell : ℕ) where
  pub read_front : cell < length (take n all) → Ok (get_or all cell 0) ≡ read_answer (take n all) cell
  read_front h = grind (arith, common_steps)

  pub set_front : (new : ℕ) → take n (set all cell new) ≡ set (take n all) cell new
  set_front new = grind (arith, common_steps, take-set-lt)

  pub sits_front : cell < n → Sits (take n) all cell cell
  sits_front h =
      record {
        inside = λ i. grind (arith, common_steps);
        beyond = λ o. grind (arith, common_steps);
        word = grind (arith, common_steps);
        write = set_front;
      }
