-- What a bank answers, and which words it has after a swap, in each case that the code of a bank tells apart.
use Rattle.std.proofs.Common.{◌≡◌, ℕ, ◌<◌, ◌≤◌, Bool, cond, List, length, set, Ok, Err, ap, arith}
use Rattle.std.specs.Prelude.{nat_lt}
use Rattle.std.proofs.lemmas.Grind.{common_steps}
use Rattle.panel.specs.declared.Refusal.{Refusal}
use Rattle.panel.specs.declared.Refusal.TheVariants.{BeyondBank}
use Rattle.banks.specs.Words.{within, holds, swap_answer, swapped}

module _ (words : List ℕ) (cell : ℕ) where
  -- What was refused is a cell that is not below the length.
  pub refused : {X : Type 0} (x : X) (why : Refusal) → Err why ≡ within words cell x → length words ≤ cell
  refused x why e = grind (arith, common_steps)

  -- What a bound at or above the length refuses, the words refuse too.
  pub refused_above : {X : Type 0} (x : X) (most : ℕ) (why : Refusal) → length words ≤ most → Err why ≡ cond (nat_lt cell most) (Ok (tt {0})) (Err BeyondBank) → Err why ≡ within words cell x
  refused_above x most why few e = grind (arith, common_steps)

  -- What a swap answers and leaves, once it is known whether the cell holds the old word.
  pub swap_answers : (old : ℕ) (held : Bool) → held ≡ holds words cell old → cell < length words → Ok held ≡ swap_answer words cell old
  swap_answers old held e h = grind (arith, common_steps)

  pub swap_leaves : (old new : ℕ) (held : Bool) → held ≡ holds words cell old → cond held (set words cell new) words ≡ swapped words cell old new
  swap_leaves old new held e = ap (λ b. cond b (set words cell new) words) e

-- Past the end nothing is swapped.
pub swapped_past : (words : List ℕ) (cell old new : ℕ) → length words ≤ cell → swapped words cell old new ≡ words
swapped_past words cell old new l = grind (arith, common_steps)
