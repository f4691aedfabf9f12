-- A part of a bank answers for the bank: what a call on the part answers and leaves is what the same call on the whole would.
use Rattle.std.proofs.Common.{◌≡◌, ℕ, ◌<◌, ◌≤◌, true, false, cond, List, length, get_or, set, refl, ap, ◌∙◌, arith}
use Rattle.std.proofs.lemmas.Grind.{common_steps}
use Rattle.banks.specs.Words.{read_answer, holds, swap_answer, swapped, put_answer}

-- The words of a bank are `whole part`, and its cell `cell` is the cell `inner` of the part.
pub record Sits (whole : List ℕ → List ℕ) (part : List ℕ) (inner cell : ℕ) : Type 0 where
  pub inside : inner < length part → cell < length (whole part)
  pub beyond : length part ≤ inner → length (whole part) ≤ cell
  pub word : get_or part inner 0 ≡ get_or (whole part) cell 0
  pub write : (new : ℕ) → whole (set part inner new) ≡ set (whole part) cell new

module _ {whole : List ℕ → List ℕ} {part : List ℕ} {inner cell : ℕ} (sits : Sits whole part inner cell) where
  pub read_part : read_answer part inner ≡ read_answer (whole part) cell
  read_part = grind (arith, common_steps)

  pub swap_part : (old : ℕ) → swap_answer part inner old ≡ swap_answer (whole part) cell old
  swap_part old = grind (arith, common_steps)

  pub put_part : put_answer part inner ≡ put_answer (whole part) cell
  put_part = grind (arith, common_steps)

  pub swapped_part : (old new : ℕ) → whole (swapped part inner old new) ≡ swapped (whole part) cell old new
  swapped_part old new =
      let w = sits.word in
      rw (← w)
      (elim (holds part inner old) as (λ b. whole (cond b (set part inner new) part) ≡ cond b (set (whole part) cell new) (whole part)) [
        | true ↦ sits.write new
        | false ↦ refl
      ])

  -- What a call left of the part, which it says by an equation, is what it left of the whole.
  pub set_part : (after : List ℕ) (new : ℕ) → after ≡ set part inner new → whole after ≡ set (whole part) cell new
  set_part after new e = ap whole e ∙ sits.write new

  pub swapped_after : (after : List ℕ) (old new : ℕ) → after ≡ swapped part inner old new → whole after ≡ swapped (whole part) cell old new
  swapped_after after old new e = ap whole e ∙ swapped_part old new

-- A part of a part is a part.
pub sits_within : (outer whole : List ℕ → List ℕ) (part : List ℕ) (inner middle cell : ℕ) → Sits whole part inner middle → Sits outer (whole part) middle cell → Sits (λ p. outer (whole p)) part inner cell
sits_within outer whole part inner middle cell s t =
    record {
      inside = λ h. t.inside (s.inside h);
      beyond = λ h. t.beyond (s.beyond h);
      word = s.word ∙ t.word;
      write = λ new. ap outer (s.write new) ∙ t.write new;
    }
