-- What a bank answers, and what its words are after a call, over the list of its words.
use Rattle.std.specs.Prelude.{ℕ, Bool, cond, List, length, Ok, Err, Result, ◌==◌, nat_lt, slice_index, slice_set}
use Rattle.panel.specs.declared.Refusal.{Refusal}
use Rattle.panel.specs.declared.Refusal.TheVariants.{BeyondBank}

-- The answer x about a cell, or the refusal exactly if the cell's number is not below the length.
abbrev pub within : {X : Type 0} → List ℕ → ℕ → X → Result X Refusal
within words cell x = cond (nat_lt cell (length words)) (Ok x) (Err BeyondBank)

-- What a read answers: the cell's word.
abbrev pub read_answer : List ℕ → ℕ → Result ℕ Refusal
read_answer words cell = within words cell (slice_index words cell)

-- Whether a cell of the bank holds a word.
abbrev pub holds : List ℕ → ℕ → ℕ → Bool
holds words cell word = slice_index words cell == word

-- What a swap answers: whether the cell held the old word.
abbrev pub swap_answer : List ℕ → ℕ → ℕ → Result Bool Refusal
swap_answer words cell old = within words cell (holds words cell old)

-- The words after a swap: the new word in the cell if that held the old one. Beyond the bank `slice_set` changes nothing.
abbrev pub swapped : List ℕ → ℕ → ℕ → ℕ → List ℕ
swapped words cell old new = cond (holds words cell old) (slice_set words cell new) words

-- What a put answers: that it was done.
abbrev pub put_answer : List ℕ → ℕ → Result (Unit {0}) Refusal
put_answer words cell = within words cell tt
