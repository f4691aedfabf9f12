-- Rows of fixed length, with one element put in or taken out.
use Rattle.std.specs.Prelude.{ℕ, List, [], ◌∷◌, ◌++◌, length, take}
use Rattle.std.specs.List.{insert, remove}

module _ {X : Type 0} where
  -- The row with an element put in at a place: those from there on one place up, the last one lost.
  abbrev pub put_in : List X → ℕ → X → List X
  put_in row i x = take (length row) (insert row i x)

  -- The row with the element at a place taken out: those after it one place down, the given one last.
  abbrev pub take_out : List X → ℕ → X → List X
  take_out row i last = remove row i ++ (last ∷ [])
