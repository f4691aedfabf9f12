-- Which words lie in lent memory.
use Rattle.std.specs.Prelude.{ℕ, ◌+◌, ◌*◌, ◌≤◌, List, [], ◌∷◌, length, take}
use Rattle.std.proofs.Common.{arith, length-take}

-- The words that count: those of the first 65,535 cells.
abbrev pub capped : List ℕ → List ℕ
capped words = take 65535 words

-- No more than 65,535 words count.
pub capped_few : (words : List ℕ) → length (capped words) ≤ 65535
capped_few words = rw length-take (omega arith)

-- The words that lie in bytes: two bytes a word, high byte first, an odd last byte unused.
abbrev pub paired : List ℕ → List ℕ
paired [] = []
paired (high ∷ []) = []
paired (high ∷ (low ∷ bytes)) = (high * 256 + low) ∷ paired bytes
