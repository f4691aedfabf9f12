-- Lists of pairs: what is listed, and the list after an edit.
use Rattle.std.specs.Prelude.{ℕ, ◌+◌, ◌-◌, cond, List, ◌∷◌, length, take, replicate, nat_lt, slice_set}
use Rattle.mains.specs.Rows.{take_out}
use Rattle.mains.specs.declared.PairList.{PairList}

-- The pairs of a list, in order.
abbrev pub listed : PairList → List ℕ
listed l = take l.count l.pairs

-- The list with one more pair at its end; a full list stays as it is.
abbrev pub appended : PairList → ℕ → PairList
appended l p = cond (nat_lt l.count 32) (record { count = l.count + 1; pairs = slice_set l.pairs l.count p }) l

-- The list with another pair at a place; a place past its end changes nothing.
abbrev pub relisted : PairList → ℕ → ℕ → PairList
relisted l i p = cond (nat_lt i (length (listed l))) (record { count = l.count; pairs = slice_set l.pairs i p }) l

-- The list without the pair at a place, the others in order; a place past its end changes nothing.
abbrev pub unlisted : PairList → ℕ → PairList
unlisted l i = cond (nat_lt i (length (listed l))) (record { count = length (listed l) - 1; pairs = take_out l.pairs i 0 }) l

-- The list of two pairs.
abbrev pub of_pairs : ℕ → ℕ → PairList
of_pairs a b = record { count = 2; pairs = a ∷ (b ∷ replicate 30 0) }
