-- What seats promise: the sums with one seat's record anew, and how many new cells an edit makes.
use Rattle.std.proofs.Common.{◌≡◌, ℕ, zero, suc, ◌+◌, ◌<◌, ◌≤◌, false, cond, List, [], ◌∷◌, length, get_or, set, refl, arith}
use Rattle.rules.specs.Edits.{adds_pair, linked, places}
use Rattle.rules.specs.Perform.{Picks, promised_by, promised_cells, promised_pairs, chain_in}
use Rattle.rules.specs.Seats.{idle_seat}
use Rattle.rules.specs.declared.Edit.{Edit}
use Rattle.rules.specs.declared.Fork.{Fork}
use Rattle.rules.specs.declared.Phase.{Phase}
use Rattle.rules.specs.declared.Seat.{Seat}

-- The cells and the pairs that one seat promises.
abbrev pub cells_by : Seat → ℕ
cells_by x = promised_by x.phase x.pending.links

abbrev pub pairs_by : Seat → ℕ
pairs_by x = promised_by x.phase (cond x.pending.adds 1 0)

-- A phase promises no more than what is pending in it.
pub promised_most : (phase : Phase) (n : ℕ) → promised_by phase n ≤ n
promised_most phase n = grind arith

-- A sum over seats, with one of them set: its old weight goes, its new one comes.
sum_set : (weight : Seat → ℕ) (sum : List Seat → ℕ) → ((x : Seat) (xs : List Seat) → sum (x ∷ xs) ≡ weight x + sum xs)
    → (xs : List Seat) (t : ℕ) (y : Seat) → t < length xs → weight (get_or xs t idle_seat) + sum (set xs t y) ≡ sum xs + weight y
sum_set weight sum f [] t y l = absurd (omega arith)
sum_set weight sum f (x ∷ xs) zero y l =
    let a = f x xs in
    let b = f y xs in
    omega (arith, a, b)
sum_set weight sum f (x ∷ xs) (suc t) y l =
    let a = f x xs in
    let b = f x (set xs t y) in
    let k = sum_set weight sum f xs t y (omega arith) in
    omega (arith, a, b, k)

pub cells_set : (xs : List Seat) (t : ℕ) (y : Seat) → t < length xs → cells_by (get_or xs t idle_seat) + promised_cells (set xs t y) ≡ promised_cells xs + cells_by y
cells_set = sum_set cells_by promised_cells (λ x xs. refl)

pub pairs_set : (xs : List Seat) (t : ℕ) (y : Seat) → t < length xs → pairs_by (get_or xs t idle_seat) + promised_pairs (set xs t y) ≡ promised_pairs xs + pairs_by y
pairs_set = sum_set pairs_by promised_pairs (λ x xs. refl)

-- A chain has at most one cell for each place taken.
linked_length : (f : Fork) (p index : ℕ) (cells mains : List ℕ) → length (places (linked f p index cells mains)) ≤ length cells
linked_length f p index (c ∷ cells) (n ∷ mains) = let l = linked_length f p (index + 1) cells mains in omega (arith, l)
linked_length f p index _ _ = omega arith

pub chain_length : (edit : Edit) (picks : Picks) → length (places (chain_in edit picks)) ≤ length picks.cells
chain_length edit picks = grind (arith, linked_length)

-- An edit that adds no pair makes no cell.
pub no_chain : (edit : Edit) (picks : Picks) → adds_pair edit ≡ false → length (places (chain_in edit picks)) ≡ 0
no_chain edit picks a = grind arith
