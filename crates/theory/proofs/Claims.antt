-- What the seats claim: the cells, mains and pairs that each seat's record names, and how many these are.
use Rattle.std.proofs.Common.{◌≡◌, ℕ, zero, suc, ◌+◌, ◌*◌, ◌<◌, ◌≤◌, Bool, false, cond, ◌⊎◌, List, [], ◌∷◌, ◌++◌, map, length, get_or, take, Some, ⊎_elim, mul-suc, arith, length-append, length-take}
use mathlib.Core.List.Memᴰ
use mathlib.Core.List.{Memᴰ}
use lib.ListN.{length-map}
use Rattle.std.specs.List.{slice_get}
use Rattle.std.proofs.lemmas.Bool.{cases_eq}
use Rattle.rules.specs.Edits.{rest}
use Rattle.rules.specs.InUse.{is_pending}
use Rattle.rules.specs.Memory.{Memory, State}
use Rattle.rules.specs.Reached.{gathered}
use Rattle.rules.specs.Seats.{seat_of, is_idle, path_cells, new_cells}
use Rattle.rules.specs.declared.Figures.{Figures}
use Rattle.rules.specs.declared.NewCell.{NewCell}
use Rattle.rules.specs.declared.Phase.{Phase}
use Rattle.rules.specs.declared.Phase.TheVariants.{Swap}
use Rattle.rules.specs.declared.Seat.{Seat}
use Rattle.rules.proofs.Counting.{in_gathered}
use Rattle.theory.proofs.Writing.{Poised}
use Rattle.theory.specs.Places.{Leaves}
use Rattle.theory.specs.Records.{Steady}

-- THE LISTS OF THE SEATS TOGETHER

module _ {K : Type 0} (same : K → K → Bool) (hash : K → ℕ) (m : Memory K) (lists : ℕ → List ℕ) (b : ℕ) (each : (p : ℕ) → length (lists p) ≤ b) where
  -- Lists of b members each, for n seats, have b for each seat.
  together : (n : ℕ) → length (gathered same hash m lists n) ≤ b * n
  together zero = omega arith
  together (suc n) =
      let l = together n in
      let e = each n in
      let a = length-append (gathered same hash m lists n) (lists n) in
      let k = mul-suc b n in
      omega (arith, l, e, a, k)

  -- What one seat's list leaves of its b, all of them leave together.
  leaving : (t wanted : ℕ) → length (lists t) + wanted ≤ b → (n : ℕ) → t < n → length (gathered same hash m lists n) + wanted ≤ b * n
  leaving t wanted h zero l = absurd (omega (arith, l))
  leaving t wanted h (suc n) l = by (cases_eq t n) (λ d. leaving t wanted h n d)
    where
      by : (t ≡ n) ⊎ (t ≡ n → ⊥) → (t < n → length (gathered same hash m lists n) + wanted ≤ b * n) → length (gathered same hash m lists n ++ lists n) + wanted ≤ b * suc n
      by e later = grind (arith, together, length-append, mul-suc)

  -- Where each place in use is in one list, or in that of a seat, the places leave what one seat leaves.
  pub seats_leave : (InUse : ℕ → Type 0) (n wanted : ℕ) (xs : List ℕ) (seats t : ℕ) → t < seats → length (lists t) + wanted ≤ b → length xs + b * seats ≤ n
      → ((x : ℕ) → InUse x → Memᴰ x xs ⊎ ((p : ℕ) × (p < seats) × Memᴰ x (lists p))) → Leaves InUse n wanted
  seats_leave InUse n wanted xs seats t l h k f =
      record {
        used = xs ++ gathered same hash m lists seats;
        all = λ x i.
            ⊎_elim (λ (u : Memᴰ x xs). Memᴰ.append_left (gathered same hash m lists seats) u)
            (λ (u : (p : ℕ) × (p < seats) × Memᴰ x (lists p)). Memᴰ.append_right xs (in_gathered same hash m lists seats u.0 x u.1 u.2))
            (f x i);
        short =
            let a = length-append xs (gathered same hash m lists seats) in
            let g = leaving t wanted h seats l in
            omega (arith, a, g, k);
      }

-- LISTS

-- What stands in the beginning of a list is its first, or is in the rest.
pub first_or_rest : (c a n : ℕ) (xs : List ℕ) → slice_get xs 0 ≡ Some a → Memᴰ c (take n xs) → (c ≡ a) ⊎ Memᴰ c (rest (take n xs))
first_or_rest c a n xs e m = grind arith

-- Of n + 1 cells of a path, n at most are below the first.
rest_length : (n : ℕ) (xs : List ℕ) → length (rest (take (n + 1) xs)) ≤ n
rest_length n xs = grind (arith, length-take)

-- WHAT A SEAT CLAIMS

-- What only a seat in SWAP has.
abbrev pub in_swap : {A : Type 0} → Phase → List A → List A
in_swap Swap xs = xs
in_swap _ xs = []

-- The cells of the path below the root.
abbrev pub below_root : Seat → List ℕ
below_root x = rest (path_cells x)

-- They, and the new ones.
abbrev pub cells_by : Seat → List ℕ
cells_by x = below_root x ++ map (λ k. k.cell) (in_swap x.phase (new_cells x))

-- What the cells of the path below the root hold, what the new cells will hold, and what the swap expects and made.
abbrev pub mains_by : List ℕ → Seat → List ℕ
mains_by words x =
    map (λ c. get_or words c 0) (below_root x)
    ++ (map (λ k. k.main) (in_swap x.phase (new_cells x)) ++ cond (is_pending x.phase) (x.pending.expected ∷ x.pending.made ∷ []) [])

-- The pair made.
abbrev pub pairs_by : Seat → List ℕ
pairs_by x = in_swap x.phase (x.pending.pair ∷ [])

-- HOW MANY THESE ARE

-- What is not pending is not in SWAP.
not_swap : {A : Type 0} (phase : Phase) (xs : List A) → is_pending phase ≡ false → length (in_swap phase xs) ≡ 0
not_swap phase xs p = grind arith

cells_length : (x : Seat) → length (cells_by x) ≤ x.path.depth + length (in_swap x.phase (new_cells x))
cells_length x =
    let a = length-append (below_root x) (map (λ (k : NewCell). k.cell) (in_swap x.phase (new_cells x))) in
    let b = length-map (in_swap x.phase (new_cells x)) (λ (k : NewCell). k.cell) in
    let c = rest_length x.path.depth x.path.cells in
    omega (arith, a, b, c)

mains_length : (words : List ℕ) (x : Seat) → length (mains_by words x) ≤ x.path.depth + length (in_swap x.phase (new_cells x)) + cond (is_pending x.phase) 2 0
mains_length words x =
    let held = map (λ c. get_or words c 0) (below_root x) in
    let fresh = map (λ (k : NewCell). k.main) (in_swap x.phase (new_cells x)) in
    let own : List ℕ = cond (is_pending x.phase) (x.pending.expected ∷ x.pending.made ∷ []) [] in
    let a = length-append held (fresh ++ own) in
    let b = length-append fresh own in
    let c = length-map (below_root x) (λ c. get_or words c 0) in
    let d = length-map (in_swap x.phase (new_cells x)) (λ (k : NewCell). k.main) in
    let e = rest_length x.path.depth x.path.cells in
    let h = two (is_pending x.phase) in
    omega (arith, a, b, c, d, e, h)
  where
    two : (b : Bool) → length (cond b (x.pending.expected ∷ x.pending.made ∷ []) []) ≡ cond b 2 0
    two b = grind arith

-- A seat claims one pair at most.
pub pairs_length : (x : Seat) → length (pairs_by x) ≤ 1
pairs_length x = grind arith

-- A seat that has nothing pending claims its path, and no pair.
pub plain_cells : (x : Seat) → is_pending x.phase ≡ false → length (cells_by x) ≤ x.path.depth
plain_cells x p = grind (arith, cells_length, not_swap)

pub plain_mains : (words : List ℕ) (x : Seat) → is_pending x.phase ≡ false → length (mains_by words x) ≤ x.path.depth
plain_mains words x p = grind (arith, mains_length, not_swap)

pub plain_pairs : (x : Seat) → is_pending x.phase ≡ false → length (pairs_by x) ≡ 0
plain_pairs x p = not_swap x.phase (x.pending.pair ∷ []) p

module _ {K : Type 0} {f : Figures} {s : State K} (w : Steady f s) (poised : (t : ℕ) → is_idle (seat_of s t).phase ≡ false → Poised (seat_of s t)) where
  seat_seven : (t : ℕ) → (seat_of s t).path.depth + length (in_swap (seat_of s t).phase (new_cells (seat_of s t))) ≤ 7
  seat_seven t = grind arith

  -- Each seat claims seven cells and nine mains at most.
  pub seat_cells : (t : ℕ) → length (cells_by (seat_of s t)) ≤ 7
  seat_cells t = let a = cells_length (seat_of s t) in let b = seat_seven t in omega (arith, a, b)

  pub seat_mains : (words : List ℕ) (t : ℕ) → length (mains_by words (seat_of s t)) ≤ 9
  seat_mains words t = grind (arith, mains_length, seat_seven)
