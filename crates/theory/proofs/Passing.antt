-- What the record of an open call names, read off the seat of the machine that shows it.
use Rattle.std.proofs.Common.{◌≡◌, ℕ, zero, suc, ◌+◌, ◌-◌, ◌<◌, ◌≤◌, Bool, true, false, ◌⊎◌, List, [], ◌∷◌, length, get_or, take, refl, ap, arith}
use mathlib.Core.List.{Memᴰ}
use mathlib.Core.Option.{some}
use native.Mathlib.Decide.{ℕ_discrete}
use Rattle.keys.specs.Routes.{chunk_at}
use Rattle.machine.proofs.Inv.{At, PathOK, SeatOK}
use Rattle.machine.proofs.Walk.{no_some, some_is}
use Rattle.machine.specs.Machine.{Mem, key, path, Expects, MakesMain, MakesPair, MakesCell}
use Rattle.machine.specs.Tree.{In, nth as placed}
use Rattle.rules.specs.Edits.{first, rest}
use Rattle.rules.specs.InUse.{is_pending}
use Rattle.rules.specs.Seats.{is_idle, is_put, path_cells, new_cells}
use Rattle.rules.specs.declared.Ask.{Ask}
use Rattle.rules.specs.declared.NewCell.{NewCell}
use Rattle.rules.specs.declared.Outcome.{Outcome}
use Rattle.rules.specs.declared.Phase.{Phase}
use Rattle.rules.specs.declared.Phase.TheVariants.{Swap}
use Rattle.rules.specs.declared.Seat.{Seat}
use Rattle.theory.proofs.Seating.{above, swapping, calling, news, shown_as}
use Rattle.theory.specs.Fed.{asked}
use Rattle.theory.specs.Records.{is_up}

-- THE KEY

pub key_asked : {K : Type 0} (a : Ask) (k : K) → key (asked a k) ≡ k
key_asked a k = grind arith

-- The operation of a call's swap is on the call's key.
pub key_swapping : {K : Type 0} (a : Ask) (b : Bool) (r : Outcome) (k : K) → key (swapping a b r k) ≡ k
key_swapping a b r k = grind arith

pub key_calling : {K : Type 0} (b : Bool) (a : Ask) (k : K) → key (calling b a k) ≡ k
key_calling b a k = grind arith

-- THE PATH

pub length_above : (cells : List ℕ) (i : ℕ) → length (above cells i) ≡ i
length_above cells zero = refl
length_above cells (suc i) = ap suc (length_above cells i)

-- Some cells are the nearest and those above it.
pub nearest : (cells : List ℕ) (i : ℕ) → 1 ≤ i → above cells i ≡ first (above cells i) ∷ rest (above cells i)
nearest cells i l = grind arith

-- The same by the index of the nearest.
pub above_two : (cells : List ℕ) (d : ℕ) → 1 ≤ d → above cells d ≡ get_or cells (d - 1) 0 ∷ above cells (d - 1)
above_two cells d l = grind arith

-- A cell above an index stands at a lower one.
above_at : (cells : List ℕ) (j c : ℕ) → In c (above cells j) → (i : ℕ) × (i < j) × (get_or cells i 0 ≡ c)
above_at cells zero c m = elim m [ ]
above_at cells (suc j) c (In.here) = (j, omega arith, refl)
above_at cells (suc j) c (In.later m) = let r = above_at cells j c m in (r.0, omega (arith, r.1), r.2)

taken : (cells : List ℕ) (j i : ℕ) → i < j → j ≤ length cells → Memᴰ (get_or cells i 0) (take j cells)
taken (x ∷ cells) (suc j) zero l k = Memᴰ.head refl
taken (x ∷ cells) (suc j) (suc i) l k = Memᴰ.tail (taken cells j i (omega arith) (omega arith))
taken _ _ i l k = absurd (omega arith)

-- The path of a shown seat.
path_shown : {K : Type 0} (phase : Phase) (x : Seat) (k : K) → is_idle phase ≡ false → (is_up phase ≡ true → 1 ≤ x.path.depth)
    → path (shown_as phase x k) ≡ above x.path.cells (suc x.path.depth)
path_shown phase x k o u = grind arith

-- A cell of it stands at an index of the record's path.
pub path_at : {K : Type 0} (phase : Phase) (x : Seat) (k : K) (c : ℕ) → is_idle phase ≡ false → (is_up phase ≡ true → 1 ≤ x.path.depth)
    → In c (path (shown_as phase x k)) → (i : ℕ) × (i ≤ x.path.depth) × (get_or x.path.cells i 0 ≡ c)
path_at phase x k c o u m = grind (arith, above_at, path_shown)

-- Each index of the path has one of its cells.
pub on_path : (x : Seat) (i : ℕ) → i ≤ x.path.depth → x.path.depth < length x.path.cells → Memᴰ (get_or x.path.cells i 0) (path_cells x)
on_path x i l k = taken x.path.cells (x.path.depth + 1) i (omega arith) (omega arith)

module _ {K : Type 0} (same : K → K → Bool) (hash : K → ℕ) (m : Mem K) (k : K) where
  -- What the machine knows of a path, cell by cell.
  ok_at : (cells : List ℕ) (j : ℕ) → PathOK same hash chunk_at m k (above cells j) → (i : ℕ) → i < j → At same hash chunk_at m k i (get_or cells i 0)
  ok_at cells zero ok i l = absurd (omega arith)
  ok_at cells (suc j) ok i l = by (ℕ_discrete i j) (ok_at cells j ok.1 i)
    where
      by : Dec (i ≡ j) → (i < j → At same hash chunk_at m k i (get_or cells i 0)) → At same hash chunk_at m k i (get_or cells i 0)
      by e f = grind (arith, length_above)

  -- Each cell of an open call's path is reached along the key's hash, or holds a tomb.
  pub cell_at : (phase : Phase) (x : Seat) → is_idle phase ≡ false → (is_up phase ≡ true → 1 ≤ x.path.depth) → SeatOK same hash chunk_at m (shown_as phase x k)
      → (i : ℕ) → i ≤ x.path.depth → At same hash chunk_at m k i (get_or x.path.cells i 0)
  cell_at phase x o u ok i l = ok_at x.path.cells (suc x.path.depth) (grind arith) i (omega arith)

-- WHAT A CALL HAS MADE

-- A new cell with its main is one of the record's.
pub new_at : (ks : List NewCell) (t d n : ℕ) → placed (news ks) t ≡ some (d, n) → (x : NewCell) × Memᴰ x ks × (x.cell ≡ d) × (x.main ≡ n)
new_at [] t d n e = absurd (no_some e)
new_at (y ∷ ks) zero d n e = (y, Memᴰ.head refl, ap (λ (u : ℕ × ℕ). u.0) (some_is e), ap (λ (u : ℕ × ℕ). u.1) (some_is e))
new_at (y ∷ ks) (suc t) d n e = let r = new_at ks t d n e in (r.0, Memᴰ.tail r.1, r.2, r.3)

module _ {K : Type 0} (x : Seat) (k : K) where
  pub expects_at : (phase : Phase) (n : ℕ) → Expects (shown_as phase x k) n → (is_pending phase ≡ true) × (x.pending.expected ≡ n)
  expects_at phase n m = grind arith

  -- The main of a new cell.
  abbrev NewMain : Phase → ℕ → Type 0
  NewMain phase n = (phase ≡ Swap) × (y : NewCell) × Memᴰ y (new_cells x) × (y.main ≡ n)

  pub makes_main : (phase : Phase) (n : ℕ) → MakesMain (shown_as phase x k) n → ((is_pending phase ≡ true) × (x.pending.made ≡ n)) ⊎ NewMain phase n
  makes_main phase n m = grind (arith, news, some, new_at)

  pub makes_cell : (phase : Phase) (c : ℕ) → MakesCell (shown_as phase x k) c → (phase ≡ Swap) × (y : NewCell) × Memᴰ y (new_cells x) × (y.cell ≡ c)
  makes_cell phase c m = grind (arith, new_at)

  pub makes_pair_lem : (phase : Phase) (p : ℕ) → MakesPair (shown_as phase x k) p → (phase ≡ Swap) × (is_put x.ask ≡ true) × (x.pending.pair ≡ p)
  makes_pair_lem phase p m = grind arith
