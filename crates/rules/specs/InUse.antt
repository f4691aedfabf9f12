-- Which places are in use: the reached ones, and those that an open call names.
use Rattle.std.specs.Prelude.{◌≡◌, ℕ, Bool, true, false, Some}
use mathlib.Core.List.{Memᴰ}
use Rattle.std.specs.List.{slice_get}
use Rattle.mains.specs.declared.Main.{Main}
use Rattle.rules.specs.Memory.{State, main_at}
use Rattle.rules.specs.Reached.{ReachedCell, ReachedMain, ReachedPair, is_tomb}
use Rattle.rules.specs.Seats.{seat_of, is_idle, is_put, path_cells, new_cells}
use Rattle.rules.specs.declared.NewCell.{NewCell}
use Rattle.rules.specs.declared.Phase.{Phase}
use Rattle.rules.specs.declared.Phase.TheVariants.{Idle, Read, Swap, Climb, Parent, Clean}

-- Whether a phase has a swap prepared.
abbrev pub is_pending : Phase → Bool
is_pending Idle = false
is_pending Read = false
is_pending Swap = true
is_pending Climb = false
is_pending Parent = false
is_pending Clean = true

module _ {K : Type 0} (same : K → K → Bool) (hash : K → ℕ) (s : State K) where
  -- A cell is in use if it is reached, lies on the path of an open call, or was made by a put in SWAP.
  pub data CellInUse (c : ℕ) : Type 0 where
    reached : ReachedCell same hash s.memory c → CellInUse c
    on_path : (t : ℕ) → is_idle (seat_of s t).phase ≡ false → Memᴰ c (path_cells (seat_of s t)) → CellInUse c
    made : (t : ℕ) → (seat_of s t).phase ≡ Swap → (k : NewCell) → Memᴰ k (new_cells (seat_of s t)) → k.cell ≡ c → CellInUse c

  -- A main place is in use if it is reached, a pending swap expects it, it is what that swap or a new cell will hold, or
  -- it is the tomb in a cell of the path of an open call.
  pub data MainInUse (n : ℕ) : Type 0 where
    reached : ReachedMain same hash s.memory n → MainInUse n
    expected : (t : ℕ) → is_pending (seat_of s t).phase ≡ true → (seat_of s t).pending.expected ≡ n → MainInUse n
    made : (t : ℕ) → is_pending (seat_of s t).phase ≡ true → (seat_of s t).pending.made ≡ n → MainInUse n
    held : (t : ℕ) → (seat_of s t).phase ≡ Swap → (k : NewCell) → Memᴰ k (new_cells (seat_of s t)) → k.main ≡ n → MainInUse n
    entombing : (t c : ℕ) → is_idle (seat_of s t).phase ≡ false → Memᴰ c (path_cells (seat_of s t)) → slice_get s.memory.words c ≡ Some n → (x : Main) → main_at s.memory.mains n ≡ Some x → is_tomb x ≡ true → MainInUse n

  -- A pair place is in use if it is reached, or a put in SWAP has made it.
  pub data PairInUse (p : ℕ) : Type 0 where
    reached : ReachedPair same hash s.memory p → PairInUse p
    made : (t : ℕ) → (seat_of s t).phase ≡ Swap → is_put (seat_of s t).ask ≡ true → (seat_of s t).pending.pair ≡ p → PairInUse p
