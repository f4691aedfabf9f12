-- How many places there are: while those in use leave enough, a turn finds what it wants; and counts of the same things agree.
use Rattle.std.specs.Prelude.{◌≡◌, ℕ, suc, ◌+◌, ◌≤◌, min, Bool, true, List, length}
use mathlib.Core.List.{Memᴰ}
use Rattle.rules.specs.Edits.{links_of}
use Rattle.rules.specs.InUse.{CellInUse, MainInUse, PairInUse}
use Rattle.rules.specs.Memory.{Memory, State, main_limit}
use Rattle.rules.specs.Perform.{Picks, Picked, pairs_for, enough}
use Rattle.rules.specs.Reached.{HowMany, ReachedCell, ReachedPair, ReachedTomb, cell_count, pair_count, tomb_count}
use Rattle.rules.specs.declared.Edit.{Edit}

-- The places below n that are in use leave as many as are wanted: some list has all of them and is short enough.
pub record Leaves (InUse : ℕ → Type 0) (n wanted : ℕ) : Type 0 where
  pub used : List ℕ
  pub all : (x : ℕ) → InUse x → Memᴰ x used
  pub short : length used + wanted ≤ n

module _ {K : Type 0} (same : K → K → Bool) (hash : K → ℕ) where
  -- A table has room for an edit.
  pub record Room (s : State K) (edit : Edit) : Type 0 where
    pub cells : Leaves (CellInUse same hash s) (length s.memory.words) (links_of edit)
    pub mains : Leaves (MainInUse same hash s) (min main_limit (length s.memory.mains)) (suc (links_of edit))
    pub pairs : Leaves (PairInUse same hash s) (length s.memory.pairs) (pairs_for edit)

  -- Where there is room, the places taken suffice, whichever they are.
  abbrev pub RoomSuffices : Type 0
  RoomSuffices = (s : State K) (edit : Edit) (picks : Picks) → Picked same hash s edit picks → Room s edit → enough edit picks ≡ true

  -- A count tells the number of what is reached, however that is listed.
  pub record Tells (m : Memory K) : Type 0 where
    pub cells : (n : ℕ) → HowMany (ReachedCell same hash m) n → cell_count same hash m ≡ n
    pub pairs : (n : ℕ) → HowMany (ReachedPair same hash m) n → pair_count same hash m ≡ n
    pub tombs : (n : ℕ) → HowMany (ReachedTomb same hash m) n → tomb_count same hash m ≡ n
