-- What the table and the records of its seats are like after any history.
use Rattle.std.specs.Prelude.{◌≡◌, ℕ, ◌<◌, ◌≤◌, Bool, true, false, length, Some}
use Rattle.std.specs.List.{slice_get}
use Rattle.rules.specs.Calls.{in_limits, suffices}
use Rattle.rules.specs.History.{History, Runs}
use Rattle.rules.specs.Memory.{State, last_count}
use Rattle.rules.specs.Seats.{seat_of, idle_seat, is_idle, is_settled, is_cut}
use Rattle.rules.specs.declared.Figures.{Figures}
use Rattle.rules.specs.declared.Phase.{Phase}
use Rattle.rules.specs.declared.Phase.TheVariants.{Idle, Read, Swap, Climb, Parent, Clean}
use Rattle.rules.specs.declared.Seat.{Seat}

-- Whether a call may have settled in a phase: not in READ and SWAP, and surely in CLIMB.
abbrev pub Phased : Phase → Bool → Type 0
Phased Idle b = ⊥
Phased Read b = b ≡ false
Phased Swap b = b ≡ false
Phased Climb b = b ≡ true
Phased Parent b = Unit {0}
Phased Clean b = Unit {0}

-- Whether a phase needs a cell above the last one.
abbrev pub is_up : Phase → Bool
is_up Idle = false
is_up Read = false
is_up Swap = false
is_up Climb = true
is_up Parent = true
is_up Clean = true

-- The record of an open call: its path begins at the root and has at most eight cells, two or more where one is cleaned up;
-- only a cut is settled while it goes on.
pub record Kept (x : Seat) : Type 0 where
  pub slots : length x.path.cells ≡ 8
  pub root : slice_get x.path.cells 0 ≡ Some 0
  pub short : x.path.depth ≤ 7
  pub above : is_up x.phase ≡ true → 1 ≤ x.path.depth
  pub phased : Phased x.phase (is_settled x)
  pub cut : is_settled x ≡ true → is_cut x.ask ≡ true

-- A table keeps its figures, its memory their need, its counters their end; seats are idle and empty, or keep their rules.
pub record Steady {K : Type 0} (f : Figures) (s : State K) : Type 0 where
  pub seats : length s.table.seats ≡ 8
  pub limits : s.table.limits ≡ record { seats = f.seats; cells = f.cells; pairs = f.pairs }
  pub figures : in_limits f ≡ true
  pub memory : suffices f s.memory ≡ true
  pub ticks : s.table.ticks ≤ last_count
  pub openings : s.table.openings ≤ last_count
  pub idle : (t : ℕ) → is_idle (seat_of s t).phase ≡ true → seat_of s t ≡ idle_seat
  pub calls : (t : ℕ) → is_idle (seat_of s t).phase ≡ false → (t < f.seats) × Kept (seat_of s t)

-- This holds after every history of a formatted table.
abbrev pub SteadyTheorem : {K : Type 0} → (K → K → Bool) → (K → ℕ) → Type 0
SteadyTheorem {K} same hash = (f : Figures) (h : History K) (s : State K) → Runs same hash f h s → Steady f s
