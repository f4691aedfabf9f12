-- The records of seats, and how they go on.
use Rattle.std.specs.Prelude.{ℕ, ◌+◌, ◌-◌, Bool, true, false, cond, ◌||◌, List, ◌++◌, length, take, replicate, Some, None, Option, is_some, unwrap_or, ◌==◌, nat_le, slice_index_or, slice_set}
use Rattle.std.specs.List.{slice_get}
use Rattle.rules.specs.Memory.{State}
use Rattle.rules.specs.declared.Ask.{Ask}
use Rattle.rules.specs.declared.Ask.TheVariants.{Get, Put, Cut}
use Rattle.rules.specs.declared.NewCell.{NewCell}
use Rattle.rules.specs.declared.Outcome.{Outcome}
use Rattle.rules.specs.declared.Outcome.TheVariants.{Absent}
use Rattle.rules.specs.declared.Path.{Path}
use Rattle.rules.specs.declared.Pending.{Pending}
use Rattle.rules.specs.declared.Phase.{Phase}
use Rattle.rules.specs.declared.Phase.TheVariants.{Idle, Read, Swap, Climb, Parent, Clean}
use Rattle.rules.specs.declared.Seat.{Seat}
use Rattle.rules.specs.declared.Stamped.{Stamped}
use Rattle.rules.specs.declared.Verdict.{Verdict}

-- The path of the root alone, which is cell 0.
abbrev pub root_path : Path
root_path = record { cells = replicate 8 0; depth = 0 }

-- No new cell.
abbrev pub no_cell : NewCell
no_cell = record { cell = 0; main = 0 }

-- No swap is prepared.
abbrev pub none_made : Pending
none_made = record { expected = 0; made = 0; pair = 0; chain = replicate 7 no_cell; links = 0; adds = false }

-- Nothing has come out yet.
abbrev pub open_verdict : Verdict
open_verdict = record { outcome = Absent; stamp = None }

-- The record of a seat without a call.
abbrev pub idle_seat : Seat
idle_seat =
    record { phase = Idle; ask = Get; number = 0; path = root_path; buried = 0; pending = none_made; verdict = open_verdict }

-- The record that an opening makes: READ, at the root.
abbrev pub opened_seat : Ask → ℕ → Seat
opened_seat ask number =
    record { phase = Read; ask = ask; number = number; path = root_path; buried = 0; pending = none_made; verdict = open_verdict }

-- Another phase and path; nothing is prepared any more.
abbrev pub moved : Seat → Phase → Path → Seat
moved x phase path =
    record {
      phase = phase;
      ask = x.ask;
      number = x.number;
      path = path;
      buried = x.buried;
      pending = none_made;
      verdict = x.verdict;
    }

-- READ at the root.
abbrev pub restarted : Seat → Seat
restarted x = moved x Read root_path

-- READ of one more cell.
abbrev pub grown : Seat → ℕ → Seat
grown x c = moved x Read (record { cells = slice_set x.path.cells (x.path.depth + 1) c; depth = x.path.depth + 1 })

-- CLIMB without the last cell.
abbrev pub dropped : Seat → Seat
dropped x = moved x Climb (record { cells = x.path.cells; depth = x.path.depth - 1 })

-- PARENT, after a tomb of this pair was read in the last cell.
abbrev pub at_tomb : Seat → ℕ → Seat
at_tomb x p =
    record {
      phase = Parent;
      ask = x.ask;
      number = x.number;
      path = x.path;
      buried = p;
      pending = none_made;
      verdict = x.verdict;
    }

-- What comes out if a swap says yes.
abbrev pub hoping : Seat → Outcome → Seat
hoping x outcome =
    record {
      phase = x.phase;
      ask = x.ask;
      number = x.number;
      path = x.path;
      buried = x.buried;
      pending = x.pending;
      verdict = record { outcome = outcome; stamp = x.verdict.stamp };
    }

-- New cells, in the seven places for them.
abbrev pub chain_of : List NewCell → List NewCell
chain_of news = take 7 (news ++ replicate 7 no_cell)

-- A phase that swaps, with what is prepared for it.
abbrev pub prepared : Seat → Phase → Pending → Seat
prepared x phase pending =
    record {
      phase = phase;
      ask = x.ask;
      number = x.number;
      path = x.path;
      buried = x.buried;
      pending = pending;
      verdict = x.verdict;
    }

-- A cut that has settled climbs.
abbrev pub settled_seat : Seat → Outcome → ℕ → Seat
settled_seat x outcome stamp =
    record {
      phase = Climb;
      ask = x.ask;
      number = x.number;
      path = x.path;
      buried = x.buried;
      pending = none_made;
      verdict = record { outcome = outcome; stamp = Some stamp };
    }

-- Whether the call of a seat has settled.
abbrev pub is_settled : Seat → Bool
is_settled x = is_some x.verdict.stamp

-- The result and stamp of a settled call; a record without a stamp, which no call closes, would tell 0.
abbrev pub stamped_by : Seat → Stamped
stamped_by x = record { outcome = x.verdict.outcome; stamp = unwrap_or x.verdict.stamp 0 }

-- The record of a seat.
abbrev pub seat_of : {K : Type 0} → State K → ℕ → Seat
seat_of s t = slice_index_or s.table.seats t idle_seat

-- Whether the table has no seat of this number.
abbrev pub no_seat : {K : Type 0} → State K → ℕ → Bool
no_seat s t = nat_le s.table.limits.seats t || nat_le (length s.table.seats) t

-- Whether a phase is that of a seat without a call.
abbrev pub is_idle : Phase → Bool
is_idle Idle = true
is_idle Read = false
is_idle Swap = false
is_idle Climb = false
is_idle Parent = false
is_idle Clean = false

-- Whether a call is a cut.
abbrev pub is_cut : Ask → Bool
is_cut Get = false
is_cut (Put v) = false
is_cut Cut = true

-- Whether a call is a put.
abbrev pub is_put : Ask → Bool
is_put Get = false
is_put (Put v) = true
is_put Cut = false

-- The last cell of the path.
abbrev pub last_cell : Seat → Option ℕ
last_cell x = slice_get x.path.cells x.path.depth

-- The cell before it.
abbrev pub parent_cell : Seat → Option ℕ
parent_cell x = cond (x.path.depth == 0) None (slice_get x.path.cells (x.path.depth - 1))

-- The cells of the path.
abbrev pub path_cells : Seat → List ℕ
path_cells x = take (x.path.depth + 1) x.path.cells

-- The new cells of a pending put.
abbrev pub new_cells : Seat → List NewCell
new_cells x = take x.pending.links x.pending.chain
