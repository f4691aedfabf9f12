-- Format, open, withdraw and count.
use Rattle.std.specs.Prelude.{ℕ, suc, ◌+◌, ◌*◌, Bool, cond, not, ◌&&◌, List, [], ◌∷◌, length, replicate, Some, None, Ok, Err, Option, Result, nat_le, slice_set}
use Rattle.panel.specs.declared.Refusal.{Refusal}
use Rattle.panel.specs.declared.Refusal.TheVariants.{FigureOutOfLimits, TooLittleMemory, NoSuchSeat, SeatTaken, SeatIdle, CountersSpent, MemoryUnfit}
use Rattle.mains.specs.Nodes.{empty_node}
use Rattle.mains.specs.declared.Main.TheVariants.{Node as node}
use Rattle.rules.specs.Memory.{Memory, State, last_count}
use Rattle.rules.specs.Perform.{seated}
use Rattle.rules.specs.Reached.{cell_count, pair_count, tomb_count}
use Rattle.rules.specs.Seats.{seat_of, no_seat, idle_seat, opened_seat, is_idle, is_settled, stamped_by}
use Rattle.rules.specs.declared.Ask.{Ask}
use Rattle.rules.specs.declared.Figures.{Figures}
use Rattle.rules.specs.declared.Seat.{Seat}
use Rattle.rules.specs.declared.Stamped.{Stamped}
use Rattle.rules.specs.declared.Tally.{Tally}

-- A call's answer, and the state after it.
pub record Left (K R : Type 0) : Type 0 where
  pub state : State K
  pub answer : Result R Refusal

-- Refused, and nothing alters.
abbrev pub refused_as : {K R : Type 0} → State K → Refusal → Left K R
refused_as s e = record { state = s; answer = Err e }

-- FORMAT

-- Whether a figure lies between two limits.
abbrev pub between : ℕ → ℕ → ℕ → Bool
between low n high = nat_le low n && nat_le n high

-- Seats 1 to 8, cells 1 to 4,096, pairs 1 to 16,384, ticks up to 999,999,999,999.
abbrev pub in_limits : Figures → Bool
in_limits f =
    between 1 f.seats 8 && (between 1 f.cells 4096 && (between 1 f.pairs 16384 && nat_le f.ticks last_count))

-- How many bank cells the figures need.
abbrev pub words_needed : Figures → ℕ
words_needed f = f.cells + 7 * f.seats

-- How many main places.
abbrev pub mains_needed : Figures → ℕ
mains_needed f = f.cells + 9 * f.seats

-- How many pair places.
abbrev pub pairs_needed : Figures → ℕ
pairs_needed f = f.pairs + f.seats

-- How many key places.
abbrev pub keys_needed : Figures → ℕ
keys_needed f = f.seats

-- Whether the memory has what the figures need.
abbrev pub suffices : {K : Type 0} → Figures → Memory K → Bool
suffices f m =
    nat_le (words_needed f) (length m.words)
    && (nat_le (mains_needed f) (length m.mains) && (nat_le (pairs_needed f) (length m.pairs) && nat_le (keys_needed f) (length m.keys)))

-- The refusal of a format, or none.
abbrev pub format_refusal : {K : Type 0} → Figures → Memory K → Option Refusal
format_refusal f m = cond (in_limits f) (cond (suffices f m) None (Some TooLittleMemory)) (Some FigureOutOfLimits)

-- A fresh table: all seats idle, and the root, cell 0, holds main 0, a node without branches. Turns and openings count on
-- from the ticks.
abbrev pub formatted : {K : Type 0} → Figures → Memory K → State K
formatted f m =
    record {
      table =
          record {
            seats = replicate 8 idle_seat;
            limits = record { seats = f.seats; cells = f.cells; pairs = f.pairs };
            ticks = f.ticks;
            openings = f.ticks;
          };
      memory =
          record { words = slice_set m.words 0 0; mains = slice_set m.mains 0 (node empty_node); pairs = m.pairs; keys = m.keys };
    }

-- OPEN

-- The state with a call opened on a seat: its key place is written, and the openings count.
abbrev pub with_call : {K : Type 0} → State K → ℕ → Ask → K → State K
with_call s t ask key =
    record {
      table =
          record {
            seats = slice_set s.table.seats t (opened_seat ask (suc s.table.openings));
            limits = s.table.limits;
            ticks = s.table.ticks;
            openings = suc s.table.openings;
          };
      memory =
          record {
            words = s.memory.words;
            mains = s.memory.mains;
            pairs = s.memory.pairs;
            keys = slice_set s.memory.keys t key;
          };
    }

-- No such seat, a call already open, counters spent, no key place; else the seat starts with the next opening number.
abbrev pub opened : {K : Type 0} → State K → ℕ → Ask → K → Left K ℕ
opened s t ask key =
    cond (no_seat s t) (refused_as s NoSuchSeat)
    (cond (not (is_idle (seat_of s t).phase)) (refused_as s SeatTaken)
    (cond (nat_le last_count s.table.openings) (refused_as s CountersSpent)
    (cond (nat_le (length s.memory.keys) t) (refused_as s MemoryUnfit)
    (record { state = with_call s t ask key; answer = Ok (suc s.table.openings) }))))

-- WITHDRAW

-- What a withdrawal of an open call answers.
abbrev pub withdrawal : Seat → Option Stamped
withdrawal x = cond (is_settled x) (Some (stamped_by x)) None

-- No such seat, no open call; else the seat is freed, and no tick counts.
abbrev pub withdrawn : {K : Type 0} → State K → ℕ → Left K (Option Stamped)
withdrawn s t =
    cond (no_seat s t) (refused_as s NoSuchSeat)
    (cond (is_idle (seat_of s t).phase) (refused_as s SeatIdle)
    (record { state = seated s s.memory t idle_seat s.table.ticks; answer = Ok (withdrawal (seat_of s t)) }))

-- COUNT

-- How many of some seats have an open call.
abbrev pub open_calls : List Seat → ℕ
open_calls [] = 0
open_calls (x ∷ xs) = cond (is_idle x.phase) 0 1 + open_calls xs

-- Reached pairs, cells and tombs, open calls and ticks.
abbrev pub counted : {K : Type 0} → (K → K → Bool) → (K → ℕ) → State K → Tally
counted same hash s =
    record {
      pairs = pair_count same hash s.memory;
      cells = cell_count same hash s.memory;
      tombs = tomb_count same hash s.memory;
      «open» = open_calls s.table.seats;
      ticks = s.table.ticks;
    }
