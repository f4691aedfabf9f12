-- The seats and the state of the rules, shown as those of the machine.
use Rattle.std.proofs.Common.{◌≡◌, ℕ, zero, suc, Bool, true, false, cond, List, [], ◌∷◌, length, get_or, Some}
use mathlib.Core.Option.{Option as Maybe, none, some}
use Rattle.std.specs.List.{slice_get}
use Rattle.machine.specs.Machine.{Op, get, put, renew, cutting, climb, idle, read, swap, parent, clean}
use Rattle.machine.specs.Machine.{Seat as Place, State as Shape}
use Rattle.rules.specs.Edits.{first, rest}
use Rattle.rules.specs.Memory.{State}
use Rattle.rules.specs.Seats.{seat_of, is_idle, is_settled, new_cells}
use Rattle.rules.specs.declared.Ask.{Ask}
use Rattle.rules.specs.declared.Ask.TheVariants.{Get, Put, Cut}
use Rattle.rules.specs.declared.NewCell.{NewCell}
use Rattle.rules.specs.declared.Outcome.{Outcome}
use Rattle.rules.specs.declared.Outcome.TheVariants.{Removed}
use Rattle.rules.specs.declared.Phase.{Phase}
use Rattle.rules.specs.declared.Phase.TheVariants.{Idle, Read, Swap, Climb, Parent, Clean}
use Rattle.rules.specs.declared.Seat.{Seat}
use Rattle.theory.specs.Fed.{asked}
use Rattle.theory.specs.Shown.{shown_mem}

-- The cells of a path above the one at an index, the nearest first.
abbrev pub above : List ℕ → ℕ → List ℕ
above cells zero = []
above cells (suc index) = get_or cells index 0 ∷ above cells index

-- The last cell of a seat's path, and the cells above it.
abbrev pub last_of : Seat → ℕ
last_of x = get_or x.path.cells x.path.depth 0

abbrev pub above_of : Seat → List ℕ
above_of x = above x.path.cells x.path.depth

-- The value that a result took out.
abbrev pub taken_out : Outcome → ℕ
taken_out (Removed v) = v
taken_out _ = 0

-- A call that has prepared its swap: a put adds or replaces, a cut knows what it takes out.
abbrev pub swapping : {K : Type 0} → Ask → Bool → Outcome → K → Op K
swapping Get adds r k = get k
swapping (Put v) adds r k = cond adds (put k v) (renew k v)
swapping Cut adds r k = cutting k (taken_out r)

-- A call, or the settled cut that climbs.
abbrev pub calling : {K : Type 0} → Bool → Ask → K → Op K
calling settled ask k = cond settled (climb k) (asked ask k)

-- The pair that a put has made.
abbrev pub made_pair : Ask → ℕ → Maybe ℕ
made_pair (Put v) p = some p
made_pair _ p = none

-- New cells with their mains.
abbrev pub news : List NewCell → List (ℕ × ℕ)
news [] = []
news (k ∷ ks) = (k.cell, k.main) ∷ news ks

-- A seat's record in a phase, with its key, as the machine has it.
abbrev pub shown_as : {K : Type 0} → Phase → Seat → K → Place K
shown_as Idle x k = idle
shown_as Read x k = read (asked x.ask k) (last_of x ∷ above_of x)
shown_as Swap x k =
    swap (swapping x.ask x.pending.adds x.verdict.outcome k) (last_of x) (above_of x) x.pending.expected x.pending.made (made_pair x.ask x.pending.pair) (news (new_cells x))
shown_as Climb x k = read (climb k) (last_of x ∷ above_of x)
shown_as Parent x k = parent (calling (is_settled x) x.ask k) x.buried (last_of x) (above_of x)
shown_as Clean x k =
    clean (calling (is_settled x) x.ask k) x.buried (last_of x) (first (above_of x)) (rest (above_of x)) x.pending.expected x.pending.made

abbrev pub shown_seat : {K : Type 0} → Seat → K → Place K
shown_seat x k = shown_as x.phase x k

-- The state, with seats of the machine in place of the records.
abbrev pub shown_state : {K : Type 0} → State K → List (Place K) → Shape K
shown_state s xs = record { mem = shown_mem s.memory; seats = xs; ticks = s.table.ticks }

-- Those seats show the records.
pub record Shows {K : Type 0} (s : State K) (xs : List (Place K)) : Type 0 where
  pub eight : length xs ≡ 8
  pub idles : (t : ℕ) → is_idle (seat_of s t).phase ≡ true → get_or xs t idle ≡ idle
  pub calls : (t : ℕ) (k : K) → is_idle (seat_of s t).phase ≡ false → slice_get s.memory.keys t ≡ Some k → get_or xs t idle ≡ shown_seat (seat_of s t) k
