-- What is done with a plan: places are taken, the memory is written, the seat goes on and the tick counts.
use Rattle.std.specs.Prelude.{◌≡◌, ℕ, suc, ◌+◌, ◌<◌, ◌≤◌, min, Bool, true, false, cond, ◌&&◌, ◌||◌, ◌⊎◌, List, [], ◌∷◌, length, Some, None, Ok, Err, Option, Result, nat_le, nat_lt, slice_set}
use mathlib.Core.List.{Memᴰ}
use Rattle.std.specs.List.{slice_get}
use Rattle.panel.specs.declared.Refusal.{Refusal}
use Rattle.panel.specs.declared.Refusal.TheVariants.{MemoryUnfit, TableFull}
use Rattle.rules.specs.Edits.{edited, makes_pair, adds_pair, links_of, Link, chain_for, places, with_cells, with_mains, first, rest}
use Rattle.rules.specs.InUse.{CellInUse, MainInUse, PairInUse}
use Rattle.rules.specs.Memory.{Memory, State, main_limit}
use Rattle.rules.specs.Reached.{Once, cell_count, pair_count}
use Rattle.rules.specs.Seats.{seat_of, idle_seat, hoping, prepared, settled_seat, stamped_by, chain_of}
use Rattle.rules.specs.Turns.{planned}
use Rattle.rules.specs.declared.Ask.{Ask}
use Rattle.rules.specs.declared.Ask.TheVariants.{Get, Put, Cut}
use Rattle.rules.specs.declared.Edit.{Edit}
use Rattle.rules.specs.declared.Outcome.{Outcome}
use Rattle.rules.specs.declared.Pair.{Pair}
use Rattle.rules.specs.declared.Pending.{Pending}
use Rattle.rules.specs.declared.Phase.{Phase}
use Rattle.rules.specs.declared.Phase.TheVariants.{Idle, Read, Swap, Climb, Parent, Clean}
use Rattle.rules.specs.declared.Plan.{Plan}
use Rattle.rules.specs.declared.Plan.TheVariants.{Refuse, Quit, Finish, Settle, Close, Go, Make}
use Rattle.rules.specs.declared.Seat.{Seat}
use Rattle.rules.specs.declared.Stamped.{Stamped}

-- THE PLACES TAKEN

-- New cells; the main that is prepared and then one for each new cell; the new pair.
pub record Picks : Type 0 where
  pub cells : List ℕ
  pub mains : List ℕ
  pub pairs : List ℕ

-- How many pairs an edit makes.
abbrev pub pairs_for : Edit → ℕ
pairs_for edit = cond (makes_pair edit) 1 0

-- Some of the places below n that are not in use, none twice and no more than wanted; fewer only if there are no others.
pub record Unused (InUse : ℕ → Type 0) (n wanted : ℕ) (picks : List ℕ) : Type 0 where
  pub free : (x : ℕ) → Memᴰ x picks → (x < n) × (InUse x → ⊥)
  pub once : Once picks
  pub few : length picks ≤ wanted
  pub all : length picks < wanted → (x : ℕ) → x < n → InUse x ⊎ Memᴰ x picks

module _ {K : Type 0} (same : K → K → Bool) (hash : K → ℕ) where
  -- The places that an edit takes.
  pub record Picked (s : State K) (edit : Edit) (picks : Picks) : Type 0 where
    pub cells : Unused (CellInUse same hash s) (length s.memory.words) (links_of edit) picks.cells
    pub mains : Unused (MainInUse same hash s) (min main_limit (length s.memory.mains)) (suc (links_of edit)) picks.mains
    pub pairs : Unused (PairInUse same hash s) (length s.memory.pairs) (pairs_for edit) picks.pairs

  -- Only what is prepared takes places.
  abbrev pub Takes : State K → Plan → Picks → Type 0
  Takes s (Refuse e) picks = Unit {0}
  Takes s (Quit e) picks = Unit {0}
  Takes s (Finish r) picks = Unit {0}
  Takes s (Settle r) picks = Unit {0}
  Takes s Close picks = Unit {0}
  Takes s (Go x) picks = Unit {0}
  Takes s (Make edit phase n r) picks = Picked s edit picks

-- Whether the places suffice.
abbrev pub enough : Edit → Picks → Bool
enough edit picks =
    nat_le (links_of edit) (length picks.cells) && (nat_le (suc (links_of edit)) (length picks.mains) && nat_le (pairs_for edit) (length picks.pairs))

-- WHETHER THE TABLE IS FULL

-- Only a put in SWAP promises.
abbrev pub promised_by : Phase → ℕ → ℕ
promised_by Idle n = 0
promised_by Read n = 0
promised_by Swap n = n
promised_by Climb n = 0
promised_by Parent n = 0
promised_by Clean n = 0

-- The new cells that some seats promise.
abbrev pub promised_cells : List Seat → ℕ
promised_cells [] = 0
promised_cells (x ∷ xs) = promised_by x.phase x.pending.links + promised_cells xs

-- The pairs that some seats promise: those that are added, none that is replaced.
abbrev pub promised_pairs : List Seat → ℕ
promised_pairs [] = 0
promised_pairs (x ∷ xs) = promised_by x.phase (cond x.pending.adds 1 0) + promised_pairs xs

-- The other seats.
abbrev pub others : {K : Type 0} → State K → ℕ → List Seat
others s t = slice_set s.table.seats t idle_seat

module _ {K : Type 0} (same : K → K → Bool) (hash : K → ℕ) where
  -- A put of the seat that adds a pair and makes n cells would pass the limits.
  abbrev pub full : State K → ℕ → ℕ → Bool
  full s t n =
      nat_lt s.table.limits.cells (cell_count same hash s.memory + promised_cells (others s t) + n)
      || nat_lt s.table.limits.pairs (pair_count same hash s.memory + promised_pairs (others s t) + 1)

-- WHAT IS DONE

-- What a turn leaves: the state, its answer, and the result that it fixed, if it did.
pub record Out (K : Type 0) : Type 0 where
  pub state : State K
  pub answer : Result (Option Stamped) Refusal
  pub fixed : Option Outcome

-- The state with other memory, one seat's record anew and another tick count.
abbrev pub seated : {K : Type 0} → State K → Memory K → ℕ → Seat → ℕ → State K
seated s memory t x ticks =
    record {
      table =
          record {
            seats = slice_set s.table.seats t x;
            limits = s.table.limits;
            ticks = ticks;
            openings = s.table.openings;
          };
      memory = memory;
    }

-- The memory with other words.
abbrev pub worded : {K : Type 0} → Memory K → List ℕ → Memory K
worded m words = record { words = words; mains = m.mains; pairs = m.pairs; keys = m.keys }

-- The value that a put stores.
abbrev pub value_of : Ask → ℕ
value_of Get = 0
value_of (Put v) = v
value_of Cut = 0

-- The pairs with a new one in its place, if the edit makes one.
abbrev pub with_new : {K : Type 0} → List (Pair K) → Bool → Option K → ℕ → ℕ → List (Pair K)
with_new pairs false key v p = pairs
with_new pairs true None v p = pairs
with_new pairs true (Some key) v p = slice_set pairs p (record { key = key; value = v })

-- The chain of new cells in the places taken.
abbrev pub chain_in : Edit → Picks → List Link
chain_in edit picks = chain_for edit (first picks.pairs) picks.cells (rest picks.mains)

-- The memory with what is prepared.
abbrev pub made_memory : {K : Type 0} → State K → ℕ → Edit → Picks → Memory K
made_memory s t edit picks =
    record {
      words = with_cells s.memory.words (chain_in edit picks);
      mains =
          with_mains (slice_set s.memory.mains (first picks.mains) (edited edit (first picks.pairs) (first picks.cells))) (chain_in edit picks);
      pairs =
          with_new s.memory.pairs (makes_pair edit) (slice_get s.memory.keys t) (value_of (seat_of s t).ask) (first picks.pairs);
      keys = s.memory.keys;
    }

-- The pending swap of an edit.
abbrev pub pending_for : Edit → ℕ → Picks → Pending
pending_for edit n picks =
    record {
      expected = n;
      made = first picks.mains;
      pair = first picks.pairs;
      chain = chain_of (places (chain_in edit picks));
      links = length (places (chain_in edit picks));
      adds = adds_pair edit;
    }

module _ {K : Type 0} (s : State K) (t : ℕ) where
  -- Refused, and nothing alters.
  abbrev pub refused : Refusal → Out K
  refused e = record { state = s; answer = Err e; fixed = None }

  -- Refused, but the tick counts and the seat is freed.
  abbrev pub quitted : Refusal → Out K
  quitted e = record { state = seated s s.memory t idle_seat (suc s.table.ticks); answer = Err e; fixed = None }

  -- The call finishes with a result and its stamp; what this turn fixed.
  abbrev pub finished : List ℕ → Stamped → Option Outcome → Out K
  finished words verdict fixed =
      record {
        state = seated s (worded s.memory words) t idle_seat (suc s.table.ticks);
        answer = Ok (Some verdict);
        fixed = fixed;
      }

  -- The call goes on.
  abbrev pub going : Memory K → Seat → Option Outcome → Out K
  going memory x fixed = record { state = seated s memory t x (suc s.table.ticks); answer = Ok None; fixed = fixed }

module _ {K : Type 0} (same : K → K → Bool) (hash : K → ℕ) where
  -- What is done with a plan, in the places taken. Too few places come before a full table.
  abbrev pub performed : State K → ℕ → List ℕ → Plan → Picks → Out K
  performed s t words (Refuse e) picks = refused s t e
  performed s t words (Quit e) picks = quitted s t e
  performed s t words (Finish r) picks = finished s t words (record { outcome = r; stamp = suc s.table.ticks }) (Some r)
  performed s t words (Settle r) picks =
      going s t (worded s.memory words) (settled_seat (seat_of s t) r (suc s.table.ticks)) (Some r)
  performed s t words Close picks = finished s t words (stamped_by (seat_of s t)) None
  performed s t words (Go x) picks = going s t (worded s.memory words) x None
  performed s t words (Make edit phase n r) picks =
      cond (enough edit picks)
      (cond (adds_pair edit && full same hash s t (links_of edit)) (quitted s t TableFull)
      (going s t (made_memory s t edit picks) (prepared (hoping (seat_of s t) r) phase (pending_for edit n picks)) None))
      (refused s t MemoryUnfit)

  -- A turn of a seat, in the places taken.
  abbrev pub turned : State K → ℕ → Picks → Out K
  turned s t picks = performed s t (planned same hash s t).words (planned same hash s t).plan picks

  -- A turn, whatever unused places it takes.
  abbrev pub Turns : State K → ℕ → Out K → Type 0
  Turns s t out = (picks : Picks) × Takes same hash s (planned same hash s t).plan picks × (out ≡ turned s t picks)
