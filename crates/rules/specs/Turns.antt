-- One turn: what it reads or swaps, what follows from that, and what is then done.
use Rattle.std.specs.Prelude.{ℕ, ◌+◌, ◌-◌, Bool, true, false, cond, ◌&&◌, List, [], ◌∷◌, Some, None, Ok, Err, Option, Result, ◌==◌, nat_le, nat_lt, slice_index, slice_set}
use Rattle.keys.specs.Routes.{chunk_at}
use Rattle.std.specs.List.{slice_get}
use Rattle.panel.specs.declared.Refusal.{Refusal}
use Rattle.panel.specs.declared.Refusal.TheVariants.{NoSuchSeat, SeatIdle, CountersSpent, MemoryUnfit, ListFull}
use Rattle.mains.specs.Lists.{listed, unlisted}
use Rattle.mains.specs.Nodes.{branch_at, removed, replaced}
use Rattle.mains.specs.declared.Branch.{Branch}
use Rattle.mains.specs.declared.Branch.TheVariants.{Pair as pair, Cell as cell}
use Rattle.mains.specs.declared.Main.{Main}
use Rattle.mains.specs.declared.Main.TheVariants.{Node as node, Tomb as tomb, List as listing}
use Rattle.mains.specs.declared.Node.{Node}
use Rattle.mains.specs.declared.PairList.{PairList}
use Rattle.rules.specs.Edits.{kept_node, kept_list}
use Rattle.rules.specs.Memory.{Memory, State, main_at, last_count}
use Rattle.rules.specs.Seats.{seat_of, no_seat, is_idle, is_settled, is_cut, last_cell, parent_cell, restarted, grown, dropped, at_tomb, moved}
use Rattle.rules.specs.Sound.{sound, pairs_at}
use Rattle.rules.specs.declared.Ask.{Ask}
use Rattle.rules.specs.declared.Ask.TheVariants.{Get, Put, Cut}
use Rattle.rules.specs.declared.Edit.TheVariants.{Fixed, Insert, Replace, Append, Relist, Split}
use Rattle.rules.specs.declared.Fork.{Fork}
use Rattle.rules.specs.declared.Outcome.TheVariants.{Found, Absent, Stored, Removed}
use Rattle.rules.specs.declared.Pair.{Pair}
use Rattle.rules.specs.declared.Phase.{Phase}
use Rattle.rules.specs.declared.Phase.TheVariants.{Idle, Read, Swap, Climb, Parent, Clean}
use Rattle.rules.specs.declared.Plan.{Plan}
use Rattle.rules.specs.declared.Plan.TheVariants.{Refuse, Quit, Finish, Settle, Close, Go, Make}
use Rattle.rules.specs.declared.Seat.{Seat}
use Rattle.rules.specs.declared.Seen.{Seen}
use Rattle.rules.specs.declared.Seen.TheVariants.{Saw, Swapped}

-- THE READ OR SWAP

-- What the one read or swap of a turn gave, and the words after it.
pub record Look : Type 0 where
  pub seen : Result Seen Refusal
  pub words : List ℕ

-- Nothing could be read or swapped.
abbrev pub blind : List ℕ → Look
blind words = record { seen = Err MemoryUnfit; words = words }

-- A main was found, or its number lies outside the memory.
abbrev pub saw_main : List ℕ → ℕ → Option Main → Look
saw_main words n None = blind words
saw_main words n (Some x) = record { seen = Ok (Saw n x); words = words }

-- A word was read: the number of a main.
abbrev pub saw_word : List ℕ → List Main → Option ℕ → Look
saw_word words mains None = blind words
saw_word words mains (Some n) = saw_main words n (main_at mains n)

-- A read of a cell.
abbrev pub reads : {K : Type 0} → Memory K → Option ℕ → Look
reads m None = blind m.words
reads m (Some c) = saw_word m.words m.mains (slice_get m.words c)

-- A word was found that is the old one or not.
abbrev pub swapped_word : List ℕ → ℕ → ℕ → ℕ → Option ℕ → Look
swapped_word words c old new None = blind words
swapped_word words c old new (Some n) =
    cond (n == old) (record { seen = Ok (Swapped true); words = slice_set words c new }) (record { seen = Ok (Swapped false); words = words })

-- A swap of a cell: the new main is written exactly if the cell holds the old one.
abbrev pub swaps : {K : Type 0} → Memory K → Option ℕ → ℕ → ℕ → Look
swaps m None old new = blind m.words
swaps m (Some c) old new = swapped_word m.words c old new (slice_get m.words c)

-- READ and CLIMB read the last cell, SWAP swaps it; PARENT reads the cell before it, CLEAN swaps that.
abbrev pub look : {K : Type 0} → Phase → Seat → Memory K → Look
look Idle x m = blind m.words
look Read x m = reads m (last_cell x)
look Swap x m = swaps m (last_cell x) x.pending.expected x.pending.made
look Climb x m = reads m (last_cell x)
look Parent x m = reads m (parent_cell x)
look Clean x m = swaps m (parent_cell x) x.pending.expected x.pending.made

-- WHAT FOLLOWS

-- READ, no branch at the key's chunk.
abbrev pub at_nothing : Ask → ℕ → Node → ℕ → Plan
at_nothing Get n x chunk = Finish Absent
at_nothing (Put v) n x chunk = Make (Insert x chunk) Swap n Stored
at_nothing Cut n x chunk = Finish Absent

-- READ, an equal key's pair there.
abbrev pub at_equal : Ask → ℕ → Node → ℕ → ℕ → ℕ → Plan
at_equal Get n x chunk index v = Finish (Found v)
at_equal (Put w) n x chunk index v = Make (Replace x chunk) Swap n Stored
at_equal Cut n x chunk index v = Make (Fixed (kept_node index (removed x chunk))) Swap n (Removed v)

-- READ, another pair there.
abbrev pub at_other : Ask → ℕ → Fork → Plan
at_other Get n f = Finish Absent
at_other (Put v) n f = Make (Split f) Swap n Stored
at_other Cut n f = Finish Absent

-- READ, a list without the key.
abbrev pub not_listed : Ask → ℕ → PairList → Plan
not_listed Get n l = Finish Absent
not_listed (Put v) n l = cond (nat_le 32 l.count) (Quit ListFull) (Make (Append l) Swap n Stored)
not_listed Cut n l = Finish Absent

-- READ, a list with the key in a place.
abbrev pub listed_at : Ask → ℕ → PairList → ℕ → ℕ → Plan
listed_at Get n l place v = Finish (Found v)
listed_at (Put w) n l place v = Make (Relist l place) Swap n Stored
listed_at Cut n l place v = Make (Fixed (kept_list (unlisted l place))) Swap n (Removed v)

-- One place further.
abbrev pub later : Option (ℕ × ℕ) → Option (ℕ × ℕ)
later None = None
later (Some z) = Some (z.0 + 1, z.1)

-- The place of an equal key among pairs, with its value.
abbrev pub place_of : {K : Type 0} → (K → K → Bool) → K → List (Pair K) → Option (ℕ × ℕ)
place_of same key [] = None
place_of same key (y ∷ ys) = cond (same y.key key) (Some (0, y.value)) (later (place_of same key ys))

-- READ, a list, by the place of the key in it.
abbrev pub at_place : Option (ℕ × ℕ) → Ask → ℕ → PairList → Plan
at_place None ask n l = not_listed ask n l
at_place (Some z) ask n l = listed_at ask n l z.0 z.1

-- A settled call drops its last cell: it finishes if only the root remains, else CLIMB follows.
abbrev pub climbed : Seat → Plan
climbed x = cond (nat_le x.path.depth 1) Close (Go (dropped x))

-- An unsettled call goes to READ at the root, a settled one drops its last cell.
abbrev pub gives_up : Seat → Plan
gives_up x = cond (is_settled x) (climbed x) (Go (restarted x))

-- CLIMB.
abbrev pub climbs : Main → Seat → Plan
climbs (node y) x = climbed x
climbs (tomb p) x = Go (at_tomb x p)
climbs (listing l) x = climbed x

-- PARENT, what stands at the key's chunk: the last cell, or it is named no more.
abbrev pub at_parent : Option Branch → Seat → ℕ → Node → ℕ → ℕ → ℕ → Plan
at_parent None x n y chunk index c = gives_up x
at_parent (Some (pair p)) x n y chunk index c = gives_up x
at_parent (Some (cell d)) x n y chunk index c =
    cond (d == c) (Make (Fixed (kept_node index (replaced y chunk (pair x.buried)))) Clean n x.verdict.outcome) (gives_up x)

-- SWAP, after a yes: the result that was hoped for is fixed. A cut below the root climbs, any other call finishes.
abbrev pub swung : Seat → Plan
swung x = cond (is_cut x.ask && nat_lt 0 x.path.depth) (Settle x.verdict.outcome) (Finish x.verdict.outcome)

-- CLEAN, after a no.
abbrev pub missed : Seat → Plan
missed x = cond (is_settled x) (Go (moved x Parent x.path)) (Go (restarted x))

-- SWAP, by what it said.
abbrev pub after_swap : Bool → Seat → Plan
after_swap true x = swung x
after_swap false x = Go (restarted x)

-- CLEAN, by what it said.
abbrev pub after_clean : Bool → Seat → Plan
after_clean true x = gives_up x
after_clean false x = missed x

-- A plan, and the words after the turn's read or swap.
pub record Planned : Type 0 where
  pub plan : Plan
  pub words : List ℕ

-- A refusal before anything is read.
abbrev pub refusing : {K : Type 0} → State K → Refusal → Planned
refusing s e = record { plan = Refuse e; words = s.memory.words }

module _ {K : Type 0} (same : K → K → Bool) (hash : K → ℕ) where
  -- READ, a pair at the key's chunk.
  abbrev pub at_pair : Option (Pair K) → Seat → K → ℕ → Node → ℕ → ℕ → ℕ → Plan
  at_pair None x key n y chunk index p = Refuse MemoryUnfit
  at_pair (Some z) x key n y chunk index p =
      cond (same z.key key) (at_equal x.ask n y chunk index z.value)
      (at_other x.ask n (record { node = y; index = index; chunk = chunk; pair = p; standing = hash z.key; coming = hash key }))

  -- READ, what stands at the key's chunk.
  abbrev pub at_branch : Option Branch → Seat → K → Memory K → ℕ → Node → ℕ → ℕ → Plan
  at_branch None x key m n y chunk index = at_nothing x.ask n y chunk
  at_branch (Some (cell d)) x key m n y chunk index = Go (grown x d)
  at_branch (Some (pair p)) x key m n y chunk index = at_pair (slice_get m.pairs p) x key n y chunk index p

  -- READ, a list, by its pairs.
  abbrev pub at_list : Option (List (Pair K)) → Seat → K → ℕ → PairList → Plan
  at_list None x key n l = Refuse MemoryUnfit
  at_list (Some ys) x key n l = at_place (place_of same key ys) x.ask n l

  -- READ, by the kind of main at the index of the last cell.
  abbrev pub read_plan : Main → Seat → K → Memory K → ℕ → ℕ → Plan
  read_plan (node y) x key m n index = at_branch (branch_at y (chunk_at (hash key) index)) x key m n y (chunk_at (hash key) index) index
  read_plan (tomb p) x key m n index = Go (at_tomb x p)
  read_plan (listing l) x key m n index = at_list (pairs_at m.pairs (listed l)) x key n l

  -- PARENT, by the kind of main at the index of the cell before the last.
  abbrev pub parent_plan : Main → Seat → K → ℕ → ℕ → ℕ → Plan
  parent_plan (node y) x key n index c = at_parent (branch_at y (chunk_at (hash key) index)) x n y (chunk_at (hash key) index) index c
  parent_plan (tomb p) x key n index c = gives_up x
  parent_plan (listing l) x key n index c = gives_up x

  -- The plan, by the seat's phase together with what was seen. What is read must keep the rules.
  abbrev pub decide : Phase → Seen → Seat → K → Memory K → Plan
  decide Idle (Saw n y) x key m = Refuse SeatIdle
  decide Idle (Swapped b) x key m = Refuse SeatIdle
  decide Read (Saw n y) x key m =
      cond (sound same hash m.pairs x.path.depth y) (read_plan y x key m n x.path.depth) (Refuse MemoryUnfit)
  decide Read (Swapped b) x key m = Refuse MemoryUnfit
  decide Swap (Saw n y) x key m = Refuse MemoryUnfit
  decide Swap (Swapped b) x key m = after_swap b x
  decide Climb (Saw n y) x key m = cond (sound same hash m.pairs x.path.depth y) (climbs y x) (Refuse MemoryUnfit)
  decide Climb (Swapped b) x key m = Refuse MemoryUnfit
  decide Parent (Saw n y) x key m =
      cond (sound same hash m.pairs (x.path.depth - 1) y) (parent_plan y x key n (x.path.depth - 1) (slice_index x.path.cells x.path.depth)) (Refuse MemoryUnfit)
  decide Parent (Swapped b) x key m = Refuse MemoryUnfit
  decide Clean (Saw n y) x key m = Refuse MemoryUnfit
  decide Clean (Swapped b) x key m = after_clean b x

  -- The plan, if anything could be seen.
  abbrev pub decided : Result Seen Refusal → Seat → K → Memory K → Plan
  decided (Err e) x key m = Refuse e
  decided (Ok seen) x key m = decide x.phase seen x key m

  -- The same, if the seat has a key place.
  abbrev pub keyed : Option K → Seat → Memory K → Planned
  keyed None x m = record { plan = Refuse MemoryUnfit; words = m.words }
  keyed (Some key) x m = record { plan = decided (look x.phase x m).seen x key m; words = (look x.phase x m).words }

  -- The plan of a turn: no such seat, no open call, counters spent, no key place; else by what is seen.
  abbrev pub planned : State K → ℕ → Planned
  planned s t =
      cond (no_seat s t) (refusing s NoSuchSeat)
      (cond (is_idle (seat_of s t).phase) (refusing s SeatIdle)
      (cond (nat_le last_count s.table.ticks) (refusing s CountersSpent)
      (keyed (slice_get s.memory.keys t) (seat_of s t) s.memory)))
