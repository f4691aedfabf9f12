-- Laws that the rules must have if they say what they should.
use Rattle.std.specs.Prelude.{◌≡◌, ℕ, zero, suc, ◌-◌, ◌*◌, ◌^◌, ◌<◌, Bool, true, false, cond, ◌⊎◌, length, Some, None, Err, Option, nat_lt}
use Rattle.keys.specs.Routes.{chunk_at, prefix_at}
use Rattle.std.specs.List.{slice_get}
use Rattle.panel.specs.declared.Refusal.{Refusal}
use Rattle.panel.specs.declared.Refusal.TheVariants.{TableFull, ListFull, MemoryUnfit}
use Rattle.mains.specs.Nodes.{branch_at, empty_node}
use Rattle.mains.specs.declared.Branch.{Branch}
use Rattle.mains.specs.declared.Branch.TheVariants.{Pair as pair, Cell as cell}
use Rattle.mains.specs.declared.Main.{Main}
use Rattle.mains.specs.declared.Main.TheVariants.{Node as node, Tomb as tomb, List as listing}
use Rattle.mains.specs.declared.Node.{Node}
use Rattle.rules.specs.Calls.{format_refusal, formatted, opened, withdrawn}
use Rattle.rules.specs.Memory.{Memory, State, then}
use Rattle.rules.specs.Perform.{Picks, seated, turned}
use Rattle.rules.specs.Reached.{Reached, StandsFor, ReachedCell, ReachedPair, ReachedTomb, HowMany, cell_count, pair_count, tomb_count}
use Rattle.rules.specs.Seats.{idle_seat, is_idle}
use Rattle.rules.specs.Sound.{sound, sound_in}
use Rattle.rules.specs.Turns.{decide}
use Rattle.rules.specs.declared.Ask.{Ask}
use Rattle.rules.specs.declared.Figures.{Figures}
use Rattle.rules.specs.declared.Phase.{Phase}
use Rattle.rules.specs.declared.Phase.TheVariants.{Idle, Read, Swap, Climb, Parent, Clean}
use Rattle.rules.specs.declared.Plan.TheVariants.{Refuse}
use Rattle.rules.specs.declared.Seat.{Seat}
use Rattle.rules.specs.declared.Seen.{Seen}
use Rattle.rules.specs.declared.Seen.TheVariants.{Saw, Swapped}

module _ {K : Type 0} (same : K → K → Bool) (hash : K → ℕ) where
  -- A REFUSAL ALTERS NOTHING

  -- A refused turn leaves all as it was; a full table or list counts the tick and frees the seat.
  pub data Leaves (s : State K) (t : ℕ) (e : Refusal) (z : State K) : Type 0 where
    untouched : z ≡ s → Leaves s t e z
    freed : (e ≡ TableFull) ⊎ (e ≡ ListFull) → z ≡ seated s s.memory t idle_seat (suc s.table.ticks) → Leaves s t e z

  -- So for every call.
  pub record Refusals : Type 0 where
    pub turns : (s : State K) (t : ℕ) (picks : Picks) (e : Refusal) → (turned same hash s t picks).answer ≡ Err e → Leaves s t e (turned same hash s t picks).state
    pub opens : (s : State K) (t : ℕ) (ask : Ask) (key : K) (e : Refusal) → (opened s t ask key).answer ≡ Err e → (opened s t ask key).state ≡ s
    pub withdraws : (s : State K) (t : ℕ) (e : Refusal) → (withdrawn s t).answer ≡ Err e → (withdrawn s t).state ≡ s

  -- A FORMATTED MEMORY

  -- It is sound, reaches the root and nothing else.
  pub record Fresh (m : Memory K) : Type 0 where
    pub root : Reached same hash m 0 0
    pub empty : sound_in same hash m 0 0 ≡ Some (node empty_node)
    pub cells : (index c : ℕ) → Reached same hash m index c → (index ≡ 0) × (c ≡ 0)
    pub pairs : (p : ℕ) → ReachedPair same hash m p → ⊥
    pub tombs : (n : ℕ) → ReachedTomb same hash m n → ⊥

  -- An accepted format makes such a memory.
  abbrev pub FormatsFresh : Type 0
  FormatsFresh = (f : Figures) (m : Memory K) → format_refusal f m ≡ None → Fresh (formatted f m).memory

  -- FOLLOWING A HASH

  -- The cell that a branch is, if it is one of the memory.
  abbrev pub cell_by : Memory K → Option Branch → Option ℕ
  cell_by m None = None
  cell_by m (Some (pair p)) = None
  cell_by m (Some (cell d)) = cond (nat_lt d (length m.words)) (Some d) None

  -- The cell below a main at a chunk.
  abbrev pub cell_below : Memory K → Option Main → ℕ → Option ℕ
  cell_below m None chunk = None
  cell_below m (Some (node n)) chunk = cell_by m (branch_at n chunk)
  cell_below m (Some (tomb p)) chunk = None
  cell_below m (Some (listing l)) chunk = None

  -- The cell at an index to which the chunks of a hash lead.
  unfoldable pub walk : Memory K → ℕ → ℕ → Option ℕ
  walk m h zero = cond (nat_lt 0 (length m.words)) (Some 0) None
  walk m h (suc index) = then (walk m h index) (λ c. cell_below m (sound_in same hash m index c) (chunk_at h index))

  -- What is reached is what following a hash leads to, at the prefix that the hash has there.
  pub record Followed (m : Memory K) : Type 0 where
    pub leads : (index prefix c : ℕ) → StandsFor same hash m index prefix c → (prefix < 2 ^ (5 * index)) × (walk m prefix index ≡ Some c)
    pub stands : (index h c : ℕ) → walk m h index ≡ Some c → StandsFor same hash m index (prefix_at h index) c
    pub reached : (index prefix c : ℕ) → StandsFor same hash m index prefix c → Reached same hash m index c
    pub prefixed : (index c : ℕ) → Reached same hash m index c → (prefix : ℕ) × StandsFor same hash m index prefix c

  -- COUNTING

  -- What a count tells is how many places are reached, each once.
  pub record Counted (m : Memory K) : Type 0 where
    pub cells : HowMany (ReachedCell same hash m) (cell_count same hash m)
    pub pairs : HowMany (ReachedPair same hash m) (pair_count same hash m)
    pub tombs : HowMany (ReachedTomb same hash m) (tomb_count same hash m)

  -- EVERY PHASE HAS A PLAN FOR EVERY MAIN

  -- Whether a phase is given what it asks for: what was read, or what a swap said.
  abbrev pub suits : Phase → Seen → Bool
  suits Idle (Saw n y) = false
  suits Idle (Swapped b) = false
  suits Read (Saw n y) = true
  suits Read (Swapped b) = false
  suits Swap (Saw n y) = false
  suits Swap (Swapped b) = true
  suits Climb (Saw n y) = true
  suits Climb (Swapped b) = false
  suits Parent (Saw n y) = true
  suits Parent (Swapped b) = false
  suits Clean (Saw n y) = false
  suits Clean (Swapped b) = true

  -- The index of the cell that a phase reads.
  abbrev pub index_read : Phase → Seat → ℕ
  index_read Idle x = x.path.depth
  index_read Read x = x.path.depth
  index_read Swap x = x.path.depth
  index_read Climb x = x.path.depth
  index_read Parent x = x.path.depth - 1
  index_read Clean x = x.path.depth

  -- What can be wrong with the memory: the main read breaks the rules at its index, or a pair is missing at the key's chunk.
  pub data Fault (x : Seat) (key : K) (m : Memory K) (phase : Phase) (seen : Seen) : Type 0 where
    unsuited : suits phase seen ≡ false → Fault x key m phase seen
    unsound : (n : ℕ) (y : Main) → seen ≡ Saw n y → sound same hash m.pairs (index_read phase x) y ≡ false → Fault x key m phase seen
    missing : (n p : ℕ) (y : Node) → seen ≡ Saw n (node y) → branch_at y (chunk_at (hash key) (index_read phase x)) ≡ Some (pair p) → slice_get m.pairs p ≡ None → Fault x key m phase seen

  -- An open seat's turn is refused only for such a fault; else it has a plan.
  abbrev pub Decides : Type 0
  Decides = (x : Seat) (key : K) (m : Memory K) (seen : Seen) (e : Refusal) → is_idle x.phase ≡ false → decide same hash x.phase seen x key m ≡ Refuse e → (e ≡ MemoryUnfit) × Fault x key m x.phase seen
