-- The log theorem: what holds after any history on a formatted table.
use Rattle.std.specs.Prelude.{◌≡◌, ℕ, ◌<◌, ◌≤◌, Bool, true, false, ◌⊎◌, List, [], ◌∷◌, length, Some, None, Ok, Err, Option, ◌≢◌}
use mathlib.Core.List.{Memᴰ}
use Rattle.keys.specs.Laws.{KeyLaws}
use Rattle.keys.specs.Routes.{prefix_at}
use Rattle.std.specs.List.{slice_get}
use Rattle.panel.specs.declared.Refusal.TheVariants.{MemoryUnfit}
use Rattle.rules.specs.Calls.{withdrawn}
use Rattle.rules.specs.History.{Event, History, bears, Does, Runs}
use Rattle.rules.specs.Memory.{Memory, State}
use Rattle.rules.specs.PlainMap.{map_after, map_answer, Unlike}
use Rattle.rules.specs.Reached.{Once, HowMany, ReachedPair, ReachedTomb, StandsFor, pair_count}
use Rattle.rules.specs.Seats.{seat_of, is_idle}
use Rattle.rules.specs.declared.Ask.{Ask}
use Rattle.rules.specs.declared.Call.{Call}
use Rattle.rules.specs.declared.Call.TheVariants.{Open, Turn, Withdraw}
use Rattle.rules.specs.declared.Figures.{Figures}
use Rattle.rules.specs.declared.Outcome.{Outcome}
use Rattle.rules.specs.declared.Pair.{Pair}
use Rattle.rules.specs.declared.Reply.{Reply}
use Rattle.rules.specs.declared.Reply.TheVariants.{Opened, Turned, Withdrew}
use Rattle.rules.specs.declared.Stamped.{Stamped}

-- A call with its result and stamp: the number that its opening answered, what was asked, and the ticks then.
pub record StampedCall (K : Type 0) : Type 0 where
  pub number : ℕ
  pub ask : Ask
  pub key : K
  pub at : ℕ
  pub stamp : ℕ
  pub result : Outcome

-- THE STAMPED CALLS OF A HISTORY

module _ {K : Type 0} (h : History K) where
  -- The call was opened on a seat.
  abbrev pub Asked : ℕ → StampedCall K → Type 0
  Asked t c = Memᴰ (record { call = Open t c.ask c.key; reply = Opened (Ok c.number); number = 0; ticks = c.at }) h

  -- A turn of the seat answered something, while it bore an opening number.
  abbrev pub TurnOf : ℕ → ℕ → ℕ → Reply → Type 0
  TurnOf t number ticks r = Memᴰ {A = Event K} (record { call = Turn t; reply = r; number = number; ticks = ticks }) h

  -- So did a withdrawal.
  abbrev pub WithdrawalOf : ℕ → ℕ → ℕ → Reply → Type 0
  WithdrawalOf t number ticks r = Memᴰ {A = Event K} (record { call = Withdraw t; reply = r; number = number; ticks = ticks }) h

  -- Its finish or its withdrawal answered result and stamp, or it is open and a withdrawal now would.
  pub data Ends (s : State K) (t : ℕ) (c : StampedCall K) : Type 0 where
    finished : (e : ℕ) → TurnOf t c.number e (Turned (Ok (Some (record { outcome = c.result; stamp = c.stamp })))) → Ends s t c
    withdrew : (e : ℕ) → WithdrawalOf t c.number e (Withdrew (Ok (Some (record { outcome = c.result; stamp = c.stamp })))) → Ends s t c
    standing : (seat_of s t).number ≡ c.number → (withdrawn s t).answer ≡ Ok (Some (record { outcome = c.result; stamp = c.stamp })) → Ends s t c

  -- The call was opened and has a result and a stamp.
  pub record IsStamped (s : State K) (c : StampedCall K) : Type 0 where
    pub seat : ℕ
    pub asked : Asked seat c
    pub ends : Ends s seat c

  -- The stamp is the number of a turn of the call itself, which was not refused and came after the opening.
  pub record OwnTurn (c : StampedCall K) : Type 0 where
    pub seat : ℕ
    pub asked : Asked seat c
    pub reply : Reply
    pub turned : TurnOf seat c.number c.stamp reply
    pub counted : (reply ≡ Turned (Ok None)) ⊎ (reply ≡ Turned (Ok (Some (record { outcome = c.result; stamp = c.stamp }))))
    pub later : c.at < c.stamp

-- The opening numbers of some calls.
abbrev pub numbers : {K : Type 0} → List (StampedCall K) → List ℕ
numbers [] = []
numbers (c ∷ cs) = c.number ∷ numbers cs

-- Stamps rise from the list's end to its head.
unfoldable pub Rising : {K : Type 0} → List (StampedCall K) → Type 0
Rising [] = Unit {0}
Rising {K} (c ∷ cs) = ((d : StampedCall K) → Memᴰ d cs → d.stamp < c.stamp) × Rising cs

-- Some calls are the stamped ones, all of them and each once, with rising stamps, and each stamp lies within its call.
pub record Ordered {K : Type 0} (h : History K) (s : State K) (calls : List (StampedCall K)) : Type 0 where
  pub all : (c : StampedCall K) → IsStamped h s c → Memᴰ c calls
  pub only : (c : StampedCall K) → Memᴰ c calls → IsStamped h s c
  pub once : Once (numbers calls)
  pub rising : Rising calls
  -- A number is given to one opening only.
  pub opened_once : (c d : StampedCall K) (t u : ℕ) → Asked h t c → Asked h u d → c.number ≡ d.number → (t ≡ u) × (c.ask ≡ d.ask) × (c.key ≡ d.key) × (c.at ≡ d.at)
  -- The stamp is the number of a turn of its own call, and not after its end, which tells the same result and stamp.
  pub own : (c : StampedCall K) → Memᴰ c calls → OwnTurn h c
  pub before_end : (c : StampedCall K) → Memᴰ c calls → (t e : ℕ) (r : Outcome) (n : ℕ) → TurnOf h t c.number e (Turned (Ok (Some (record { outcome = r; stamp = n })))) ⊎ WithdrawalOf h t c.number e (Withdrew (Ok (Some (record { outcome = r; stamp = n })))) → (r ≡ c.result) × (n ≡ c.stamp) × (c.stamp ≤ e)
  pub before_now : (c : StampedCall K) → Memᴰ c calls → c.stamp ≤ s.table.ticks

module _ {K : Type 0} (same : K → K → Bool) where
  -- The plain map fed some calls, the last of which stands first.
  unfoldable pub fed : List (StampedCall K) → List (Pair K)
  fed [] = []
  fed (c ∷ cs) = map_after same c.ask c.key (fed cs)

  -- The map gives each call its result.
  unfoldable pub Plain : List (StampedCall K) → Type 0
  Plain [] = Unit {0}
  Plain (c ∷ cs) = (c.result ≡ map_answer same c.ask c.key (fed cs)) × Plain cs

  -- (a) There is one arrangement of the stamped calls, in the order of their stamps, in which a plain map gives every result.
  pub record Log (h : History K) (s : State K) : Type 0 where
    pub calls : List (StampedCall K)
    pub ordered : Ordered h s calls
    pub plain : Plain calls
    pub unlike : Unlike same (fed calls)

  module _ (hash : K → ℕ) where
    -- (b) The pairs reached from the root are those of a map, each in one place, and as many.
    pub record Holds (m : Memory K) (ys : List (Pair K)) : Type 0 where
      pub only : (p : ℕ) (y : Pair K) → ReachedPair same hash m p → slice_get m.pairs p ≡ Some y → Memᴰ y ys
      pub all : (y : Pair K) → Memᴰ y ys → (p : ℕ) × ReachedPair same hash m p × (slice_get m.pairs p ≡ Some y)
      pub once : (p q : ℕ) (y z : Pair K) → ReachedPair same hash m p → ReachedPair same hash m q → slice_get m.pairs p ≡ Some y → slice_get m.pairs q ≡ Some z → same y.key z.key ≡ true → p ≡ q
      pub many : HowMany (ReachedPair same hash m) (length ys)
      pub counted : pair_count same hash m ≡ length ys

    -- Two different reached pairs share the prefix of an index.
    pub record SharedBy (m : Memory K) (index prefix : ℕ) : Type 0 where
      pub p : ℕ
      pub q : ℕ
      pub one : Pair K
      pub other : Pair K
      pub p_reached : ReachedPair same hash m p
      pub q_reached : ReachedPair same hash m q
      pub p_holds : slice_get m.pairs p ≡ Some one
      pub q_holds : slice_get m.pairs q ≡ Some other
      pub different : same one.key other.key ≡ false
      pub p_has : prefix_at (hash one.key) index ≡ prefix
      pub q_has : prefix_at (hash other.key) index ≡ prefix

    -- (c) No tomb is reached, and a cell stands for a prefix of index 1 to 7 exactly if two different reached pairs share it.
    pub record Compact (m : Memory K) : Type 0 where
      pub no_tomb : (n : ℕ) → ReachedTomb same hash m n → ⊥
      pub shared : (index prefix c : ℕ) → 1 ≤ index → index ≤ 7 → StandsFor same hash m index prefix c → SharedBy m index prefix
      pub stands : (index prefix : ℕ) → 1 ≤ index → index ≤ 7 → SharedBy m index prefix → (c : ℕ) × StandsFor same hash m index prefix c

-- No call is open.
abbrev pub AtRest : {K : Type 0} → State K → Type 0
AtRest s = (t : ℕ) → is_idle (seat_of s t).phase ≡ true

-- No open call was withdrawn.
abbrev pub NoneWithdrawn : {K : Type 0} → History K → Type 0
NoneWithdrawn {K} h = (e : Event K) → Memᴰ e h → (w : Option Stamped) → e.reply ≢ Withdrew (Ok w)

-- No opening and no turn was refused for its memory.
pub record NeverUnfit {K : Type 0} (h : History K) : Type 0 where
  pub openings : (e : Event K) → Memᴰ e h → e.reply ≢ Opened (Err MemoryUnfit)
  pub turns : (e : Event K) → Memᴰ e h → e.reply ≢ Turned (Err MemoryUnfit)

module _ {K : Type 0} (same : K → K → Bool) (hash : K → ℕ) where
  -- A call that is stamped stays so, with its result and stamp, whatever call comes next.
  abbrev pub Stays : History K → State K → Type 0
  Stays h s = (c : StampedCall K) → IsStamped h s c → (e : Call K) (r : Reply) (z : State K) → Does same hash s e r z → IsStamped (record { call = e; reply = r; number = bears s e; ticks = z.table.ticks } ∷ h) z c

  -- What stands after a history.
  pub record Stands (h : History K) (s : State K) : Type 0 where
    pub log : Log same h s
    pub holds : Holds same hash s.memory (fed same log.calls)
    pub compact : AtRest s → NoneWithdrawn h → Compact same hash s.memory
    pub unfit : NeverUnfit h
    pub stays : Stays h s

  -- The theorem, of a key kind that keeps its laws.
  abbrev pub LogTheorem : Type 0
  LogTheorem = KeyLaws same hash → (f : Figures) (h : History K) (s : State K) → Runs same hash f h s → Stands h s

  -- The history with one call more.
  abbrev pub extended : History K → State K → Call K → Reply → State K → History K
  extended h s c r z = record { call = c; reply = r; number = bears s c; ticks = z.table.ticks } ∷ h

  -- Whatever history led to a state, with the call it led to the next one, and all of it stands.
  abbrev pub Lawful : State K → Call K → Reply → State K → Type 0
  Lawful s c r z = (f : Figures) (h : History K) → Runs same hash f h s → Runs same hash f (extended h s c r z) z × Stands (extended h s c r z) z
