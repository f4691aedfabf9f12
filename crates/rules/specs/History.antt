-- Histories of a table that is touched by its calls alone.
use Rattle.std.specs.Prelude.{◌≡◌, ℕ, Bool, List, [], ◌∷◌, None}
use Rattle.rules.specs.Calls.{format_refusal, formatted, opened, withdrawn, counted}
use Rattle.rules.specs.Memory.{Memory, State}
use Rattle.rules.specs.Perform.{Out, Turns}
use Rattle.rules.specs.Seats.{seat_of}
use Rattle.rules.specs.declared.Call.{Call}
use Rattle.rules.specs.declared.Call.TheVariants.{Open, Turn, Withdraw, Count}
use Rattle.rules.specs.declared.Figures.{Figures}
use Rattle.rules.specs.declared.Reply.{Reply}
use Rattle.rules.specs.declared.Reply.TheVariants.{Opened, Turned, Withdrew, Counted}

-- A call with what it answered; of a turn or a withdrawal the opening number that its seat bore; the tick count after it.
pub record Event (K : Type 0) : Type 0 where
  pub call : Call K
  pub reply : Reply
  pub number : ℕ
  pub ticks : ℕ

-- The newest event stands first.
abbrev pub History : Type 0 → Type 0
History K = List (Event K)

-- The opening number that the seat of a call bears.
abbrev pub bears : {K : Type 0} → State K → Call K → ℕ
bears s (Open t ask key) = 0
bears s (Turn t) = (seat_of s t).number
bears s (Withdraw t) = (seat_of s t).number
bears s Count = 0

module _ {K : Type 0} (same : K → K → Bool) (hash : K → ℕ) where
  -- What a call does, refused or not: these are the rules of the calls. An answer of another call's kind is none.
  abbrev pub Does : State K → Call K → Reply → State K → Type 0
  Does s (Open t ask key) (Opened r) z = (r ≡ (opened s t ask key).answer) × (z ≡ (opened s t ask key).state)
  Does s (Open t ask key) (Turned r) z = ⊥
  Does s (Open t ask key) (Withdrew r) z = ⊥
  Does s (Open t ask key) (Counted c) z = ⊥
  Does s (Turn t) (Opened r) z = ⊥
  Does s (Turn t) (Turned r) z = (out : Out K) × Turns same hash s t out × (r ≡ out.answer) × (z ≡ out.state)
  Does s (Turn t) (Withdrew r) z = ⊥
  Does s (Turn t) (Counted c) z = ⊥
  Does s (Withdraw t) (Opened r) z = ⊥
  Does s (Withdraw t) (Turned r) z = ⊥
  Does s (Withdraw t) (Withdrew r) z = (r ≡ (withdrawn s t).answer) × (z ≡ (withdrawn s t).state)
  Does s (Withdraw t) (Counted c) z = ⊥
  Does s Count (Opened r) z = ⊥
  Does s Count (Turned r) z = ⊥
  Does s Count (Withdrew r) z = ⊥
  Does s Count (Counted c) z = (c ≡ counted same hash s) × (z ≡ s)

  -- A history led from a table formatted with these figures, in some memory, to a state.
  pub data Runs (f : Figures) : History K → State K → Type 0 where
    fresh : (m : Memory K) → format_refusal f m ≡ None → Runs f [] (formatted f m)
    then : {h : History K} {s : State K} → Runs f h s → (c : Call K) (r : Reply) (z : State K) → Does s c r z → Runs f (record { call = c; reply = r; number = bears s c; ticks = z.table.ticks } ∷ h) z
