-- The stamped calls of a history have an order, whatever their keys and the table's memory.
use Rattle.std.specs.Prelude.{ℕ, Bool, List}
use Rattle.rules.specs.History.{History, Runs}
use Rattle.rules.specs.Memory.{State}
use Rattle.rules.specs.Theorem.{StampedCall, Ordered, Stays}
use Rattle.rules.specs.declared.Figures.{Figures}

-- Some calls are the stamped ones of a history, in the order of their stamps; and what is stamped stays so.
pub record Orders {K : Type 0} (same : K → K → Bool) (hash : K → ℕ) (h : History K) (s : State K) : Type 0 where
  pub calls : List (StampedCall K)
  pub ordered : Ordered h s calls
  pub stays : Stays same hash h s

-- This holds of every history of a formatted table.
abbrev pub OrderTheorem : {K : Type 0} → (K → K → Bool) → (K → ℕ) → Type 0
OrderTheorem {K} same hash = (f : Figures) (h : History K) (s : State K) → Runs same hash f h s → Orders same hash h s
