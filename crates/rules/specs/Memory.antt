-- The shared memory and the state of a table.
use Rattle.std.specs.Prelude.{ℕ, cond, List, Some, None, Option, nat_lt}
use Rattle.std.specs.List.{slice_get}
use Rattle.mains.specs.declared.Main.{Main}
use Rattle.rules.specs.declared.Pair.{Pair}
use Rattle.rules.specs.declared.Table.{Table}

-- The words of the bank, one for each cell; main places; pair places; a key place for each seat.
pub record Memory (K : Type 0) : Type 0 where
  pub words : List ℕ
  pub mains : List Main
  pub pairs : List (Pair K)
  pub keys : List K

-- A table with its memory.
pub record State (K : Type 0) : Type 0 where
  pub table : Table
  pub memory : Memory K

-- The most that ticks and openings count to.
abbrev pub last_count : ℕ
last_count = 999999999999

-- Main places past the first 65,535 are outside the memory.
abbrev pub main_limit : ℕ
main_limit = 65535

-- The main in a main place; none if the place is outside the memory.
abbrev pub main_at : List Main → ℕ → Option Main
main_at mains n = cond (nat_lt n main_limit) (slice_get mains n) None

-- What a value that may be missing leads to.
abbrev pub then : {A B : Type 0} → Option A → (A → Option B) → Option B
then None f = None
then (Some x) f = f x

-- The main that a cell holds.
abbrev pub main_in : {K : Type 0} → Memory K → ℕ → Option Main
main_in m cell = then (slice_get m.words cell) (main_at m.mains)
