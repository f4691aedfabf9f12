-- What the rules reach and what the machine reaches in the memory that is shown.
use Rattle.std.specs.Prelude.{◌≡◌, ℕ, ◌<◌, Bool, length, Some}
use Rattle.std.proofs.Math.Option.{some}
use Rattle.keys.specs.Routes.{chunk_at}
use Rattle.machine.specs.Machine.{view}
use Rattle.machine.specs.Tree.{walk as tree_walk}
use Rattle.mains.specs.declared.Main.{Main}
use Rattle.rules.specs.Memory.{Memory}
use Rattle.rules.specs.Sanity.{walk}
use Rattle.rules.specs.Sound.{sound_in}
use Rattle.theory.specs.Shown.{shown_mem}

-- In the memory shown, the chunks of a hash lead to a cell at an index.
abbrev pub Leads : {K : Type 0} → Memory K → ℕ → ℕ → ℕ → Type 0
Leads m h index c = tree_walk chunk_at (view (shown_mem m)) h index ≡ some c

module _ {K : Type 0} (same : K → K → Bool) (hash : K → ℕ) where
  -- Every cell that is led to is one of the memory, and its main keeps the rules of its index.
  pub record Intact (m : Memory K) : Type 0 where
    pub inside : (h index c : ℕ) → Leads m h index c → c < length m.words
    pub main : (h index c : ℕ) → Leads m h index c → Main
    pub keeps : (h index c : ℕ) (l : Leads m h index c) → sound_in same hash m index c ≡ Some (main h index c l)

  -- What a hash leads to by the rules, it leads to in the memory shown; and back, where that is intact.
  pub record ShowsReach (m : Memory K) : Type 0 where
    pub leads : (h index c : ℕ) → walk same hash m h index ≡ Some c → Leads m h index c
    pub back : Intact m → (h index c : ℕ) → Leads m h index c → walk same hash m h index ≡ Some c
