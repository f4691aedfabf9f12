-- The statement on the log: every result is that of a plain map, in the order of the stamps, and the tree holds that map.
use Rattle.std.specs.Prelude.{◌≡◌, Bool, List, ℕ}
use Rattle.keys.specs.Laws.{KeyLaws}
use Rattle.machine.specs.Tree.{lookup}
use Rattle.machine.specs.Machine.{State, Entry, view, Runs, Plain, Rising, replay}

-- The results are those of a plain map, the stamps rise, and a lookup finds what the map holds.
pub record Stands {K : Type 0} (same : K → K → Bool) (hash : K → ℕ) (chunk : ℕ → ℕ → ℕ) (es : List (Entry K)) (s : State K) : Type 0 where
  pub results : Plain same es
  pub rising : Rising s.ticks es
  pub held : (k : K) → replay same es k ≡ lookup same hash chunk (view s.mem) k

-- Of a key kind that keeps its laws, and whatever the chunks of a hash are, the log of every run stands.
abbrev pub Claim : {K : Type 0} → (K → K → Bool) → (K → ℕ) → Type 0
Claim {K} same hash = KeyLaws same hash → (chunk : ℕ → ℕ → ℕ)
    → (es : List (Entry K)) (s : State K) → Runs same hash chunk es s → Stands same hash chunk es s
