-- The statements on runs by the exact turns: the log stands, every reached main keeps the rules, and at rest the tree is compact.
use Rattle.std.specs.Prelude.{◌≡◌, Bool, false, List, ◌↔◌, ℕ}
use Rattle.std.proofs.Math.Option.{some}
use Rattle.keys.specs.Laws.{KeyLaws}
use Rattle.keys.specs.Routes.{chunk_at}
use Rattle.machine.specs.Tree.{Tree, walk}
use Rattle.machine.specs.Machine.{State, seat, idle, view, Entry}
use Rattle.machine.specs.Claim.{Stands}
use Rattle.machine.specs.Rest.{Reach, Compact}
use Rattle.machine.specs.Rules.{Ruled, NoTombs}
use Rattle.machine.specs.Turn.{Turns, Owned}

-- No tomb is reached, and the tree is compact.
pub record Rested {K : Type 0} (same : K → K → Bool) (hash : K → ℕ) (chunk : ℕ → ℕ → ℕ) (s : State K) : Type 0 where
  pub no_tombs : NoTombs chunk s.mem
  pub compact : Compact same hash chunk (view s.mem)

module _ {K : Type 0} (same : K → K → Bool) (hash : K → ℕ) where
  -- The log of every run stands, also if calls were withdrawn.
  abbrev pub LogStands : Type 0
  LogStands = KeyLaws same hash → (b : Bool) (es : List (Entry K)) (s : State K) → Turns same hash chunk_at b es s → Stands same hash chunk_at es s

  -- After every run each reached main keeps the rules, also if calls were withdrawn.
  abbrev pub AlwaysRuled : Type 0
  AlwaysRuled = KeyLaws same hash → (b : Bool) (es : List (Entry K)) (s : State K) → Turns same hash chunk_at b es s → Ruled same chunk_at s.mem

  -- After every run without a withdrawal each reached tomb lies on the path of a settled cut that is still open.
  abbrev pub AlwaysOwned : Type 0
  AlwaysOwned = KeyLaws same hash → (es : List (Entry K)) (s : State K) → Turns same hash chunk_at false es s → Owned chunk_at s.mem s.seats

  -- After every run without a withdrawal, with no call open, no tomb is reached and the tree is compact.
  abbrev pub AtRest : Type 0
  AtRest = KeyLaws same hash → (es : List (Entry K)) (s : State K) → Turns same hash chunk_at false es s → ((t : ℕ) → seat s t ≡ idle) → Rested same hash chunk_at s

-- A cell is reached through some chunks exactly if it is reached along some hash.
abbrev pub ReachedAlong : Type 0 → Type 0
ReachedAlong K = (M : Tree K) (i c : ℕ) → Reach M i c ↔ ((h : ℕ) × (walk chunk_at M h i ≡ some c))
