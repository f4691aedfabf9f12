-- The log theorem call by call, and where a history begins, of a key kind that keeps its laws.
use Rattle.std.specs.Prelude.{◌≡◌, ℕ, Bool, [], None}
use Rattle.keys.specs.Laws.{KeyLaws}
use Rattle.rules.specs.Calls.{format_refusal, formatted}
use Rattle.rules.specs.History.{Does, Runs}
use Rattle.rules.specs.Memory.{Memory, State}
use Rattle.rules.specs.Theorem.{Stands, Lawful}
use Rattle.rules.specs.declared.Call.{Call}
use Rattle.rules.specs.declared.Figures.{Figures}
use Rattle.rules.specs.declared.Reply.{Reply}

module _ {K : Type 0} (same : K → K → Bool) (hash : K → ℕ) where
  -- What a call does, refused or not, is lawful.
  abbrev pub CallTheorem : Type 0
  CallTheorem = KeyLaws same hash → (s : State K) (c : Call K) (r : Reply) (z : State K) → Does same hash s c r z → Lawful same hash s c r z

  -- A history begins with an accepted format.
  abbrev pub FormatTheorem : Type 0
  FormatTheorem = KeyLaws same hash → (f : Figures) (m : Memory K) → format_refusal f m ≡ None → Runs same hash f [] (formatted f m) × Stands same hash [] (formatted f m)
