-- What holds of every kind of plan holds of the plan that follows from anything seen.
use Rattle.std.proofs.Common.{◌≡◌, ℕ, ◌-◌, Bool, true, false, Some, None, sym, refl, ap, arith}
use Rattle.keys.specs.Routes.{chunk_at}
use Rattle.std.specs.List.{slice_get}
use Rattle.std.proofs.lemmas.Bool.{false≢true, cond_both}
use Rattle.panel.specs.declared.Refusal.TheVariants.{MemoryUnfit, ListFull}
use Rattle.mains.specs.Nodes.{branch_at}
use Rattle.mains.specs.declared.Branch.TheVariants.{Pair as pair}
use Rattle.mains.specs.declared.Main.{Main}
use Rattle.mains.specs.declared.Main.TheVariants.{Node as node}
use Rattle.mains.specs.declared.Node.{Node}
use Rattle.rules.specs.Memory.{Memory}
use Rattle.rules.specs.Sanity.{Fault, unsuited, unsound, missing}
use Rattle.rules.specs.Seats.{is_idle}
use Rattle.rules.specs.Sound.{sound}
use Rattle.rules.specs.Turns.{read_plan, decide}
use Rattle.rules.specs.declared.Edit.{Edit}
use Rattle.rules.specs.declared.Outcome.{Outcome}
use Rattle.rules.specs.declared.Phase.{Phase}
use Rattle.rules.specs.declared.Phase.TheVariants.{Idle, Read, Swap, Climb, Parent, Clean}
use Rattle.rules.specs.declared.Plan.{Plan}
use Rattle.rules.specs.declared.Plan.TheVariants.{Refuse, Quit, Finish, Settle, Close, Go, Make}
use Rattle.rules.specs.declared.Seat.{Seat}
use Rattle.rules.specs.declared.Seen.{Seen}
use Rattle.rules.specs.declared.Seen.TheVariants.{Saw, Swapped}

-- It holds of every plan but a refusal; a call is given up only at a full list.
pub record Kinds (P : Plan → Type 0) : Type 0 where
  pub quit : P (Quit ListFull)
  pub finish : (r : Outcome) → P (Finish r)
  pub settle : (r : Outcome) → P (Settle r)
  pub close : P Close
  pub go : (x : Seat) → P (Go x)
  pub make : (edit : Edit) (phase : Phase) (n : ℕ) (r : Outcome) → P (Make edit phase n r)

module _ (P : Plan → Type 0) (k : Kinds P) where
  module _ {K : Type 0} (same : K → K → Bool) (hash : K → ℕ) where
    by_read : (y : Main) (x : Seat) (key : K) (m : Memory K) (n i : ℕ) → sound same hash m.pairs i y ≡ true → ((z : Node) (p : ℕ) → y ≡ node z → branch_at z (chunk_at (hash key) i) ≡ Some (pair p) → slice_get m.pairs p ≡ None → P (Refuse MemoryUnfit)) → P (read_plan same hash y x key m n i)
    by_read y x key m n i s f = grind arith

    -- The plan of an open seat, given that a refusal has the property where there is a fault.
    pub by_decide : (phase : Phase) (seen : Seen) (x : Seat) (key : K) (m : Memory K) → is_idle phase ≡ false → (Fault same hash x key m phase seen → P (Refuse MemoryUnfit)) → P (decide same hash phase seen x key m)
    by_decide Idle (Saw n y) x key m o f = absurd (false≢true (sym o))
    by_decide Idle (Swapped b) x key m o f = absurd (false≢true (sym o))
    by_decide Read (Saw n y) x key m o f =
        cond_both (sound same hash m.pairs x.path.depth y) _ _ P
        (λ s. by_read y x key m n x.path.depth s (λ z p e b g. f (missing n p z (ap (Saw n) e) b g)))
        (λ s. f (unsound n y refl s))
    by_decide Swap (Swapped b) x key m o f = grind arith
    by_decide Climb (Saw n y) x key m o f =
        cond_both (sound same hash m.pairs x.path.depth y) _ _ P (λ s. (grind arith)) (λ s. f (unsound n y refl s))
    by_decide Parent (Saw n y) x key m o f =
        cond_both (sound same hash m.pairs (x.path.depth - 1) y) _ _ P
        (λ s. (grind arith))
        (λ s. f (unsound n y refl s))
    by_decide Clean (Swapped b) x key m o f = grind arith
    by_decide _ _ x key m o f = f (unsuited refl)
