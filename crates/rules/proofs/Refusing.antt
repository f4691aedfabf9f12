-- A refusal leaves all as it was, but for a full table or list; and an open seat is refused only for its memory.
use Rattle.std.proofs.Common.{◌≡◌, ℕ, Bool, Err, arith}
use Rattle.panel.specs.declared.Refusal.{Refusal}
use Rattle.panel.specs.declared.Refusal.TheVariants.{MemoryUnfit}
use Rattle.rules.specs.Calls.{opened, withdrawn}
use Rattle.rules.specs.Memory.{State}
use Rattle.rules.specs.Sanity.{Refusals, Fault, Decides}
use Rattle.rules.specs.declared.Ask.{Ask}
use Rattle.rules.specs.declared.Plan.{Plan}
use Rattle.rules.specs.declared.Plan.TheVariants.{Refuse}
use Rattle.rules.proofs.Plans.{by_decide}

module _ {K : Type 0} (same : K → K → Bool) (hash : K → ℕ) where
  refused_open : (s : State K) (t : ℕ) (ask : Ask) (key : K) (e : Refusal) → (opened s t ask key).answer ≡ Err e → (opened s t ask key).state ≡ s
  refused_open s t ask key e p = grind arith

  refused_withdrawal : (s : State K) (t : ℕ) (e : Refusal) → (withdrawn s t).answer ≡ Err e → (withdrawn s t).state ≡ s
  refused_withdrawal s t e p = grind arith

  pub refusals : Refusals same hash
  refusals =
      record {
        turns = λ s t picks e a. (grind arith);
        opens = refused_open;
        withdraws = refused_withdrawal;
      }

  -- A plan is a refusal only for a fault of the memory.
  abbrev For : Type 0 → Plan → Type 0
  For F p = (e : Refusal) → p ≡ Refuse e → (e ≡ MemoryUnfit) × F

  pub decides : Decides same hash
  decides x key m seen e o p =
      let F = Fault same hash x key m x.phase seen in
      by_decide (For F) (grind arith) same hash x.phase seen x key m o (λ f d q. (cc, f)) e p
