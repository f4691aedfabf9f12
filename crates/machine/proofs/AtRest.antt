-- Every run by exact turns keeps the rules, and without a withdrawal, at rest, it has no tomb and is compact.
use mathlib.Core.Path.{◌≡◌, refl, sym, ◌∙◌, subst}
use mathlib.Core.Bool.{Bool, false}
use mathlib.Core.List.{List}
use mathlib.Core.Option.{none}
use Prim.Native.Nat.{ℕ}
use native.Mathlib.Omega.{arith}
use Rattle.machine.specs.Machine.{node, word, main, idle, State, seat, Entry, add, Formatted, Moves, Step}
use Rattle.machine.proofs.Split.{no_pair}
use Rattle.machine.proofs.Inv.{Inv}
use Rattle.machine.proofs.Turns.{by_seat, only_root, begins, keeps}
use Rattle.machine.specs.Rules.{NodeRule, Kept, NoTombs}
use Rattle.machine.proofs.Chunk.{Chunks}
use Rattle.machine.specs.Turn.{Turns, Owned}
use Rattle.machine.specs.AtRest.{Rested}
use Rattle.machine.proofs.Laws.{Laws}
use Rattle.machine.proofs.Sound.{rests_compact}
use Rattle.machine.proofs.Own.{Owning}
use Rattle.machine.proofs.Owning.{turn_step, owning_keeps, owning_begins}
use Rattle.machine.proofs.Lawful.{PendRule, Lawful, lawful_keeps}

module _ {K : Type 0} (same : K → K → Bool) (hash : K → ℕ) (chunk : ℕ → ℕ → ℕ) where
  -- An empty branch node at the root keeps the rules, so they hold at the start.
  lawful_begins : (s : State K) → Formatted s → Lawful same hash chunk s.mem s.seats
  lawful_begins s f =
      let rule : NodeRule 0 f.root.0 = record { high = omega arith; chunks = λ q t. absurd (rw (f.root.2 q) at t); any = λ p. absurd (omega arith); beside = λ p. absurd (omega arith) } in
      let root : Kept same s.mem.pairs 0 (node f.root.0) = record { rule = rule; inside = λ p h. absurd (no_pair (sym (f.root.2 h.0) ∙ h.1)) } in
      record {
        ruled = λ h i c w. let o = only_root same hash chunk s f h i c w in
            subst (λ (d : ℕ). Kept same s.mem.pairs i (main s.mem (word s.mem d))) (sym o.1) (rw (o.0, f.root.1) root);
        pends = λ t. rw (f.idles t) tt;
      }

  -- All that holds after a run; the owners only where no call was withdrawn.
  pub record All (b : Bool) (es : List (Entry K)) (s : State K) : Type 0 where
    pub inv : Inv same hash chunk es s
    owning : b ≡ false → Owning same hash chunk s.mem s.seats
    pub lawful : Lawful same hash chunk s.mem s.seats

  -- It holds after every run.
  pub always : Laws same hash → Chunks chunk → (b : Bool) (es : List (Entry K)) (s : State K) → Turns same hash chunk b es s → All b es s
  always laws chunks b es s (Turns.formatted f) = record { inv = begins same hash chunk s f; owning = λ x. owning_begins same hash chunk s f; lawful = lawful_begins s f }
  always laws chunks b es s (Turns.then {es = fs} {s = r} {e = e} run st) =
      let i = always laws chunks b fs r run in
      let v : Inv same hash chunk (add e fs) s = keeps same hash chunk laws fs r s e (turn_step same hash chunk r s e st) i.inv in
      record {
        inv = v;
        owning = λ x. owning_keeps same hash chunk fs r s e st i.inv (i.owning x);
        lawful = lawful_keeps same hash chunk laws chunks fs (add e fs) r s e st i.inv v i.lawful;
      }
  always laws chunks b es s (Turns.withdrawn {b = b'} {s = r} t l run) =
      let i = always laws chunks b' es r run in
      record {
        inv = keeps same hash chunk laws es r s none (Step.moves t idle r.ticks l (omega arith) (Moves.rest (seat r t))) i.inv;
        owning = λ x. cc;
        lawful = record { ruled = i.lawful.ruled; pends = λ u. by_seat r.seats t u idle (PendRule same hash chunk r.mem) l (λ e. tt) (λ e. i.lawful.pends u) };
      }

  -- With none withdrawn each reached tomb has an owner.
  pub owners : Laws same hash → Chunks chunk → (es : List (Entry K)) (s : State K) → Turns same hash chunk false es s → Owned chunk s.mem s.seats
  owners laws chunks es s run = ((always laws chunks false es s run).owning refl).owned

  -- With no call open a tomb would have no owner.
  pub at_rest : Laws same hash → Chunks chunk → (es : List (Entry K)) (s : State K) → Turns same hash chunk false es s → ((t : ℕ) → seat s t ≡ idle) → Rested same hash chunk s
  at_rest laws chunks es s run rest =
      let i : All false es s = always laws chunks false es s run in
      let none_there : NoTombs chunk s.mem = λ h j c w z. let o = owners laws chunks es s run h j c w z in rw (rest o.0) at o.1 in
      record { no_tombs = none_there; compact = rests_compact same hash laws chunk s.mem i.inv.shape i.lawful.ruled none_there chunks }
