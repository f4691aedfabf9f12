-- What is known of a state and of the seats of the machine that show it, all at once.
use Rattle.std.proofs.Common.{◌≡◌, ℕ, ◌+◌, ◌≤◌, Bool, false, List}
use Rattle.keys.specs.Routes.{chunk_at}
use Rattle.machine.proofs.Inv.{Inv}
use Rattle.machine.proofs.Lawful.{Lawful}
use Rattle.machine.specs.Machine.{Entry, Seat as Place}
use Rattle.rules.specs.Memory.{State}
use Rattle.rules.specs.Perform.{promised_cells, promised_pairs}
use Rattle.rules.specs.Reached.{cell_count, pair_count}
use Rattle.rules.specs.Seats.{seat_of, is_idle}
use Rattle.rules.specs.declared.Figures.{Figures}
use Rattle.theory.proofs.Seating.{shown_state, Shows}
use Rattle.theory.proofs.Writing.{Written, Poised}
use Rattle.theory.specs.Records.{Steady}
use Rattle.theory.specs.Shown.{shown_mem}

module _ {K : Type 0} (same : K → K → Bool) (hash : K → ℕ) where
  -- The table keeps its figures and records, what it has written is fine, and the machine that shows it keeps its invariant.
  pub record Ground (f : Figures) (es : List (Entry K)) (s : State K) (xs : List (Place K)) : Type 0 where
    pub steady : Steady f s
    pub written : Written s
    pub poised : (t : ℕ) → is_idle (seat_of s t).phase ≡ false → Poised (seat_of s t)
    pub shows : Shows s xs
    pub inv : Inv same hash chunk_at es (shown_state s xs)
    pub lawful : Lawful same hash chunk_at (shown_mem s.memory) xs

  -- What is reached and what is promised stay within the limits of the table.
  pub record Within (s : State K) : Type 0 where
    pub cells : cell_count same hash s.memory + promised_cells s.table.seats ≤ s.table.limits.cells
    pub pairs : pair_count same hash s.memory + promised_pairs s.table.seats ≤ s.table.limits.pairs
