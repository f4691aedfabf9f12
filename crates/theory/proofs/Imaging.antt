-- A state of the rules with its image in the machine: the seats that show it, and the run that led there.
use Rattle.std.proofs.Common.{◌≡◌, ℕ, Bool, false, List}
use Rattle.keys.specs.Laws.{KeyLaws}
use Rattle.keys.specs.Routes.{chunk_at}
use Rattle.machine.proofs.AtRest.{always}
use Rattle.machine.proofs.Chunk.{chunks}
use Rattle.machine.proofs.Laws.{laws_of}
use Rattle.machine.specs.Machine.{Seat as Place}
use Rattle.machine.specs.Turn.{Turns}
use Rattle.rules.specs.History.{History}
use Rattle.rules.specs.Memory.{State}
use Rattle.rules.specs.Seats.{seat_of, is_idle}
use Rattle.rules.specs.Theorem.{StampedCall, NoneWithdrawn}
use Rattle.rules.specs.declared.Figures.{Figures}
use Rattle.theory.proofs.Ground.{Ground}
use Rattle.theory.proofs.Seating.{shown_state, Shows}
use Rattle.theory.proofs.Writing.{Written, Poised}
use Rattle.theory.specs.Fed.{entries_of, Fitting}
use Rattle.theory.specs.Records.{Steady}

module _ {K : Type 0} (same : K → K → Bool) (hash : K → ℕ) where
  -- A state is shown by seats of the machine, which has come there with the stamped calls as its log.
  pub record Image (h : History K) (calls : List (StampedCall K)) (s : State K) : Type 0 where
    pub seats : List (Place K)
    pub flag : Bool
    pub shows : Shows s seats
    pub run : Turns same hash chunk_at flag (entries_of calls) (shown_state s seats)
    -- The machine's flag stays down while no call is withdrawn.
    pub calm : NoneWithdrawn h → flag ≡ false
    pub fitting : Fitting calls
    pub written : Written s
    pub poised : (t : ℕ) → is_idle (seat_of s t).phase ≡ false → Poised (seat_of s t)

  module _ (laws : KeyLaws same hash) {f : Figures} where
    -- All that is known of the state then.
    pub ground : {h : History K} {calls : List (StampedCall K)} {s : State K} → Steady f s → (m : Image h calls s) → Ground same hash f (entries_of calls) s m.seats
    ground {calls = calls} {s = s} w m =
        let all = always same hash chunk_at (laws_of same hash laws) chunks m.flag (entries_of calls) (shown_state s m.seats) m.run in
        record { steady = w; written = m.written; poised = m.poised; shows = m.shows; inv = all.inv; lawful = all.lawful }
