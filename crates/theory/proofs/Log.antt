-- The log theorem, and the same call by call.
use Rattle.std.proofs.Common.{ℕ, Bool, [], subst}
use Rattle.keys.specs.Laws.{KeyLaws}
use Rattle.keys.specs.Routes.{chunk_at}
use Rattle.machine.specs.Turn.{Turns}
use Rattle.rules.specs.Calls.{formatted}
use Rattle.rules.specs.History.{History, Runs}
use Rattle.rules.specs.Memory.{State}
use Rattle.rules.specs.Theorem.{Log, Stands, NoneWithdrawn, AtRest, Compact, LogTheorem, extended}
use Rattle.rules.specs.declared.Figures.{Figures}
use Rattle.theory.proofs.Feeding.{feeds_pair}
use Rattle.theory.proofs.Ground.{Ground}
use Rattle.theory.proofs.Imaging.{ground}
use Rattle.theory.proofs.Order.{ordered, stay}
use Rattle.theory.proofs.Running.{Known, known}
use Rattle.theory.proofs.Seating.{shown_state}
use Rattle.theory.proofs.Telling.{told, rested}
use Rattle.theory.specs.Fed.{entries_of}
use Rattle.theory.specs.Claims.{CallTheorem, FormatTheorem}

module _ {K : Type 0} (same : K → K → Bool) (hash : K → ℕ) (laws : KeyLaws same hash) {f : Figures} {h : History K} {s : State K} (w : Known same hash f h s) where
  abbrev grounded : Ground same hash f (entries_of w.calls) s w.image.seats
  grounded = ground same hash laws w.steady w.image

  -- The book gives the order of the stamped calls, the machine's log their results.
  log : Log same h s
  log =
      record {
        calls = w.calls;
        ordered = ordered w.book;
        plain = (feeds_pair same hash laws).plain w.calls w.image.fitting grounded.inv.log.results;
        unlike = (feeds_pair same hash laws).unlike w.calls;
      }

  -- With no call open and none withdrawn the machine is at rest.
  at_rest : AtRest s → NoneWithdrawn h → Compact same hash s.memory
  at_rest idle calm =
      rested same hash laws (entries_of w.calls) grounded
      (subst (λ (b : Bool). Turns same hash chunk_at b (entries_of w.calls) (shown_state s w.image.seats)) (w.image.calm calm) w.image.run) idle

  -- All that stands after a history.
  standing : Stands same hash h s
  unfolding log
  standing = record { log = log; holds = told same hash laws w.calls grounded; compact = at_rest; unfit = w.unfit; stays = stay w.book same hash }

module _ {K : Type 0} (same : K → K → Bool) (hash : K → ℕ) where
  pub log_stands_lem : LogTheorem same hash
  log_stands_lem laws f h s run = standing same hash laws (known same hash laws run)

  pub calls_stand : CallTheorem same hash
  calls_stand laws s c r z d f h run = let on = Runs.then run c r z d in (on, log_stands_lem laws f (extended same hash h s c r z) z on)

  pub formats_stand : FormatTheorem same hash
  formats_stand laws f m e = let fresh = Runs.fresh m e in (fresh, log_stands_lem laws f [] (formatted f m) fresh)
