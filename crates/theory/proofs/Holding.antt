-- What is known of an open seat in the machine, and of the main that it reads in a cell of its path.
use Rattle.std.proofs.Common.{◌≡◌, ℕ, ◌<◌, ◌≤◌, Bool, false, List, length, get_or, Some, sym, ap, ◌∙◌, subst, arith}
use Rattle.keys.specs.Laws.{KeyLaws}
use Rattle.std.specs.List.{slice_get}
use Rattle.std.proofs.lemmas.Option.{same_Some}
use Rattle.machine.specs.Machine.{Entry, Main as Shape, Seat as Place, idle, HasPair, word, main as main_of}
use Rattle.machine.specs.Machine.{PairInUse as UsedPair}
use Rattle.mains.specs.declared.Main.{Main}
use Rattle.rules.specs.InUse.{PairInUse}
use Rattle.rules.specs.Memory.{State, main_at}
use Rattle.rules.specs.Reached.{is_tomb}
use Rattle.rules.specs.Seats.{seat_of, is_idle}
use Rattle.rules.specs.declared.Figures.{Figures}
use Rattle.rules.specs.declared.Phase.{Phase}
use Rattle.theory.proofs.Ground.{Ground}
use Rattle.theory.proofs.Likeness.{names_shown}
use Rattle.theory.proofs.Seating.{shown_as}
use Rattle.theory.proofs.ShownMemory.{shows_memory}
use Rattle.theory.proofs.Sights.{Holds}
use Rattle.theory.proofs.Steady.{in_limits_seats}
use Rattle.theory.proofs.Using.{Readable, readable, pair_used}
use Rattle.theory.proofs.Writing.{NamesPair, Fine}
use Rattle.theory.specs.Reaching.{Leads}
use Rattle.theory.specs.Shown.{shown_mem, shown_main}

module _ {K : Type 0} (same : K → K → Bool) (hash : K → ℕ) (laws : KeyLaws same hash) {f : Figures} {es : List (Entry K)} {s : State K} {xs : List (Place K)} (g : Ground same hash f es s xs)
    (t : ℕ) (k : K) (o : is_idle (seat_of s t).phase ≡ false) (keyed : slice_get s.memory.keys t ≡ Some k) where
  -- An open seat is one of the eight, and shows its record in its phase.
  pub in_seats : t < length xs
  in_seats =
      let l = in_limits_seats f g.steady.figures in
      let r = (g.steady.calls t o).0 in
      let e = g.shows.eight in
      omega (arith, l, r, e)

  pub seat_shown : (phase : Phase) → (seat_of s t).phase ≡ phase → get_or xs t idle ≡ shown_as phase (seat_of s t) k
  seat_shown phase e = g.shows.calls t k o keyed ∙ ap (λ (p : Phase). shown_as p (seat_of s t) k) e

  module _ (i : ℕ) (l : i ≤ (seat_of s t).path.depth) (n : ℕ) (y : Main) (h : Holds same hash s.memory (get_or (seat_of s t).path.cells i 0) n y) where
    abbrev c₀ : ℕ
    c₀ = get_or (seat_of s t).path.cells i 0

    there : Readable same hash s g.written.cells k i c₀
    there = readable same hash laws g t k o keyed i l

    -- The cell holds one main: what is known of its main is known of the one read.
    one_main : there.main ≡ y
    one_main =
        same_Some there.main y
        (sym there.holds.main ∙ ap (λ (x : ℕ). main_at s.memory.mains x) (same_Some there.number n (sym there.holds.word ∙ h.word)) ∙ h.main)

    pub held_fine : Fine g.written.cells (length s.memory.pairs) y
    held_fine = subst (λ (x : Main). Fine g.written.cells (length s.memory.pairs) x) one_main there.fine

    pub held_leads : is_tomb y ≡ false → Leads s.memory (hash k) i c₀
    held_leads e = there.leads (ap is_tomb one_main ∙ e)

    pub word_shown : word (shown_mem s.memory) c₀ ≡ n
    word_shown = (shows_memory K).word_at s.memory c₀ n h.word

    pub main_shown : main_of (shown_mem s.memory) (word (shown_mem s.memory) c₀) ≡ shown_main y
    main_shown = ap (λ (x : ℕ). main_of (shown_mem s.memory) x) word_shown ∙ (shows_memory K).main_at_lem s.memory n y h.main

    -- The pairs that a main other than a tomb names are in use.
    pub names_used : is_tomb y ≡ false → (p : ℕ) → NamesPair y p → PairInUse same hash s p
    names_used e p b =
        pair_used same hash laws g p
        (UsedPair.reached (hash k) i c₀ (held_leads e) (subst (λ (x : Shape). HasPair x p) (sym main_shown) (names_shown y held_fine.formed p b)))
