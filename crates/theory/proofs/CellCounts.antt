-- How many cells are reached after a preparation and after a swap that said yes.
use Rattle.std.proofs.Common.{◌≡◌, ℕ, zero, suc, ◌+◌, ◌-◌, ◌≤◌, Bool, true, false, cond, eqb, ◌⊎◌, List, [], ◌∷◌, ◌++◌, length, set, Some, None, sym, refl, ap, ◌∙◌, subst, inl, inr, arith, length-append}
use mathlib.Core.List.Memᴰ
use mathlib.Core.List.{Memᴰ}
use mathlib.Core.Option.{Option as Maybe, none, some}
use Rattle.keys.specs.Laws.{KeyLaws}
use Rattle.keys.specs.Routes.{chunk_at}
use Rattle.std.specs.List.{slice_get}
use Rattle.std.proofs.lemmas.Bool.{ne_eqb}
use Rattle.std.proofs.lemmas.Option.{get_or_from_slice_get}
use Rattle.machine.proofs.Inv.{Pend, SeatOK, cells as cells_of}
use Rattle.machine.proofs.Keep.{walk_alike}
use Rattle.machine.proofs.Swing.{back}
use Rattle.machine.proofs.Turns.{ok_at}
use Rattle.machine.specs.Machine.{Entry, Seat as Place, word}
use Rattle.machine.specs.Tree.{nth as placed}
use Rattle.rules.proofs.Counting.{counted}
use Rattle.rules.proofs.Following.{followed}
use Rattle.rules.specs.Edits.{first, rest}
use Rattle.rules.specs.Memory.{Memory, State}
use Rattle.rules.specs.Perform.{Picks, Picked, enough, made_memory, worded}
use Rattle.rules.specs.Reached.{ReachedCell, cell_count}
use Rattle.rules.specs.Seats.{seat_of, is_idle, last_cell, parent_cell, new_cells}
use Rattle.rules.specs.declared.Edit.{Edit}
use Rattle.rules.specs.declared.Figures.{Figures}
use Rattle.rules.specs.declared.NewCell.{NewCell}
use Rattle.rules.specs.declared.Phase.{Phase}
use Rattle.rules.specs.declared.Phase.TheVariants.{Swap, Clean}
use Rattle.rules.specs.declared.Seat.{Seat}
use Rattle.theory.proofs.Ground.{Ground}
use Rattle.theory.proofs.Lengths.{within}
use Rattle.theory.proofs.Reaching.{shows_reach}
use Rattle.theory.proofs.Seating.{shown_state, shown_as, last_of, above, above_of, news}
use Rattle.theory.proofs.ShownMemory.{shows_memory}
use Rattle.theory.proofs.Taking.{taken_alike}
use Rattle.theory.proofs.Using.{leads_reached}
use Rattle.theory.specs.Reaching.{Leads}
use Rattle.theory.specs.Shown.{shown_mem}

module _ {K : Type 0} (same : K → K → Bool) (hash : K → ℕ) where
  -- What is reached is led to.
  reached_led : (m : Memory K) (c : ℕ) → ReachedCell same hash m c → (h i : ℕ) × Leads m h i c
  reached_led m c r =
      let p = (followed same hash m).prefixed r.index c r.at in
      (p.0, r.index, (shows_reach same hash m).leads p.0 r.index c ((followed same hash m).leads r.index p.0 c p.1).1)

  -- If each cell that is led to in the memory z is reached in m or one of some others, no more cells are reached in z than in m and those others.
  no_more : (m z : Memory K) (new : List ℕ) → ((h i c : ℕ) → Leads z h i c → ReachedCell same hash m c ⊎ Memᴰ c new) → cell_count same hash z ≤ cell_count same hash m + length new
  no_more m z new f =
      let a = (counted same hash m).cells in
      let b = (counted same hash z).cells in
      let l = within b.them (a.them ++ new) b.once (λ c i. let r = reached_led z c (b.only c i) in among a.them a.all c (f r.0 r.1 c r.2)) in
      let e = length-append a.them new in
      let p = a.many in
      let q = b.many in
      omega (arith, l, e, p, q)
    where
      among : (them : List ℕ) → ((c : ℕ) → ReachedCell same hash m c → Memᴰ c them) → (c : ℕ) → ReachedCell same hash m c ⊎ Memᴰ c new → Memᴰ c (them ++ new)
      among them all c (inl r) = Memᴰ.append_left new (all c r)
      among them all c (inr i) = Memᴰ.append_right them i

-- What is at a place is a member.
place_in : (xs : List ℕ) (t d : ℕ) → placed xs t ≡ some d → Memᴰ d xs
place_in [] t d e = let z : ◌≡◌ {A = ℕ} 0 1 = cc in absurd (omega arith)
place_in (x ∷ xs) zero d e = Memᴰ.head cc
place_in (x ∷ xs) (suc t) d e = Memᴰ.tail (place_in xs t d e)

-- The cell before the last is the first of those above it.
parent_is : (cells : List ℕ) (depth c : ℕ) → cond (eqb depth 0) None (slice_get cells (depth - 1)) ≡ Some c → first (above cells depth) ≡ c
parent_is cells depth c e = grind (arith, ne_eqb, get_or_from_slice_get)

-- New cells are as many as their numbers.
news_length : (ks : List NewCell) → length (cells_of (news ks)) ≡ length ks
news_length [] = refl
news_length (k ∷ ks) = ap suc (news_length ks)

module _ {K : Type 0} (same : K → K → Bool) (hash : K → ℕ) (laws : KeyLaws same hash) {f : Figures} {es : List (Entry K)} {s : State K} {xs : List (Place K)} (g : Ground same hash f es s xs) where
  reached_cell : (h i c : ℕ) → Leads s.memory h i c → ReachedCell same hash s.memory c
  reached_cell h i c l = record { index = i; at = leads_reached same hash laws g h i c l }

  -- A preparation brings no cell into reach.
  pub made_count : (t : ℕ) (k : K) → is_idle (seat_of s t).phase ≡ false → slice_get s.memory.keys t ≡ Some k → (edit : Edit) (picks : Picks) → Picked same hash s edit picks → enough edit picks ≡ true
      → cell_count same hash (made_memory s t edit picks) ≤ cell_count same hash s.memory
  made_count t k o keyed edit picks p room =
      let al = taken_alike same hash laws g t k o keyed edit picks p room in
      let l = no_more same hash s.memory (made_memory s t edit picks) []
      (λ h i c w. inl (reached_cell h i c (sym (walk_alike same hash chunk_at (shown_state s xs) (shown_mem (made_memory s t edit picks)) al h i) ∙ w))) in
      omega (arith, l)

  -- A swap that says yes brings at most its new cells into reach.
  swung_count : (R : K → Maybe (K × ℕ) → Maybe (K × ℕ) → Type 0) (k : K) (c : ℕ) (cs : List ℕ) (e n : ℕ) (mp td : Maybe ℕ) (new : List (ℕ × ℕ))
      → Pend same hash chunk_at R (shown_mem s.memory) k c cs e n mp td new → (d : ℕ) → c ≡ d → slice_get s.memory.words d ≡ Some e
      → cell_count same hash (worded s.memory (set s.memory.words d n)) ≤ cell_count same hash s.memory + length (cells_of new)
  swung_count R k c cs e n mp td new pend d here h =
      subst (λ (a : ℕ). cell_count same hash (worded s.memory (set s.memory.words a n)) ≤ cell_count same hash s.memory + length (cells_of new)) here
      (no_more same hash s.memory (worded s.memory (set s.memory.words c n)) (cells_of new)
      (λ g₀ i a w. by g₀ i a (back same hash chunk_at (shown_mem s.memory) g.inv.shape R k c cs e n mp td new pend holds g₀ i a w)))
    where
      holds : word (shown_mem s.memory) c ≡ e
      holds = ap (word (shown_mem s.memory)) here ∙ (shows_memory K).word_at s.memory d e h

      by : (g₀ i a : ℕ) → Leads s.memory g₀ i a ⊎ ((t : ℕ) × (placed (cells_of new) t ≡ some a) × (i ≤ 7)) → ReachedCell same hash s.memory a ⊎ Memᴰ a (cells_of new)
      by g₀ i a (inl w) = inl (reached_cell g₀ i a w)
      by g₀ i a (inr w) = inr (place_in (cells_of new) w.0 a w.1)

  module _ (t : ℕ) (k : K) (o : is_idle (seat_of s t).phase ≡ false) (keyed : slice_get s.memory.keys t ≡ Some k) where
    abbrev x : Seat
    x = seat_of s t

    -- What the machine's seat rests on, in the phase of the record.
    rests : (phase : Phase) → x.phase ≡ phase → SeatOK same hash chunk_at (shown_mem s.memory) (shown_as phase x k)
    rests phase e = ok_at same hash chunk_at g.inv.seats t (shown_as phase x k) (g.shows.calls t k o keyed ∙ ap (λ (q : Phase). shown_as q x k) e)

    module _ (c : ℕ) (h : slice_get s.memory.words c ≡ Some x.pending.expected) where
      -- SWAP says yes: the new cells are those that the seat has promised.
      pub swap_count : x.phase ≡ Swap → last_cell x ≡ Some c
          → cell_count same hash (worded s.memory (set s.memory.words c x.pending.made)) ≤ cell_count same hash s.memory + x.pending.links
      swap_count e l =
          let a = swung_count _ _ (last_of x) (above_of x) x.pending.expected x.pending.made _ none (news (new_cells x)) (rests Swap e) c (get_or_from_slice_get x.path.cells x.path.depth c 0 l) h in
          let m = news_length (new_cells x) in
          let n = (g.poised t o).links e in
          omega (arith, a, m, n)

      -- CLEAN says yes: there are no new cells.
      pub clean_count : x.phase ≡ Clean → parent_cell x ≡ Some c
          → cell_count same hash (worded s.memory (set s.memory.words c x.pending.made)) ≤ cell_count same hash s.memory
      clean_count e l =
          let a = swung_count _ _ (first (above_of x)) (rest (above_of x)) x.pending.expected x.pending.made none (some (last_of x)) [] (rests Clean e).1 c (parent_is x.path.cells x.path.depth c l) h in
          omega (arith, a)
