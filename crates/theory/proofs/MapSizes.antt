-- How long the plain map is after a turn.
use Rattle.std.proofs.Common.{◌≡◌, ℕ, suc, ◌+◌, ◌<◌, ◌≤◌, Bool, true, false, cond, List, [], ◌∷◌, length, Some, None, sym, refl, ap, ◌∙◌, arith}
use mathlib.Core.List.{Memᴰ}
use Rattle.keys.specs.Laws.{KeyLaws}
use Rattle.keys.specs.Routes.{chunk_at}
use Rattle.std.specs.List.{slice_get}
use Rattle.std.proofs.lemmas.Bool.{both_ways}
use Rattle.std.proofs.lemmas.Option.{get_or_from_slice_get}
use Rattle.machine.proofs.Laws.{laws_of}
use Rattle.machine.proofs.Present.{present}
use Rattle.machine.specs.Machine.{Seat as Place, Op, swap, word}
use Rattle.rules.specs.Memory.{State}
use Rattle.rules.specs.PlainMap.{without, map_after}
use Rattle.rules.specs.Seats.{seat_of, is_idle, last_cell, new_cells}
use Rattle.rules.specs.Theorem.{StampedCall, fed}
use Rattle.rules.specs.declared.Ask.{Ask}
use Rattle.rules.specs.declared.Ask.TheVariants.{Put}
use Rattle.rules.specs.declared.Figures.{Figures}
use Rattle.rules.specs.declared.Outcome.{Outcome}
use Rattle.rules.specs.declared.Pair.{Pair}
use Rattle.rules.specs.declared.Phase.{Phase}
use Rattle.rules.specs.declared.Phase.TheVariants.{Swap}
use Rattle.rules.specs.declared.Seat.{Seat}
use Rattle.theory.proofs.Entries.{Grown}
use Rattle.theory.proofs.Feeding.{feeds_pair}
use Rattle.theory.proofs.Ground.{Ground}
use Rattle.theory.proofs.Seating.{shown_state, shown_as, swapping, made_pair, last_of, above_of, news}
use Rattle.theory.proofs.ShownMemory.{shows_memory}
use Rattle.theory.specs.Fed.{entries_of}
use Rattle.theory.specs.Shown.{shown_mem}

module _ {K : Type 0} (same : K → K → Bool) (k : K) where
  without_length : (ys : List (Pair K)) → length (without same k ys) ≤ length ys
  unfolding without
  without_length [] = omega arith
  without_length (y ∷ ys) = by (same y.key k) (without_length ys)
    where
      by : (b : Bool) → length (without same k ys) ≤ length ys → length (cond b (without same k ys) (y ∷ without same k ys)) ≤ suc (length ys)
      by b l = grind arith

  -- A map that has the key is shorter without it.
  without_shorter : (y : Pair K) (ys : List (Pair K)) → Memᴰ y ys → same y.key k ≡ true → length (without same k ys) < length ys
  unfolding without
  without_shorter y [] m e = elim m [ ]
  without_shorter y (z ∷ ys) m e = by (same z.key k) refl m (λ i. without_shorter y ys i e)
    where
      by : (b : Bool) → same z.key k ≡ b → Memᴰ y (z ∷ ys) → (Memᴰ y ys → length (without same k ys) < length ys) → length (cond b (without same k ys) (z ∷ without same k ys)) < suc (length ys)
      by true q m later = let l = without_length ys in omega (arith, l)
      by false q (Memᴰ.head i) later = absurd (both_ways (same z.key k) q (ap (λ x. same x.key k) (sym i) ∙ e))
      by false q (Memᴰ.tail i) later = let l = later i in omega (arith, l)

  -- A call makes the map longer by one pair at most, and only a put that adds does: one that does not has its key there.
  map_length : (ask : Ask) (adds : Bool) (ys : List (Pair K)) → ((v : ℕ) → ask ≡ Put v → adds ≡ false → (y : Pair K) × Memᴰ y ys × (same y.key k ≡ true))
      → length (map_after same ask k ys) ≤ length ys + cond adds 1 0
  map_length ask adds ys f = grind (arith, without_length, without_shorter)

module _ {K : Type 0} (same : K → K → Bool) (s : State K) (t : ℕ) (calls : List (StampedCall K)) where
  -- The map after a turn that fixed nothing, and after one that fixed a result.
  pub no_longer : (more : List (StampedCall K)) → Grown s t calls None more → length (fed same more) ≡ length (fed same calls)
  no_longer more Grown.as_was = refl

  one_longer : (more : List (StampedCall K)) (r : Outcome) → Grown s t calls (Some r) more
      → (k : K) × (slice_get s.memory.keys t ≡ Some k) × (length (fed same more) ≡ length (map_after same (seat_of s t).ask k (fed same calls)))
  unfolding fed
  one_longer more r (Grown.longer k at r' e) = (k, e, refl)

module _ {K : Type 0} (same : K → K → Bool) (hash : K → ℕ) (laws : KeyLaws same hash) {f : Figures} {s : State K} {xs : List (Place K)} (calls : List (StampedCall K)) (g : Ground same hash f (entries_of calls) s xs)
    (t : ℕ) (o : is_idle (seat_of s t).phase ≡ false) (swaps : (seat_of s t).phase ≡ Swap) (c : ℕ) (last : last_cell (seat_of s t) ≡ Some c) (holds : slice_get s.memory.words c ≡ Some (seat_of s t).pending.expected) where
  abbrev x : Seat
  x = seat_of s t

  -- A put whose swap says yes and that adds no pair has its key in the map.
  present_pair : (k : K) → slice_get s.memory.keys t ≡ Some k → (v : ℕ) → x.ask ≡ Put v → x.pending.adds ≡ false → (y : Pair K) × Memᴰ y (fed same calls) × (same y.key k ≡ true)
  present_pair k keyed v a b =
      let shown =
      g.shows.calls t k o keyed
      ∙ (ap (λ (q : Phase). shown_as q x k) swaps
      ∙ ap (λ (p : Op K). swap p (last_of x) (above_of x) x.pending.expected x.pending.made (made_pair x.ask x.pending.pair) (news (new_cells x)))
      (ap (λ (q : Ask). swapping q x.pending.adds x.verdict.outcome k) a ∙ ap (λ (q : Bool). swapping (Put v) q x.verdict.outcome k) b)) in
      let here = ap (word (shown_mem s.memory)) (get_or_from_slice_get x.path.cells x.path.depth c 0 last) ∙ (shows_memory K).word_at s.memory c x.pending.expected holds in
      let found = present same hash chunk_at (laws_of same hash laws) (entries_of calls) (shown_state s xs) t k v (last_of x) (above_of x) x.pending.expected x.pending.made _ _ g.inv g.lawful shown here in
      let told = (feeds_pair same hash laws).said_pairs calls k found.0 (g.inv.log.held k ∙ found.1) in
      (told.pair, told.inside, told.equal)

  -- A swap that says yes makes the map longer by what its seat has promised, at most.
  pub swap_longer : (more : List (StampedCall K)) (r : Outcome) → Grown s t calls (Some r) more → length (fed same more) ≤ length (fed same calls) + cond x.pending.adds 1 0
  swap_longer more r grown =
      let call = one_longer same s t calls more r grown in
      let e = call.2 in
      let l = map_length same call.0 x.ask x.pending.adds (fed same calls) (present_pair call.0 call.1) in
      omega (arith, e, l)
