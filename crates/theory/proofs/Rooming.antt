-- Places never run out, so no turn is refused for its memory.
use Rattle.std.proofs.Common.{◌≡◌, ℕ, suc, ◌+◌, ◌*◌, ◌<◌, ◌≤◌, Bool, true, false, cond, leb, ◌⊎◌, List, [], ◌∷◌, map, length, get_or, Some, Err, Option, sym, refl, ap, ◌∙◌, subst, inl, inr, arith}
use mathlib.Core.List.Memᴰ
use mathlib.Core.List.{Memᴰ}
use lib.ListN.{length-map}
use Rattle.keys.specs.Laws.{KeyLaws}
use Rattle.std.specs.List.{slice_get}
use Rattle.std.proofs.lemmas.Option.{get_or_from_slice_get}
use Rattle.panel.specs.declared.Refusal.TheVariants.{NoSuchSeat, SeatIdle, CountersSpent, MemoryUnfit}
use Rattle.machine.specs.Machine.{Entry, Seat as Place}
use Rattle.mains.specs.declared.Main.{Main}
use Rattle.rules.specs.Edits.{links_of, makes_pair}
use Rattle.rules.specs.InUse.{is_pending, CellInUse, MainInUse, PairInUse}
use Rattle.rules.specs.Memory.{Memory, State, last_count}
use Rattle.rules.specs.Perform.{Out, Turns, pairs_for}
use Rattle.rules.specs.Reached.{Reached, ReachedCell, ReachedPair, HowMany, cell_count, pair_count}
use Rattle.rules.specs.Seats.{seat_of, no_seat, is_idle, last_cell, path_cells, new_cells}
use Rattle.rules.specs.Sound.{sound}
use Rattle.rules.specs.Turns.{refusing, keyed, planned}
use Rattle.rules.specs.declared.Edit.{Edit}
use Rattle.rules.specs.declared.Figures.{Figures}
use Rattle.rules.specs.declared.Limits.{Limits}
use Rattle.rules.specs.declared.NewCell.{NewCell}
use Rattle.rules.specs.declared.Phase.{Phase}
use Rattle.rules.specs.declared.Phase.TheVariants.{Read, Swap}
use Rattle.rules.specs.declared.Plan.{Plan}
use Rattle.rules.specs.declared.Seat.{Seat}
use Rattle.rules.proofs.Counting.{counted}
use Rattle.theory.proofs.Claims.{seats_leave, first_or_rest, in_swap, below_root, cells_by, mains_by, pairs_by, plain_cells, plain_mains, plain_pairs, pairs_length, seat_cells, seat_mains}
use Rattle.theory.proofs.Fitting.{draft_links, fits, pair_there, Allowed, allowed}
use Rattle.theory.proofs.Ground.{Ground, Within}
use Rattle.theory.proofs.Sights.{Holds, Reads, Leaves, Sees, sees, looked_at}
use Rattle.theory.proofs.Using.{key_of}
use Rattle.theory.specs.Places.{Room}
use Rattle.theory.specs.Records.{Steady}

-- The figures' own limits, and the memory that they need.
record Sized {K : Type 0} (f : Figures) (m : Memory K) : Type 0 where
  some_cells : 1 ≤ f.cells
  few_cells : f.cells ≤ 4096
  few_pairs : f.pairs ≤ 16384
  few_seats : f.seats ≤ 8
  words : f.cells + 7 * f.seats ≤ length m.words
  mains : f.cells + 9 * f.seats ≤ length m.mains
  pairs : f.pairs + f.seats ≤ length m.pairs

sized : {K : Type 0} {f : Figures} {s : State K} → Steady f s → Sized f s.memory
sized w = grind arith

module _ {K : Type 0} (same : K → K → Bool) (hash : K → ℕ) (laws : KeyLaws same hash) {f : Figures} {es : List (Entry K)} {s : State K} {xs : List (Place K)} (g : Ground same hash f es s xs) (w : Within same hash s) where
  -- THE PLACES IN USE

  -- The cells, and the pairs, that are reached.
  abbrev cells : HowMany (ReachedCell same hash s.memory) (cell_count same hash s.memory)
  cells = (counted same hash s.memory).cells

  abbrev pairs : HowMany (ReachedPair same hash s.memory) (pair_count same hash s.memory)
  pairs = (counted same hash s.memory).pairs

  few_cells : length cells.them ≤ f.cells
  few_cells = omega (arith, w.cells, cells.many, ap (λ (q : Limits). q.cells) g.steady.limits)

  few_pairs : length pairs.them ≤ f.pairs
  few_pairs = omega (arith, w.pairs, pairs.many, ap (λ (q : Limits). q.pairs) g.steady.limits)

  -- The root is reached, for the memory has a cell at least.
  root_reached : Memᴰ 0 cells.them
  root_reached =
      cells.all 0 (record { index = 0; at = Reached.root (let a = sized g.steady in let b = a.some_cells in let c = a.words in omega (arith, b, c)) })

  -- Only seats of the table have calls.
  seated : (t : ℕ) → is_idle (seat_of s t).phase ≡ false → t < f.seats
  seated t o = (g.steady.calls t o).0

  -- A cell of a path is the root or below it.
  on_path : (t c : ℕ) → is_idle (seat_of s t).phase ≡ false → Memᴰ c (path_cells (seat_of s t)) → (c ≡ 0) ⊎ Memᴰ c (below_root (seat_of s t))
  on_path t c o m = first_or_rest c 0 _ (seat_of s t).path.cells (g.steady.calls t o).1.root m

  in_swap_lem : {A : Type 0} (t : ℕ) (a : A) (ys : List A) → (seat_of s t).phase ≡ Swap → Memᴰ a ys → Memᴰ a (in_swap (seat_of s t).phase ys)
  in_swap_lem t a ys e m = subst (λ (p : Phase). Memᴰ a (in_swap p ys)) (sym e) m

  -- A place is among the reached ones, or a seat of the table claims it.
  abbrev Somewhere : ℕ → List ℕ → (Seat → List ℕ) → Type 0
  Somewhere c reached claims = Memᴰ c reached ⊎ ((t : ℕ) × (t < f.seats) × Memᴰ c (claims (seat_of s t)))

  -- Every cell, main and pair in use is in one of these.
  cell_somewhere : (c : ℕ) → CellInUse same hash s c → Somewhere c cells.them cells_by
  cell_somewhere c (CellInUse.reached r) = inl (cells.all c r)
  cell_somewhere c (CellInUse.on_path t o m) = by (on_path t c o m)
    where
      by : (c ≡ 0) ⊎ Memᴰ c (below_root (seat_of s t)) → Somewhere c cells.them cells_by
      by (inl e) = inl (subst (λ d. Memᴰ d cells.them) (sym e) root_reached)
      by (inr k) = inr (t, seated t o, Memᴰ.append_left _ k)
  cell_somewhere c (CellInUse.made t e k m i) =
      inr (t, seated t (ap is_idle e), Memᴰ.append_right (below_root (seat_of s t)) (Memᴰ.cast (sym i) (Memᴰ.map (λ (k : NewCell). k.cell) (in_swap_lem t k _ e m))))

  -- What the reached cells hold.
  abbrev held : List ℕ
  held = map (λ c. get_or s.memory.words c 0) cells.them

  in_held : (c n : ℕ) → Memᴰ c cells.them → slice_get s.memory.words c ≡ Some n → Memᴰ n held
  in_held c n m e = Memᴰ.cast (sym (get_or_from_slice_get s.memory.words c n 0 e)) (Memᴰ.map (λ d. get_or s.memory.words d 0) m)

  -- A pending swap claims its two mains.
  main_pending : (t n : ℕ) → is_pending (seat_of s t).phase ≡ true → Memᴰ n ((seat_of s t).pending.expected ∷ (seat_of s t).pending.made ∷ []) → Somewhere n held (mains_by s.memory.words)
  main_pending t n e m =
      let own = subst (λ (b : Bool). Memᴰ n (cond b ((seat_of s t).pending.expected ∷ (seat_of s t).pending.made ∷ []) [])) (sym e) m in
      let later = Memᴰ.append_right (map (λ (k : NewCell). k.main) (in_swap (seat_of s t).phase (new_cells (seat_of s t)))) own in
      inr (t, seated t (grind arith), Memᴰ.append_right (map (λ c. get_or s.memory.words c 0) (below_root (seat_of s t))) later)

  main_somewhere : (n : ℕ) → MainInUse same hash s n → Somewhere n held (mains_by s.memory.words)
  main_somewhere n (MainInUse.reached r) = inl (in_held r.cell n (cells.all r.cell (record { index = r.index; at = r.at })) r.holds)
  main_somewhere n (MainInUse.expected t e i) = main_pending t n e (Memᴰ.head (sym i))
  main_somewhere n (MainInUse.made t e i) = main_pending t n e (Memᴰ.tail (Memᴰ.head (sym i)))
  main_somewhere n (MainInUse.held t e k m i) =
      inr (t, seated t (ap is_idle e), Memᴰ.append_right (map (λ c. get_or s.memory.words c 0) (below_root (seat_of s t))) (Memᴰ.append_left _ (Memᴰ.cast (sym i) (Memᴰ.map (λ (k : NewCell). k.main) (in_swap_lem t k _ e m)))))
  main_somewhere n (MainInUse.entombing t c o m h x a b) = by (on_path t c o m)
    where
      by : (c ≡ 0) ⊎ Memᴰ c (below_root (seat_of s t)) → Somewhere n held (mains_by s.memory.words)
      by (inl e) = inl (in_held 0 n root_reached (subst (λ d. slice_get s.memory.words d ≡ Some n) e h))
      by (inr k) = inr (t, seated t o, Memᴰ.append_left _ (Memᴰ.cast (sym (get_or_from_slice_get s.memory.words c n 0 h)) (Memᴰ.map (λ d. get_or s.memory.words d 0) k)))

  pair_somewhere : (p : ℕ) → PairInUse same hash s p → Somewhere p pairs.them pairs_by
  pair_somewhere p (PairInUse.reached r) = inl (pairs.all p r)
  pair_somewhere p (PairInUse.made t e a i) = inr (t, seated t (ap is_idle e), in_swap_lem t p _ e (Memᴰ.head (sym i)))

  -- A seat that prepares finds its places.
  pub room_for : (t : ℕ) (edit : Edit) → is_idle (seat_of s t).phase ≡ false → is_pending (seat_of s t).phase ≡ false → (seat_of s t).path.depth + links_of edit ≤ 7 → Room same hash s edit
  room_for t edit o p l =
      record {
        cells =
            seats_leave same hash s.memory (λ q. cells_by (seat_of s q)) 7 (seat_cells g.steady g.poised) (CellInUse same hash s) _ (links_of edit) cells.them f.seats t (seated t o)
            (let a = plain_cells (seat_of s t) p in omega (arith, a, l))
            (let a = few_cells in let b = (sized g.steady).words in omega (arith, a, b))
            cell_somewhere;
        mains =
            seats_leave same hash s.memory (λ q. mains_by s.memory.words (seat_of s q)) 9 (seat_mains g.steady g.poised s.memory.words) (MainInUse same hash s) _ (suc (links_of edit)) held f.seats t (seated t o)
            (let a = plain_mains s.memory.words (seat_of s t) p in omega (arith, a, l))
            (let a = few_cells in let b = length-map cells.them (λ c. get_or s.memory.words c 0) in let c = sized g.steady in let d = c.mains in let e = c.few_cells in let h = c.few_seats in omega (arith, a, b, d, e, h))
            main_somewhere;
        pairs =
            seats_leave same hash s.memory (λ q. pairs_by (seat_of s q)) 1 (λ q. pairs_length (seat_of s q)) (PairInUse same hash s) _ (pairs_for edit) pairs.them f.seats t (seated t o)
            (let a = plain_pairs (seat_of s t) p in let b = one (makes_pair edit) in omega (arith, a, b))
            (let a = few_pairs in let z = sized g.steady in let b = z.pairs in let c = z.few_pairs in let d = z.few_seats in omega (arith, a, b, c, d))
            pair_somewhere;
      }
    where
      one : (b : Bool) → cond b 1 0 ≤ 1
      one b = grind arith

  -- NO REFUSAL FOR THE MEMORY

  module _ (t : ℕ) (k : K) (o : is_idle (seat_of s t).phase ≡ false) (key : slice_get s.memory.keys t ≡ Some k) where
    -- A read finds the pair that it needs, or places for what it drafts.
    read_allowed : (seat_of s t).phase ≡ Read → (c n : ℕ) (y : Main) → last_cell (seat_of s t) ≡ Some c → Holds same hash s.memory c n y → sound same hash s.memory.pairs (seat_of s t).path.depth y ≡ true → (p : Plan) → Reads same hash s.memory (seat_of s t) k n y p → Allowed same hash s p
    read_allowed e c n y l h q p (Reads.missing z i b v) =
        absurd (pair_there same hash laws g t k o key c n z _ i (subst (λ (phase : Phase). looked_at phase (seat_of s t) ≡ Some c) (sym e) l) h b v)
    read_allowed e c n y l h q p (Reads.full z u) = λ r. let z : ◌≡◌ {A = ℕ} 0 1 = cc in omega arith
    read_allowed e c n y l h q p (Reads.drafts {edit = edit} {r = r} d) =
        room_for t edit o (ap is_pending e) (draft_links same hash laws s.memory k (seat_of s t).path.depth (seat_of s t).ask y edit r d q (g.steady.calls t o).1.short)
    read_allowed e c n y l h q p _ = tt

    leave_allowed : (p : Plan) → Leaves same hash (seat_of s t) p → Allowed same hash s p
    leave_allowed p (Leaves.closes u l) = tt
    leave_allowed p _ = tt

    sees_allowed : (p : Plan) (words : List ℕ) → Sees same hash s.memory (seat_of s t) k p words → Allowed same hash s p
    sees_allowed p words (Sees.unfit u) = absurd (fits same hash laws g t k o key u)
    sees_allowed p words (Sees.reads e c n y l h q r) = read_allowed e c n y l h q p r
    sees_allowed p words (Sees.contracts e c n y l h q b) = room_for t _ o (ap is_pending e) (let a = (g.steady.calls t o).1.short in omega (arith, a))
    sees_allowed p words (Sees.parts e c n y l h u r) = leave_allowed p r
    sees_allowed p words (Sees.cleans e c l h r) = leave_allowed p r
    sees_allowed p words _ = tt

  -- Before anything is seen, only other refusals come.
  plan_allowed : (t : ℕ) → Allowed same hash s (planned same hash s t).plan
  plan_allowed t = by (no_seat s t) (is_idle (seat_of s t).phase) refl (leb last_count s.table.ticks)
    where
      with_key_lem : is_idle (seat_of s t).phase ≡ false → Allowed same hash s (keyed same hash (slice_get s.memory.keys t) (seat_of s t) s.memory).plan
      with_key_lem o =
          let key = key_of same hash laws g t o in
          subst (λ (i : Option K). Allowed same hash s (keyed same hash i (seat_of s t) s.memory).plan) (sym key.1)
          (sees_allowed t key.0 o key.1 _ _ (sees same hash s.memory (seat_of s t) key.0 o))

      by : (b c : Bool) → is_idle (seat_of s t).phase ≡ c → (d : Bool)
          → Allowed same hash s (cond b (refusing s NoSuchSeat) (cond c (refusing s SeatIdle) (cond d (refusing s CountersSpent) (keyed same hash (slice_get s.memory.keys t) (seat_of s t) s.memory)))).plan
      by false false o false = with_key_lem o
      by _ _ o _ = λ r. let z : ◌≡◌ {A = ℕ} 0 1 = cc in omega arith

  -- No turn is refused for its memory.
  pub never_unfit : (t : ℕ) (out : Out K) → Turns same hash s t out → out.answer ≡ Err MemoryUnfit → ⊥
  never_unfit t out (picks, k, q) e =
      allowed same hash s t (planned same hash s t).words (planned same hash s t).plan picks k (plan_allowed t) (ap (λ (z : Out K). z.answer) (sym q) ∙ e)
