-- A turn keeps what is reached and what is promised within the limits of the table.
use Rattle.std.proofs.Common.{◌≡◌, ℕ, suc, ◌+◌, ◌<◌, ◌≤◌, Bool, true, false, cond, ◌&&◌, ltb, leb, ◌⊎◌, List, length, set, Some, None, Option, sym, refl, ap, ◌∙◌, inl, inr, arith}
use Rattle.keys.specs.Laws.{KeyLaws}
use Rattle.std.specs.List.{slice_get}
use Rattle.std.proofs.lemmas.Bool.{and_cases, or_parts, ltb-false}
use Rattle.panel.specs.declared.Refusal.TheVariants.{NoSuchSeat, SeatIdle, CountersSpent, MemoryUnfit, TableFull}
use Rattle.machine.specs.Machine.{Seat as Place}
use Rattle.mains.specs.declared.Main.{Main}
use Rattle.rules.specs.Edits.{adds_pair, links_of, places}
use Rattle.rules.specs.Memory.{Memory, State, last_count}
use Rattle.rules.specs.Perform.{Out, Picks, Picked, Takes, promised_by, promised_cells, others, full, seated, worded, refused, quitted, going, enough, made_memory, chain_in, pending_for, performed, turned}
use Rattle.rules.specs.Reached.{cell_count, pair_count}
use Rattle.rules.specs.Seats.{seat_of, no_seat, idle_seat, is_idle, hoping, prepared, last_cell}
use Rattle.rules.specs.Theorem.{StampedCall, fed}
use Rattle.rules.specs.Turns.{refusing, keyed, planned}
use Rattle.rules.specs.declared.Edit.{Edit}
use Rattle.rules.specs.declared.Figures.{Figures}
use Rattle.rules.specs.declared.Outcome.{Outcome}
use Rattle.rules.specs.declared.Phase.{Phase}
use Rattle.rules.specs.declared.Phase.TheVariants.{Swap, Clean}
use Rattle.rules.specs.declared.Plan.{Plan}
use Rattle.rules.specs.declared.Plan.TheVariants.{Make}
use Rattle.rules.specs.declared.Seat.{Seat}
use Rattle.theory.proofs.CellCounts.{made_count, swap_count, clean_count}
use Rattle.theory.proofs.Entries.{Grown, busy_in}
use Rattle.theory.proofs.Ground.{Ground, Within}
use Rattle.theory.proofs.MapSizes.{no_longer, swap_longer}
use Rattle.theory.proofs.Promises.{cells_by, pairs_by, cells_set, pairs_set, promised_most, chain_length, no_chain}
use Rattle.theory.proofs.Sights.{Sees, Reads, Leaves, sees}
use Rattle.theory.specs.Fed.{entries_of}

module _ {K : Type 0} (same : K → K → Bool) (hash : K → ℕ) (laws : KeyLaws same hash) {f : Figures} {s : State K} {xs : List (Place K)} (calls : List (StampedCall K)) (g : Ground same hash f (entries_of calls) s xs) (w : Within same hash s) where
  module _ (t : ℕ) (picks : Picks) (more : List (StampedCall K)) where
    -- What a plan, with the words after the turn's read or swap, leaves is within the limits.
    abbrev Keeps : Plan → List ℕ → Type 0
    Keeps p words =
        Takes same hash s p picks → Grown s t calls (performed same hash s t words p picks).fixed more
        → pair_count same hash (performed same hash s t words p picks).state.memory ≡ length (fed same more)
        → Within same hash (performed same hash s t words p picks).state

  module _ (t : ℕ) (o : is_idle (seat_of s t).phase ≡ false) (picks : Picks) (more : List (StampedCall K)) where
    in_seats : t < length s.table.seats
    in_seats = busy_in s.table.seats t o

    -- What is reached and promised after a turn is weighed against what the seat promised before it.
    weighed : (z : Memory K) (y : Seat) (n : ℕ)
        → cell_count same hash z + cells_by y ≤ cell_count same hash s.memory + cells_by (seat_of s t)
        → pair_count same hash z + pairs_by y ≤ pair_count same hash s.memory + pairs_by (seat_of s t)
        → Within same hash (seated s z t y n)
    weighed z y n a b = grind (arith, cells_set, in_seats, pairs_set)

    -- A seat that promises nothing, in the memory as it was.
    quiet : (y : Seat) → cells_by y ≡ 0 → pairs_by y ≡ 0 → Within same hash (seated s s.memory t y (suc s.table.ticks))
    quiet y a b = weighed s.memory y (suc s.table.ticks) (omega (arith, a)) (omega (arith, b))

    module _ (k : K) (keyed_as : slice_get s.memory.keys t ≡ Some k) (edit : Edit) (phase : Phase) (n : ℕ) (r : Outcome) (picked : Picked same hash s edit picks) where
      -- The record that a preparation leaves.
      abbrev pending_seat : Seat
      pending_seat = prepared (hoping (seat_of s t) r) phase (pending_for edit n picks)

      -- A preparation promises what the table has been found to have room for, or nothing.
      made_within : enough edit picks ≡ true → (adds_pair edit && full same hash s t (links_of edit)) ≡ false → pair_count same hash (made_memory s t edit picks) ≡ pair_count same hash s.memory
          → Within same hash (seated s (made_memory s t edit picks) t pending_seat (suc s.table.ticks))
      made_within room not_full as_many = by (and_cases (adds_pair edit) (full same hash s t (links_of edit)) not_full)
        where
          count : cell_count same hash (made_memory s t edit picks) ≤ cell_count same hash s.memory
          count = made_count same hash laws g t k o keyed_as edit picks picked room

          cells_most : cells_by pending_seat ≤ length (places (chain_in edit picks))
          cells_most = promised_most phase (length (places (chain_in edit picks)))

          pairs_most : pairs_by pending_seat ≤ cond (adds_pair edit) 1 0
          pairs_most = promised_most phase (cond (adds_pair edit) 1 0)

          one_most : (b : Bool) → cond b 1 0 ≤ 1
          one_most b = grind arith

          by : (adds_pair edit ≡ false) ⊎ (full same hash s t (links_of edit) ≡ false) → Within same hash (seated s (made_memory s t edit picks) t pending_seat (suc s.table.ticks))
          by (inl a) =
              let c = no_chain edit picks a in
              let d = ap {B = ℕ} (λ b. cond b 1 0) a in
              weighed (made_memory s t edit picks) pending_seat (suc s.table.ticks) (omega (arith, count, cells_most, c)) (omega (arith, as_many, pairs_most, d))
          by (inr e) =
              let q = or_parts (ltb s.table.limits.cells (cell_count same hash s.memory + promised_cells (others s t) + links_of edit)) _ e in
              let u = ltb-false _ _ q.0 in
              let v = ltb-false _ _ q.1 in
              let c = cells_set s.table.seats t pending_seat in_seats in
              let d = cells_set s.table.seats t idle_seat in_seats in
              let c' = pairs_set s.table.seats t pending_seat in_seats in
              let d' = pairs_set s.table.seats t idle_seat in_seats in
              let l = chain_length edit picks in
              let few = picked.cells.few in
              let one = one_most (adds_pair edit) in
              record { cells = omega (arith, count, cells_most, u, c, d, l, few); pairs = omega (arith, as_many, pairs_most, v, c', d', one) }

    module _ (k : K) (keyed_as : slice_get s.memory.keys t ≡ Some k) (before : pair_count same hash s.memory ≡ length (fed same calls)) where
      -- What is prepared, refused for want of places, or given up for want of room.
      make_keeps : (edit : Edit) (phase : Phase) (n : ℕ) (r : Outcome) → Keeps t picks more (Make edit phase n r) s.memory.words
      make_keeps edit phase n r picked = by (enough edit picks) refl (adds_pair edit && full same hash s t (links_of edit)) refl
        where
          made : Bool → Bool → Out K
          made b c = cond b (cond c (quitted s t TableFull) (going s t (made_memory s t edit picks) (pending_seat k keyed_as edit phase n r picked) None)) (refused s t MemoryUnfit)

          by : (b : Bool) → enough edit picks ≡ b → (c : Bool) → (adds_pair edit && full same hash s t (links_of edit)) ≡ c
              → Grown s t calls (made b c).fixed more → pair_count same hash (made b c).state.memory ≡ length (fed same more) → Within same hash (made b c).state
          by false room c e grown after = w
          by true room true e grown after = quiet idle_seat refl refl
          by true room false e grown after = made_within k keyed_as edit phase n r picked room e (after ∙ (no_longer same s t calls more grown ∙ sym before))

      reads_keeps : (n : ℕ) (y : Main) (p : Plan) → Reads same hash s.memory (seat_of s t) k n y p → Keeps t picks more p s.memory.words
      reads_keeps n y p (Reads.missing z q b m) takes grown after = w
      reads_keeps n y p (Reads.grows z d b) takes grown after = quiet _ refl refl
      reads_keeps n y p (Reads.meets q) takes grown after = quiet _ refl refl
      reads_keeps n y p (Reads.drafts {edit = edit} {r = r} d) takes grown after = make_keeps edit Swap n r takes grown after
      reads_keeps n y p _ takes grown after = quiet idle_seat refl refl

      module _ (words : List ℕ) (l : cell_count same hash (worded s.memory words) ≤ cell_count same hash s.memory) where
        -- A turn that fixes nothing and brings no cell into reach, of a seat that promises nothing any more.
        unfixed : (y : Seat) → cells_by y ≡ 0 → pairs_by y ≡ 0 → Grown s t calls None more → pair_count same hash (worded s.memory words) ≡ length (fed same more)
            → Within same hash (seated s (worded s.memory words) t y (suc s.table.ticks))
        unfixed y a b grown after =
            let e = after ∙ (no_longer same s t calls more grown ∙ sym before) in
            weighed (worded s.memory words) y (suc s.table.ticks) (omega (arith, l, a)) (omega (arith, e, b))

        leaves_keeps : (p : Plan) → Leaves same hash (seat_of s t) p → Keeps t picks more p words
        leaves_keeps p (Leaves.closes u d) takes grown after = unfixed idle_seat refl refl grown after
        leaves_keeps p _ takes grown after = unfixed _ refl refl grown after

      -- A swap that says yes brings into reach what its seat has promised.
      swap_keeps : (seat_of s t).phase ≡ Swap → (c : ℕ) → last_cell (seat_of s t) ≡ Some c → slice_get s.memory.words c ≡ Some (seat_of s t).pending.expected
          → (y : Seat) → cells_by y ≡ 0 → pairs_by y ≡ 0 → (r : Outcome) → Grown s t calls (Some r) more
          → pair_count same hash (worded s.memory (set s.memory.words c (seat_of s t).pending.made)) ≡ length (fed same more)
          → Within same hash (seated s (worded s.memory (set s.memory.words c (seat_of s t).pending.made)) t y (suc s.table.ticks))
      swap_keeps e c l h y a b r grown after =
          let x = seat_of s t in
          let cells = swap_count same hash laws g t k o keyed_as c h e l in
          let pairs = swap_longer same hash laws calls g t o e c l h more r grown in
          let p = ap (λ (q : Phase). promised_by q x.pending.links) e in
          let q = ap (λ (q : Phase). promised_by q (cond x.pending.adds 1 0)) e in
          weighed (worded s.memory (set s.memory.words c x.pending.made)) y (suc s.table.ticks) (omega (arith, cells, a, p)) (omega (arith, pairs, before, after, b, q))

      sees_keeps : (p : Plan) (words : List ℕ) → Sees same hash s.memory (seat_of s t) k p words → Keeps t picks more p words
      sees_keeps p words (Sees.unfit u) takes grown after = w
      sees_keeps p words (Sees.reads e c n y l h u v) takes grown after = reads_keeps n y p v takes grown after
      sees_keeps p words (Sees.settles e c l h u d) takes grown after = swap_keeps e c l h _ refl refl _ grown after
      sees_keeps p words (Sees.finishes e c l h u) takes grown after = swap_keeps e c l h idle_seat refl refl _ grown after
      sees_keeps p words (Sees.climbs_close e c n y l h u d) takes grown after = quiet idle_seat refl refl
      sees_keeps p words (Sees.contracts e c n y l h u b) takes grown after = make_keeps _ Clean n _ takes grown after
      sees_keeps p words (Sees.parts e c n y l h u v) takes grown after = leaves_keeps s.memory.words (omega arith) p v takes grown after
      sees_keeps p words (Sees.cleans e c l h v) takes grown after =
          leaves_keeps (set s.memory.words c (seat_of s t).pending.made) (clean_count same hash laws g t k o keyed_as c h e l) p v takes grown after
      sees_keeps p words _ takes grown after = quiet _ refl refl

  pub within_turn : (t : ℕ) (picks : Picks) (more : List (StampedCall K)) → Takes same hash s (planned same hash s t).plan picks
      → Grown s t calls (turned same hash s t picks).fixed more
      → pair_count same hash s.memory ≡ length (fed same calls)
      → pair_count same hash (turned same hash s t picks).state.memory ≡ length (fed same more)
      → Within same hash (turned same hash s t picks).state
  within_turn t picks more takes grown before after = by (no_seat s t) (is_idle (seat_of s t).phase) refl (leb last_count s.table.ticks) takes grown after
    where
      keyed_keeps : is_idle (seat_of s t).phase ≡ false → (k : Option K) → slice_get s.memory.keys t ≡ k → (let p = keyed same hash k (seat_of s t) s.memory in Keeps t picks more p.plan p.words)
      keyed_keeps o None e = λ takes grown after. w
      keyed_keeps o (Some k) e = sees_keeps t o picks more k e before _ _ (sees same hash s.memory (seat_of s t) k o)

      by : (b c : Bool) → is_idle (seat_of s t).phase ≡ c → (d : Bool)
          → (let p = cond b (refusing s NoSuchSeat) (cond c (refusing s SeatIdle) (cond d (refusing s CountersSpent) (keyed same hash (slice_get s.memory.keys t) (seat_of s t) s.memory))) in Keeps t picks more p.plan p.words)
      by false false o false = keyed_keeps o (slice_get s.memory.keys t) refl
      by _ _ o _ = λ takes grown after. w
