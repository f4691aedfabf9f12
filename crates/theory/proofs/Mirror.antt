-- Every call on a table is a step of the machine on the state shown, with the calls that are stamped as its log.
use Rattle.std.proofs.Common.{◌≡◌, ℕ, ◌-◌, ◌≤◌, Bool, true, false, cond, ◌&&◌, eqb, leb, List, ◌∷◌, get_or, set, Some, None, Option, sym, refl, ap, ◌∙◌, subst, arith}
use Rattle.keys.specs.Laws.{KeyLaws}
use Rattle.keys.specs.Routes.{chunk_at}
use Rattle.std.specs.List.{slice_get}
use Rattle.std.proofs.lemmas.Bool.{and_parts, eqb-true, false≢true}
use Rattle.std.proofs.lemmas.Option.{same_Some, get_or_from_slice_get}
use Rattle.panel.specs.declared.Refusal.TheVariants.{NoSuchSeat, SeatIdle, CountersSpent, MemoryUnfit, TableFull}
use Rattle.machine.specs.Machine.{Entry, Seat as Place}
use Rattle.mains.specs.Nodes.{replaced}
use Rattle.mains.specs.declared.Branch.TheVariants.{Pair as pair}
use Rattle.mains.specs.declared.Main.{Main}
use Rattle.mains.specs.declared.Main.TheVariants.{Node as node}
use Rattle.rules.specs.Edits.{adds_pair, links_of, kept_node}
use Rattle.rules.specs.Memory.{State, last_count}
use Rattle.rules.specs.Perform.{Picks, Picked, Takes, enough, full, made_memory, pending_for, performed, turned, quitted, going, refused, worded}
use Rattle.rules.specs.Seats.{seat_of, no_seat, is_idle, is_settled, last_cell, parent_cell, hoping, prepared}
use Rattle.rules.specs.Sound.{sound}
use Rattle.rules.specs.Theorem.{StampedCall}
use Rattle.rules.specs.Turns.{refusing, keyed, planned}
use Rattle.rules.specs.declared.Edit.{Edit}
use Rattle.rules.specs.declared.Edit.TheVariants.{Fixed}
use Rattle.rules.specs.declared.Figures.{Figures}
use Rattle.rules.specs.declared.Outcome.{Outcome}
use Rattle.rules.specs.declared.Outcome.TheVariants.{Found, Absent}
use Rattle.rules.specs.declared.Phase.{Phase}
use Rattle.rules.specs.declared.Phase.TheVariants.{Read, Swap, Climb, Clean}
use Rattle.rules.specs.declared.Plan.{Plan}
use Rattle.rules.specs.declared.Plan.TheVariants.{Make}
use Rattle.rules.specs.declared.Seat.{Seat}
use Rattle.theory.proofs.Entries.{Grown}
use Rattle.theory.proofs.Ground.{Ground}
use Rattle.theory.proofs.Preparing.{node_low}
use Rattle.theory.proofs.Seating.{last_of}
use Rattle.theory.proofs.Sights.{Holds, Reads, Leaves, Sees, sees}
use Rattle.theory.proofs.Stepping.{quits, lacks, finds, grows, entombs, loses, settles, finishes, climbs_out, climbs_on, parted, cleaned, leaves_out, leaves_on, leaves_back, misses, gives_up_lem, Left, in_seats, in_shown, first_above}
use Rattle.theory.proofs.Taking.{drafts_turn, cleans_turn}
use Rattle.theory.proofs.Turning.{Moved, stays, going_on, fixed_as}
use Rattle.theory.specs.Records.{Phased, is_up}

-- A cell that the path has is read off it.
last_is : (x : Seat) (c : ℕ) → last_cell x ≡ Some c → c ≡ last_of x
last_is x c e = sym (get_or_from_slice_get x.path.cells x.path.depth c 0 e)

module _ {K : Type 0} (same : K → K → Bool) (hash : K → ℕ) (laws : KeyLaws same hash) {f : Figures} {es : List (Entry K)} {s : State K} {xs : List (Place K)} (g : Ground same hash f es s xs) (calls : List (StampedCall K)) (t : ℕ) (picks : Picks) where
  abbrev x : Seat
  x = seat_of s t

  -- What a turn with this plan and these words leads to, whatever it fixes.
  abbrev Leads : Plan → List ℕ → Type 0
  Leads p words = (more : List (StampedCall K)) → Grown s t calls (performed same hash s t words p picks).fixed more → Moved same hash s (performed same hash s t words p picks).state xs calls more

  -- Where nothing is fixed, the calls stay.
  unfixed : {z : State K} → Moved same hash s z xs calls calls → (more : List (StampedCall K)) → Grown s t calls None more → Moved same hash s z xs calls more
  unfixed w more Grown.as_was = w

  module _ (k : K) (o : is_idle x.phase ≡ false) (key : slice_get s.memory.keys t ≡ Some k) where
    -- Where a result is fixed, the call with it is one more.
    fixed : {z : State K} (r : Outcome) → ((at : ℕ) → Moved same hash s z xs calls (fixed_as s t k at r ∷ calls)) → (more : List (StampedCall K)) → Grown s t calls (Some r) more → Moved same hash s z xs calls more
    fixed {z} r w more (Grown.longer l at v e) =
        subst (λ (j : K). Moved same hash s z xs calls (fixed_as s t j at r ∷ calls)) (same_Some k l (sym key ∙ e)) (w at)

    phased : Phased x.phase (is_settled x)
    phased = (g.steady.calls t o).1.phased

    held_last : (c n : ℕ) (y : Main) → last_cell x ≡ Some c → Holds same hash s.memory c n y → Holds same hash s.memory (last_of x) n y
    held_last c n y e h = subst (λ (d : ℕ). Holds same hash s.memory d n y) (last_is x c e) h

    -- A call that is refused its places, or finds the table full, or prepares.
    making : (edit : Edit) (phase : Phase) (n : ℕ) (r : Outcome) → Picked same hash s edit picks → (adds_pair edit ≡ true → x.phase ≡ Read)
        → (enough edit picks ≡ true → Moved same hash s (going s t (made_memory s t edit picks) (prepared (hoping x r) phase (pending_for edit n picks)) None).state xs calls calls)
        → Leads (Make edit phase n r) s.memory.words
    making edit phase n r p reads makes = by (enough edit picks) refl (adds_pair edit && full same hash s t (links_of edit)) refl
      where
        by : (a : Bool) → enough edit picks ≡ a → (b : Bool) → (adds_pair edit && full same hash s t (links_of edit)) ≡ b
            → (let out = cond a (cond b (quitted s t TableFull) (going s t (made_memory s t edit picks) (prepared (hoping x r) phase (pending_for edit n picks)) None)) (refused s t MemoryUnfit) in
            (more : List (StampedCall K)) → Grown s t calls out.fixed more → Moved same hash s out.state xs calls more)
        by false e b q = unfixed (stays same hash g.shows)
        by true e true q = unfixed (quits same hash laws g t k o key calls (reads (and_parts (adds_pair edit) _ q).0))
        by true e false q = unfixed (makes e)

    -- READ.
    reading : x.phase ≡ Read → (n : ℕ) (y : Main) → Holds same hash s.memory (last_of x) n y → sound same hash s.memory.pairs x.path.depth y ≡ true
        → (p : Plan) → Takes same hash s p picks → Reads same hash s.memory x k n y p → Leads p s.memory.words
    reading e n y h d p u (Reads.missing b r q v) = unfixed (stays same hash g.shows)
    reading e n y h d p u (Reads.full l q) = unfixed (quits same hash laws g t k o key calls e)
    reading e n y h d p u (Reads.lacks q v) = fixed Absent (lacks same hash laws g t k o key calls e n y h q v)
    reading e n y h d p u (Reads.finds {v = v} q w) = fixed (Found v) (finds same hash laws g t k o key calls e n y h q v w)
    reading e n y h d p u (Reads.grows b c q) = unfixed (grows same hash laws g t k o key calls e (node_low same hash laws s.memory.pairs x.path.depth b d) n b h c q)
    reading e n y h d p u (Reads.meets q) = unfixed (entombs same hash laws g t k o key calls Read e false (subst (λ (a : Phase). Phased a (is_settled x)) e phased) refl n q h)
    reading e n y h d p u (Reads.drafts {edit = edit} {r = r} w) =
        making edit Swap n r u (λ _. e)
        (λ room. going_on same hash g.shows t k key (in_seats same hash laws g t k o key calls) (in_shown same hash laws g t k o key calls) (made_memory s t edit picks) refl _ _
        (λ i. absurd (false≢true i)) (λ _. refl) (drafts_turn same hash laws g t k o key edit picks u room e n y r h d w))

    -- The cell before the last is the nearest above it.
    parent_is : 1 ≤ x.path.depth → (c : ℕ) → parent_cell x ≡ Some c → c ≡ get_or x.path.cells (x.path.depth - 1) 0
    parent_is l c e = by (eqb x.path.depth 0) refl e
      where
        by : (b : Bool) → eqb x.path.depth 0 ≡ b → cond b None (slice_get x.path.cells (x.path.depth - 1)) ≡ Some c → c ≡ get_or x.path.cells (x.path.depth - 1) 0
        by true q e = let z = eqb-true x.path.depth 0 q in absurd (omega (arith, z, l))
        by false q e = sym (get_or_from_slice_get x.path.cells (x.path.depth - 1) c 0 e)

    -- A call leaves its last cell, and the memory is as told.
    leaving : (words : List ℕ) → 1 ≤ x.path.depth → Left same hash laws g t k o key calls (worded s.memory words) → (p : Plan) → Leaves same hash x p → Leads p words
    leaving words l turn p (Leaves.closes u d) = unfixed (leaves_out same hash laws g t k o key calls (worded s.memory words) refl l turn u d)
    leaving words l turn p (Leaves.drops u d) = unfixed (leaves_on same hash laws g t k o key calls (worded s.memory words) refl l turn u d)
    leaving words l turn p (Leaves.restarts u) = unfixed (leaves_back same hash laws g t k o key calls (worded s.memory words) refl l turn u)

    above : is_up x.phase ≡ true → 1 ≤ x.path.depth
    above = (g.steady.calls t o).1.above

    -- Every turn of an open seat.
    turning : (p : Plan) (words : List ℕ) → Takes same hash s p picks → Sees same hash s.memory x k p words → Leads p words
    turning p words u (Sees.unfit w) = unfixed (stays same hash g.shows)
    turning p words u (Sees.reads e c n y l h d r) = reading e n y (held_last c n y l h) d p u r
    turning p words u (Sees.settles e c l h q d) =
        subst (λ (i : ℕ). Leads p (set s.memory.words i x.pending.made)) (sym (last_is x c l))
        (fixed x.verdict.outcome (settles same hash laws g t k o key calls e (ap (slice_get s.memory.words) (sym (last_is x c l)) ∙ h) q d))
    turning p words u (Sees.finishes e c l h q) =
        subst (λ (i : ℕ). Leads p (set s.memory.words i x.pending.made)) (sym (last_is x c l))
        (fixed x.verdict.outcome (finishes same hash laws g t k o key calls e (ap (slice_get s.memory.words) (sym (last_is x c l)) ∙ h) q))
    turning p words u (Sees.loses e) = unfixed (loses same hash laws g t k o key calls e)
    turning p words u (Sees.buries e c n q l h d) =
        unfixed (entombs same hash laws g t k o key calls Climb e true (subst (λ (a : Phase). Phased a (is_settled x)) e phased) refl n q (held_last c n _ l h))
    turning p words u (Sees.climbs_close e c n y l h q d) = unfixed (climbs_out same hash laws g t k o key calls e n y (held_last c n y l h) q d)
    turning p words u (Sees.climbs_drop e c n y l h q d) = unfixed (climbs_on same hash laws g t k o key calls e n y (held_last c n y l h) q d)
    turning p words u (Sees.contracts e c n y l h d b) =
        let up = above (ap is_up e) in
        let edit : Edit = Fixed (kept_node (x.path.depth - 1) (replaced y (chunk_at (hash k) (x.path.depth - 1)) (pair x.buried))) in
        making edit Clean n x.verdict.outcome u (λ a. absurd (false≢true a))
        (λ room. going_on same hash g.shows t k key (in_seats same hash laws g t k o key calls) (in_shown same hash laws g t k o key calls) (made_memory s t edit picks) refl _ _
        (λ i. absurd (false≢true i)) (λ _. refl)
        (cleans_turn same hash laws g t k o key edit picks u room e n y (subst (λ (i : ℕ). Holds same hash s.memory i n (node y)) (parent_is up c l) h) d b refl))
    turning p words u (Sees.parts e c n y l h v w) =
        let up = above (ap is_up e) in
        leaving s.memory.words up (parted same hash laws g t k o key calls e c n y (parent_is up c l ∙ first_above same hash laws g t k o key calls up) h v) p w
    turning p words u (Sees.cleans e c l h w) =
        let up = above (ap is_up e) in
        leaving (set s.memory.words c x.pending.made) up (cleaned same hash laws g t k o key calls e c (parent_is up c l ∙ first_above same hash laws g t k o key calls up) h) p w
    turning p words u (Sees.misses e v) = unfixed (misses same hash laws g t k o key calls e v)
    turning p words u (Sees.gives_up_lem e v) = unfixed (gives_up_lem same hash laws g t k o key calls e v)

  -- Every turn, refused or not.
  pub turn_moves : Takes same hash s (planned same hash s t).plan picks → (more : List (StampedCall K)) → Grown s t calls (turned same hash s t picks).fixed more → Moved same hash s (turned same hash s t picks).state xs calls more
  turn_moves u = by (no_seat s t) (is_idle x.phase) refl (leb last_count s.table.ticks) u
    where
      by : (b c : Bool) → is_idle x.phase ≡ c → (d : Bool)
          → (let p = cond b (refusing s NoSuchSeat) (cond c (refusing s SeatIdle) (cond d (refusing s CountersSpent) (keyed same hash (slice_get s.memory.keys t) x s.memory))) in Takes same hash s p.plan picks → Leads p.plan p.words)
      by false false o false u = key (slice_get s.memory.keys t) refl u
        where
          key : (q : Option K) → slice_get s.memory.keys t ≡ q → Takes same hash s (keyed same hash q x s.memory).plan picks → Leads (keyed same hash q x s.memory).plan (keyed same hash q x s.memory).words
          key None e u = unfixed (stays same hash g.shows)
          key (Some k) e u = turning k o e _ _ u (sees same hash s.memory x k o)
      by _ _ o _ u = unfixed (stays same hash g.shows)
