-- The memory has all that an open call looks at: its cell, a sound main there, and the pairs that this names. A draft's new cells fit below the path.
-- A plan that finds its places is not refused for the memory.
use Rattle.std.proofs.Common.{◌≡◌, ℕ, zero, suc, ◌+◌, ◌<◌, ◌≤◌, Bool, true, false, cond, ◌&&◌, leb, List, [], ◌∷◌, length, get_or, Some, None, Err, sym, ap, ◌∙◌, subst, arith}
use Rattle.keys.specs.Laws.{KeyLaws}
use Rattle.std.specs.List.{slice_get}
use Rattle.std.proofs.lemmas.Option.{slice_get-get_or, none-some, same_Some}
use Rattle.std.proofs.lemmas.Bool.{and_parts, leb-true, ne_eqb, true≢false}
use Rattle.panel.specs.declared.Refusal.TheVariants.{MemoryUnfit, TableFull}
use Rattle.machine.specs.Machine.{Entry, Seat as Place}
use Rattle.mains.specs.Nodes.{branch_at}
use Rattle.mains.specs.declared.Branch.TheVariants.{Pair as pair}
use Rattle.mains.specs.declared.Main.{Main}
use Rattle.mains.specs.declared.Main.TheVariants.{Node as node}
use Rattle.mains.specs.declared.Node.{Node}
use Rattle.rules.specs.Edits.{links_of, adds_pair}
use Rattle.rules.specs.Memory.{Memory, State, main_at}
use Rattle.rules.specs.Perform.{Picks, Takes, enough, full, quitted, going, refused, made_memory, pending_for, performed}
use Rattle.rules.specs.Seats.{seat_of, is_idle, hoping, prepared}
use Rattle.rules.specs.Sound.{sound}
use Rattle.rules.specs.declared.Ask.{Ask}
use Rattle.rules.specs.declared.Edit.{Edit}
use Rattle.rules.specs.declared.Figures.{Figures}
use Rattle.rules.specs.declared.Outcome.{Outcome}
use Rattle.rules.specs.declared.Phase.{Phase}
use Rattle.rules.specs.declared.Plan.{Plan}
use Rattle.rules.specs.declared.Plan.TheVariants.{Refuse, Quit, Make}
use Rattle.rules.specs.declared.Seat.{Seat}
use Rattle.theory.proofs.Ground.{Ground}
use Rattle.theory.proofs.Lengths.{room_suffices_lem}
use Rattle.theory.proofs.Sights.{Drafts, Holds, Unfit, looked_at, index_of}
use Rattle.theory.proofs.Splitting.{fork_links}
use Rattle.theory.proofs.Using.{Readable, readable}
use Rattle.theory.proofs.Writing.{Fine}
use Rattle.theory.specs.Places.{Room}
use Rattle.theory.specs.Records.{Kept, is_up}

-- A place inside of a list has something.
nth_there : {A : Type 0} (xs : List A) (i : ℕ) → i < length xs → slice_get xs i ≡ None → ⊥
nth_there [] i l e = omega (arith, l)
nth_there (x ∷ xs) zero l e = none-some _ (sym e)
nth_there (x ∷ xs) (suc i) l e = nth_there xs i (omega (arith, l)) e

-- The cell that a phase looks at is there, and not past the end of the path.
pub looked_at_lem : (x : Seat) → Kept x → (phase : Phase) → is_idle phase ≡ false → (is_up phase ≡ true → 1 ≤ x.path.depth)
    → (looked_at phase x ≡ Some (get_or x.path.cells (index_of phase x) 0)) × (index_of phase x ≤ x.path.depth)
looked_at_lem x k phase o up = grind (arith, slice_get-get_or, looked_at, ne_eqb, index_of, true≢false)

module _ {K : Type 0} (same : K → K → Bool) (hash : K → ℕ) (laws : KeyLaws same hash) where
  -- The new cells of a draft fit below the path.
  pub draft_links : (m : Memory K) (k : K) (index : ℕ) (ask : Ask) (y : Main) (edit : Edit) (r : Outcome) → Drafts same hash m k index ask y edit r → sound same hash m.pairs index y ≡ true → index ≤ 7 → index + links_of edit ≤ 7
  draft_links m k index ask y edit r (Drafts.splits v n p z b h t) s l = (fork_links same hash laws n index k p z (leb-true index 6 (and_parts (leb index 6) _ s).0)).1
  draft_links m k index ask y edit r _ s l = omega (arith, l)

  module _ {f : Figures} {es : List (Entry K)} {s : State K} {xs : List (Place K)} (g : Ground same hash f es s xs) (t : ℕ) (k : K) (o : is_idle (seat_of s t).phase ≡ false) (key : slice_get s.memory.keys t ≡ Some k) where
    -- What a cell holds is one main.
    one_main : {i c n : ℕ} {y : Main} (r : Readable same hash s g.written.cells k i c) → Holds same hash s.memory c n y → r.main ≡ y
    one_main r h = grind arith

    -- The cell looked at can be read.
    readable_there : (c : ℕ) → looked_at (seat_of s t).phase (seat_of s t) ≡ Some c → Readable same hash s g.written.cells k (index_of (seat_of s t).phase (seat_of s t)) c
    readable_there c e =
        let kept = (g.steady.calls t o).1 in
        let at = looked_at_lem (seat_of s t) kept (seat_of s t).phase o kept.above in
        subst (Readable same hash s g.written.cells k (index_of (seat_of s t).phase (seat_of s t))) (same_Some _ c (sym at.0 ∙ e))
        (readable same hash laws g t k o key (index_of (seat_of s t).phase (seat_of s t)) at.1)

    -- The memory lacks nothing.
    pub fits : Unfit same hash s.memory (seat_of s t) k → ⊥
    fits (Unfit.nowhere e) =
        let kept = (g.steady.calls t o).1 in none-some _ (sym e ∙ (looked_at_lem (seat_of s t) kept (seat_of s t).phase o kept.above).0)
    fits (Unfit.outside c e w) = none-some _ (sym w ∙ (readable_there c e).holds.word)
    fits (Unfit.vacant c n e w v) =
        let r = readable_there c e in
        none-some _ (sym v ∙ ap (main_at s.memory.mains) (same_Some n r.number (sym w ∙ r.holds.word)) ∙ r.holds.main)
    fits (Unfit.unsound c n y e h q) =
        let r = readable_there c e in
        true≢false (sym r.keeps ∙ ap (sound same hash s.memory.pairs (index_of (seat_of s t).phase (seat_of s t))) (one_main r h) ∙ q)

    -- A pair that stands in a node read is there.
    pub pair_there : (c n : ℕ) (y : Node) (q p : ℕ) → looked_at (seat_of s t).phase (seat_of s t) ≡ Some c → Holds same hash s.memory c n (node y) → branch_at y q ≡ Some (pair p) → slice_get s.memory.pairs p ≡ None → ⊥
    pair_there c n y q p e h b v =
        let r = readable_there c e in
        let fine = subst (Fine g.written.cells (length s.memory.pairs)) (one_main r h) r.fine in
        nth_there s.memory.pairs p (fine.paired p (q, b)) v

module _ {K : Type 0} (same : K → K → Bool) (hash : K → ℕ) (s : State K) where
  -- A plan that the memory allows: it refuses for another reason, or finds its places.
  abbrev pub Allowed : Plan → Type 0
  Allowed (Refuse r) = r ≡ MemoryUnfit → ⊥
  Allowed (Quit r) = r ≡ MemoryUnfit → ⊥
  Allowed (Make edit phase n r) = Room same hash s edit
  Allowed _ = Unit {0}

  -- Such a plan is not answered with that refusal.
  pub allowed : (t : ℕ) (words : List ℕ) (p : Plan) (picks : Picks) → Takes same hash s p picks → Allowed p → (performed same hash s t words p picks).answer ≡ Err MemoryUnfit → ⊥
  allowed t words (Refuse r) picks k a e = a cc
  allowed t words (Quit r) picks k a e = a cc
  allowed t words (Make edit phase n r) picks k a e = by (enough edit picks) (adds_pair edit && full same hash s t (links_of edit)) (room_suffices_lem same hash s edit picks k a) e
    where
      by : (b c : Bool) → b ≡ true → (cond b (cond c (quitted s t TableFull) (going s t (made_memory s t edit picks) (prepared (hoping (seat_of s t) r) phase (pending_for edit n picks)) None)) (refused s t MemoryUnfit)).answer ≡ Err MemoryUnfit → ⊥
      by b c i e = grind arith
  allowed t words _ picks k a e = let z : ◌≡◌ {A = ℕ} 0 1 = cc in omega arith
