-- What a turn of an open seat can see, and the plan that follows from each sight.
use Rattle.std.proofs.Common.{◌≡◌, ℕ, ◌-◌, ◌<◌, ◌≤◌, Bool, true, false, cond, ◌&&◌, eqb, ltb, leb, ◌⊎◌, List, get_or, set, Some, None, Ok, Option, sym, refl, ap, ◌∙◌, subst, inl, inr, arith}
use Rattle.keys.specs.Routes.{chunk_at}
use Rattle.std.specs.List.{slice_get}
use Rattle.std.proofs.lemmas.Bool.{and_parts, leb-true, leb-false, ltb-true, ltb-false, eqb-true, eqb-false, true≢false, cond_both}
use Rattle.panel.specs.declared.Refusal.TheVariants.{MemoryUnfit, ListFull}
use Rattle.mains.specs.Lists.{listed, unlisted}
use Rattle.mains.specs.Nodes.{branch_at, removed, replaced}
use Rattle.mains.specs.declared.Branch.{Branch}
use Rattle.mains.specs.declared.Branch.TheVariants.{Pair as pair, Cell as cell}
use Rattle.mains.specs.declared.Main.{Main}
use Rattle.mains.specs.declared.Main.TheVariants.{Node as node, Tomb as tomb, List as listing}
use Rattle.mains.specs.declared.Node.{Node}
use Rattle.mains.specs.declared.PairList.{PairList}
use Rattle.rules.specs.Edits.{kept_node, kept_list}
use Rattle.rules.specs.Memory.{Memory, main_at}
use Rattle.rules.specs.Reached.{is_tomb}
use Rattle.rules.specs.Seats.{is_idle, is_settled, is_cut, is_put, last_cell, parent_cell, restarted, grown, dropped, at_tomb, moved}
use Rattle.rules.specs.Sound.{sound, pairs_at}
use Rattle.rules.specs.Turns.{Look, look, reads as read_of, swaps as swap_of, saw_main, saw_word, swapped_word, at_nothing, at_equal, at_other, not_listed, listed_at, place_of, at_place, climbed, gives_up, climbs, at_parent, swung, missed, at_pair, at_branch, at_list, read_plan, parent_plan, decide, decided, keyed}
use Rattle.rules.specs.declared.Ask.{Ask}
use Rattle.rules.specs.declared.Ask.TheVariants.{Get, Put, Cut}
use Rattle.rules.specs.declared.Edit.{Edit}
use Rattle.rules.specs.declared.Edit.TheVariants.{Fixed, Insert, Replace, Append, Relist, Split}
use Rattle.rules.specs.declared.Outcome.{Outcome}
use Rattle.rules.specs.declared.Outcome.TheVariants.{Found, Absent, Stored, Removed}
use Rattle.rules.specs.declared.Pair.{Pair}
use Rattle.rules.specs.declared.Phase.{Phase}
use Rattle.rules.specs.declared.Phase.TheVariants.{Idle, Read, Swap, Climb, Parent, Clean}
use Rattle.rules.specs.declared.Plan.{Plan}
use Rattle.rules.specs.declared.Plan.TheVariants.{Refuse, Quit, Finish, Settle, Close, Go, Make}
use Rattle.rules.specs.declared.Seat.{Seat}
use Rattle.rules.specs.declared.Seen.{Seen}
use Rattle.rules.specs.declared.Seen.TheVariants.{Saw, Swapped}

-- The cell that a phase reads or swaps, and its index.
abbrev pub looked_at : Phase → Seat → Option ℕ
looked_at Idle x = None
looked_at Parent x = parent_cell x
looked_at Clean x = parent_cell x
looked_at _ x = last_cell x

abbrev pub index_of : Phase → Seat → ℕ
index_of Parent x = x.path.depth - 1
index_of Clean x = x.path.depth - 1
index_of _ x = x.path.depth

module _ {K : Type 0} (same : K → K → Bool) (hash : K → ℕ) where
  -- The cell c holds the number n of the main y.
  pub record Holds (m : Memory K) (c n : ℕ) (y : Main) : Type 0 where
    pub word : slice_get m.words c ≡ Some n
    pub main : main_at m.mains n ≡ Some y

  -- READ OF A SOUND MAIN

  -- The key is not in the main y at an index.
  pub data Lacks (m : Memory K) (k : K) (index : ℕ) : Main → Type 0 where
    bare : (y : Node) → branch_at y (chunk_at (hash k) index) ≡ None → Lacks m k index (node y)
    other : (y : Node) (p : ℕ) (z : Pair K) → branch_at y (chunk_at (hash k) index) ≡ Some (pair p) → slice_get m.pairs p ≡ Some z → same z.key k ≡ false → Lacks m k index (node y)
    absent : (l : PairList) (ys : List (Pair K)) → pairs_at m.pairs (listed l) ≡ Some ys → place_of same k ys ≡ None → Lacks m k index (listing l)

  -- It is there, with this value.
  pub data Has (m : Memory K) (k : K) (index : ℕ) : Main → ℕ → Type 0 where
    branch : (y : Node) (p : ℕ) (z : Pair K) → branch_at y (chunk_at (hash k) index) ≡ Some (pair p) → slice_get m.pairs p ≡ Some z → same z.key k ≡ true → Has m k index (node y) z.value
    inside : (l : PairList) (ys : List (Pair K)) (i v : ℕ) → pairs_at m.pairs (listed l) ≡ Some ys → place_of same k ys ≡ Some (i, v) → Has m k index (listing l) v

  -- What a put or a cut prepares, with the result that it hopes for.
  pub data Drafts (m : Memory K) (k : K) (index : ℕ) : Ask → Main → Edit → Outcome → Type 0 where
    inserts : (v : ℕ) (y : Node) → branch_at y (chunk_at (hash k) index) ≡ None → Drafts m k index (Put v) (node y) (Insert y (chunk_at (hash k) index)) Stored
    replaces : (v : ℕ) (y : Node) (p : ℕ) (z : Pair K) → branch_at y (chunk_at (hash k) index) ≡ Some (pair p) → slice_get m.pairs p ≡ Some z → same z.key k ≡ true → Drafts m k index (Put v) (node y) (Replace y (chunk_at (hash k) index)) Stored
    removes : (y : Node) (p : ℕ) (z : Pair K) → branch_at y (chunk_at (hash k) index) ≡ Some (pair p) → slice_get m.pairs p ≡ Some z → same z.key k ≡ true → Drafts m k index Cut (node y) (Fixed (kept_node index (removed y (chunk_at (hash k) index)))) (Removed z.value)
    splits : (v : ℕ) (y : Node) (p : ℕ) (z : Pair K) → branch_at y (chunk_at (hash k) index) ≡ Some (pair p) → slice_get m.pairs p ≡ Some z → same z.key k ≡ false → Drafts m k index (Put v) (node y) (Split (record { node = y; index = index; chunk = chunk_at (hash k) index; pair = p; standing = hash z.key; coming = hash k })) Stored
    appends : (v : ℕ) (l : PairList) (ys : List (Pair K)) → pairs_at m.pairs (listed l) ≡ Some ys → place_of same k ys ≡ None → l.count < 32 → Drafts m k index (Put v) (listing l) (Append l) Stored
    relists : (v : ℕ) (l : PairList) (ys : List (Pair K)) (i w : ℕ) → pairs_at m.pairs (listed l) ≡ Some ys → place_of same k ys ≡ Some (i, w) → Drafts m k index (Put v) (listing l) (Relist l i) Stored
    unlists : (l : PairList) (ys : List (Pair K)) (i w : ℕ) → pairs_at m.pairs (listed l) ≡ Some ys → place_of same k ys ≡ Some (i, w) → Drafts m k index Cut (listing l) (Fixed (kept_list (unlisted l i))) (Removed w)

  -- The plan that follows a read of the sound main y, whose number is n.
  pub data Reads (m : Memory K) (x : Seat) (k : K) (n : ℕ) : Main → Plan → Type 0 where
    missing : (y : Node) (p : ℕ) → branch_at y (chunk_at (hash k) x.path.depth) ≡ Some (pair p) → slice_get m.pairs p ≡ None → Reads m x k n (node y) (Refuse MemoryUnfit)
    full : (l : PairList) → is_put x.ask ≡ true → Reads m x k n (listing l) (Quit ListFull)
    lacks : {y : Main} → is_put x.ask ≡ false → Lacks m k x.path.depth y → Reads m x k n y (Finish Absent)
    finds : {y : Main} {v : ℕ} → x.ask ≡ Get → Has m k x.path.depth y v → Reads m x k n y (Finish (Found v))
    grows : (y : Node) (d : ℕ) → branch_at y (chunk_at (hash k) x.path.depth) ≡ Some (cell d) → Reads m x k n (node y) (Go (grown x d))
    meets : (p : ℕ) → Reads m x k n (tomb p) (Go (at_tomb x p))
    drafts : {y : Main} {edit : Edit} {r : Outcome} → Drafts m k x.path.depth x.ask y edit r → Reads m x k n y (Make edit Swap n r)

  -- A TURN

  -- A settled call drops its last cell, an unsettled one starts again.
  pub data Leaves (x : Seat) : Plan → Type 0 where
    closes : is_settled x ≡ true → x.path.depth ≤ 1 → Leaves x Close
    drops : is_settled x ≡ true → 2 ≤ x.path.depth → Leaves x (Go (dropped x))
    restarts : is_settled x ≡ false → Leaves x (Go (restarted x))

  -- The cell c, read at an index, does not name the cell d at the key's chunk.
  pub data Unnamed (k : K) (index d : ℕ) : Main → Type 0 where
    bare : (y : Node) → branch_at y (chunk_at (hash k) index) ≡ None → Unnamed k index d (node y)
    paired : (y : Node) (p : ℕ) → branch_at y (chunk_at (hash k) index) ≡ Some (pair p) → Unnamed k index d (node y)
    other : (y : Node) (c : ℕ) → branch_at y (chunk_at (hash k) index) ≡ Some (cell c) → (c ≡ d → ⊥) → Unnamed k index d (node y)
    tombed : (p : ℕ) → Unnamed k index d (tomb p)
    lists : (l : PairList) → Unnamed k index d (listing l)

  -- What the memory can lack.
  pub data Unfit (m : Memory K) (x : Seat) (k : K) : Type 0 where
    nowhere : looked_at x.phase x ≡ None → Unfit m x k
    outside : (c : ℕ) → looked_at x.phase x ≡ Some c → slice_get m.words c ≡ None → Unfit m x k
    vacant : (c n : ℕ) → looked_at x.phase x ≡ Some c → slice_get m.words c ≡ Some n → main_at m.mains n ≡ None → Unfit m x k
    unsound : (c n : ℕ) (y : Main) → looked_at x.phase x ≡ Some c → Holds m c n y → sound same hash m.pairs (index_of x.phase x) y ≡ false → Unfit m x k

  -- The plan of an open seat with its key, and the words after the turn's read or swap, by what was seen.
  pub data Sees (m : Memory K) (x : Seat) (k : K) : Plan → List ℕ → Type 0 where
    unfit : Unfit m x k → Sees m x k (Refuse MemoryUnfit) m.words
    reads : x.phase ≡ Read → (c n : ℕ) (y : Main) → last_cell x ≡ Some c → Holds m c n y → sound same hash m.pairs x.path.depth y ≡ true → {p : Plan} → Reads m x k n y p → Sees m x k p m.words
    settles : x.phase ≡ Swap → (c : ℕ) → last_cell x ≡ Some c → slice_get m.words c ≡ Some x.pending.expected → is_cut x.ask ≡ true → 1 ≤ x.path.depth → Sees m x k (Settle x.verdict.outcome) (set m.words c x.pending.made)
    finishes : x.phase ≡ Swap → (c : ℕ) → last_cell x ≡ Some c → slice_get m.words c ≡ Some x.pending.expected → (is_cut x.ask ≡ false) ⊎ (x.path.depth ≡ 0) → Sees m x k (Finish x.verdict.outcome) (set m.words c x.pending.made)
    loses : x.phase ≡ Swap → Sees m x k (Go (restarted x)) m.words
    buries : x.phase ≡ Climb → (c n p : ℕ) → last_cell x ≡ Some c → Holds m c n (tomb p) → 1 ≤ x.path.depth → Sees m x k (Go (at_tomb x p)) m.words
    climbs_close : x.phase ≡ Climb → (c n : ℕ) (y : Main) → last_cell x ≡ Some c → Holds m c n y → is_tomb y ≡ false → x.path.depth ≤ 1 → Sees m x k Close m.words
    climbs_drop : x.phase ≡ Climb → (c n : ℕ) (y : Main) → last_cell x ≡ Some c → Holds m c n y → is_tomb y ≡ false → 2 ≤ x.path.depth → Sees m x k (Go (dropped x)) m.words
    contracts : x.phase ≡ Parent → (c n : ℕ) (y : Node) → parent_cell x ≡ Some c → Holds m c n (node y) → sound same hash m.pairs (x.path.depth - 1) (node y) ≡ true
        → branch_at y (chunk_at (hash k) (x.path.depth - 1)) ≡ Some (cell (get_or x.path.cells x.path.depth 0))
        → Sees m x k (Make (Fixed (kept_node (x.path.depth - 1) (replaced y (chunk_at (hash k) (x.path.depth - 1)) (pair x.buried)))) Clean n x.verdict.outcome) m.words
    parts : x.phase ≡ Parent → (c n : ℕ) (y : Main) → parent_cell x ≡ Some c → Holds m c n y → Unnamed k (x.path.depth - 1) (get_or x.path.cells x.path.depth 0) y → {p : Plan} → Leaves x p → Sees m x k p m.words
    cleans : x.phase ≡ Clean → (c : ℕ) → parent_cell x ≡ Some c → slice_get m.words c ≡ Some x.pending.expected → {p : Plan} → Leaves x p → Sees m x k p (set m.words c x.pending.made)
    misses : x.phase ≡ Clean → is_settled x ≡ true → Sees m x k (Go (moved x Parent x.path)) m.words
    gives_up_lem : x.phase ≡ Clean → is_settled x ≡ false → Sees m x k (Go (restarted x)) m.words

  -- THE PROOF, ALONG THE TREE OF THE RULES

  -- A test decides between two plans.
  module _ (m : Memory K) (x : Seat) (k : K) where
    -- The key's chunk at the last cell's index.
    abbrev q₀ : ℕ
    q₀ = chunk_at (hash k) x.path.depth

    module _ (n : ℕ) where
      at_nothing_lem : (a : Ask) → x.ask ≡ a → (y : Node) → branch_at y q₀ ≡ None → Reads m x k n (node y) (at_nothing a n y q₀)
      at_nothing_lem (Put v) e y b = Reads.drafts (rw e (Drafts.inserts v y b))
      at_nothing_lem _ e y b = Reads.lacks (ap is_put e) (Lacks.bare y b)

      module _ (y : Node) (p : ℕ) (z : Pair K) (b : branch_at y q₀ ≡ Some (pair p)) (h : slice_get m.pairs p ≡ Some z) where
        at_equal_lem : (a : Ask) → x.ask ≡ a → same z.key k ≡ true → Reads m x k n (node y) (at_equal a n y q₀ x.path.depth z.value)
        at_equal_lem Get e t = Reads.finds e (Has.branch y p z b h t)
        at_equal_lem (Put w) e t = Reads.drafts (rw e (Drafts.replaces w y p z b h t))
        at_equal_lem Cut e t = Reads.drafts (rw e (Drafts.removes y p z b h t))

        at_other_lem : (a : Ask) → x.ask ≡ a → same z.key k ≡ false → Reads m x k n (node y) (at_other a n (record { node = y; index = x.path.depth; chunk = q₀; pair = p; standing = hash z.key; coming = hash k }))
        at_other_lem (Put v) e t = Reads.drafts (rw e (Drafts.splits v y p z b h t))
        at_other_lem _ e t = Reads.lacks (ap is_put e) (Lacks.other y p z b h t)

      at_pair_lem : (y : Node) (p : ℕ) → branch_at y q₀ ≡ Some (pair p) → (o : Option (Pair K)) → slice_get m.pairs p ≡ o → Reads m x k n (node y) (at_pair same hash o x k n y q₀ x.path.depth p)
      at_pair_lem y p b None h = Reads.missing y p b h
      at_pair_lem y p b (Some z) h =
          cond_both (same z.key k) _ _ (Reads m x k n (node y)) (at_equal_lem y p z b h x.ask refl) (at_other_lem y p z b h x.ask refl)

      at_branch_lem : (y : Node) (o : Option Branch) → branch_at y q₀ ≡ o → Reads m x k n (node y) (at_branch same hash o x k m n y q₀ x.path.depth)
      at_branch_lem y None b = at_nothing_lem x.ask refl y b
      at_branch_lem y (Some (cell d)) b = Reads.grows y d b
      at_branch_lem y (Some (pair p)) b = at_pair_lem y p b (slice_get m.pairs p) refl

      module _ (l : PairList) (ys : List (Pair K)) (h : pairs_at m.pairs (listed l) ≡ Some ys) where
        not_listed_lem : (a : Ask) → x.ask ≡ a → place_of same k ys ≡ None → Reads m x k n (listing l) (not_listed a n l)
        not_listed_lem (Put v) e t =
            cond_both (leb 32 l.count) _ _ (Reads m x k n (listing l)) (λ u. Reads.full l (ap is_put e))
            (λ u. Reads.drafts (rw e (Drafts.appends v l ys h t (leb-false 32 l.count u))))
        not_listed_lem _ e t = Reads.lacks (ap is_put e) (Lacks.absent l ys h t)

        listed_at_lem : (a : Ask) → x.ask ≡ a → (i v : ℕ) → place_of same k ys ≡ Some (i, v) → Reads m x k n (listing l) (listed_at a n l i v)
        listed_at_lem Get e i v t = Reads.finds e (Has.inside l ys i v h t)
        listed_at_lem (Put w) e i v t = Reads.drafts (rw e (Drafts.relists w l ys i v h t))
        listed_at_lem Cut e i v t = Reads.drafts (rw e (Drafts.unlists l ys i v h t))

        at_place_lem : (o : Option (ℕ × ℕ)) → place_of same k ys ≡ o → Reads m x k n (listing l) (at_place o x.ask n l)
        at_place_lem None t = not_listed_lem x.ask refl t
        at_place_lem (Some z) t = listed_at_lem x.ask refl z.0 z.1 t

      at_list_lem : (l : PairList) → sound same hash m.pairs x.path.depth (listing l) ≡ true → (o : Option (List (Pair K))) → pairs_at m.pairs (listed l) ≡ o → Reads m x k n (listing l) (at_list same hash o x k n l)
      at_list_lem l s None h =
          let a = (and_parts (eqb x.path.depth 7) _ s).1 in
          let b = (and_parts (leb 2 l.count) _ a).1 in
          let c = (and_parts (leb l.count 32) _ b).1 in
          absurd (grind arith)
      at_list_lem l s (Some ys) h = at_place_lem l ys h (place_of same k ys) refl

      at_read : (y : Main) → sound same hash m.pairs x.path.depth y ≡ true → Reads m x k n y (read_plan same hash y x k m n x.path.depth)
      at_read (node y) s = at_branch_lem y (branch_at y q₀) refl
      at_read (tomb p) s = Reads.meets p
      at_read (listing l) s = at_list_lem l s (pairs_at m.pairs (listed l)) refl

    leaves : Leaves x (gives_up x)
    leaves =
        cond_both (is_settled x) _ _ (Leaves x)
        (λ u. cond_both (leb x.path.depth 1) _ _ (Leaves x) (λ e. Leaves.closes u (leb-true x.path.depth 1 e)) (λ e. Leaves.drops u (leb-false x.path.depth 1 e)))
        (λ u. Leaves.restarts u)

    -- What is decided in the phase of the seat.
    in_phase : (phase : Phase) → x.phase ≡ phase → (seen : Seen) (words : List ℕ) → Sees m x k (decide same hash phase seen x k m) words → Sees m x k (decided same hash (Ok seen) x k m) words
    in_phase phase e seen words z = subst (λ (p : Phase). Sees m x k (decide same hash p seen x k m) words) (sym e) z

    looked : (phase : Phase) → x.phase ≡ phase → (o : Option ℕ) → looked_at phase x ≡ o → looked_at x.phase x ≡ o
    looked phase e o g = subst (λ (p : Phase). looked_at p x ≡ o) (sym e) g

    not_sound : (phase : Phase) → x.phase ≡ phase → (c n : ℕ) (y : Main) → looked_at phase x ≡ Some c → Holds m c n y → sound same hash m.pairs (index_of phase x) y ≡ false → Sees m x k (Refuse MemoryUnfit) m.words
    not_sound phase e c n y g h t =
        Sees.unfit (Unfit.unsound c n y (looked phase e (Some c) g) h (subst (λ (p : Phase). sound same hash m.pairs (index_of p x) y ≡ false) (sym e) t))

    -- A sound tomb lies below the root.
    tomb_low : (i p : ℕ) → sound same hash m.pairs i (tomb p) ≡ true → 1 ≤ i
    tomb_low i p s = leb-true 1 i (and_parts (leb 1 i) _ s).0

    module _ (c : ℕ) where
      read_main : x.phase ≡ Read → last_cell x ≡ Some c → (n : ℕ) → slice_get m.words c ≡ Some n → (o : Option Main) → main_at m.mains n ≡ o
          → Sees m x k (decided same hash (saw_main m.words n o).seen x k m) (saw_main m.words n o).words
      read_main e l n w None a = Sees.unfit (Unfit.vacant c n (looked Read e (Some c) l) w a)
      read_main e l n w (Some y) a =
          let h : Holds m c n y = record { word = w; main = a } in
          in_phase Read e (Saw n y) m.words
          (cond_both (sound same hash m.pairs x.path.depth y) _ _ (λ p. Sees m x k p m.words)
          (λ t. Sees.reads e c n y l h t (at_read n y t)) (not_sound Read e c n y l h))

      -- A cell that holds no tomb is dropped.
      climb_on : x.phase ≡ Climb → last_cell x ≡ Some c → (n : ℕ) (y : Main) → Holds m c n y → is_tomb y ≡ false → Sees m x k (climbed x) m.words
      climb_on e l n y h t =
          cond_both (leb x.path.depth 1) _ _ (λ p. Sees m x k p m.words)
          (λ u. Sees.climbs_close e c n y l h t (leb-true x.path.depth 1 u)) (λ u. Sees.climbs_drop e c n y l h t (leb-false x.path.depth 1 u))

      climb_plan : x.phase ≡ Climb → last_cell x ≡ Some c → (n : ℕ) (y : Main) → Holds m c n y → sound same hash m.pairs x.path.depth y ≡ true → Sees m x k (climbs y x) m.words
      climb_plan e l n (tomb p) h s = Sees.buries e c n p l h (tomb_low x.path.depth p s)
      climb_plan e l n (node y) h s = climb_on e l n (node y) h refl
      climb_plan e l n (listing y) h s = climb_on e l n (listing y) h refl

      climb_main : x.phase ≡ Climb → last_cell x ≡ Some c → (n : ℕ) → slice_get m.words c ≡ Some n → (o : Option Main) → main_at m.mains n ≡ o
          → Sees m x k (decided same hash (saw_main m.words n o).seen x k m) (saw_main m.words n o).words
      climb_main e l n w None a = Sees.unfit (Unfit.vacant c n (looked Climb e (Some c) l) w a)
      climb_main e l n w (Some y) a =
          let h : Holds m c n y = record { word = w; main = a } in
          in_phase Climb e (Saw n y) m.words
          (cond_both (sound same hash m.pairs x.path.depth y) _ _ (λ p. Sees m x k p m.words)
          (climb_plan e l n y h) (not_sound Climb e c n y l h))

      at_parent_lem : x.phase ≡ Parent → parent_cell x ≡ Some c → (n : ℕ) (y : Node) → Holds m c n (node y) → sound same hash m.pairs (x.path.depth - 1) (node y) ≡ true → (o : Option Branch) → branch_at y (chunk_at (hash k) (x.path.depth - 1)) ≡ o
          → Sees m x k (at_parent o x n y (chunk_at (hash k) (x.path.depth - 1)) (x.path.depth - 1) (get_or x.path.cells x.path.depth 0)) m.words
      at_parent_lem e l n y h s None b = Sees.parts e c n (node y) l h (Unnamed.bare y b) leaves
      at_parent_lem e l n y h s (Some (pair p)) b = Sees.parts e c n (node y) l h (Unnamed.paired y p b) leaves
      at_parent_lem e l n y h s (Some (cell d)) b =
          cond_both (eqb d (get_or x.path.cells x.path.depth 0)) _ _ (λ p. Sees m x k p m.words)
          (λ u. Sees.contracts e c n y l h s (b ∙ ap (λ i. Some (cell i)) (eqb-true d _ u)))
          (λ u. Sees.parts e c n (node y) l h (Unnamed.other y d b (eqb-false d _ u)) leaves)

      parent_plan_lem : x.phase ≡ Parent → parent_cell x ≡ Some c → (n : ℕ) (y : Main) → Holds m c n y → sound same hash m.pairs (x.path.depth - 1) y ≡ true → Sees m x k (parent_plan same hash y x k n (x.path.depth - 1) (get_or x.path.cells x.path.depth 0)) m.words
      parent_plan_lem e l n (node y) h s = at_parent_lem e l n y h s (branch_at y (chunk_at (hash k) (x.path.depth - 1))) refl
      parent_plan_lem e l n (tomb p) h s = Sees.parts e c n (tomb p) l h (Unnamed.tombed p) leaves
      parent_plan_lem e l n (listing y) h s = Sees.parts e c n (listing y) l h (Unnamed.lists y) leaves

      parent_main : x.phase ≡ Parent → parent_cell x ≡ Some c → (n : ℕ) → slice_get m.words c ≡ Some n → (o : Option Main) → main_at m.mains n ≡ o
          → Sees m x k (decided same hash (saw_main m.words n o).seen x k m) (saw_main m.words n o).words
      parent_main e l n w None a = Sees.unfit (Unfit.vacant c n (looked Parent e (Some c) l) w a)
      parent_main e l n w (Some y) a =
          let h : Holds m c n y = record { word = w; main = a } in
          in_phase Parent e (Saw n y) m.words
          (cond_both (sound same hash m.pairs (x.path.depth - 1) y) _ _ (λ p. Sees m x k p m.words)
          (parent_plan_lem e l n y h) (not_sound Parent e c n y l h))

      -- What a word that was read leads to.
      read_word : (phase : Phase) → x.phase ≡ phase → looked_at phase x ≡ Some c
          → ((n : ℕ) → slice_get m.words c ≡ Some n → (o : Option Main) → main_at m.mains n ≡ o → Sees m x k (decided same hash (saw_main m.words n o).seen x k m) (saw_main m.words n o).words)
          → (o : Option ℕ) → slice_get m.words c ≡ o → (let l = saw_word m.words m.mains o in Sees m x k (decided same hash l.seen x k m) l.words)
      read_word phase e l f None w = Sees.unfit (Unfit.outside c (looked phase e (Some c) l) w)
      read_word phase e l f (Some n) w = f n w (main_at m.mains n) refl

      -- What a swap said.
      swap_word : (phase : Phase) → x.phase ≡ phase → looked_at phase x ≡ Some c
          → (slice_get m.words c ≡ Some x.pending.expected → Sees m x k (decide same hash phase (Swapped true) x k m) (set m.words c x.pending.made))
          → Sees m x k (decide same hash phase (Swapped false) x k m) m.words
          → (o : Option ℕ) → slice_get m.words c ≡ o
          → (let l = swapped_word m.words c x.pending.expected x.pending.made o in Sees m x k (decided same hash l.seen x k m) l.words)
      swap_word phase e l said denied None w = Sees.unfit (Unfit.outside c (looked phase e (Some c) l) w)
      swap_word phase e l said denied (Some n) w = by (eqb n x.pending.expected) refl
        where
          by : (b : Bool) → eqb n x.pending.expected ≡ b
              → (let l : Look = cond b (record { seen = Ok (Swapped true); words = set m.words c x.pending.made }) (record { seen = Ok (Swapped false); words = m.words }) in Sees m x k (decided same hash l.seen x k m) l.words)
          by b t = grind arith

      swap_yes : x.phase ≡ Swap → last_cell x ≡ Some c → slice_get m.words c ≡ Some x.pending.expected → Sees m x k (swung x) (set m.words c x.pending.made)
      swap_yes e l h = by (is_cut x.ask) refl (ltb 0 x.path.depth) refl
        where
          by : (a : Bool) → is_cut x.ask ≡ a → (b : Bool) → ltb 0 x.path.depth ≡ b
              → Sees m x k (cond (a && b) (Settle x.verdict.outcome) (Finish x.verdict.outcome)) (set m.words c x.pending.made)
          by true u true v = Sees.settles e c l h u (ltb-true 0 x.path.depth v)
          by true u false v = let z = ltb-false 0 x.path.depth v in Sees.finishes e c l h (inr (omega arith))
          by false u b v = Sees.finishes e c l h (inl u)

    clean_no : x.phase ≡ Clean → Sees m x k (missed x) m.words
    clean_no e = cond_both (is_settled x) _ _ (λ p. Sees m x k p m.words) (λ u. Sees.misses e u) (λ u. Sees.gives_up_lem e u)

    -- A phase that reads the cell it looks at, and one that swaps it.
    reads_at : (phase : Phase) → x.phase ≡ phase
        → ((c : ℕ) → looked_at phase x ≡ Some c → (n : ℕ) → slice_get m.words c ≡ Some n → (o : Option Main) → main_at m.mains n ≡ o → Sees m x k (decided same hash (saw_main m.words n o).seen x k m) (saw_main m.words n o).words)
        → (o : Option ℕ) → looked_at phase x ≡ o → Sees m x k (decided same hash (read_of m o).seen x k m) (read_of m o).words
    reads_at phase e f None g = Sees.unfit (Unfit.nowhere (looked phase e None g))
    reads_at phase e f (Some c) g = read_word c phase e g (f c g) (slice_get m.words c) refl

    swaps_at : (phase : Phase) → x.phase ≡ phase
        → ((c : ℕ) → looked_at phase x ≡ Some c → slice_get m.words c ≡ Some x.pending.expected → Sees m x k (decide same hash phase (Swapped true) x k m) (set m.words c x.pending.made))
        → Sees m x k (decide same hash phase (Swapped false) x k m) m.words
        → (o : Option ℕ) → looked_at phase x ≡ o → (let l = swap_of m o x.pending.expected x.pending.made in Sees m x k (decided same hash l.seen x k m) l.words)
    swaps_at phase e f denied None g = Sees.unfit (Unfit.nowhere (looked phase e None g))
    swaps_at phase e f denied (Some c) g = swap_word c phase e g (f c g) denied (slice_get m.words c) refl

    looks : (phase : Phase) → x.phase ≡ phase → is_idle phase ≡ false → Sees m x k (decided same hash (look phase x m).seen x k m) (look phase x m).words
    looks Idle e i = absurd (true≢false i)
    looks Read e i = reads_at Read e (λ c g. read_main c e g) (last_cell x) refl
    looks Swap e i = swaps_at Swap e (λ c g. swap_yes c e g) (Sees.loses e) (last_cell x) refl
    looks Climb e i = reads_at Climb e (λ c g. climb_main c e g) (last_cell x) refl
    looks Parent e i = reads_at Parent e (λ c g. parent_main c e g) (parent_cell x) refl
    looks Clean e i = swaps_at Clean e (λ c g w. Sees.cleans e c g w leaves) (clean_no e) (parent_cell x) refl

    -- The plan of an open seat with its key follows from what it sees.
    pub sees : is_idle x.phase ≡ false → Sees m x k (keyed same hash (Some k) x m).plan (keyed same hash (Some k) x m).words
    sees i = looks x.phase refl i
