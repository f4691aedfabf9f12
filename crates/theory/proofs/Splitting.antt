-- A put that meets another key's pair drafts a chain of new cells, in the words of the machine.
use Rattle.std.proofs.Common.{◌≡◌, ℕ, suc, ◌+◌, ◌<◌, ◌≤◌, Bool, false, T, ◌≢◌, ◌⊎◌, List, [], ◌∷◌, length, Some, sym, refl, ap, ◌∙◌, subst, inl, inr, ⊎_elim, arith}
use mathlib.Core.List.{Memᴰ}
use mathlib.Core.Option.{some}
use Rattle.keys.proofs.Chunks.{chunk_below, parting_parts}
use Rattle.keys.specs.Laws.{KeyLaws}
use Rattle.keys.specs.Routes.{chunk_at, Parts}
use Rattle.std.specs.List.{slice_get}
use Rattle.std.proofs.lemmas.Bool.{cases_lt, cond-true, cond-false, lt-ltb, le-ltb}
use Rattle.machine.specs.Machine.{Main as Shape, node as noded, many, main, put, Chain, Prepares}
use Rattle.mains.specs.Laws.{WellFormed}
use Rattle.mains.specs.Lists.{of_pairs}
use Rattle.mains.specs.Nodes.{branch_at, of_one, of_two}
use Rattle.mains.specs.declared.Branch.TheVariants.{Pair as pair, Cell as cell}
use Rattle.mains.specs.declared.Main.{Main}
use Rattle.mains.specs.declared.Main.TheVariants.{Node as node, List as listing}
use Rattle.mains.specs.declared.Node.{Node}
use Rattle.rules.specs.Edits.{edited, end_of, links_of, Link, link_main, linked, places, first}
use Rattle.rules.specs.Memory.{Memory, main_at}
use Rattle.rules.specs.declared.Edit.TheVariants.{Split}
use Rattle.rules.specs.declared.Fork.{Fork}
use Rattle.rules.specs.declared.Pair.{Pair}
use Rattle.theory.proofs.Seating.{news}
use Rattle.theory.proofs.Shown.{shows_edits}
use Rattle.theory.proofs.ShownMemory.{shows_memory}
use Rattle.theory.specs.Shown.{slot, slots, shown_mem, shown_main}

-- What a new cell holds before the end of its chain, and at the end below and at index 7.
module _ (f : Fork) (p i below : ℕ) where
  leads_on : i < end_of f → link_main f p i below ≡ node (of_one (chunk_at f.coming i) (cell below))
  leads_on l = cond-true _ _ _ (lt-ltb i (end_of f) l)

  parts_here : end_of f ≤ i → i < 7 → link_main f p i below ≡ node (of_two (chunk_at f.standing i) (pair f.pair) (chunk_at f.coming i) (pair p))
  parts_here e l = cond-false _ _ _ (le-ltb i (end_of f) e) ∙ cond-true _ _ _ (lt-ltb i 7 l)

  lists_both : end_of f ≤ i → 7 ≤ i → link_main f p i below ≡ listing (of_pairs f.pair p)
  lists_both e l = cond-false _ _ _ (le-ltb i (end_of f) e) ∙ cond-false _ _ _ (le-ltb i 7 l)

module _ {K : Type 0} (same : K → K → Bool) (hash : K → ℕ) (laws : KeyLaws same hash) where
  -- The fork of a put of the key k at an index, where the pair y stands in the place r.
  abbrev pub fork_of : Node → ℕ → K → ℕ → Pair K → Fork
  fork_of n index k r y = record { node = n; index = index; chunk = chunk_at (hash k) index; pair = r; standing = hash y.key; coming = hash k }

  -- From the next index on, the hashes part at the fork's end.
  ends_at : (n : Node) (index : ℕ) (k : K) (r : ℕ) (y : Pair K) → Parts (hash y.key) (hash k) (index + 1) (end_of (fork_of n index k r y))
  ends_at n index k r y = parting_parts (hash y.key) (hash k) (index + 1)

  -- The end is deeper than the fork.
  ends_below : (n : Node) (index : ℕ) (k : K) (r : ℕ) (y : Pair K) → index ≤ 6 → index + 1 ≤ end_of (fork_of n index k r y)
  ends_below n index k r y l =
      ⊎_elim (λ (a : index + 1 ≤ end_of (fork_of n index k r y)). a) (λ (e : end_of (fork_of n index k r y) ≡ 7). omega (arith, e, l)) (ends_at n index k r y).onward

  -- How many cells it needs: one at least, and none past index 7.
  pub fork_links : (n : Node) (index : ℕ) (k : K) (r : ℕ) (y : Pair K) → index ≤ 6
      → (1 ≤ links_of (Split (fork_of n index k r y))) × (index + links_of (Split (fork_of n index k r y)) ≤ 7)
  fork_links n index k r y l =
      let low = ends_below n index k r y l in
      let high = (ends_at n index k r y).inside in
      (omega (arith, low), omega (arith, low, high))

  module _ (z : Memory K) (k : K) (index p r : ℕ) (n : Node) (y : Pair K) where
    abbrev fork : Fork
    fork = fork_of n index k r y

    -- The mains of the chain from an index on are in the memory.
    abbrev Held : ℕ → List ℕ → List ℕ → Type 0
    Held i cells mains = (j : Link) → Memᴰ j (linked fork p i cells mains) → main_at z.mains j.place.main ≡ Some j.holds

    -- It is a chain of the machine, from the index j on.
    abbrev Chained : ℕ → ℕ → List ℕ → List ℕ → Type 0
    Chained j i cells mains = Chain same hash chunk_at (shown_mem z) k r p (y.key, y.value) j (news (places (linked fork p i cells mains)))

    -- A main place of the chain shows what its link holds.
    shown : (m i below : ℕ) (x : Main) → main_at z.mains m ≡ Some (link_main fork p i below) → link_main fork p i below ≡ x → main (shown_mem z) m ≡ shown_main x
    shown m i below x h e = (shows_memory K).main_at_lem z m x (h ∙ ap Some e)

    -- The chunks of the standing and of the coming key.
    abbrev old : ℕ → ℕ
    old i = chunk_at (hash y.key) i

    abbrev new : ℕ → ℕ
    new i = chunk_at (hash k) i

    -- The last cell: below index 7 it holds both pairs, at chunks that differ, and at 7 a list of both.
    last : (i c m : ℕ) → i ≡ end_of fork → main_at z.mains m ≡ Some (link_main fork p i 0) → Chained i i (c ∷ []) (m ∷ [])
    last i c m e h = by (cases_lt i 7)
      where
        apart : i < 7 → old i ≢ new i
        apart l =
            ⊎_elim (λ (ne : old (end_of fork) ≢ new (end_of fork)). subst (λ (j : ℕ). old j ≢ new j) (sym e) ne)
            (λ (s : end_of fork ≡ 7). absurd (omega (arith, e, s, l)))
            (ends_at n index k r y).apart

        by : (i < 7) ⊎ (7 ≤ i) → Chained i i (c ∷ []) (m ∷ [])
        by (inl l) =
            let lo = chunk_below (hash y.key) i in
            let ln = chunk_below (hash k) i in
            Chain.ends i c m (slots (of_two (old i) (pair r) (new i) (pair p))) (omega (arith, l))
            (shown m i 0 (node (of_two (old i) (pair r) (new i) (pair p))) h (parts_here fork p i 0 (omega (arith, e)) l))
            (apart l)
            (shows_edits.two_first (old i) (pair r) (new i) (pair p) lo ln (apart l))
            (shows_edits.two_second (old i) (pair r) (new i) (pair p) lo ln (apart l))
            (λ j. shows_edits.two_else (old i) (pair r) (new i) (pair p) j lo ln (apart l))
        by (inr l) =
            let high = (ends_at n index k r y).inside in
            Chain.ends_list i c m (omega (arith, e, high, l))
            (shown m i 0 (listing (of_pairs r p)) h (lists_both fork p i 0 (omega (arith, e)) l) ∙ ap many (shows_edits.lists_two r p))

    -- A cell before the last holds the next cell alone.
    inner : (i c d m o : ℕ) (cells mains : List ℕ) → index + 1 ≤ i → i < end_of fork
        → main_at z.mains m ≡ Some (link_main fork p i d) → Chained (suc i) (i + 1) (d ∷ cells) (o ∷ mains) → Chained i i (c ∷ d ∷ cells) (m ∷ o ∷ mains)
    inner i c d m o cells mains a b h onward =
        let low = chunk_below (hash k) i in
        Chain.links i c m d o (slots (of_one (new i) (cell d))) (news (places (linked fork p (i + 1 + 1) cells mains)))
        (shown m i d (node (of_one (new i) (cell d))) h (leads_on fork p i d b))
        ((ends_at n index k r y).together i a b)
        (shows_edits.one_here (new i) (cell d) low)
        (λ j. shows_edits.one_else (new i) (cell d) j low)
        onward

    -- The whole chain, from an index deeper than the fork up to its end.
    chained : (i : ℕ) (cells mains : List ℕ) → index + 1 ≤ i → i ≤ end_of fork → i + length cells ≡ suc (end_of fork) → length mains ≡ length cells
        → Held i cells mains → Chained i i cells mains
    chained i (c ∷ []) (m ∷ []) a b lc lm held = last i c m (omega arith) (held _ (Memᴰ.head refl))
    chained i (c ∷ d ∷ cells) (m ∷ o ∷ mains) a b lc lm held =
        let next : i + 1 ≡ suc i = omega arith in
        inner i c d m o cells mains a (omega arith) (held _ (Memᴰ.head refl))
        (subst (λ (j : ℕ). Chained j (i + 1) (d ∷ cells) (o ∷ mains)) next
        (chained (i + 1) (d ∷ cells) (o ∷ mains) (omega arith) (omega arith) (omega arith) (omega arith) (λ j t. held j (Memᴰ.tail t))))
    chained i _ _ a b lc lm held = absurd (omega arith)

  -- The memory z has the standing pair, the put's own pair in the place p, and the mains of the chain.
  pub splitted : (z : Memory K) (k : K) (v index p r : ℕ) (n : Node) (y : Pair K) (cells mains : List ℕ)
      → WellFormed n → index ≤ 6 → branch_at n (chunk_at (hash k) index) ≡ Some (pair r)
      → slice_get z.pairs r ≡ Some y → same y.key k ≡ false → slice_get z.pairs p ≡ Some (record { key = k; value = v })
      → length cells ≡ links_of (Split (fork_of n index k r y)) → length mains ≡ links_of (Split (fork_of n index k r y))
      → ((i : Link) → Memᴰ i (linked (fork_of n index k r y) p (index + 1) cells mains) → main_at z.mains i.place.main ≡ Some i.holds)
      → Prepares same hash chunk_at (shown_mem z) (shown_main (node n)) index (put k v) (shown_main (edited (Split (fork_of n index k r y)) p (first cells))) (some p)
      (news (places (linked (fork_of n index k r y) p (index + 1) cells mains)))
  splitted z k v index p r n y [] mains w l b hr t hp lc lm held = let some_link = (fork_links n index k r y l).0 in absurd (omega (arith, lc, some_link))
  splitted z k v index p r n y (c ∷ cells) [] w l b hr t hp lc lm held = let some_link = (fork_links n index k r y l).0 in absurd (omega (arith, lm, some_link))
  splitted z k v index p r n y (c ∷ cells) (m ∷ mains) w l b hr t hp lc lm held =
      let chunk = chunk_at (hash k) index in
      let low = chunk_below (hash k) index in
      let long = shows_edits.length_slots n in
      let below = ends_below n index k r y l in
      let more = news (places (linked (fork_of n index k r y) p (index + 1 + 1) cells mains)) in
      let next : index + 1 ≡ suc index = omega arith in
      subst (λ (x : Shape). Prepares same hash chunk_at (shown_mem z) (shown_main (node n)) index (put k v) x (some p) ((c, m) ∷ more))
      (ap noded (sym (shows_edits.replaces n chunk (cell c) (pair r) w b)))
      (Prepares.splits k v (slots n) r p (y.key, y.value) c m more refl (omega (arith, low, long))
      (shows_edits.slot_at n chunk low ∙ ap slot b)
      ((shows_memory K).pair_at z r y hr)
      (subst T t)
      ((shows_memory K).pair_at z p (record { key = k; value = v }) hp)
      (subst (λ (j : ℕ). Chained z k index p r n y j (index + 1) (c ∷ cells) (m ∷ mains)) next
      (chained z k index p r n y (index + 1) (c ∷ cells) (m ∷ mains) (omega arith) below (omega (arith, lc, below)) (lm ∙ sym lc) held)))
