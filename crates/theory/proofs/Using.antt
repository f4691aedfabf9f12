-- What the machine reaches and uses, the rules reach and use; and each cell of an open call's path can be read.
use Rattle.std.proofs.Common.{◌≡◌, ℕ, zero, suc, ◌≤◌, Bool, true, false, cond, ◌⊎◌, List, length, get_or, Some, None, sym, refl, ap, ◌∙◌, subst, inl, inr, arith}
use mathlib.Core.List.{Memᴰ}
use native.Mathlib.Decide.{ℕ_discrete}
use Rattle.keys.specs.Laws.{KeyLaws}
use Rattle.keys.specs.Routes.{chunk_at}
use Rattle.std.specs.List.{slice_get}
use Rattle.std.proofs.lemmas.Bool.{and_parts, leb-true, true≢false}
use Rattle.std.proofs.lemmas.Option.{get_or_from_slice_get}
use Rattle.machine.proofs.Inv.{At, SeatOK}
use Rattle.machine.proofs.Walk.{root_is, walk_back}
use Rattle.machine.specs.Machine.{Entry, Seat as Place, idle, path, IsTomb, HasPair, Expects, MakesMain, MakesPair, MakesCell, Main as Shape, word, view, main as main_of}
use Rattle.machine.specs.Machine.{CellInUse as UsedCell, MainInUse as UsedMain, PairInUse as UsedPair}
use Rattle.machine.specs.Rules.{Kept as Ruling}
use Rattle.machine.specs.Tree.{Agree, In, walk}
use Rattle.mains.specs.declared.Main.{Main}
use Rattle.mains.specs.declared.Main.TheVariants.{Node as node, Tomb as tomb, List as listing}
use Rattle.rules.proofs.Following.{followed}
use Rattle.rules.specs.InUse.{CellInUse, MainInUse, PairInUse, is_pending}
use Rattle.rules.specs.Memory.{State, main_in, main_at, then}
use Rattle.rules.specs.Reached.{Reached, ReachedPair, is_tomb}
use Rattle.rules.specs.Seats.{seat_of, is_idle, path_cells, new_cells}
use Rattle.rules.specs.Sound.{sound, sound_in, if_sound}
use Rattle.rules.specs.declared.Figures.{Figures}
use Rattle.rules.specs.declared.NewCell.{NewCell}
use Rattle.rules.specs.declared.Phase.TheVariants.{Swap}
use Rattle.theory.proofs.Ground.{Ground}
use Rattle.theory.proofs.Names.{pair_in_lem, names_pair, is_tomb_lem}
use Rattle.theory.proofs.Passing.{path_at, on_path, cell_at, expects_at, makes_main, makes_cell, makes_pair_lem}
use Rattle.theory.proofs.Reaching.{shows, named, shows_reach}
use Rattle.theory.proofs.Seating.{shown_state, shown_seat}
use Rattle.theory.proofs.ShownMemory.{shows_memory}
use Rattle.theory.proofs.Sights.{Holds}
use Rattle.theory.proofs.Soundness.{nth_there, sound_node_lem, sound_list_lem, sound_tomb}
use Rattle.theory.proofs.Writing.{Fine, NamesCell}
use Rattle.theory.specs.Reaching.{Leads, Intact}
use Rattle.theory.specs.Records.{Kept}
use Rattle.theory.specs.Shown.{shown_mem, shown_main}

module _ {K : Type 0} (same : K → K → Bool) (hash : K → ℕ) where
  -- A cell can be read at an index: it holds a sound main, and unless that is a tomb, the key's hash leads to the cell.
  pub record Readable (s : State K) (cells : List ℕ) (k : K) (i c : ℕ) : Type 0 where
    pub number : ℕ
    pub main : Main
    pub holds : Holds same hash s.memory c number main
    pub fine : Fine cells (length s.memory.pairs) main
    pub keeps : sound same hash s.memory.pairs i main ≡ true
    pub shown : main_of (shown_mem s.memory) (word (shown_mem s.memory) c) ≡ shown_main main
    pub leads : is_tomb main ≡ false → Leads s.memory (hash k) i c

module _ {K : Type 0} (same : K → K → Bool) (hash : K → ℕ) (laws : KeyLaws same hash) {f : Figures} {es : List (Entry K)} {s : State K} {xs : List (Place K)} (g : Ground same hash f es s xs) where
  -- An open call has its key.
  pub key_of : (t : ℕ) → is_idle (seat_of s t).phase ≡ false → (k : K) × (slice_get s.memory.keys t ≡ Some k)
  key_of t o = grind (arith, and_parts, leb-true, nth_there)

  -- WRITTEN CELLS

  -- What a written cell holds.
  record Stock (c : ℕ) : Type 0 where
    number : ℕ
    main : Main
    holds : Holds same hash s.memory c number main
    fine : Fine g.written.cells (length s.memory.pairs) main
    inside : main_in s.memory c ≡ Some main
    shown : main_of (shown_mem s.memory) (word (shown_mem s.memory) c) ≡ shown_main main

  stock : (c : ℕ) → Memᴰ c g.written.cells → Stock c
  stock c w =
      let h = g.written.held c w in
      let x = g.written.there h.0 h.2 in
      record {
        number = h.0;
        main = x.0;
        holds = record { word = h.1; main = x.1 };
        fine = x.2;
        inside = ap (λ o. then o (main_at s.memory.mains)) h.1 ∙ x.1;
        shown = ap (main_of (shown_mem s.memory)) ((shows_memory K).word_at s.memory c h.0 h.1) ∙ (shows_memory K).main_at_lem s.memory h.0 x.0 x.1;
      }

  -- What is led to was written.
  pub leads_written : (h i c : ℕ) → Leads s.memory h i c → Memᴰ c g.written.cells
  leads_written h zero c l = subst (λ (d : ℕ). Memᴰ d g.written.cells) (root_is chunk_at (view (shown_mem s.memory)) h c l) g.written.root
  leads_written h (suc i) c l =
      let b = walk_back chunk_at (view (shown_mem s.memory)) h i c l in
      let z = stock b.0 (leads_written h i b.0 b.1) in
      let n = named same hash s.memory z.main (chunk_at h i) c (sym (shows same hash s.memory b.0 (chunk_at h i) z.main z.inside) ∙ b.2) in
      z.fine.inner c (subst (λ (x : Main). NamesCell x c) (sym n.1) (chunk_at h i, n.2))

  -- The main of a written cell that is led to keeps the rules of its index.
  sound_led : (h i c : ℕ) → Leads s.memory h i c → (z : Stock c) → sound same hash s.memory.pairs i z.main ≡ true
  sound_led h i c l z = by z.main z.fine z.inside (subst (Ruling same (shown_mem s.memory).pairs i) z.shown (g.lawful.ruled h i c l))
    where
      by : (x : Main) → Fine g.written.cells (length s.memory.pairs) x → main_in s.memory c ≡ Some x → Ruling same (shown_mem s.memory).pairs i (shown_main x) → sound same hash s.memory.pairs i x ≡ true
      by (node n) fine e r = sound_node_lem n fine.formed i r.rule
      by (tomb p) fine e r = sound_tomb same hash laws s.memory i p r.rule (g.inv.shape.low h i c l) (fine.paired p refl)
      by (listing y) fine e r =
          sound_list_lem same hash laws s.memory h i y fine.formed fine.paired r.rule
          (λ p j. subst (λ (n : ℕ). Agree chunk_at (hash p.0) h n) r.rule.0 (g.inv.shape.placed h i c 0 _ p l (shows same hash s.memory c 0 (listing y) e) j).agrees)

  found_sound : (h i c : ℕ) → Leads s.memory h i c → (z : Stock c) → sound_in same hash s.memory i c ≡ Some z.main
  found_sound h i c l z =
      ap (λ o. then o (if_sound same hash s.memory.pairs i)) z.inside ∙ ap (λ (b : Bool). cond b (Some z.main) None) (sound_led h i c l z)

  pub intact : Intact same hash s.memory
  intact =
      record {
        inside = g.inv.shape.in_words;
        main = λ h i c l. (stock c (leads_written h i c l)).main;
        keeps = λ h i c l. found_sound h i c l (stock c (leads_written h i c l));
      }

  -- Led to in the memory shown and reached by the rules are the same.
  pub leads_reached : (h i c : ℕ) → Leads s.memory h i c → Reached same hash s.memory i c
  leads_reached h i c l =
      (followed same hash s.memory).reached i _ c ((followed same hash s.memory).stands i h c ((shows_reach same hash s.memory).back intact h i c l))

  pub reached_leads : (i c : ℕ) → Reached same hash s.memory i c → (h : ℕ) × Leads s.memory h i c
  reached_leads i c r =
      let p = (followed same hash s.memory).prefixed i c r in
      (p.0, (shows_reach same hash s.memory).leads p.0 i c ((followed same hash s.memory).leads i p.0 c p.1).1)

  -- A seat of the machine that is not idle shows the record of an open call.
  opened : (P : Place K → Type 0) → (P idle → ⊥) → (t : ℕ) → P (get_or xs t idle) → (is_idle (seat_of s t).phase ≡ false) × (k : K) × P (shown_seat (seat_of s t) k)
  opened P none t p = by (is_idle (seat_of s t).phase) refl
    where
      by : (b : Bool) → is_idle (seat_of s t).phase ≡ b → (is_idle (seat_of s t).phase ≡ false) × (k : K) × P (shown_seat (seat_of s t) k)
      by true o = absurd (none (subst P (g.shows.idles t o) p))
      by false o = let k = key_of t o in (o, k.0, subst P (g.shows.calls t k.0 o k.1) p)

  -- READING

  root_led : (h : ℕ) → Leads s.memory h 0 0
  unfolding walk
  root_led h = refl

  -- A tomb below the root keeps the rules.
  entombed : (i : ℕ) → 1 ≤ i → i ≤ 7 → (x : Main) → Fine g.written.cells (length s.memory.pairs) x → IsTomb (shown_main x) → sound same hash s.memory.pairs i x ≡ true
  entombed i l k (tomb p) fine t = sound_tomb same hash laws s.memory i p l k (fine.paired p refl)
  entombed i l k _ fine t = absurd t

  -- A written cell can be read where it is led to, and where it holds a tomb below the root.
  read_led : (k : K) (i c : ℕ) → Stock c → Leads s.memory (hash k) i c → Readable same hash s g.written.cells k i c
  read_led k i c z w =
      record { number = z.number; main = z.main; holds = z.holds; fine = z.fine; keeps = sound_led (hash k) i c w z; shown = z.shown; leads = λ _. w }

  read_tomb : (k : K) (i c : ℕ) → Stock c → 1 ≤ i → i ≤ 7 → IsTomb (main_of (shown_mem s.memory) (word (shown_mem s.memory) c)) → Readable same hash s g.written.cells k i c
  read_tomb k i c z l m d = grind (arith, entombed, true≢false, is_tomb_lem)

  -- The root, and each cell of an open call's path, can be read.
  pub readable : (t : ℕ) (k : K) → is_idle (seat_of s t).phase ≡ false → slice_get s.memory.keys t ≡ Some k → (i : ℕ) → i ≤ (seat_of s t).path.depth
      → Readable same hash s g.written.cells k i (get_or (seat_of s t).path.cells i 0)
  readable t k o e i l = by (ℕ_discrete i 0) (cell_at same hash (shown_mem s.memory) k (seat_of s t).phase (seat_of s t) o kept.above ok i l)
    where
      kept : Kept (seat_of s t)
      kept = (g.steady.calls t o).1

      ok : SeatOK same hash chunk_at (shown_mem s.memory) (shown_seat (seat_of s t) k)
      ok = subst (SeatOK same hash chunk_at (shown_mem s.memory)) (g.shows.calls t k o e) (g.inv.seats.ok t)

      z : Stock (get_or (seat_of s t).path.cells i 0)
      z = stock (get_or (seat_of s t).path.cells i 0) ((g.written.seats t o).path i l)

      at_root : i ≡ 0 → Leads s.memory (hash k) i (get_or (seat_of s t).path.cells i 0)
      at_root q =
          subst (λ (j : ℕ). Leads s.memory (hash k) j (get_or (seat_of s t).path.cells j 0)) (sym q)
          (subst (λ (c : ℕ). Leads s.memory (hash k) 0 c) (sym (get_or_from_slice_get (seat_of s t).path.cells 0 0 0 kept.root)) (root_led (hash k)))

      by : Dec (i ≡ 0) → At same hash chunk_at (shown_mem s.memory) k i (get_or (seat_of s t).path.cells i 0) → Readable same hash s g.written.cells k i (get_or (seat_of s t).path.cells i 0)
      by (yes q) a = read_led k i (get_or (seat_of s t).path.cells i 0) z (at_root q)
      by (no ne) (inl w) = read_led k i (get_or (seat_of s t).path.cells i 0) z w
      by (no ne) (inr d) = let m = kept.short in read_tomb k i (get_or (seat_of s t).path.cells i 0) z (omega arith) (omega (arith, m, l)) d

  -- USE

  -- A cell of the path of a seat of the machine is one of the path of an open call, and was written.
  passes : (t c : ℕ) → In c (path (get_or xs t idle)) → (is_idle (seat_of s t).phase ≡ false) × Memᴰ c (path_cells (seat_of s t)) × Memᴰ c g.written.cells
  passes t c m =
      let q = opened (λ (y : Place K). In c (path y)) (λ j. elim j [ ]) t m in
      let kept = (g.steady.calls t q.0).1 in
      let r = path_at (seat_of s t).phase (seat_of s t) q.1 c q.0 kept.above q.2 in
      let short = kept.short in
      let eight = kept.slots in (
        q.0,
        subst (λ (d : ℕ). Memᴰ d (path_cells (seat_of s t))) r.2 (on_path (seat_of s t) r.0 r.1 (omega (arith, short, eight))),
        subst (λ (d : ℕ). Memᴰ d g.written.cells) r.2 ((g.written.seats t q.0).path r.0 r.1),
      )

  -- What is in use in the machine is in use by the rules.
  pub cell_used : (c : ℕ) → UsedCell chunk_at (shown_state s xs) c → CellInUse same hash s c
  cell_used c (UsedCell.reached h i w) = CellInUse.reached (record { index = i; at = leads_reached h i c w })
  cell_used c (UsedCell.on_path t m) = let q = passes t c m in CellInUse.on_path t q.0 q.1
  cell_used c (UsedCell.made t m) =
      let q = opened (λ (y : Place K). MakesCell y c) (λ z. z) t m in
      let r = makes_cell (seat_of s t) q.1 (seat_of s t).phase c q.2 in
      CellInUse.made t r.0 r.1 r.2 r.3

  -- A word that shows in a written cell is the number that it holds.
  number_is : (c n : ℕ) (z : Stock c) → word (shown_mem s.memory) c ≡ n → z.number ≡ n
  number_is c n z e = sym ((shows_memory K).word_at s.memory c z.number z.holds.word) ∙ e

  pub main_used : (n : ℕ) → UsedMain chunk_at (shown_state s xs) n → MainInUse same hash s n
  main_used n (UsedMain.reached h i c w e) =
      let z = stock c (leads_written h i c w) in
      let q = number_is c n z e in
      MainInUse.reached
      (record {
        index = i;
        cell = c;
        at = leads_reached h i c w;
        holds = z.holds.word ∙ ap Some q;
        main = z.main;
        there = ap (main_at s.memory.mains) (sym q) ∙ z.holds.main;
      })
  main_used n (UsedMain.expected t m) =
      let q = opened (λ (y : Place K). Expects y n) (λ z. z) t m in
      let r = expects_at (seat_of s t) q.1 (seat_of s t).phase n q.2 in
      MainInUse.expected t r.0 r.1
  main_used n (UsedMain.made t m) = let q = opened (λ (y : Place K). MakesMain y n) (λ z. z) t m in by (makes_main (seat_of s t) q.1 (seat_of s t).phase n q.2)
    where
      by : ((is_pending (seat_of s t).phase ≡ true) × ((seat_of s t).pending.made ≡ n)) ⊎ (((seat_of s t).phase ≡ Swap) × (y : NewCell) × Memᴰ y (new_cells (seat_of s t)) × (y.main ≡ n)) → MainInUse same hash s n
      by (inl r) = MainInUse.made t r.0 r.1
      by (inr r) = MainInUse.held t r.0 r.1 r.2 r.3
  main_used n (UsedMain.tomb_of t c m e d) =
      let q = passes t c m in
      let z = stock c q.2 in
      let j = number_is c n z e in
      MainInUse.entombing t c q.0 q.1 (z.holds.word ∙ ap Some j) z.main (ap (main_at s.memory.mains) (sym j) ∙ z.holds.main)
      (is_tomb_lem z.main (subst IsTomb (ap (main_of (shown_mem s.memory)) (sym e) ∙ z.shown) d))

  -- A pair that is named by the main of a cell to which a hash leads is reached.
  pub pair_reached : (h i c p : ℕ) → Leads s.memory h i c → HasPair (main_of (shown_mem s.memory) (word (shown_mem s.memory) c)) p → ReachedPair same hash s.memory p
  pair_reached h i c p w d =
      let z = stock c (leads_written h i c w) in
      let n = names_pair z.main p (subst (λ (x : Shape). HasPair x p) z.shown d) in
      record {
        index = i;
        cell = c;
        at = leads_reached h i c w;
        main = z.main;
        keeps = found_sound h i c w z;
        names = pair_in_lem z.main p z.fine.formed n;
        inside = z.fine.paired p n;
      }

  pub pair_used : (p : ℕ) → UsedPair chunk_at (shown_state s xs) p → PairInUse same hash s p
  pair_used p (UsedPair.reached h i c w d) = PairInUse.reached (pair_reached h i c p w d)
  pair_used p (UsedPair.made t m) =
      let q = opened (λ (y : Place K). MakesPair y p) (λ z. z) t m in
      let r = makes_pair_lem (seat_of s t) q.1 (seat_of s t).phase p q.2 in
      PairInUse.made t r.0 r.1 r.2
