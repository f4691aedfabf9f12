-- Every call keeps what is written, and what pending calls say of themselves.
use Rattle.std.proofs.Common.{◌≡◌, ℕ, suc, ◌-◌, ◌<◌, Bool, true, false, cond, ◌&&◌, leb, List, [], ◌∷◌, ◌++◌, length, set, Some, None, sym, refl, ap, ◌∙◌, subst, arith}
use mathlib.Core.List.Memᴰ
use mathlib.Core.List.{Memᴰ}
use Rattle.keys.specs.Routes.{chunk_at}
use Rattle.std.specs.List.{slice_get}
use Rattle.std.proofs.lemmas.Bool.{true≢false, and_parts, leb-true}
use Rattle.panel.specs.declared.Refusal.TheVariants.{MemoryUnfit, TableFull}
use Rattle.mains.specs.Nodes.{empty_node}
use Rattle.mains.specs.declared.Branch.TheVariants.{Pair as pair}
use Rattle.mains.specs.declared.Main.{Main}
use Rattle.mains.specs.declared.Main.TheVariants.{Node as node, Tomb as tomb}
use Rattle.rules.specs.Calls.{between, words_needed, mains_needed, format_refusal, formatted, with_call}
use Rattle.rules.specs.Edits.{Link, edited, makes_pair, adds_pair, links_of, first, rest, places}
use Rattle.rules.specs.History.{Does}
use Rattle.rules.specs.InUse.{is_pending}
use Rattle.rules.specs.Memory.{Memory, State, main_at}
use Rattle.rules.specs.Perform.{Picks, Picked, Takes, enough, full, seated, worded, quitted, going, chain_in, made_memory, pending_for, performed, value_of}
use Rattle.rules.specs.Seats.{seat_of, idle_seat, is_idle, is_put, hoping, prepared, new_cells}
use Rattle.rules.specs.declared.Call.{Call}
use Rattle.rules.specs.declared.Edit.{Edit}
use Rattle.rules.specs.declared.Figures.{Figures}
use Rattle.rules.specs.declared.NewCell.{NewCell}
use Rattle.rules.specs.declared.Outcome.{Outcome}
use Rattle.rules.specs.declared.Phase.{Phase}
use Rattle.rules.specs.declared.Phase.TheVariants.{Swap, Clean}
use Rattle.rules.specs.declared.Plan.{Plan}
use Rattle.rules.specs.declared.Plan.TheVariants.{Make}
use Rattle.rules.specs.declared.Reply.{Reply}
use Rattle.rules.specs.declared.Seat.{Seat}
use Rattle.rules.proofs.Freshness.{accepted}
use Rattle.theory.proofs.Calling.{Preserves, does_by}
use Rattle.theory.proofs.Chaining.{chain_in_lem, in_places, recorded_in, rest_in}
use Rattle.theory.proofs.Drafted.{drafts_pair, fine_drafted, fine_chain}
use Rattle.theory.proofs.Fineness.{fine_more, fine_empty, fine_kept, fine_replaced}
use Rattle.theory.proofs.Order.{all_idle}
use Rattle.theory.proofs.Owning.{Trod, trod_root, trod_more, owns_walking, last_owned, parent_owned, stock, read_written, reseat}
use Rattle.theory.proofs.ListPlaces.{Standing, stands_set}
use Rattle.theory.proofs.Poising.{keeps_poised}
use Rattle.theory.proofs.Sights.{Reads, Leaves, Sees}
use Rattle.theory.proofs.Steady.{new_size, never}
use Rattle.theory.proofs.Stocking.{Stock, main_from, stock_swap, stock_made, made_picked, pair_picked}
use Rattle.theory.proofs.Writing.{Written, Poised, Owns, Fine, is_burying}
use Rattle.theory.specs.Records.{Steady}

-- The first of some cells, or the root if there is none.
first_joined : (xs ys : List ℕ) → Memᴰ 0 ys → Memᴰ (first xs) (xs ++ ys)
first_joined [] ys m = m
first_joined (x ∷ xs) ys m = Memᴰ.head refl

module _ {K : Type 0} (same : K → K → Bool) (hash : K → ℕ) {s : State K} (k : Written s) (t : ℕ) where
  abbrev x : Seat
  x = seat_of s t

  -- What is written, with these words.
  abbrev Stocked : List ℕ → Type 0
  Stocked words = Stock k.cells k.mains (worded s.memory words)

  -- The seat goes on with nothing prepared, or is freed, and the stock has the same places.
  walks : (words : List ℕ) → Stocked words → (n : ℕ) (y : Seat) → is_pending y.phase ≡ false → (is_burying y.phase ≡ true → y.buried < length s.memory.pairs) → Trod k.cells y.path.cells y.path.depth
      → Written (seated s (worded s.memory words) t y n)
  walks words st n y p b f = reseat k [] [] (seated s (worded s.memory words) t y n) t y refl refl st (λ _. owns_walking y p b f)

  idles : (words : List ℕ) → Stocked words → (n : ℕ) → Written (seated s (worded s.memory words) t idle_seat n)
  idles words st n = reseat k [] [] (seated s (worded s.memory words) t idle_seat n) t idle_seat refl refl st (λ o. absurd (true≢false o))

  module _ (o : Owns k.cells k.mains (length s.memory.pairs) x) where
    -- What is prepared: a fine main and the fine mains of new cells, for a swap of the main n, which is written.
    makes : (edit : Edit) (phase : Phase) (n : ℕ) (r : Outcome) (picks : Picks) (words : List ℕ) → Picked same hash s edit picks → Memᴰ n k.mains
        → (is_burying phase ≡ true → x.buried < length s.memory.pairs) → (phase ≡ Swap → is_put x.ask ≡ true → makes_pair edit ≡ true)
        → ((makes_pair edit ≡ true → first picks.pairs < length s.memory.pairs) → Fine (picks.cells ++ k.cells) (length s.memory.pairs) (edited edit (first picks.pairs) (first picks.cells)))
        → ((makes_pair edit ≡ true → first picks.pairs < length s.memory.pairs) → (i : Link) → Memᴰ i (chain_in edit picks) → Fine (picks.cells ++ k.cells) (length s.memory.pairs) i.holds)
        → Written (performed same hash s t words (Make edit phase n r) picks).state
    makes edit phase n r picks words picked m b w fine linked = by (enough edit picks) refl (adds_pair edit && full same hash s t (links_of edit))
      where
        y : Seat
        y = prepared (hoping x r) phase (pending_for edit n picks)

        news : (i : NewCell) → Memᴰ i (new_cells y) → Memᴰ i.cell (picks.cells ++ k.cells) × Memᴰ i.main (picks.mains ++ k.mains)
        news i e =
            let j = in_places (chain_in edit picks) i (recorded_in (places (chain_in edit picks)) i e) in
            let h = chain_in_lem (first picks.pairs) picks.cells (rest picks.mains) edit j.0 j.1 in
            (Memᴰ.append_left k.cells (Memᴰ.cast (ap (λ (c : NewCell). c.cell) j.2) h.0), Memᴰ.append_left k.mains (rest_in picks.mains _ (Memᴰ.cast (ap (λ (c : NewCell). c.main) j.2) h.1)))

        owns : enough edit picks ≡ true → Owns (picks.cells ++ k.cells) (picks.mains ++ k.mains) (length s.memory.pairs) y
        owns e =
            record {
              path = λ i l. Memᴰ.append_right picks.cells (o.path i l);
              buried = b;
              expected = λ _. Memᴰ.append_right picks.mains m;
              made = λ _. Memᴰ.append_left k.mains (made_picked same hash picked e);
              pair = λ q a. pair_picked same hash picked e (w q a);
              news = λ q. news;
            }

        by : (b : Bool) → enough edit picks ≡ b → (c : Bool) → Written (cond b (cond c (quitted s t TableFull) (going s t (made_memory s t edit picks) y None)) (Rattle.rules.specs.Perform.refused s t MemoryUnfit)).state
        by false e c = k
        by true e true = idles s.memory.words (stock k) (suc s.table.ticks)
        by true e false =
            let p = pair_picked same hash picked e in
            reseat k picks.cells picks.mains (seated s (made_memory s t edit picks) t y (suc s.table.ticks)) t y refl
            (new_size s.memory.pairs (makes_pair edit) (slice_get s.memory.keys t) (value_of x.ask) (first picks.pairs))
            (stock_made same hash picked e (stock k) t (fine p) (linked p)) (λ _. owns e)

    -- A swap that says yes writes a written main.
    swapped : (c : ℕ) → is_pending x.phase ≡ true → Memᴰ c k.cells → Stocked (set s.memory.words c x.pending.made)
    swapped c e m = stock_swap c x.pending.made m (o.made e) (stock k)

    -- The plans, by what was seen.
    leaves : (words : List ℕ) (picks : Picks) (p : Plan) → Stocked words → Leaves same hash x p → Written (performed same hash s t words p picks).state
    leaves words picks p st (Leaves.closes u l) = idles words st _
    leaves words picks p st (Leaves.drops u l) = walks words st _ _ refl never (λ i e. o.path i (omega (arith, e)))
    leaves words picks p st (Leaves.restarts u) = walks words st _ _ refl never (trod_root k.root)

    reads : (key : K) (n : ℕ) (picks : Picks) → Memᴰ n k.mains → (y : Main) (p : Plan) → Fine k.cells (length s.memory.pairs) y → Reads same hash s.memory x key n y p → Takes same hash s p picks
        → Written (performed same hash s t s.memory.words p picks).state
    reads key n picks m y p f (Reads.missing i j b h) u = k
    reads key n picks m y p f (Reads.grows i d b) u =
        walks s.memory.words (stock k) _ _ refl never (trod_more x.path.cells x.path.depth d k.root (f.inner d (_, b)) o.path)
    reads key n picks m y p f (Reads.meets i) u = walks s.memory.words (stock k) _ _ refl (λ _. f.paired i refl) o.path
    reads key n picks m y p f (Reads.drafts {edit = edit} {r = r} d) u =
        let g = fine_more (λ c m. Memᴰ.append_right picks.cells m) f in
        makes edit Swap n r picks s.memory.words u m never (λ _ a. drafts_pair same hash d a)
        (λ b. fine_drafted same hash (first picks.pairs) (first picks.cells) g d b (first_joined picks.cells k.cells k.root))
        (λ b. fine_chain same hash (first picks.pairs) picks.cells (rest picks.mains) g d b (Memᴰ.append_right picks.cells k.root) (λ c m. Memᴰ.append_left k.cells m))
    reads key n picks m y p f _ u = idles s.memory.words (stock k) _

    sees : (key : K) (picks : Picks) (p : Plan) (words : List ℕ) → Sees same hash s.memory x key p words → Takes same hash s p picks → Written (performed same hash s t words p picks).state
    sees key picks p words (Sees.unfit e) u = k
    sees key picks p words (Sees.reads e c n y l h g d) u = let w = read_written k same hash c n y (last_owned x c o l) h in reads key n picks w.0 y p w.1 d u
    sees key picks p words (Sees.settles e c l h a d) u = walks words (swapped c (ap is_pending e) (last_owned x c o l)) _ _ refl never o.path
    sees key picks p words (Sees.finishes e c l h d) u = idles words (swapped c (ap is_pending e) (last_owned x c o l)) _
    sees key picks p words (Sees.buries e c n i l h d) u =
        walks words (stock k) _ _ refl (λ _. (read_written k same hash c n (tomb i) (last_owned x c o l) h).1.paired i refl) o.path
    sees key picks p words (Sees.climbs_close e c n y l h b d) u = idles words (stock k) _
    sees key picks p words (Sees.climbs_drop e c n y l h b d) u = walks words (stock k) _ _ refl never (λ i a. o.path i (omega (arith, a)))
    sees key picks p words (Sees.contracts e c n y l h g b) u =
        let w = read_written k same hash c n (node y) (parent_owned x c o l) h in
        let below = o.buried (ap is_burying e) in
        makes _ Clean n _ picks words u w.0 (λ _. below) (λ q. absurd (true≢false (ap is_burying q)))
        (λ _. fine_more (λ c m. Memᴰ.append_right picks.cells m) (fine_kept (x.path.depth - 1) _ (fine_replaced y (chunk_at (hash key) (x.path.depth - 1)) (pair x.buried) w.1 below)))
        (λ _ i m. elim m [ ])
    sees key picks p words (Sees.parts e c n y l h b d) u = leaves words picks p (stock k) d
    sees key picks p words (Sees.cleans e c l h d) u = leaves words picks p (swapped c (ap is_pending e) (parent_owned x c o l)) d
    sees key picks p words (Sees.misses e b) u = walks words (stock k) _ _ refl (λ _. o.buried (ap is_burying e)) o.path
    sees key picks p words _ u = walks words (stock k) _ _ refl never (trod_root k.root)

module _ {K : Type 0} (same : K → K → Bool) (hash : K → ℕ) {f : Figures} where
  pub fresh_written : (m : Memory K) → format_refusal f m ≡ None → Written (formatted f m)
  fresh_written m e =
      let a = accepted f m e in
      let c = leb-true 1 f.cells (and_parts (leb 1 f.cells) _ (and_parts (between 1 f.cells 4096) _ (and_parts (between 1 f.seats 8) _ a.0).1).0).0 in
      let w = and_parts (leb (words_needed f) (length m.words)) _ a.1 in
      let x = and_parts (leb (mains_needed f) (length m.mains)) _ w.1 in
      let lw = leb-true (words_needed f) (length m.words) w.0 in
      let lm = leb-true (mains_needed f) (length m.mains) x.0 in
      let h = stands_set (λ n. Memᴰ n (0 ∷ [])) m.words 0 0 (Memᴰ.head refl) (omega (arith, c, lw)) in
      let g = stands_set (Fine (0 ∷ []) (length m.pairs)) m.mains 0 (node empty_node) fine_empty (omega (arith, c, lm)) in
      record {
        cells = 0 ∷ [];
        mains = 0 ∷ [];
        root = Memᴰ.head refl;
        held = λ d i. subst (Standing (λ n. Memᴰ n (0 ∷ [])) (set m.words 0 0)) (sym (Memᴰ.eq_of_singleton i)) h;
        there = λ n i. subst (λ j. (y : Main) × (main_at (set m.mains 0 (node empty_node)) j ≡ Some y) × Fine (0 ∷ []) (length m.pairs) y) (sym (Memᴰ.eq_of_singleton i)) (g.0, main_from _ 0 g.0 (omega arith) g.1, g.2);
        seats = λ t i. absurd (true≢false (ap (λ (x : Seat). is_idle x.phase) (sym (all_idle 8 t)) ∙ i));
      }

  pub does_written : (s : State K) (c : Call K) (r : Reply) (z : State K) → Does same hash s c r z → Steady f s → Written s → Written z
  does_written s c r z d w k = does_by same hash Written s kept c r z d
    where
      kept : Preserves same hash Written s
      kept =
          record {
            stays = k;
            opens = λ t ask key. reseat k [] [] (with_call s t ask key) t _ refl refl (record { root = k.root; held = k.held; there = k.there }) (λ _. owns_walking _ refl never (trod_root k.root));
            frees = λ t. idles same hash k t s.memory.words (stock k) s.table.ticks;
            turns = λ t key picks i p words. sees same hash k t (k.seats t i) key picks p words;
          }

  pub does_poised : (s : State K) (c : Call K) (r : Reply) (z : State K) → Does same hash s c r z → Steady f s
      → ((t : ℕ) → is_idle (seat_of s t).phase ≡ false → Poised (seat_of s t)) → (t : ℕ) → is_idle (seat_of z t).phase ≡ false → Poised (seat_of z t)
  does_poised s c r z d w k t o = keeps_poised same hash s w k c r z d t o
