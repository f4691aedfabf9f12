-- What a turn prepares meets what a pending swap rests on.
use native.Mathlib.Omega.{arith}
use mathlib.Core.Path.{◌≡◌, refl, sym, ap, ◌∙◌, subst}
use mathlib.Core.Bool.{Bool}
use mathlib.Core.List.{List, [], ◌∷◌, ◌++◌}
use mathlib.Core.Option.{Option, none, some}
use mathlib.Core.Logic.{◌⊎◌, inl, inr, ◌≢◌}
use Prim.Native.Nat.{ℕ, suc, ◌<◌}
use native.Mathlib.Decide.{ℕ_discrete}
use lib.Dec.{T}
use lib.ListN.{length, get_or, set}
use lib.Seq.{get_or-set_same, get_or-set_other}
use Rattle.machine.specs.Tree.{stands, on, Agree, walk, In, here, nth, Home}
use Rattle.machine.specs.Machine.{Branch, nothing, pair, cell, Main, node, tomb, many, IsTomb, IsFlat, gather, HasPair, Mem, spot, face, word, main, view, Op, put, renew, cutting, key, Prepares, Cleans}
use Rattle.machine.proofs.Laws.{Laws}
use Rattle.machine.proofs.Walk.{no_some, some_is, walk_on}
use Rattle.machine.proofs.Ready.{Ready}
use Rattle.machine.proofs.Worth.{none_pair}
use Rattle.machine.proofs.Members.{in_one, unlike, T?, in_last, find_last, find_lacks, cut_members, put_members}
use Rattle.machine.proofs.Outcomes.{ready_adds, ready_replaces, ready_flat, ready_drops, ready_entombs, ready_contracts, ready_buries}
use Rattle.machine.proofs.Inv.{MainFree, PairFree, PathOK, Does, Same, cells, faces, Pend, Shape}
use Rattle.machine.proofs.Split.{no_pair, cell_pair, ready_splits, chain_names}
use Rattle.machine.proofs.Keep.{is_reached, view_cell, listed, lone_is}

not_tomb : (X : Main) (bs : List Branch) → X ≡ node bs → IsTomb X → ⊥
not_tomb X bs e t = rw e at t

-- The pairs that a branch node names after one branch is set.
set_names : (bs : List Branch) (q : ℕ) (b : Branch) (p : ℕ) → q < length bs → HasPair (node (set bs q b)) p → HasPair (node bs) p ⊎ (b ≡ pair p)
set_names bs q b p l x = elim (ℕ_discrete x.0 q) [
  | yes e ↦ inr (sym (get_or-set_same bs q b nothing l) ∙ (rw e at x.1))
  | no e ↦ inl (x.0, sym (get_or-set_other bs q x.0 b nothing e) ∙ x.1)
]

-- The pairs of a list with one more place at its end.
pub gather_last : {K : Type 0} (pairs : List (K × ℕ)) (ps : List ℕ) (p : ℕ) (x : K × ℕ) → nth pairs p ≡ some x
    → gather pairs (ps ++ (p ∷ [])) ≡ gather pairs ps ++ (x ∷ [])
gather_last pairs [] p x e = rw e
gather_last pairs (r ∷ ps) p x e = rw (gather_last pairs ps p x e) (grind arith)

pair_is : {p r : ℕ} → pair p ≡ pair r → p ≡ r
pair_is e = cc

-- The pair at a place of a list is one of the list's pairs.
pub gather_in : {K : Type 0} (pairs : List (K × ℕ)) (ps : List ℕ) (p : ℕ) (x : K × ℕ) → In p ps → nth pairs p ≡ some x → In x (gather pairs ps)
gather_in pairs [] p x j e = elim j [ ]
gather_in pairs (r ∷ ps) p x (In.here) e = rw e here
gather_in pairs (r ∷ ps) p x (In.later j) e = let i = gather_in pairs ps p x j e in grind (arith, In.later)

module _ {K : Type 0} (same : K → K → Bool) (hash : K → ℕ) (chunk : ℕ → ℕ → ℕ) (laws : Laws same hash) (m : Mem K) (shape : Shape same hash chunk m) where
  -- What a branch node shows after one branch is set.
  spot_set_here : (bs : List Branch) (q : ℕ) (b : Branch) → q < length bs → face m.pairs (node (set bs q b)) q ≡ spot m.pairs b
  spot_set_here bs q b l = rw (get_or-set_same bs q b nothing l)

  spot_set_there : (bs : List Branch) (q j : ℕ) (b : Branch) → j ≢ q → face m.pairs (node (set bs q b)) j ≡ face m.pairs (node bs) j
  spot_set_there bs q j b ne = rw (get_or-set_other bs q j b nothing ne)

  -- The pairs of a reached branch node are at home.
  home_of : (k : K) (a c : ℕ) (bs : List Branch) → walk chunk (view m) (hash k) a ≡ some c → main m (word m c) ≡ node bs
      → (q : ℕ) (ps : List (K × ℕ)) (x : K × ℕ) → face m.pairs (node bs) q ≡ stands ps → In x ps → Home hash chunk ⊥ (hash k) a q x
  unfolding view
  home_of k a c bs w e q ps x f i =
      rw e at (shape.placed (hash k) a c q ps x w (rw e f) i)

  -- The new cells hold their mains, and neither they nor their mains are reached.
  pub record NewOK (new : List (ℕ × ℕ)) : Type 0 where
    pub holds : (t d x : ℕ) → nth new t ≡ some (d, x) → word m d ≡ x
    pub inside : (t d x : ℕ) → nth new t ≡ some (d, x) → d < length m.words
    pub cells_free : (t d x : ℕ) → nth new t ≡ some (d, x) → (h i : ℕ) → walk chunk (view m) h i ≡ some d → ⊥
    pub mains_free : (t d x : ℕ) → nth new t ≡ some (d, x) → MainFree same hash chunk m x
    pub once : (t u d x y : ℕ) → nth new t ≡ some (d, x) → nth new u ≡ some (d, y) → t ≡ u

  module _ (c : ℕ) (cs : List ℕ) (e n : ℕ) (X : Main) (we : word m c ≡ e) (mx : main m e ≡ X) (free : MainFree same hash chunk m n) where
    main_c : main m (word m c) ≡ X
    main_c = rw we mx

    -- The cell that is read is reached, if it holds a branch node.
    reach : (k : K) (bs : List Branch) → X ≡ node bs → PathOK same hash chunk m k (c ∷ cs) → walk chunk (view m) (hash k) (length cs) ≡ some c
    reach k bs x p = is_reached same hash chunk m k (length cs) c p.0 (λ t. not_tomb X bs x (rw main_c at t))

    -- What all preparations of a put or a cut share.
    pend_of : (Y : Main) → main m n ≡ Y → (R : K → Option (K × ℕ) → Option (K × ℕ) → Type 0) (k : K) (mp : Option ℕ) (new : List (ℕ × ℕ)) → NewOK new → (Z : Main) → X ≡ Z → (IsTomb Z → ⊥) → PathOK same hash chunk m k (c ∷ cs)
        → ((p : ℕ) → mp ≡ some p → PairFree same hash chunk m p)
        → ((p : ℕ) → HasPair Y p → HasPair Z p ⊎ (mp ≡ some p))
        → ((t d x p : ℕ) → nth new t ≡ some (d, x) → HasPair (main m x) p → HasPair Z p ⊎ (mp ≡ some p))
        → Ready same hash chunk R (hash k) (length cs) (face m.pairs Z) (face m.pairs Y) (IsFlat Y) none (on 0) (cells new) (faces m new)
        → Pend same hash chunk R m k c cs e n mp none new
    pend_of Y my R k mp new nw Z x nt p pf nm nn r = record {
      holds = nw.holds;
      inside = nw.inside;
      cells_free = nw.cells_free;
      mains_free = nw.mains_free;
      once = nw.once;
      names_new = λ t d y p z w. elim (nn t d y p z w) [ inl v ↦ inl (rw (mx, x) v) | inr v ↦ inr v ];
      path = p;
      solid = λ t. nt (rw (mx, x) at t);
      n_free = free;
      p_free = pf;
      tomb_at_lem = λ d z. absurd (no_some z);
      links = λ d z. absurd (no_some z);
      names = λ p z. elim (nm p (rw my at z)) [ inl v ↦ inl (rw (mx, x) v) | inr v ↦ inr (inl v) ];
      ready = λ w. rw (my, mx, x) r;
    }

    -- The pairs of a reached list have its prefix.
    list_homes : (k : K) (ps : List ℕ) → X ≡ many ps → PathOK same hash chunk m k (c ∷ cs) → (x : K × ℕ) → In x (gather m.pairs ps)
        → Agree chunk (hash x.0) (hash k) (length cs)
    unfolding view
    list_homes k ps xe path x j =
        let w = is_reached same hash chunk m k (length cs) c path.0 (λ t. rw (main_c, xe) at t) in
        (shape.placed (hash k) (length cs) c 0 (gather m.pairs ps) x w (rw (main_c ∙ xe)) j).agrees

    -- Each thing that a read prepares meets what the pending swap rests on.
    pub prepares_pend : (Y : Main) → main m n ≡ Y → (o : Op K) (mp : Option ℕ) (new : List (ℕ × ℕ)) → NewOK new → PathOK same hash chunk m (key o) (c ∷ cs) → ((p : ℕ) → mp ≡ some p → PairFree same hash chunk m p)
        → Prepares same hash chunk m X (length cs) o Y mp new → Pend same hash chunk (Does same hash chunk o) m (key o) c cs e n mp none new
    prepares_pend Y my o mp new nw path pf (Prepares.adds k v bs p x l z slot) =
        pend_of _ my (Does same hash chunk (put k v)) k (some p) [] nw (node bs) x (λ t. t) path pf
        (λ r y. elim (set_names bs (chunk (hash k) (length cs)) (pair p) r l y) [ inl u ↦ inl u | inr u ↦ inr (ap some (pair_is u)) ])
        (λ t d x p z. absurd (no_some z))
        (ready_adds same hash chunk laws k (length cs) (face m.pairs (node bs)) (face m.pairs (node (set bs (chunk (hash k) (length cs)) (pair p)))) (faces m [])
        (home_of k (length cs) c bs (reach k bs x path) (main_c ∙ x)) v (rw z)
        (rw (spot_set_here bs (chunk (hash k) (length cs)) (pair p) l, slot)) (λ q ne. spot_set_there bs (chunk (hash k) (length cs)) q (pair p) ne))
    prepares_pend Y my o mp new nw path pf (Prepares.replaces k v bs r p x xe l z slot t slot_p) =
        pend_of _ my (Does same hash chunk (renew k v)) k (some p) [] nw (node bs) xe (λ t. t) path pf
        (λ r y. elim (set_names bs (chunk (hash k) (length cs)) (pair p) r l y) [ inl u ↦ inl u | inr u ↦ inr (ap some (pair_is u)) ])
        (λ t d x p z. absurd (no_some z))
        (ready_replaces same hash chunk laws k (length cs) (face m.pairs (node bs)) (face m.pairs (node (set bs (chunk (hash k) (length cs)) (pair p)))) (faces m [])
        (home_of k (length cs) c bs (reach k bs xe path) (main_c ∙ xe)) v x t (rw (z, slot))
        (rw (spot_set_here bs (chunk (hash k) (length cs)) (pair p) l, slot_p)) (λ q ne. spot_set_there bs (chunk (hash k) (length cs)) q (pair p) ne))
    prepares_pend Y my o mp new nw path pf (Prepares.extends k v ps p xe absent slot short) =
        pend_of _ my (Does same hash chunk (put k v)) k (some p) [] nw (many ps) xe (λ t. t) path pf
        (λ r y. elim (in_last ps p r y) [ inl u ↦ inl u | inr u ↦ inr (ap some u) ]) (λ t d x p z. absurd (no_some z))
        (ready_flat same hash chunk laws (Does same hash chunk (put k v)) k (length cs) (face m.pairs (many ps)) (face m.pairs (many (ps ++ (p ∷ [])))) (faces m [])
        (gather m.pairs ps) (gather m.pairs ps ++ ((k, v) ∷ [])) (λ q. refl) (λ q. ap stands (gather_last m.pairs ps p (k, v) slot))
        (λ x j. elim (in_last (gather m.pairs ps) (k, v) x j) [ inl y ↦ list_homes k ps xe path x y | inr y ↦ rw (← y) (λ j l. refl) ]) (λ l f x. unlike (same k l) (some (k, v)) x f)
        (λ l. find_last same hash laws k v l (gather m.pairs ps) (find_lacks same hash laws k (gather m.pairs ps) (none_pair same k (gather m.pairs ps) absent))))
    prepares_pend Y my o mp new nw path pf (Prepares.alters k v ps qs p xe slot np nq len ip names old kept) =
        pend_of _ my (Does same hash chunk (renew k v)) k (some p) [] nw (many ps) xe (λ t. t) path pf
        (λ r y. elim (names r y) [ inl u ↦ inl u | inr u ↦ inr (ap some u) ]) (λ t d x p z. absurd (no_some z))
        (ready_flat same hash chunk laws (Does same hash chunk (renew k v)) k (length cs) (face m.pairs (many ps)) (face m.pairs (many qs)) (faces m [])
        (gather m.pairs ps) (gather m.pairs qs) (λ q. refl) (λ q. refl)
        (λ x j. elim (T? (same x.0 k)) [ inl t ↦ λ i l. rw (laws.hashes x.0 k t) | inr f ↦ list_homes k ps xe path x (old x j f) ]) (λ l f x. unlike (same k l) (some (k, v)) x f)
        (put_members same hash laws k v (gather m.pairs ps) (gather m.pairs qs) np nq (gather_in m.pairs qs p (k, v) ip slot) old kept))
    prepares_pend Y my o mp new nw path pf (Prepares.shrinks k ps qs x xe ix tx np nq two len names old off kept) =
        pend_of _ my (Does same hash chunk (cutting k x.1)) k none [] nw (many ps) xe (λ t. t) path pf
        (λ r y. inl (names r y)) (λ t d x p z. absurd (no_some z))
        (ready_flat same hash chunk laws (Does same hash chunk (cutting k x.1)) k (length cs) (face m.pairs (many ps)) (face m.pairs (many qs)) (faces m [])
        (gather m.pairs ps) (gather m.pairs qs) (λ q. refl) (λ q. refl)
        (λ y j. list_homes k ps xe path y (old y j)) (λ l f y. (unlike (same k l) none y f, λ t. absurd (f t)))
        (λ l. let c = cut_members same hash laws k (gather m.pairs ps) (gather m.pairs qs) x np nq ix tx old off kept l in (c.0, λ t. (x, c.1 t, refl))))
    prepares_pend Y my o mp new nw path pf (Prepares.buries k ps r x z xe ix tx np ir slot iz nz all pos) =
        let old : (y : K × ℕ) → In y (z ∷ []) → In y (gather m.pairs ps) = λ y j. subst (λ (u : K × ℕ). In u (gather m.pairs ps)) (sym (in_one y z j)) iz in
        pend_of _ my (Does same hash chunk (cutting k x.1)) k none [] nw (many ps) xe (λ t. t) path pf
        (λ s y. inl (subst (λ (u : ℕ). In u ps) y ir)) (λ t d x p z. absurd (no_some z))
        (ready_flat same hash chunk laws (Does same hash chunk (cutting k x.1)) k (length cs) (face m.pairs (many ps)) (face m.pairs (tomb r)) (faces m [])
        (gather m.pairs ps) (z ∷ []) (λ q. refl) (λ q. rw slot)
        (λ y j. list_homes k ps xe path y (old y j)) (λ l f y. (unlike (same k l) none y f, λ t. absurd (f t)))
        (λ l. let c = cut_members same hash laws k (gather m.pairs ps) (z ∷ []) x np ((λ y j. elim j [ ]), tt) ix tx old
        (λ y j. subst (λ (u : K × ℕ). ¬ T (same u.0 k)) (sym (in_one y z j)) nz) (λ y j f. subst (λ (u : K × ℕ). In u (z ∷ [])) (sym (all y j f)) here) l in
        (c.0, λ t. (x, c.1 t, refl))))
    prepares_pend Y my o mp new nw path pf (Prepares.drops k bs p x xe l z slot t stays) =
        pend_of _ my (Does same hash chunk (cutting k x.1)) k none [] nw (node bs) xe (λ t. t) path pf
        (λ r y. elim (set_names bs (chunk (hash k) (length cs)) nothing r l y) [ inl u ↦ inl u | inr u ↦ absurd (no_pair u) ])
        (λ t d x p z. absurd (no_some z))
        (ready_drops same hash chunk laws k (length cs) (face m.pairs (node bs)) (face m.pairs (node (set bs (chunk (hash k) (length cs)) nothing))) (faces m [])
        (home_of k (length cs) c bs (reach k bs xe path) (main_c ∙ xe)) x t (rw (z, slot))
        (rw (spot_set_here bs (chunk (hash k) (length cs)) nothing l)) (λ q ne. spot_set_there bs (chunk (hash k) (length cs)) q nothing ne))
    prepares_pend Y my o mp new nw path pf (Prepares.entombs k bs p x r q y xe z slot t ne zr slot_r others pos) =
        pend_of _ my (Does same hash chunk (cutting k x.1)) k none [] nw (node bs) xe (λ t. t) path pf
        (λ s u. inl (r, zr ∙ ap pair u)) (λ t d x p z. absurd (no_some z))
        (ready_entombs same hash chunk laws k (length cs) (face m.pairs (node bs)) (face m.pairs (tomb q)) (faces m [])
        (home_of k (length cs) c bs (reach k bs xe path) (main_c ∙ xe)) x y r t ne (rw (z, slot)) (rw (zr, slot_r))
        (λ j a b. rw (others j a b)) (λ j. rw slot_r))
    prepares_pend Y my o mp new nw path pf (Prepares.splits k v bs r p x d n' rest xe l z slot apart slot_p chain) =
        pend_of _ my (Does same hash chunk (put k v)) k (some p) ((d, n') ∷ rest) nw (node bs) xe (λ t. t) path pf
        (λ s y. elim (set_names bs (chunk (hash k) (length cs)) (cell d) s l y) [ inl u ↦ inl u | inr u ↦ absurd (cell_pair u) ])
        (λ t f y s w h. elim (chain_names same hash chunk laws m k v r p x slot slot_p apart (suc (length cs)) ((d, n') ∷ rest) chain t f y s w h) [ inl u ↦ inl (chunk (hash k) (length cs), z ∙ ap pair u) | inr u ↦ inr (ap some u) ])
        (ready_splits same hash chunk laws m k v r p x slot slot_p apart (length cs) (face m.pairs (node bs)) (face m.pairs (node (set bs (chunk (hash k) (length cs)) (cell d))))
        (home_of k (length cs) c bs (reach k bs xe path) (main_c ∙ xe)) d n' rest chain (rw (z, slot))
        (spot_set_here bs (chunk (hash k) (length cs)) (cell d) l) (λ q ne. spot_set_there bs (chunk (hash k) (length cs)) q (cell d) ne))

    module _ (k : K) (d p : ℕ) (td : main m (word m d) ≡ tomb p) (path : PathOK same hash chunk m k (c ∷ cs)) where
      -- What the two preparations of a cleaning share.
      clean_of : (Y : Main) → main m n ≡ Y → (bs : List Branch) → X ≡ node bs → get_or bs (chunk (hash k) (length cs)) nothing ≡ cell d
          → ((r : ℕ) → HasPair Y r → HasPair (node bs) r ⊎ (p ≡ r))
          → Ready same hash chunk (Same same hash chunk) (hash k) (length cs) (face m.pairs (node bs)) (face m.pairs Y) (IsFlat Y) (some d) (view m d 0) [] (faces m [])
          → Pend same hash chunk (Same same hash chunk) m k c cs e n none (some d) []
      clean_of Y my bs x z nm r = record {
        holds = λ t d x z. absurd (no_some z);
        inside = λ t d x z. absurd (no_some z);
        cells_free = λ t d x z. absurd (no_some z);
        mains_free = λ t d x z. absurd (no_some z);
        once = λ t u d x y z. absurd (no_some z);
        names_new = λ t d x p z. absurd (no_some z);
        path = path;
        solid = λ t. not_tomb X bs x (rw mx at t);
        n_free = free;
        p_free = λ p y. absurd (no_some y);
        tomb_at_lem = λ f y. rw (← (some_is y), td) tt;
        links = λ f y. rw (mx, x, ← (some_is y)) z;
        names = λ r y. elim (nm r (rw my at y)) [ inl u ↦ inl (rw (mx, x) u) | inr u ↦ inr (inr (d, refl, rw td u)) ];
        ready = λ w. rw (my, mx, x) r;
      }

      -- The tomb shows the buried pair.
      tomb_view : (q : ℕ) → view m d q ≡ stands (listed (nth m.pairs p))
      unfolding view
      tomb_view q = rw td (lone_is (nth m.pairs p))

      -- The buried pair has the prefix of the cell that held it.
      agrees : (bs : List Branch) → X ≡ node bs → get_or bs (chunk (hash k) (length cs)) nothing ≡ cell d
          → (x : K × ℕ) → In x (listed (nth m.pairs p)) → Agree chunk (hash x.0) (hash k) (suc (length cs))
      agrees bs x z y i =
          (shape.placed (hash k) (suc (length cs)) d 0 (listed (nth m.pairs p)) y
          (walk_on chunk (view m) (hash k) (length cs) c d (reach k bs x path) (view_cell m c (chunk (hash k) (length cs)) d (rw (main_c, x) z))) (tomb_view 0) i).agrees

      -- Each thing that a cleaning prepares meets what the pending swap rests on.
      pub cleans_pend : (Y : Main) → main m n ≡ Y → Cleans same hash chunk X (length cs) k d p Y → Pend same hash chunk (Same same hash chunk) m k c cs e n none (some d) []
      cleans_pend Y my (Cleans.contracts bs x l z more) =
          clean_of _ my bs x z (λ r y. elim (set_names bs (chunk (hash k) (length cs)) (pair p) r l y) [ inl u ↦ inl u | inr u ↦ inr (pair_is u) ])
          (ready_contracts same hash chunk laws k (length cs) (face m.pairs (node bs)) (face m.pairs (node (set bs (chunk (hash k) (length cs)) (pair p)))) (faces m [])
          (home_of k (length cs) c bs (reach k bs x path) (main_c ∙ x)) d (view m d 0) (listed (nth m.pairs p)) (tomb_view 0) (rw z)
          (spot_set_here bs (chunk (hash k) (length cs)) (pair p) l ∙ lone_is (nth m.pairs p))
          (λ q ne. spot_set_there bs (chunk (hash k) (length cs)) q (pair p) ne) (agrees bs x z))
      cleans_pend Y my (Cleans.entombs bs x z others pos) =
          clean_of _ my bs x z (λ r y. inr y)
          (ready_buries same hash chunk laws k (length cs) (face m.pairs (node bs)) (face m.pairs (tomb p)) (faces m [])
          (home_of k (length cs) c bs (reach k bs x path) (main_c ∙ x)) d (view m d 0) (listed (nth m.pairs p)) (tomb_view 0) (rw z)
          (λ j ne. rw (others j ne)) (λ q. lone_is (nth m.pairs p)) (agrees bs x z))
