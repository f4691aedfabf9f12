-- What a seat rests on stays when another seat prepares, since what is in use stays.
use native.Mathlib.Omega.{arith}
use mathlib.Core.Path.{◌≡◌, refl, sym, ◌∙◌, fun_ext}
use mathlib.Core.Bool.{Bool}
use mathlib.Core.List.{List, [], ◌∷◌}
use mathlib.Core.Option.{Option, none, some}
use mathlib.Core.Logic.{inl, inr}
use Prim.Native.Nat.{ℕ, suc}
use lib.ListN.{length}
use Rattle.machine.specs.Tree.{stands, on, walk, In, here, later, nth}
use Rattle.machine.specs.Machine.{Main, tomb, IsTomb, gather, HasPair, HasCell, Mem, lone, face, word, main, view, key, Seat, idle, read, swap, parent, clean, path, State, seat, CellInUse, MainInUse, PairInUse, Alike}
use Rattle.machine.specs.Pairs.{lookup_pair}
use Rattle.machine.proofs.Walk.{no_some, walk_on, walk_frame, seek_frame}
use Rattle.machine.proofs.Effect.{prefixed_shrink}
use Rattle.machine.proofs.Inv.{MainFree, PairFree, At, PathOK, Does, Same, tspot, new_face, faces, Pend, SeatOK, Shape}

-- A list shows the same where its pairs are as they were.
pub gather_alike : {K : Type 0} (xs ys : List (K × ℕ)) (ps : List ℕ) → ((p : ℕ) → In p ps → nth ys p ≡ nth xs p) → gather ys ps ≡ gather xs ps
gather_alike xs ys [] f = refl
gather_alike xs ys (p ∷ ps) f = rw (f p here, gather_alike xs ys ps (λ r i. f r (later i)))

-- So does every main.
pub face_alike : {K : Type 0} (xs ys : List (K × ℕ)) (X : Main) → ((p : ℕ) → HasPair X p → nth ys p ≡ nth xs p) → (q : ℕ) → face ys X q ≡ face xs X q
face_alike xs ys X f q = grind (arith, gather_alike)

-- A cell that is shown is named.
pub face_cell : {K : Type 0} (xs : List (K × ℕ)) (X : Main) (q d : ℕ) → face xs X q ≡ on d → HasCell X q d
face_cell xs X q d e = grind arith

-- A pair is no cell.
pub lone_on : {K : Type 0} (o : Option (K × ℕ)) (d : ℕ) → lone o ≡ on d → ⊥
lone_on o d e = grind arith

-- A named cell is shown.
pub has_cell : {K : Type 0} (xs : List (K × ℕ)) (X : Main) (q d : ℕ) → HasCell X q d → face xs X q ≡ on d
has_cell xs X q d e = grind arith

-- So is one that the main of a cell names.
pub view_cell : {K : Type 0} (m : Mem K) (c q d : ℕ) → HasCell (main m (word m c)) q d → view m c q ≡ on d
unfolding view
view_cell m c q d e = has_cell m.pairs (main m (word m c)) q d e

abbrev pub listed : {A : Type 0} → Option A → List A
listed none = []
listed (some x) = x ∷ []

pub lone_is : {K : Type 0} (o : Option (K × ℕ)) → lone o ≡ stands (listed o)
lone_is o = grind arith

-- A tomb shows the same at every chunk.
pub tomb_face : {K : Type 0} (xs : List (K × ℕ)) (X : Main) → IsTomb X → (ps : List (K × ℕ)) × ((q : ℕ) → face xs X q ≡ stands ps)
tomb_face xs (tomb p) t = (listed (nth xs p), λ q. lone_is (nth xs p))
tomb_face xs X t = absurd t

module _ {K : Type 0} (same : K → K → Bool) (hash : K → ℕ) (chunk : ℕ → ℕ → ℕ) where
  -- A cell of a path that holds no tomb is reached.
  pub is_reached : (m : Mem K) (k : K) (i c : ℕ) → At same hash chunk m k i c → (IsTomb (main m (word m c)) → ⊥) → walk chunk (view m) (hash k) i ≡ some c
  is_reached m k i c a f = grind arith

  -- While the cell of a pending swap holds the main that it expects, that cell is reached, and so is the cell that it cuts off.
  module _ (m : Mem K) (R : K → Option (K × ℕ) → Option (K × ℕ) → Type 0) (k : K) (c : ℕ) (cs : List ℕ) (e n : ℕ) (mp td : Option ℕ) (new : List (ℕ × ℕ))
      (pend : Pend same hash chunk R m k c cs e n mp td new) (holds : word m c ≡ e) where
    pub pend_reached : walk chunk (view m) (hash k) (length cs) ≡ some c
    pend_reached = is_reached m k (length cs) c pend.path.0 (λ x. pend.solid (rw holds at x))

    pub pend_cut : (d : ℕ) → td ≡ some d → walk chunk (view m) (hash k) (suc (length cs)) ≡ some d
    pend_cut d x = walk_on chunk (view m) (hash k) (length cs) c d pend_reached (view_cell m c (chunk (hash k) (length cs)) d (rw holds (pend.links d x)))

    -- The pairs of what it expects, brings and attaches are reached, or made by the seat.
    pub named : (Q : ℕ → Type 0) → ((h i d p : ℕ) → walk chunk (view m) h i ≡ some d → HasPair (main m (word m d)) p → Q p) → ((p : ℕ) → mp ≡ some p → Q p)
        → ((p : ℕ) → HasPair (main m e) p → Q p) × ((p : ℕ) → HasPair (main m n) p → Q p)
        × ((t d x p : ℕ) → nth new t ≡ some (d, x) → HasPair (main m x) p → Q p)
    named Q old made =
        let of_e = λ (p : ℕ) (x : HasPair (main m e) p). old (hash k) (length cs) c p pend_reached (rw holds x) in (
          of_e,
          λ p x. elim (pend.names p x) [
            | inl y ↦ of_e p y
            | inr (inl y) ↦ made p y
            | inr (inr y) ↦ old (hash k) (suc (length cs)) y.0 p (pend_cut y.0 y.1) y.2
          ],
          λ t d x p y h. elim (pend.names_new t d x p y h) [ inl z ↦ of_e p z | inr z ↦ made p z ],
        )

  module _ (s : State K) (m : Mem K) (al : Alike chunk s m) where
    -- Reached cells, their mains and what they show are as they were.
    pub word_alike : (h i c : ℕ) → walk chunk (view s.mem) h i ≡ some c → word m c ≡ word s.mem c
    word_alike h i c w = al.words c (CellInUse.reached h i w)

    main_alike : (h i c : ℕ) → walk chunk (view s.mem) h i ≡ some c → main m (word m c) ≡ main s.mem (word s.mem c)
    main_alike h i c w = rw (word_alike h i c w) (al.mains (word s.mem c) (MainInUse.reached h i c w refl))

    view_alike : (h i c : ℕ) → walk chunk (view s.mem) h i ≡ some c → (q : ℕ) → view m c q ≡ view s.mem c q
    unfolding view
    view_alike h i c w q =
        rw (main_alike h i c w)
        (face_alike s.mem.pairs m.pairs (main s.mem (word s.mem c)) (λ p x. al.pairs p (PairInUse.reached h i c w x)) q)

    -- So the walks and the lookups are.
    pub walk_alike : (h i : ℕ) → walk chunk (view m) h i ≡ walk chunk (view s.mem) h i
    walk_alike h i = walk_frame chunk (view s.mem) (view m) h i (λ j c l w. view_alike h j c w (chunk h j))

    pub lookup_alike : (k : K) → lookup_pair same hash chunk (view m) k ≡ lookup_pair same hash chunk (view s.mem) k
    unfolding lookup_pair walk
    lookup_alike k = seek_frame same hash chunk (view s.mem) (view m) k 7 0 0 refl (λ j d l w. view_alike (hash k) j d w (chunk (hash k) j))

    back : (h i c : ℕ) → walk chunk (view m) h i ≡ some c → walk chunk (view s.mem) h i ≡ some c
    back h i c w = sym (walk_alike h i) ∙ w

    -- So is the tree.
    pub shape_alike : Shape same hash chunk s.mem → Shape same hash chunk m
    shape_alike z = record {
      one = prefixed_shrink chunk (view s.mem) (view m) back z.one;
      low = λ h i c w. z.low h i c (back h i c w);
      in_words = λ h i c w. rw al.as_many (z.in_words h i c (back h i c w));
      placed = λ h i c q ps x w e j.
          rw (main_alike h i c (back h i c w)) (z.placed h i c q ps x (back h i c w) (sym (view_alike h i c (back h i c w) q) ∙ e) j);
    }

    pub main_free_alike : (n : ℕ) → MainFree same hash chunk s.mem n → MainFree same hash chunk m n
    main_free_alike n f h i c w e = f h i c (back h i c w) (sym (word_alike h i c (back h i c w)) ∙ e)

    pub pair_free_alike : (p : ℕ) → PairFree same hash chunk s.mem p → PairFree same hash chunk m p
    pair_free_alike p f h i c w e = f h i c (back h i c w) (rw (main_alike h i c (back h i c w)) at e)

    -- A tomb in a cell of a path is as it was.
    pub tomb_alike : (t c : ℕ) → In c (path (seat s t)) → IsTomb (main s.mem (word s.mem c)) → main m (word m c) ≡ main s.mem (word s.mem c)
    tomb_alike t c i z = rw (al.words c (CellInUse.on_path t i)) (al.mains (word s.mem c) (MainInUse.tomb_of t c i refl z))

    -- So a path stays good.
    pub path_alike : (t : ℕ) (k : K) (cs : List ℕ) → ((c : ℕ) → In c cs → In c (path (seat s t))) → PathOK same hash chunk s.mem k cs
        → PathOK same hash chunk m k cs
    path_alike t k [] f z = tt
    path_alike t k (c ∷ cs) f z = (
      elim z.0 [ inl w ↦ inl (walk_alike (hash k) (length cs) ∙ w) | inr x ↦ inr (rw (tomb_alike t c (f c here) x) x) ],
      path_alike t k cs (λ d i. f d (later i)) z.1,
    )

    -- A pending swap keeps what it rests on. The pairs that the expected main names may be gone once the cell has another word;
    -- then the swap is not ready, and nothing is claimed.
    pend_alike : (R : K → Option (K × ℕ) → Option (K × ℕ) → Type 0) (t : ℕ) (k : K) (c : ℕ) (cs : List ℕ) (e n : ℕ) (mp td : Option ℕ) (new : List (ℕ × ℕ))
        → ((t d x : ℕ) → nth new t ≡ some (d, x) → CellInUse chunk s d) → ((t d x : ℕ) → nth new t ≡ some (d, x) → MainInUse chunk s x)
        → ((d : ℕ) → In d (c ∷ cs) → In d (path (seat s t))) → ((d : ℕ) → td ≡ some d → In d (path (seat s t)))
        → MainInUse chunk s e → MainInUse chunk s n → ((p : ℕ) → mp ≡ some p → PairInUse chunk s p)
        → Pend same hash chunk R s.mem k c cs e n mp td new → Pend same hash chunk R m k c cs e n mp td new
    pend_alike R t k c cs e n mp td new uc um inp ind ue un up z =
        let me : main m e ≡ main s.mem e = al.mains e ue in
        let mn : main m n ≡ main s.mem n = al.mains n un in
        let tomb_d = λ (d : ℕ) (x : td ≡ some d). tomb_alike t d (ind d x) (z.tomb_at_lem d x) in
        record {
          holds = λ t d x y. al.words d (uc t d x y) ∙ z.holds t d x y;
          inside = λ t d x y. rw al.as_many (z.inside t d x y);
          cells_free = λ t d x y h i w. z.cells_free t d x y h i (back h i d w);
          mains_free = λ t d x y. main_free_alike x (z.mains_free t d x y);
          once = z.once;
          names_new = λ t d x p y w. elim (z.names_new t d x p y (rw (al.mains x (um t d x y)) at w)) [ inl x ↦ inl (rw me x) | inr x ↦ inr x ];
          path = path_alike t k (c ∷ cs) inp z.path;
          solid = λ x. z.solid (rw me at x);
          n_free = main_free_alike n z.n_free;
          p_free = λ p x. pair_free_alike p (z.p_free p x);
          tomb_at_lem = λ d x. rw (tomb_d d x) (z.tomb_at_lem d x);
          links = λ d x. rw me (z.links d x);
          names = λ p x. elim (z.names p (rw mn at x)) [
            | inl y ↦ inl (rw me y)
            | inr (inl y) ↦ inr (inl y)
            | inr (inr y) ↦ inr (inr (y.0, y.1, rw (tomb_d y.0 y.1) y.2))
          ];
          ready = λ we.
              let wo : word s.mem c ≡ e = sym (al.words c (CellInUse.on_path t (inp c here))) ∙ we in
              let at = named s.mem R k c cs e n mp td new z wo (λ p. nth m.pairs p ≡ nth s.mem.pairs p)
              (λ h i d p v y. al.pairs p (PairInUse.reached h i d v y)) (λ p y. al.pairs p (up p y)) in
              let fe : face m.pairs (main m e) ≡ face s.mem.pairs (main s.mem e) = fun_ext (λ q. rw me (face_alike s.mem.pairs m.pairs (main s.mem e) at.0 q)) in
              let fn : face m.pairs (main m n) ≡ face s.mem.pairs (main s.mem n) = fun_ext (λ q. rw mn (face_alike s.mem.pairs m.pairs (main s.mem n) at.1 q)) in
              let fw : faces m new ≡ faces s.mem new = fun_ext (λ j. fun_ext (λ q. fw_at at.2 j (nth new j) refl q)) in
              rw (fe, fn, mn, ft wo td (λ d x. x), fw) (z.ready wo);
        }
      where
        fw_at : ((t d x p : ℕ) → nth new t ≡ some (d, x) → HasPair (main s.mem x) p → nth m.pairs p ≡ nth s.mem.pairs p)
            → (j : ℕ) (o : Option (ℕ × ℕ)) → nth new j ≡ o → (q : ℕ) → new_face m o q ≡ new_face s.mem o q
        fw_at f j none y q = refl
        fw_at f j (some x) y q = rw (al.mains x.1 (um j x.0 x.1 y)) (face_alike s.mem.pairs m.pairs (main s.mem x.1) (λ p w. f j x.0 x.1 p y w) q)

        ft : word s.mem c ≡ e → (o : Option ℕ) → ((d : ℕ) → o ≡ some d → td ≡ some d) → tspot same hash chunk m o ≡ tspot same hash chunk s.mem o
        ft wo none f = refl
        ft wo (some d) f = view_alike (hash k) (suc (length cs)) d (pend_cut s.mem R k c cs e n mp td new z wo d (f d refl)) 0

    -- Every seat keeps what it rests on.
    pub seat_alike : (t : ℕ) → SeatOK same hash chunk s.mem (seat s t) → SeatOK same hash chunk m (seat s t)
    seat_alike t z = go (seat s t) refl z
      where
        go : (y : Seat K) → seat s t ≡ y → SeatOK same hash chunk s.mem y → SeatOK same hash chunk m y
        go idle e z = tt
        go (read o cs) e z = path_alike t (key o) cs (λ c i. rw e i) z
        go (swap o c cs x n mp new) e z =
            pend_alike (Does same hash chunk o) t (key o) c cs x n mp none new
            (λ j d y w. CellInUse.made t (rw e (j, y, w))) (λ j d y w. MainInUse.made t (rw e (inr (j, d, w)))) (λ d i. rw e i) (λ d i. absurd (no_some i))
            (MainInUse.expected t (rw e refl)) (MainInUse.made t (rw e (inl refl))) (λ p i. PairInUse.made t (rw e i)) z
        go (parent o b d cs) e z = (tomb_alike t d (rw e here) (rw z.0 tt) ∙ z.0, path_alike t (key o) cs (λ c i. rw e (later i)) z.1)
        go (clean o b d c cs x n) e z = (
          tomb_alike t d (rw e here) (rw z.0 tt) ∙ z.0,
          pend_alike (Same same hash chunk) t (key o) c cs x n none (some d) []
              (λ j f y w. absurd (no_some w)) (λ j f y w. absurd (no_some w)) (λ f i. rw e (later i)) (λ f i. let y : d ≡ f = cc in rw (e, ← y) here)
              (MainInUse.expected t (rw e refl)) (MainInUse.made t (rw e refl)) (λ p i. absurd (no_some i)) z.1,
        )
