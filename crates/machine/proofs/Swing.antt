-- A swap that says yes: the memory after it, and that the other seats keep what they rest on.
use mathlib.Core.Path.{◌≡◌, refl, sym, ap, ◌∙◌, fun_ext}
use mathlib.Core.Bool.{Bool}
use mathlib.Core.List.{List, [], ◌∷◌}
use mathlib.Core.Option.{Option, none, some}
use mathlib.Core.Logic.{◌⊎◌, inl, inr, ◌≢◌}
use Prim.Native.Nat.{ℕ, zero, suc, ◌+◌, ◌<◌, ◌≤◌}
use native.Mathlib.Omega.{arith}
use native.Mathlib.Decide.{ℕ_discrete}
use lib.ListN.{length, length-set, get_or-eq_default}
use lib.Seq.{get_or-set_same, get_or-set_other}
use Rattle.machine.specs.Tree.{Level, stands, walk, In, nth}
use Rattle.machine.specs.Machine.{nothing, Main, node, tomb, IsTomb, IsFlat, Mem, face, word, main, view, key, Seat, idle, read, swap, parent, clean, Expects, MakesMain, MakesPair, MakesCell, swung}
use Rattle.machine.specs.Pairs.{lookup_pair}
use Rattle.machine.proofs.Walk.{no_some}
use Rattle.machine.proofs.Ready.{Ready, ready_back, ready_new, ready_on, ready_one, ready_placed, ready_effect}
use Rattle.machine.proofs.Inv.{MainFree, PairFree, At, PathOK, Does, Same, tspot, cells, faces, Pend, SeatOK, Shape}
use Rattle.machine.proofs.Keep.{pend_reached, pend_cut, named, tomb_face}

-- A main that shows a pair at every chunk is flat.
level_flat : {K : Type 0} (pairs : List (K × ℕ)) (X : Main) (q : ℕ) (ps : List (K × ℕ)) (x : K × ℕ) → face pairs X q ≡ stands ps → In x ps → Level (face pairs X) → IsFlat X
level_flat pairs (node bs) q ps x e i l =
    let z = l q (length bs) in
    let p = get_or-eq_default bs nothing {n = length bs} (omega arith) in
    let g : ps ≡ [] = grind arith in let j : In x [] = rw g at i in elim j [ ]
level_flat pairs X q ps x e i l = tt

-- A new cell has its main.
pub nth_cells : (new : List (ℕ × ℕ)) (t d : ℕ) → nth (cells new) t ≡ some d → (x : ℕ) × (nth new t ≡ some (d, x))
nth_cells [] t d e = absurd (no_some e)
nth_cells (x ∷ xs) zero d e = let p : x.0 ≡ d = cc in (x.1, ap (λ y. some (y, x.1)) p)
nth_cells (x ∷ xs) (suc t) d e = nth_cells xs t d e

module _ {K : Type 0} (same : K → K → Bool) (hash : K → ℕ) (chunk : ℕ → ℕ → ℕ) (m : Mem K) (shape : Shape same hash chunk m)
    (R : K → Option (K × ℕ) → Option (K × ℕ) → Type 0) (k : K) (c : ℕ) (cs : List ℕ) (e n : ℕ) (mp td : Option ℕ) (new : List (ℕ × ℕ))
    (pend : Pend same hash chunk R m k c cs e n mp td new) (holds : word m c ≡ e) where
  -- The memory after the swap.
  abbrev pub m' : Mem K
  m' = swung m c n

  -- The cell that is swapped holds no tomb.
  pub solid_c : IsTomb (main m (word m c)) → ⊥
  solid_c x = pend.solid (rw holds at x)

  -- So it is reached.
  pub reached : walk chunk (view m) (hash k) (length cs) ≡ some c
  reached = pend_reached same hash chunk m R k c cs e n mp td new pend holds

  pub in_words : c < length m.words
  in_words = shape.in_words (hash k) (length cs) c reached

  -- It has the new main, and all other cells are as they were.
  pub word_here : word m' c ≡ n
  word_here = get_or-set_same m.words c n 0 in_words

  pub word_there : (d : ℕ) → d ≢ c → word m' d ≡ word m d
  word_there d ne = get_or-set_other m.words c d n 0 ne

  -- A cell that holds another main than the new one held it before.
  pub word_was : (d x : ℕ) → n ≢ x → word m' d ≡ x → word m d ≡ x
  word_was d x ne w = elim (ℕ_discrete d c) [ yes p ↦ absurd (ne (sym word_here ∙ (rw p at w))) | no p ↦ sym (word_there d p) ∙ w ]

  pub view_there : (d : ℕ) → d ≢ c → (q : ℕ) → view m' d q ≡ view m d q
  unfolding view
  view_there d ne q = rw (word_there d ne)

  -- A cell with a tomb is not the one that is swapped.
  pub tomb_else : (d : ℕ) → IsTomb (main m (word m d)) → d ≢ c
  tomb_else d t x = solid_c (rw x at t)

  -- The cell that is cut off shows the buried pair at every chunk.
  dead : (d : ℕ) → td ≡ some d → (ps : List (K × ℕ)) × ((q : ℕ) → view m d q ≡ stands ps) × (tspot same hash chunk m td ≡ stands ps)
  unfolding view
  dead d x = let f = tomb_face m.pairs (main m (word m d)) (pend.tomb_at_lem d x) in (f.0, f.1, rw x (f.1 0))

  pub flat : (d : ℕ) → d ≢ c → IsTomb (main m (word m d)) → IsTomb (main m' (word m' d))
  flat d ne t = rw (word_there d ne) t

  view_was : view m c ≡ face m.pairs (main m e)
  unfolding view
  view_was = fun_ext (λ q. rw holds)

  pub view_new : view m' c ≡ face m.pairs (main m n)
  unfolding view
  view_new = fun_ext (λ q. rw word_here)

  flatly : (d : ℕ) → d ≢ c → IsFlat (main m (word m d)) → IsFlat (main m' (word m' d))
  flatly d ne t = rw (word_there d ne) t

  -- The swap is ready.
  ready : Ready same hash chunk R (hash k) (length cs) (view m c) (view m' c) (IsFlat (main m' (word m' c))) td (tspot same hash chunk m td) (cells new) (faces m new)
  ready = rw (view_was, view_new, word_here) (pend.ready holds)

  -- The new cells were not reached.
  pub free : (t d i g : ℕ) → nth (cells new) t ≡ some d → walk chunk (view m) g i ≡ some d → ⊥
  free t d i g x w = let y = nth_cells new t d x in pend.cells_free t d y.0 y.1 g i w

  once : (t u d : ℕ) → nth (cells new) t ≡ some d → nth (cells new) u ≡ some d → t ≡ u
  once t u d x y = let v = nth_cells new t d x in let w = nth_cells new u d y in pend.once t u d v.0 w.0 v.1 w.1

  new_faces : (t d : ℕ) → nth (cells new) t ≡ some d → (q : ℕ) → view m d q ≡ faces m new t q
  unfolding view
  new_faces t d x q = let y = nth_cells new t d x in rw (y.1, pend.holds t d y.0 y.1)

  -- A new cell that shows a pair at every chunk is flat.
  new_flats : (t d q : ℕ) (ps : List (K × ℕ)) (x : K × ℕ) → nth (cells new) t ≡ some d → faces m new t q ≡ stands ps → In x ps → Level (faces m new t) → IsFlat (main m' (word m' d))
  new_flats t d q ps x y z i lv =
      let u = nth_cells new t d y in
      let z' : face m.pairs (main m u.0) q ≡ stands ps = rw u.1 at z in
      let lv' : Level (face m.pairs (main m u.0)) = λ a b. (rw u.1 at (lv a b)) in
      rw (word_there d (λ p. pend.cells_free t d u.0 u.1 (hash k) (length cs) (rw p reached)), pend.holds t d u.0 u.1)
      (level_flat m.pairs (main m u.0) q ps x z' i lv')

  abbrev Flat : ℕ → Type 0
  Flat d = IsFlat (main m (word m d))

  abbrev Flat' : ℕ → Type 0
  Flat' d = IsFlat (main m' (word m' d))

  -- A walk after the swap was a walk before it, or it ends in a new cell.
  pub back : (g i d : ℕ) → walk chunk (view m') g i ≡ some d → (walk chunk (view m) g i ≡ some d) ⊎ ((t : ℕ) × (nth (cells new) t ≡ some d) × (i ≤ 7))
  back = ready_back same hash chunk R (view m) (view m') (hash k) (length cs) c td (tspot same hash chunk m td) (cells new) (faces m new) shape.one shape.low reached view_there Flat Flat' flatly dead free once new_faces new_flats ready

  pub index_new : (g i d t : ℕ) → walk chunk (view m') g i ≡ some d → nth (cells new) t ≡ some d → i ≡ suc (length cs) + t
  index_new = ready_new same hash chunk R (view m) (view m') (hash k) (length cs) c td (tspot same hash chunk m td) (cells new) (faces m new) shape.one shape.low reached view_there Flat Flat' flatly dead free once new_faces new_flats ready

  -- A walk before the swap is a walk after it, or it ends in the cell that is cut off.
  pub onward : (g i d : ℕ) → walk chunk (view m) g i ≡ some d → (walk chunk (view m') g i ≡ some d) ⊎ (td ≡ some d)
  onward = ready_on same hash chunk R (view m) (view m') (hash k) (length cs) c td (tspot same hash chunk m td) (cells new) (faces m new) shape.one shape.low reached view_there Flat Flat' flatly dead free once new_faces new_flats ready

  -- The swap does to every key's lookup what it should.
  pub effect : (l : K) → R l (lookup_pair same hash chunk (view m) l) (lookup_pair same hash chunk (view m') l)
  effect = ready_effect same hash chunk R (view m) (view m') (hash k) (length cs) c td (tspot same hash chunk m td) (cells new) (faces m new) shape.one shape.low reached view_there Flat Flat' flatly dead free once new_faces new_flats ready

  -- The tree is as it should be.
  pub shape_swung : Shape same hash chunk m'
  shape_swung = record {
    one = ready_one same hash chunk R (view m) (view m') (hash k) (length cs) c td (tspot same hash chunk m td) (cells new) (faces m new) shape.one shape.low reached view_there Flat Flat' flatly dead free once new_faces new_flats ready;
    low = λ g i d w. elim (back g i d w) [ inl v ↦ shape.low g i d v | inr v ↦ v.2 ];
    in_words = λ g i d w. rw length-set (elim (back g i d w) [
      | inl v ↦ shape.in_words g i d v
      | inr v ↦ let y = nth_cells new v.0 d v.1 in pend.inside v.0 d y.0 y.1
    ]);
    placed = ready_placed same hash chunk R (view m) (view m') (hash k) (length cs) c td (tspot same hash chunk m td) (cells new) (faces m new) shape.one shape.low reached view_there Flat Flat' flatly dead free once new_faces new_flats ready shape.placed;
  }

  -- The cell that the swap cuts off was reached until then.
  pub reached_d : (d : ℕ) → td ≡ some d → walk chunk (view m) (hash k) (suc (length cs)) ≡ some d
  reached_d = pend_cut same hash chunk m R k c cs e n mp td new pend holds

  -- A path stays good: a cell that is cut off holds a tomb.
  at_swung : (l : K) (i d : ℕ) → At same hash chunk m l i d → At same hash chunk m' l i d
  at_swung l i d z = let o = onward (hash l) i d in grind (arith, flat, tomb_else, pend.tomb_at_lem)

  pub path_swung : (l : K) (ds : List ℕ) → PathOK same hash chunk m l ds → PathOK same hash chunk m' l ds
  path_swung l [] z = tt
  path_swung l (d ∷ ds) z = (at_swung l (length ds) d z.0, path_swung l ds z.1)

  -- The mains and the cells that the swap brings into reach.
  abbrev pub Brought : ℕ → Type 0
  Brought x = (x ≡ n) ⊎ ((t d : ℕ) × (nth new t ≡ some (d, x)))

  abbrev pub BroughtCell : ℕ → Type 0
  BroughtCell d = (t x : ℕ) × (nth new t ≡ some (d, x))

  -- What another seat has made is still not reached.
  main_free_swung : (r : ℕ) → (Brought r → ⊥) → MainFree same hash chunk m r → MainFree same hash chunk m' r
  main_free_swung r ne f h i d w = go (ℕ_discrete d c) (back h i d w)
    where
      go : Dec (d ≡ c) → (walk chunk (view m) h i ≡ some d) ⊎ ((t : ℕ) × (nth (cells new) t ≡ some d) × (i ≤ 7)) → word m' d ≢ r
      go (yes p) b x = ne (inl (sym x ∙ (rw p word_here)))
      go (no p) (inl b) x = f h i d b (sym (word_there d p) ∙ x)
      go (no p) (inr b) x =
          let y = nth_cells new b.0 d b.1 in
          let z : y.0 ≡ r = sym (pend.holds b.0 d y.0 y.1) ∙ sym (word_there d p) ∙ x in
          ne (inr (b.0, d, y.1 ∙ ap (λ u. some (d, u)) z))

  pair_free_swung : (r : ℕ) → (mp ≡ some r → ⊥) → PairFree same hash chunk m r → PairFree same hash chunk m' r
  pair_free_swung r ne f h i d w x =
      let but_r = named same hash chunk m R k c cs e n mp td new pend holds (λ p. p ≡ r → ⊥) (λ g j a p v y u. f g j a v (rw u at y)) (λ p y u. ne (rw u at y)) in
      elim (ℕ_discrete d c) [
        | yes p ↦ but_r.1 r (rw (p, word_here) at x) refl
        | no p ↦ elim (back h i d w) [
          | inl b ↦ f h i d b (rw (word_there d p) at x)
          | inr b ↦ let y = nth_cells new b.0 d b.1 in but_r.2 b.0 d y.0 r y.1 (rw (word_there d p, pend.holds b.0 d y.0 y.1) at x) refl
        ]
      ]

  -- Another pending swap keeps what it rests on. If both expect to swap the same cell, the other is no more ready.
  pend_swung : (S : K → Option (K × ℕ) → Option (K × ℕ) → Type 0) (l : K) (c₂ : ℕ) (cs₂ : List ℕ) (e₂ n₂ : ℕ) (mp₂ td₂ : Option ℕ) (new₂ : List (ℕ × ℕ))
      → n ≢ e₂ → (Brought n₂ → ⊥) → ((t d x : ℕ) → nth new₂ t ≡ some (d, x) → Brought x → ⊥) → ((t d x : ℕ) → nth new₂ t ≡ some (d, x) → BroughtCell d → ⊥)
      → ((p : ℕ) → mp₂ ≡ some p → mp ≡ some p → ⊥)
      → Pend same hash chunk S m l c₂ cs₂ e₂ n₂ mp₂ td₂ new₂ → Pend same hash chunk S m' l c₂ cs₂ e₂ n₂ mp₂ td₂ new₂
  pend_swung S l c₂ cs₂ e₂ n₂ mp₂ td₂ new₂ ne nn nm nc np z =
      let new_there : (t d x : ℕ) → nth new₂ t ≡ some (d, x) → d ≢ c = λ t d x y p. z.cells_free t d x y (hash k) (length cs) (rw p reached) in
      record {
        holds = λ t d x y. word_there d (new_there t d x y) ∙ z.holds t d x y;
        inside = λ t d x y. rw length-set (z.inside t d x y);
        cells_free = λ t d x y h i w. elim (back h i d w) [
          | inl v ↦ z.cells_free t d x y h i v
          | inr v ↦ let u = nth_cells new v.0 d v.1 in nc t d x y (v.0, u.0, u.1)
        ];
        mains_free = λ t d x y. main_free_swung x (nm t d x y) (z.mains_free t d x y);
        once = z.once;
        names_new = z.names_new;
        path = path_swung l (c₂ ∷ cs₂) z.path;
        solid = z.solid;
        n_free = main_free_swung n₂ nn z.n_free;
        p_free = λ p x. pair_free_swung p (np p x) (z.p_free p x);
        tomb_at_lem = λ d x. flat d (else d x) (z.tomb_at_lem d x);
        links = z.links;
        names = λ p x. elim (z.names p x) [
          | inl y ↦ inl y
          | inr (inl y) ↦ inr (inl y)
          | inr (inr y) ↦ inr (inr (y.0, y.1, rw (word_there y.0 (else y.0 y.1)) y.2))
        ];
        ready = λ w. rw (ft td₂ (λ d x. x)) (z.ready (word_was c₂ e₂ ne w));
      }
    where
      else : (d : ℕ) → td₂ ≡ some d → d ≢ c
      else d x = tomb_else d (z.tomb_at_lem d x)

      ft : (o : Option ℕ) → ((d : ℕ) → o ≡ some d → td₂ ≡ some d) → tspot same hash chunk m' o ≡ tspot same hash chunk m o
      ft none f = refl
      ft (some d) f = view_there d (else d (f d refl)) 0

  -- A tomb that a seat has read stays as it is.
  buried : (b d : ℕ) → main m (word m d) ≡ tomb b → main m' (word m' d) ≡ tomb b
  buried b d x = rw (word_there d (tomb_else d (rw x tt))) x

  -- Every other seat keeps what it rests on.
  pub seat_swung : (y : Seat K) → (Expects y n → ⊥) → ((x : ℕ) → MakesMain y x → Brought x → ⊥) → ((d : ℕ) → MakesCell y d → BroughtCell d → ⊥) → ((p : ℕ) → MakesPair y p → mp ≡ some p → ⊥)
      → SeatOK same hash chunk m y → SeatOK same hash chunk m' y
  seat_swung idle ne nn nc np z = tt
  seat_swung (read o ds) ne nn nc np z = path_swung (key o) ds z
  seat_swung (swap o d ds e₂ n₂ mp₂ new₂) ne nn nc np z =
      pend_swung (Does same hash chunk o) (key o) d ds e₂ n₂ mp₂ none new₂ ne (λ b. nn n₂ (inl refl) b)
      (λ t f x y b. nn x (inr (t, f, y)) b) (λ t f x y b. nc f (t, x, y) b) np z
  seat_swung (parent o b d ds) ne nn nc np z = (buried b d z.0, path_swung (key o) ds z.1)
  seat_swung (clean o b d f ds e₂ n₂) ne nn nc np z = (
    buried b d z.0,
    pend_swung (Same same hash chunk) (key o) f ds e₂ n₂ none (some d) [] ne (λ b. nn n₂ refl b)
        (λ t f x y. absurd (no_some y)) (λ t f x y. absurd (no_some y)) (λ p x. absurd (no_some x)) z.1,
  )
