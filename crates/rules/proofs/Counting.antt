-- The computed counts are the numbers of reached places, each once.
use Rattle.std.proofs.Common.{◌≡◌, ℕ, zero, suc, ◌<◌, Bool, true, false, cond, eqb, ltb, ◌⊎◌, List, [], ◌∷◌, length, Some, Option, sym, refl, ap, ◌∙◌, subst, inl, inr, ⊎_elim, arith}
use mathlib.Core.List.{Memᴰ}
use Rattle.std.specs.List.{slice_get}
use Rattle.std.proofs.lemmas.Bool.{eqb-true, eq-eqb, ltb-true, lt-ltb, cases_eq, or_cases, or_left, or_right, false≢true}
use Rattle.std.proofs.lemmas.Option.{none-some, same_Some, slice_get_within}
use Rattle.mains.specs.declared.Main.{Main}
use Rattle.mains.specs.declared.Main.TheVariants.{Node as node, Tomb as tomb, List as listing}
use Rattle.rules.specs.Memory.{Memory}
use Rattle.rules.specs.Reached.{Reached, ReachedCell, ReachedPair, ReachedTomb, HowMany, Once, cells_of, pairs_of, is_tomb, member, those, of_main, tomb_at, inside, named, tombs_in, level, gathered, cell_count, pair_count, tomb_count}
use Rattle.rules.specs.Sanity.{Counted}
use Rattle.rules.specs.Sound.{sound_in}
use Rattle.rules.proofs.Naming.{then_some, sound_in_lem, node_high}

-- LISTS

member_in : (x : ℕ) (ys : List ℕ) → member x ys ≡ true → Memᴰ x ys
member_in x [] e = absurd (false≢true e)
member_in x (y ∷ ys) e = by (or_cases (eqb x y) (member x ys) e) (λ k. member_in x ys k)
  where
    by : (eqb x y ≡ true) ⊎ (member x ys ≡ true) → (member x ys ≡ true → Memᴰ x ys) → Memᴰ x (y ∷ ys)
    by (inl s) later = mathlib.Core.List.Memᴰ.head (eqb-true x y s)
    by (inr k) later = mathlib.Core.List.Memᴰ.tail (later k)

in_member : (x : ℕ) (ys : List ℕ) → Memᴰ x ys → member x ys ≡ true
in_member x [] m = elim m [ ]
in_member x (y ∷ ys) (mathlib.Core.List.Memᴰ.head e) = or_left (eqb x y) (member x ys) (eq-eqb x y e)
in_member x (y ∷ ys) (mathlib.Core.List.Memᴰ.tail m) = or_right (eqb x y) (member x ys) (in_member x ys m)

module _ (xs : List ℕ) where
  those_in : (n x : ℕ) → Memᴰ x (those n xs) → (x < n) × Memᴰ x xs
  those_in zero x m = elim m [ ]
  those_in (suc n) x m = by (member n xs) refl (λ k. those_in n x k) m
    where
      by : (b : Bool) → member n xs ≡ b → (Memᴰ x (those n xs) → (x < n) × Memᴰ x xs) → Memᴰ x (cond b (n ∷ those n xs) (those n xs)) → (x < suc n) × Memᴰ x xs
      by true e below (mathlib.Core.List.Memᴰ.head s) = (omega arith, subst (λ y. Memᴰ y xs) (sym s) (member_in n xs e))
      by true e below (mathlib.Core.List.Memᴰ.tail k) = let b = below k in (omega (arith, b.0), b.1)
      by false e below k = let b = below k in (omega (arith, b.0), b.1)

  in_those : (n x : ℕ) → x < n → Memᴰ x xs → Memᴰ x (those n xs)
  in_those zero x l m = absurd (omega arith)
  in_those (suc n) x l m = by (member n xs) refl (cases_eq x n) (λ k. in_those n x k m)
    where
      by : (b : Bool) → member n xs ≡ b → (x ≡ n) ⊎ (x ≡ n → ⊥) → (x < n → Memᴰ x (those n xs)) → Memᴰ x (cond b (n ∷ those n xs) (those n xs))
      by true e (inl s) later = mathlib.Core.List.Memᴰ.head s
      by true e (inr d) later = mathlib.Core.List.Memᴰ.tail (later (omega arith))
      by false e (inl s) later = absurd (false≢true (sym e ∙ in_member n xs (subst (λ y. Memᴰ y xs) s m)))
      by false e (inr d) later = later (omega arith)

  once_those : (n : ℕ) → Once (those n xs)
  once_those zero = tt
  once_those (suc n) = by (member n xs) (once_those n)
    where
      by : (b : Bool) → Once (those n xs) → Once (cond b (n ∷ those n xs) (those n xs))
      by b o = grind (arith, those_in)

  -- The numbers below n in a list, counted once each, are those of which P holds.
  how_many : (P : ℕ → Type 0) (n : ℕ) → ((x : ℕ) → Memᴰ x xs → x < n → P x) → ((x : ℕ) → P x → Memᴰ x xs × (x < n)) → HowMany P (length (those n xs))
  how_many P n to from =
      record {
        them = those n xs;
        once = once_those n;
        only = λ x m. let k = those_in n x m in to x k.1 k.0;
        all = λ x p. let k = from x p in in_those n x k.1 k.0;
        many = refl;
      }

module _ {K : Type 0} (same : K → K → Bool) (hash : K → ℕ) (m : Memory K) where
  gathered_in : (f : ℕ → List ℕ) (n x : ℕ) → Memᴰ x (gathered same hash m f n) → (i : ℕ) × (i < n) × Memᴰ x (f i)
  gathered_in f zero x k = elim k [ ]
  gathered_in f (suc n) x k =
      ⊎_elim (λ (j : Memᴰ x (gathered same hash m f n)). let found = gathered_in f n x j in (found.0, omega (arith, found.1), found.2))
      (λ (j : Memᴰ x (f n)). (n, omega arith, j))
      (mathlib.Core.List.Memᴰ.append_cases (gathered same hash m f n) k)

  pub in_gathered : (f : ℕ → List ℕ) (n i x : ℕ) → i < n → Memᴰ x (f i) → Memᴰ x (gathered same hash m f n)
  in_gathered f zero i x l k = absurd (omega arith)
  in_gathered f (suc n) i x l k =
      ⊎_elim (λ (s : i ≡ n). mathlib.Core.List.Memᴰ.append_right (gathered same hash m f n) (subst (λ j. Memᴰ x (f j)) s k))
      (λ (d : i ≡ n → ⊥). mathlib.Core.List.Memᴰ.append_left (f n) (in_gathered f n i x (omega arith) k))
      (cases_eq i n)

  inside_in : (c : ℕ) (cs : List ℕ) → Memᴰ c (inside same hash m cs) → Memᴰ c cs × (c < length m.words)
  inside_in c [] k = elim k [ ]
  inside_in c (d ∷ cs) k = by (ltb d (length m.words)) refl (λ j. inside_in c cs j) k
    where
      by : (b : Bool) → ltb d (length m.words) ≡ b → (Memᴰ c (inside same hash m cs) → Memᴰ c cs × (c < length m.words)) → Memᴰ c (cond b (d ∷ inside same hash m cs) (inside same hash m cs)) → Memᴰ c (d ∷ cs) × (c < length m.words)
      by true l below (mathlib.Core.List.Memᴰ.head s) = (mathlib.Core.List.Memᴰ.head s, subst (λ x. x < length m.words) (sym s) (ltb-true d (length m.words) l))
      by true l below (mathlib.Core.List.Memᴰ.tail j) = let b = below j in (mathlib.Core.List.Memᴰ.tail b.0, b.1)
      by false l below j = let b = below j in (mathlib.Core.List.Memᴰ.tail b.0, b.1)

  in_inside : (c : ℕ) (cs : List ℕ) → Memᴰ c cs → c < length m.words → Memᴰ c (inside same hash m cs)
  in_inside c [] k l = elim k [ ]
  in_inside c (d ∷ cs) (mathlib.Core.List.Memᴰ.head s) l =
      let t = lt-ltb d (length m.words) (subst (λ x. x < length m.words) s l) in rw t (mathlib.Core.List.Memᴰ.head s)
  in_inside c (d ∷ cs) (mathlib.Core.List.Memᴰ.tail k) l = by (ltb d (length m.words)) (in_inside c cs k l)
    where
      by : (b : Bool) → Memᴰ c (inside same hash m cs) → Memᴰ c (cond b (d ∷ inside same hash m cs) (inside same hash m cs))
      by true j = mathlib.Core.List.Memᴰ.tail j
      by false j = j

  of_in : (f : Main → List ℕ) (x : ℕ) (o : Option Main) → Memᴰ x (of_main f o) → (y : Main) × (o ≡ Some y) × Memᴰ x (f y)
  of_in f x o k = grind arith

  named_in : (f : Main → List ℕ) (index x : ℕ) (cs : List ℕ) → Memᴰ x (named same hash m f index cs) → (c : ℕ) × (y : Main) × Memᴰ c cs × (sound_in same hash m index c ≡ Some y) × Memᴰ x (f y)
  named_in f index x [] k = elim k [ ]
  named_in f index x (c ∷ cs) k =
      ⊎_elim
      (λ (j : Memᴰ x (of_main f (sound_in same hash m index c))).
      let found = of_in f x (sound_in same hash m index c) j in (c, found.0, mathlib.Core.List.Memᴰ.head refl, found.1, found.2))
      (λ (j : Memᴰ x (named same hash m f index cs)). let found = named_in f index x cs j in (found.0, found.1, mathlib.Core.List.Memᴰ.tail found.2, found.3, found.4))
      (mathlib.Core.List.Memᴰ.append_cases (of_main f (sound_in same hash m index c)) k)

  in_named : (f : Main → List ℕ) (index x c : ℕ) (y : Main) (cs : List ℕ) → Memᴰ c cs → sound_in same hash m index c ≡ Some y → Memᴰ x (f y) → Memᴰ x (named same hash m f index cs)
  in_named f index x c y [] k e i = elim k [ ]
  in_named f index x c y (d ∷ cs) (mathlib.Core.List.Memᴰ.head s) e i =
      mathlib.Core.List.Memᴰ.append_left (named same hash m f index cs) (subst (λ o. Memᴰ x (of_main f o)) (sym (ap (sound_in same hash m index) (sym s) ∙ e)) i)
  in_named f index x c y (d ∷ cs) (mathlib.Core.List.Memᴰ.tail k) e i = mathlib.Core.List.Memᴰ.append_right (of_main f (sound_in same hash m index d)) (in_named f index x c y cs k e i)

  -- THE CELLS OF A LEVEL

  level_reached : (index c : ℕ) → Memᴰ c (level same hash m index) → Reached same hash m index c
  level_reached zero c k =
      let found = inside_in c (0 ∷ []) k in
      let s = mathlib.Core.List.Memᴰ.eq_of_singleton found.0 in
      subst (λ x. Reached same hash m 0 x) (sym s) (Reached.root (subst (λ x. x < length m.words) s found.1))
  level_reached (suc index) d k =
      let found = inside_in d (named same hash m cells_of index (level same hash m index)) k in
      let here = named_in cells_of index d (level same hash m index) found.0 in
      Reached.next (level_reached index here.0 here.2) here.1 here.3 d here.4 found.1

  reached_level : (index c : ℕ) → Reached same hash m index c → Memᴰ c (level same hash m index)
  reached_level index c (Reached.root l) = in_inside 0 (0 ∷ []) (mathlib.Core.List.Memᴰ.head refl) l
  reached_level index c (Reached.next {index = i} {c = a} k x e d named_there within) =
      in_inside d (named same hash m cells_of i (level same hash m i)) (in_named cells_of i d a x (level same hash m i) (reached_level i a k) e named_there) within

  -- No cell is reached past index 7.
  pub reached_low : (index c : ℕ) → Reached same hash m index c → index < 8
  reached_low index c (Reached.root l) = omega arith
  reached_low index c (Reached.next {index = i} {c = a} k (node n) e d named_there within) = let l = node_high same hash m i a n e in omega arith
  reached_low index c (Reached.next k (tomb p) e d named_there within) = elim named_there [ ]
  reached_low index c (Reached.next k (listing l) e d named_there within) = elim named_there [ ]

  cells : HowMany (ReachedCell same hash m) (cell_count same hash m)
  unfolding cell_count
  cells =
      how_many (gathered same hash m (level same hash m) 8) (ReachedCell same hash m) (length m.words)
      (λ c k l. let found = gathered_in (level same hash m) 8 c k in record { index = found.0; at = level_reached found.0 c found.2 })
      (λ c r. (
        in_gathered (level same hash m) 8 r.index c (reached_low r.index c r.at) (reached_level r.index c r.at),
        (grind arith),
      ))

  -- THE PAIRS

  pairs : HowMany (ReachedPair same hash m) (pair_count same hash m)
  unfolding pair_count
  pairs =
      how_many (gathered same hash m (λ index. named same hash m pairs_of index (level same hash m index)) 8) (ReachedPair same hash m) (length m.pairs)
      (λ p k l.
      let found = gathered_in (λ index. named same hash m pairs_of index (level same hash m index)) 8 p k in
      let here = named_in pairs_of found.0 p (level same hash m found.0) found.2 in
      record {
        index = found.0;
        cell = here.0;
        at = level_reached found.0 here.0 here.2;
        main = here.1;
        keeps = here.3;
        names = here.4;
        inside = l;
      })
      (λ p r. (
        in_gathered (λ index. named same hash m pairs_of index (level same hash m index)) 8 r.index p (reached_low r.index r.cell r.at)
            (in_named pairs_of r.index p r.cell r.main (level same hash m r.index) (reached_level r.index r.cell r.at) r.keeps r.names),
        r.inside,
      ))

  -- THE TOMBS

  tomb_at_lem : (n : ℕ) (w : Option ℕ) (o : Option Main) → Memᴰ n (tomb_at w o) → (y : Main) × (w ≡ Some n) × (o ≡ Some y) × (is_tomb y ≡ true)
  tomb_at_lem n w o k = grind arith

  at_tomb_lem : (n : ℕ) (w : Option ℕ) (o : Option Main) (y : Main) → w ≡ Some n → o ≡ Some y → is_tomb y ≡ true → Memᴰ n (tomb_at w o)
  at_tomb_lem n w o y e f t = rw (e, f, t) (mathlib.Core.List.Memᴰ.head refl)

  tombs_in_lem : (index n : ℕ) (cs : List ℕ) → Memᴰ n (tombs_in same hash m index cs) → (c : ℕ) × (y : Main) × Memᴰ c cs × (slice_get m.words c ≡ Some n) × (sound_in same hash m index c ≡ Some y) × (is_tomb y ≡ true)
  tombs_in_lem index n [] k = elim k [ ]
  tombs_in_lem index n (c ∷ cs) k =
      ⊎_elim
      (λ (j : Memᴰ n (tomb_at (slice_get m.words c) (sound_in same hash m index c))).
      let found = tomb_at_lem n (slice_get m.words c) (sound_in same hash m index c) j in (c, found.0, mathlib.Core.List.Memᴰ.head refl, found.1, found.2, found.3))
      (λ (j : Memᴰ n (tombs_in same hash m index cs)).
      let found = tombs_in_lem index n cs j in (found.0, found.1, mathlib.Core.List.Memᴰ.tail found.2, found.3, found.4, found.5))
      (mathlib.Core.List.Memᴰ.append_cases (tomb_at (slice_get m.words c) (sound_in same hash m index c)) k)

  in_tombs : (index n c : ℕ) (y : Main) (cs : List ℕ) → Memᴰ c cs → slice_get m.words c ≡ Some n → sound_in same hash m index c ≡ Some y → is_tomb y ≡ true → Memᴰ n (tombs_in same hash m index cs)
  in_tombs index n c y [] k w e t = elim k [ ]
  in_tombs index n c y (d ∷ cs) (mathlib.Core.List.Memᴰ.head s) w e t =
      mathlib.Core.List.Memᴰ.append_left (tombs_in same hash m index cs)
      (at_tomb_lem n (slice_get m.words d) (sound_in same hash m index d) y (ap (slice_get m.words) (sym s) ∙ w) (ap (sound_in same hash m index) (sym s) ∙ e) t)
  in_tombs index n c y (d ∷ cs) (mathlib.Core.List.Memᴰ.tail k) w e t =
      mathlib.Core.List.Memᴰ.append_right (tomb_at (slice_get m.words d) (sound_in same hash m index d)) (in_tombs index n c y cs k w e t)

  tombs : HowMany (ReachedTomb same hash m) (tomb_count same hash m)
  unfolding tomb_count
  tombs =
      how_many (gathered same hash m (λ index. tombs_in same hash m index (level same hash m index)) 8) (ReachedTomb same hash m) (length m.mains)
      (λ n k l.
      let found = gathered_in (λ index. tombs_in same hash m index (level same hash m index)) 8 n k in
      let here = tombs_in_lem found.0 n (level same hash m found.0) found.2 in
      record {
        index = found.0;
        cell = here.0;
        at = level_reached found.0 here.0 here.2;
        holds = here.3;
        main = here.1;
        keeps = here.4;
        dead = here.5;
      })
      (λ n r. (
        in_gathered (λ index. tombs_in same hash m index (level same hash m index)) 8 r.index n (reached_low r.index r.cell r.at)
            (in_tombs r.index n r.cell r.main (level same hash m r.index) (reached_level r.index r.cell r.at) r.holds r.keeps r.dead),
        (grind (arith, then_some, sound_in_lem, same_Some, slice_get_within, none-some)),
      ))

  pub counted : Counted same hash m
  counted = record { cells = cells; pairs = pairs; tombs = tombs }
