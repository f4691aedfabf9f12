-- What a put that replaces has read shows a pair of an equal key. A list that is altered has one, since as many pairs stay and no key comes twice.
use mathlib.Core.Path.{◌≡◌, refl, ap, ◌∙◌}
use mathlib.Core.Bool.{Bool}
use mathlib.Core.List.{List, [], ◌∷◌}
use mathlib.Core.Option.{Option, some}
use mathlib.Core.Logic.{◌⊎◌, inl, inr}
use Prim.Native.Nat.{ℕ, suc, ◌≤◌}
use native.Mathlib.Omega.{arith}
use lib.Dec.{T}
use lib.ListN.{length}
use Rattle.machine.specs.Tree.{stands, In, here, later, nth, NoTwice}
use Rattle.machine.specs.Machine.{Main, HasPair, Mem, gather, face, Op, renew, key, Prepares}
use Rattle.machine.proofs.Laws.{Laws}
use Rattle.machine.proofs.Keep.{face_alike}
use Rattle.machine.proofs.Members.{in_split, find_cases}
use Rattle.machine.proofs.Prepare.{gather_in}

-- Where every place has a pair, as many pairs are gathered as there are places; never more.
length_gather : {K : Type 0} (pairs : List (K × ℕ)) (ps : List ℕ) → ((p : ℕ) → In p ps → (x : K × ℕ) × (nth pairs p ≡ some x)) → length (gather pairs ps) ≡ length ps
length_gather pairs [] f = refl
length_gather pairs (p ∷ ps) f = rw ((f p here).1) (ap suc (length_gather pairs ps (λ r j. f r (later j))))

gather_short : {K : Type 0} (pairs : List (K × ℕ)) (ps : List ℕ) → length (gather pairs ps) ≤ length ps
gather_short pairs [] = omega arith
gather_short pairs (p ∷ ps) = let h = gather_short pairs ps in grind arith

-- A list without one of its members.
without : {A : Type 0} (x : A) (ys : List A) → In x ys → (zs : List A) × (length ys ≡ suc (length zs)) × ((y : A) → In y ys → (y ≡ x) ⊎ In y zs)
without x [] j = elim j [ ]
without x (y ∷ ys) (In.here) = (ys, refl, λ z i. in_split i)
without x (y ∷ ys) (In.later j) =
    let r = without x ys j in (
      y ∷ r.0,
      ap suc r.1,
      λ z i. elim (in_split i) [ inl e ↦ inr (rw e here) | inr k ↦ elim (r.2 z k) [ inl e ↦ inl e | inr l ↦ inr (later l) ] ],
    )

module _ {K : Type 0} (same : K → K → Bool) (hash : K → ℕ) (laws : Laws same hash) where
  -- A list in which no key comes twice is no longer than one that has all its members.
  crowd : (xs ys : List (K × ℕ)) → NoTwice same xs → ((x : K × ℕ) → In x xs → In x ys) → length xs ≤ length ys
  crowd [] ys n f = omega arith
  crowd (x ∷ xs) ys n f =
      let r = without x ys (f x here) in
      let l : length xs ≤ length r.0 =
      crowd xs r.0 n.1 (λ y j. elim (r.2 y (f y (later j))) [ inl e ↦ absurd (n.0 y j (rw e (laws.reflexive x.0))) | inr i ↦ i ]) in
      omega (arith, r.1)

module _ {K : Type 0} (same : K → K → Bool) where
  -- The main shows at a chunk a pair of a key equal to the one given.
  pub record Shows (pairs : List (K × ℕ)) (X : Main) (q : ℕ) (k : K) : Type 0 where
    pub all : List (K × ℕ)
    pub pair : K × ℕ
    pub shown : face pairs X q ≡ stands all
    pub among : In pair all
    pub equal : T (same pair.0 k)

  -- It shows one to a put that replaces.
  abbrev pub Bears : List (K × ℕ) → Main → ℕ → Op K → Type 0
  Bears pairs X q (renew k v) = Shows pairs X q k
  Bears pairs X q o = Unit {0}

  -- So it does where its pairs are as they were.
  pub bears_alike : (xs ys : List (K × ℕ)) (X : Main) → ((p : ℕ) → HasPair X p → nth ys p ≡ nth xs p) → (q : ℕ) (o : Op K) → Bears xs X q o → Bears ys X q o
  bears_alike xs ys X f q (renew k v) b = record { all = b.all; pair = b.pair; shown = face_alike xs ys X f q ∙ b.shown; among = b.among; equal = b.equal }
  bears_alike xs ys X f q o b = tt

module _ {K : Type 0} (same : K → K → Bool) (hash : K → ℕ) (chunk : ℕ → ℕ → ℕ) (laws : Laws same hash) where
  -- A list that is altered had a pair of an equal key.
  altered : (pairs : List (K × ℕ)) (k : K) (v : ℕ) (ps qs : List ℕ) (p : ℕ) → ((r : ℕ) → In r ps → (x : K × ℕ) × (nth pairs r ≡ some x))
      → nth pairs p ≡ some (k, v) → NoTwice same (gather pairs ps) → length qs ≡ length ps → In p qs
      → ((y : K × ℕ) → In y (gather pairs ps) → ¬ T (same y.0 k) → In y (gather pairs qs))
      → (x : K × ℕ) × In x (gather pairs ps) × T (same x.0 k)
  altered pairs k v ps qs p inside slot np len ip kept = elim (find_cases same hash laws k (gather pairs ps)) [
    | inl found ↦ found
    | inr bare ↦
        let l : suc (length (gather pairs ps)) ≤ length (gather pairs qs) =
        crowd same hash laws ((k, v) ∷ gather pairs ps) (gather pairs qs) ((λ y j t. bare y j (laws.symmetric k y.0 t)), np)
        (λ y j. elim (in_split j) [ inl e ↦ rw e (gather_in pairs qs p (k, v) ip slot) | inr i ↦ kept y i (bare y i) ]) in
        let all : length (gather pairs ps) ≡ length ps = length_gather pairs ps inside in
        let short : length (gather pairs qs) ≤ length qs = gather_short pairs qs in
        absurd (omega arith)
  ]

  -- What is read for a put that replaces shows a pair of an equal key, if the pairs that it names are there.
  pub prepares_bears : {m : Mem K} {X : Main} {a : ℕ} {o : Op K} {Y : Main} {mp : Option ℕ} {new : List (ℕ × ℕ)} → Prepares same hash chunk m X a o Y mp new
      → ((p : ℕ) → HasPair X p → (x : K × ℕ) × (nth m.pairs p ≡ some x)) → Bears same m.pairs X (chunk (hash (key o)) a) o
  prepares_bears (Prepares.replaces k v bs r p x xe l z slot y slot_p) f = record { all = x ∷ []; pair = x; shown = rw (xe, z, slot); among = here; equal = y }
  prepares_bears {m = m} (Prepares.alters k v ps qs p xe slot np nq len ip names old kept) f =
      let x = altered m.pairs k v ps qs p (λ r j. f r (rw xe j)) slot np len ip kept in
      record { all = gather m.pairs ps; pair = x.0; shown = rw xe; among = x.1; equal = x.2 }
  prepares_bears pr f = tt
