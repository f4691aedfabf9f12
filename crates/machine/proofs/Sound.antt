-- Where every reached main keeps the rules and none is a tomb, the tree is sound, so it is compact.
use mathlib.Core.Path.{◌≡◌, refl}
use mathlib.Core.Bool.{Bool}
use mathlib.Core.List.{List, [], ◌∷◌}
use mathlib.Core.Option.{Option, none, some}
use mathlib.Core.Logic.{inl, inr, ◌≢◌}
use Prim.Native.Nat.{ℕ, ◌<◌, ◌≤◌}
use native.Mathlib.Omega.{arith}
use lib.Dec.{T}
use lib.ListN.{length, get_or}
use Rattle.machine.specs.Tree.{NoTwice, stands, on, walk, In, here, later, nth}
use Rattle.machine.specs.Machine.{Taken, Branch, nothing, pair, cell, Main, node, tomb, many, IsFlat, Mem, lone, spot, gather, face, word, main, view}
use Rattle.machine.proofs.Inv.{Shape}
use Rattle.machine.proofs.Keep.{face_cell}
use Rattle.machine.specs.Rest.{Compact}
use Rattle.machine.specs.Rules.{NodeRule, Rule, Ruled, NoTombs}
use Rattle.machine.proofs.Chunk.{Chunks}
use Rattle.machine.proofs.Laws.{Laws}
use Rattle.machine.proofs.Rest.{Rich, Sound, compact}
use Rattle.machine.proofs.Members.{in_one}

module _ {K : Type 0} (same : K → K → Bool) (hash : K → ℕ) (laws : Laws same hash) where
  -- Above index 7 one spot shows no two different pairs.
  lone_one : (o : Option (K × ℕ)) (ps : List (K × ℕ)) (x y : K × ℕ) → lone o ≡ stands ps → In x ps → In y ps → T (same x.0 y.0)
  lone_one o ps x y e i j = grind (arith, in_one, laws.reflexive)

  spot_one : (pairs : List (K × ℕ)) (b : Branch) (ps : List (K × ℕ)) (x y : K × ℕ) → spot pairs b ≡ stands ps → In x ps → In y ps → T (same x.0 y.0)
  spot_one pairs b ps x y e i j =
      let f = λ (p : ℕ). lone_one (nth pairs p) ps x y in
      let g = lone_one none ps x y in grind arith

  face_one : (pairs : List (K × ℕ)) (X : Main) (i q : ℕ) (ps : List (K × ℕ)) (x y : K × ℕ) → Rule same pairs i X → i < 7
      → face pairs X q ≡ stands ps → In x ps → In y ps → T (same x.0 y.0)
  face_one pairs (node bs) i q ps x y r l e = spot_one pairs (get_or bs q nothing) ps x y e
  face_one pairs (tomb p) i q ps x y r l e = lone_one (nth pairs p) ps x y e
  face_one pairs (many ms) i q ps x y r l e = absurd (let z : i ≡ 7 = r.0 in omega arith)

  -- A cell is named at a chunk below 32.
  face_on : (pairs : List (K × ℕ)) (X : Main) (i q d : ℕ) → Rule same pairs i X → face pairs X q ≡ on d → q < 32
  face_on pairs X i q d r e = grind (arith, face_cell)

  module _ (chunk : ℕ → ℕ → ℕ) (m : Mem K) (shape : Shape same hash chunk m) (ruled : Ruled same chunk m) (no_tombs : NoTombs chunk m) (chunks : Chunks chunk) where
    -- Two pairs at two chunks of a branch node are different.
    apart : (h i c q r : ℕ) (bs : List Branch) (x y : K × ℕ) → walk chunk (view m) h i ≡ some c → main m (word m c) ≡ node bs → r ≢ q
        → view m c q ≡ stands (x ∷ []) → view m c r ≡ stands (y ∷ []) → T (same x.0 y.0) → ⊥
    apart h i c q r bs x y w e ne vx vy t =
        let no_flat : IsFlat (main m (word m c)) → ⊥ = λ f. rw e at f in
        let px = (shape.placed h i c q (x ∷ []) x w vx here).proper in
        let py = (shape.placed h i c r (y ∷ []) y w vy here).proper in
        let hs = laws.hashes x.0 y.0 t in
        grind arith

    -- A list that keeps the rules has two different pairs.
    two : (ps : List ℕ) → 2 ≤ length ps → ((p : ℕ) → In p ps → (x : K × ℕ) × (nth m.pairs p ≡ some x)) → NoTwice same (gather m.pairs ps)
        → (x y : K × ℕ) × In x (gather m.pairs ps) × In y (gather m.pairs ps) × (T (same x.0 y.0) → ⊥)
    two (p ∷ r ∷ ps) l f n =
        let x = f p here in let y = f r (later here) in
        let n' = rw (x.1, y.1) at n in
        (x.0, y.0, rw x.1 here, rw (x.1, y.1) (later here), n'.0 y.0 here)
    two ps l f n = absurd (omega arith)

    -- A reached cell below the root has a cell after it, or two different pairs.
    rich : (h i c : ℕ) → walk chunk (view m) h i ≡ some c → 1 ≤ i → Rich same (view m) c
    unfolding view
    rich h i c w l = go (main m (word m c)) refl
      where
        go : (X : Main) → main m (word m c) ≡ X → Rich same (view m) c
        go (tomb p) e = absurd (no_tombs h i c w (rw e tt))
        go (many ps) e =
            let r : Rule same m.pairs i (many ps) = rw e at (ruled h i c w).rule in
            let z = two ps r.1 (λ p j. (ruled h i c w).inside p (rw e j)) r.3 in
            Rich.wide 0 0 (gather m.pairs ps) (gather m.pairs ps) z.0 z.1 (rw e refl) z.2 (rw e refl) z.3 z.4
        go (node bs) e = first (r.any (omega arith)).0 (get_or bs (r.any (omega arith)).0 nothing) refl (r.any (omega arith)).1
          where
            r : NodeRule i bs
            r = rw e at (ruled h i c w).rule

            slot : (q p : ℕ) → get_or bs q nothing ≡ pair p → (x : K × ℕ) × (view m c q ≡ stands (x ∷ []))
            slot q p x = let z = (ruled h i c w).inside p (rw e (q, x)) in (z.0, rw (e, x, z.1))

            second : (q p r : ℕ) → get_or bs q nothing ≡ pair p → r ≢ q → (b : Branch) → get_or bs r nothing ≡ b → Taken b → Rich same (view m) c
            second q p r x ne nothing y t = absurd t
            second q p r x ne (cell d) y t = Rich.deep r d (rw (e, y))
            second q p r x ne (pair p') y t =
                let f = slot q p x in let g = slot r p' y in
                Rich.wide q r (f.0 ∷ []) (g.0 ∷ []) f.0 g.0 f.1 here g.1 here (apart h i c q r bs f.0 g.0 w e ne f.1 g.1)

            first : (q : ℕ) (b : Branch) → get_or bs q nothing ≡ b → Taken b → Rich same (view m) c
            first q nothing x t = absurd t
            first q (cell d) x t = Rich.deep q d (rw (e, x))
            first q (pair p) x t =
                let z = r.beside (omega arith) q p x in
                second q p z.0 x z.1 (get_or bs z.0 nothing) refl z.2

    sound : Sound same hash chunk (view m)
    unfolding view
    sound = record {
      low = shape.low;
      placed = λ h i c q ps x w e j.
          let z = shape.placed h i c q ps x w e j in
          record { agrees = z.agrees; proper = elim z.proper [ inl y ↦ inl y | inr y ↦ inr (λ a b. grind arith) ] };
      rich = rich;
      single = λ h i c q ps x y w l e. face_one m.pairs (main m (word m c)) i q ps x y (ruled h i c w).rule l e;
      led = λ h i c q d w e. chunks.turn h i q (face_on m.pairs (main m (word m c)) i q d (ruled h i c w).rule e);
    }

    pub rests_compact : Compact same hash chunk (view m)
    rests_compact = compact same hash chunk (view m) sound
