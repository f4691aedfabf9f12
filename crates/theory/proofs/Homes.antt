-- Every reached pair of the machine is at home: it stands where the hash of its key leads, so the lookup of its key ends there,
-- and no two places hold pairs of equal keys.
use Rattle.std.proofs.Common.{◌≡◌, ℕ, zero, suc, ◌<◌, ◌≤◌, Bool, true, false, cond, T, ◌⊎◌, List, [], ◌∷◌, sym, refl, ap, ◌∙◌, subst, inl, inr, arith}
use mathlib.Core.Option.{none, some}
use Rattle.machine.proofs.Effect.{stop, lookup_ends}
use Rattle.machine.proofs.Graft.{clash}
use Rattle.machine.proofs.Inv.{Shape}
use Rattle.machine.proofs.Laws.{Laws}
use Rattle.machine.proofs.Members.{find_in}
use Rattle.machine.proofs.Rest.{below, walk_earlier}
use Rattle.machine.proofs.Walk.{no_some, some_is, walk_on, walk_back, walk_agree}
use Rattle.machine.specs.Machine.{Main, IsFlat, HasPair, Mem, face, word, main, view}
use Rattle.machine.specs.Rules.{Ruled}
use Rattle.machine.specs.Tree.{Spot, stands, on, Tree, walk, In, here, later, nth}
use Rattle.machine.specs.Pairs.{find_pair, answer_pair, seek_pair, lookup_pair}
use Rattle.theory.proofs.Faces.{NamesAt, named_at, names_shown, shown_names, shown_once, one_place}

-- What a cell shows is what its main shows.
pub shows_at : {K : Type 0} (m : Mem K) (c q : ℕ) → view m c q ≡ face m.pairs (main m (word m c)) q
unfolding view
shows_at m c q = refl

-- A walk that stops at a cell goes no further.
stops : {K : Type 0} (chunk : ℕ → ℕ → ℕ) (M : Tree K) (h i c : ℕ) (ps : List (K × ℕ)) (j d : ℕ) → walk chunk M h i ≡ some c → M c (chunk h i) ≡ stands ps
    → walk chunk M h j ≡ some d → j ≤ i
stops chunk M h i c ps j d w e v = by (below i j)
  where
    by : (i < j) ⊎ (j ≤ i) → j ≤ i
    by (inl l) =
        let b = walk_earlier chunk M h (suc i) j d l v in
        let f = walk_back chunk M h i b.0 b.1 in
        let p : f.0 ≡ c = some_is (sym f.1 ∙ w) in
        absurd (clash (sym e ∙ (rw p at f.2)))
    by (inr l) = l

module _ {K : Type 0} (same : K → K → Bool) (hash : K → ℕ) (chunk : ℕ → ℕ → ℕ) where
  -- The place p is named by the main of a reached cell.
  abbrev pub Reaches : Mem K → ℕ → Type 0
  Reaches m p = (h i c : ℕ) × (walk chunk (view m) h i ≡ some c) × HasPair (main m (word m c)) p

  -- The place p holds the pair x, and the hash of its key leads to it.
  pub record AtHome (m : Mem K) (p : ℕ) (x : K × ℕ) : Type 0 where
    pub index : ℕ
    pub cell : ℕ
    pub led : walk chunk (view m) (hash x.0) index ≡ some cell
    pub named : NamesAt (main m (word m cell)) (chunk (hash x.0) index) p
    pub holds : nth m.pairs p ≡ some x

  -- Where a search that finds something ends.
  record Ending (M : Tree K) (k : K) (v : K × ℕ) : Type 0 where
    index : ℕ
    cell : ℕ
    all : List (K × ℕ)
    led : walk chunk M (hash k) index ≡ some cell
    shows : M cell (chunk (hash k) index) ≡ stands all
    says : find_pair same k all ≡ some v

  seek_ending : (M : Tree K) (k : K) (v : K × ℕ) (n i c : ℕ) → walk chunk M (hash k) i ≡ some c → seek_pair same hash chunk M k n i c ≡ some v → Ending M k v
  unfolding seek_pair
  seek_ending M k v zero i c w e = by (M c (chunk (hash k) i)) refl e
    where
      by : (s : Spot K) → M c (chunk (hash k) i) ≡ s → answer_pair same k s (λ d. none) ≡ some v → Ending M k v
      by s z e = grind arith
  seek_ending M k v (suc n) i c w e =
      by (M c (chunk (hash k) i)) refl e (λ d z. seek_ending M k v n (suc i) d (walk_on chunk M (hash k) i c d w z))
    where
      by : (s : Spot K) → M c (chunk (hash k) i) ≡ s → answer_pair same k s (λ d. seek_pair same hash chunk M k n (suc i) d) ≡ some v
          → ((d : ℕ) → M c (chunk (hash k) i) ≡ on d → seek_pair same hash chunk M k n (suc i) d ≡ some v → Ending M k v) → Ending M k v
      by s z e f = grind arith

  lookup_ending : (M : Tree K) (k : K) (v : K × ℕ) → lookup_pair same hash chunk M k ≡ some v → Ending M k v
  unfolding lookup_pair walk
  lookup_ending M k v e = seek_ending M k v 7 0 0 refl e

  -- What a list says of a key is a member.
  find_member : (k : K) (v : K × ℕ) (ps : List (K × ℕ)) → find_pair same k ps ≡ some v → In v ps × T (same v.0 k)
  unfolding find_pair
  find_member k v [] e = absurd (no_some e)
  find_member k v (x ∷ ps) e = by (same x.0 k) refl e (λ d. find_member k v ps d)
    where
      by : (b : Bool) → same x.0 k ≡ b → cond b (some x) (find_pair same k ps) ≡ some v → (find_pair same k ps ≡ some v → In v ps × T (same v.0 k)) → In v (x ∷ ps) × T (same v.0 k)
      by true q e f = let z = some_is e in (subst (λ (u : K × ℕ). In u (x ∷ ps)) z here, subst (λ (u : K × ℕ). T (same u.0 k)) z (subst T (sym q) tt))
      by false q e f = let r = f e in (later r.0, r.1)

  module _ (laws : Laws same hash) (m : Mem K) (shape : Shape same hash chunk m) (ruled : Ruled same chunk m) where
    -- Every reached pair is at home.
    pub at_home : (h i c p : ℕ) (x : K × ℕ) → walk chunk (view m) h i ≡ some c → HasPair (main m (word m c)) p → nth m.pairs p ≡ some x → AtHome m p x
    at_home h i c p x w n e =
        let a = named_at (main m (word m c)) p n in
        let s = names_shown m.pairs (main m (word m c)) a.0 p x a.1 e in
        let z = shape.placed h i c a.0 s.0 x w (shows_at m c a.0 ∙ s.1) s.2 in
        record {
          index = i;
          cell = c;
          led = walk_agree chunk (view m) (hash x.0) h i z.agrees ∙ w;
          named = by (main m (word m c)) a.0 a.1 z.proper;
          holds = e;
        }
      where
        by : (X : Main) (q : ℕ) → NamesAt X q p → (chunk (hash x.0) i ≡ q) ⊎ IsFlat X → NamesAt X (chunk (hash x.0) i) p
        by X q n e = grind arith

    -- The lookup of its key finds it.
    pub answered : (p : ℕ) (x : K × ℕ) → AtHome m p x → lookup_pair same hash chunk (view m) x.0 ≡ some x
    answered p x a =
        let s = names_shown m.pairs (main m (word m a.cell)) (chunk (hash x.0) a.index) p x a.named a.holds in
        let n = shown_once m.pairs same (main m (word m a.cell)) a.index (chunk (hash x.0) a.index) s.0 (ruled (hash x.0) a.index a.cell a.led).rule s.1 in
        lookup_ends same hash chunk (view m) x.0 s.0 a.cell a.index a.led
        (stop (shape.low (hash x.0) a.index a.cell a.led) (shows_at m a.cell (chunk (hash x.0) a.index) ∙ s.1))
        ∙ find_in same hash laws x.0 s.0 x n s.2 (laws.reflexive x.0)

    -- What a lookup finds is a reached pair of an equal key.
    pub found : (k : K) (x : K × ℕ) → lookup_pair same hash chunk (view m) k ≡ some x → (p : ℕ) × AtHome m p x × T (same x.0 k)
    found k x e =
        let z = lookup_ending (view m) k x e in
        let y = find_member k x z.all z.says in
        let n = shown_names m.pairs (main m (word m z.cell)) (chunk (hash k) z.index) z.all x (sym (shows_at m z.cell (chunk (hash k) z.index)) ∙ z.shows) y.0 in
        let h : hash k ≡ hash x.0 = sym (laws.hashes x.0 k y.1) in (
          n.0,
          record {
            index = z.index;
            cell = z.cell;
            led = subst (λ (g : ℕ). walk chunk (view m) g z.index ≡ some z.cell) h z.led;
            named = subst (λ (g : ℕ). NamesAt (main m (word m z.cell)) (chunk g z.index) n.0) h n.1;
            holds = n.2;
          },
          y.1,
        )

    -- No two places hold pairs of equal keys.
    pub one_home : (p r : ℕ) (x y : K × ℕ) → AtHome m p x → AtHome m r y → T (same x.0 y.0) → p ≡ r
    one_home p r x y a b t =
        let h : hash y.0 ≡ hash x.0 = sym (laws.hashes x.0 y.0 t) in
        by b.index b.cell (subst (λ (g : ℕ). walk chunk (view m) g b.index ≡ some b.cell) h b.led)
        (subst (λ (g : ℕ). NamesAt (main m (word m b.cell)) (chunk g b.index) r) h b.named)
      where
        there : (i c s : ℕ) (z : K × ℕ) → NamesAt (main m (word m c)) (chunk (hash x.0) i) s → nth m.pairs s ≡ some z
            → (ps : List (K × ℕ)) × (view m c (chunk (hash x.0) i) ≡ stands ps)
        there i c s z n e = grind (arith, names_shown, shows_at)

        by : (j d : ℕ) → walk chunk (view m) (hash x.0) j ≡ some d → NamesAt (main m (word m d)) (chunk (hash x.0) j) r → p ≡ r
        by j d w n =
            let f = there a.index a.cell p x a.named a.holds in
            let g = there j d r y n b.holds in
            let l = stops chunk (view m) (hash x.0) a.index a.cell f.0 j d a.led f.1 w in
            let k = stops chunk (view m) (hash x.0) j d g.0 a.index a.cell w g.1 a.led in
            let e : j ≡ a.index = omega (arith, l, k) in
            let c : d ≡ a.cell = some_is (sym w ∙ ap (walk chunk (view m) (hash x.0)) e ∙ a.led) in
            one_place m.pairs same (main m (word m a.cell)) a.index (chunk (hash x.0) a.index) p r x y
            (ruled (hash x.0) a.index a.cell a.led).rule a.named
            (subst (λ (i : ℕ). NamesAt (main m (word m a.cell)) (chunk (hash x.0) i) r) e (subst (λ (c : ℕ). NamesAt (main m (word m c)) (chunk (hash x.0) j) r) c n))
            a.holds b.holds t (laws.symmetric x.0 y.0 t)
