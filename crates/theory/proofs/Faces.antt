-- What a main of the machine names at a chunk it shows there, and where it keeps the rules no key comes twice.
use Rattle.std.proofs.Common.{◌≡◌, ℕ, Bool, T, List, [], ◌∷◌, get_or, refl, ap, ◌∙◌, arith}
use mathlib.Core.Option.{Option, none, some}
use Rattle.machine.proofs.Graft.{clash}
use Rattle.machine.proofs.Prepare.{gather_in}
use Rattle.machine.proofs.Rest.{pairs_are}
use Rattle.machine.specs.Machine.{nothing, pair, Main, node, tomb, many, HasPair, lone, join, gather, spot, face}
use Rattle.machine.specs.Rules.{Rule}
use Rattle.machine.specs.Tree.{stands, In, here, later, nth, NoTwice}

-- The main names the pair place p at the chunk q.
abbrev pub NamesAt : Main → ℕ → ℕ → Type 0
NamesAt (node bs) q p = get_or bs q nothing ≡ pair p
NamesAt (tomb r) q p = r ≡ p
NamesAt (many ps) q p = In p ps

-- What is named is named at some chunk.
pub named_at : (X : Main) (p : ℕ) → HasPair X p → (q : ℕ) × NamesAt X q p
named_at X p h = grind arith

pub at_named : (X : Main) (q p : ℕ) → NamesAt X q p → HasPair X p
at_named X q p n = grind arith

module _ {K : Type 0} (pairs : List (K × ℕ)) where
  -- A pair that is gathered lies at one of the places.
  in_gather : (ps : List ℕ) (x : K × ℕ) → In x (gather pairs ps) → (p : ℕ) × In p ps × (nth pairs p ≡ some x)
  in_gather [] x j = elim j [ ]
  in_gather (p ∷ ps) x j = by (nth pairs p) refl j (λ i. in_gather ps x i)
    where
      on_later : ((r : ℕ) × In r ps × (nth pairs r ≡ some x)) → (r : ℕ) × In r (p ∷ ps) × (nth pairs r ≡ some x)
      on_later f = (f.0, later f.1, f.2)

      first : (y : K × ℕ) → nth pairs p ≡ some y → In x (y ∷ gather pairs ps) → (In x (gather pairs ps) → (r : ℕ) × In r ps × (nth pairs r ≡ some x)) → (r : ℕ) × In r (p ∷ ps) × (nth pairs r ≡ some x)
      first y e (In.here) f = (p, here, e)
      first y e (In.later i) f = on_later (f i)

      by : (o : Option (K × ℕ)) → nth pairs p ≡ o → In x (join o (gather pairs ps)) → (In x (gather pairs ps) → (r : ℕ) × In r ps × (nth pairs r ≡ some x)) → (r : ℕ) × In r (p ∷ ps) × (nth pairs r ≡ some x)
      by none e j f = on_later (f j)
      by (some y) e j f = first y e j f

  -- A lone pair is shown, and what a lone place shows is there.
  lone_shows : (p : ℕ) (x : K × ℕ) → nth pairs p ≡ some x → lone (nth pairs p) ≡ stands (x ∷ [])
  lone_shows p x e = ap lone e

  lone_there : (o : Option (K × ℕ)) (ps : List (K × ℕ)) (x : K × ℕ) → lone o ≡ stands ps → In x ps → o ≡ some x
  lone_there o ps x e j = grind arith

  -- What is named at a chunk is shown there.
  pub names_shown : (X : Main) (q p : ℕ) (x : K × ℕ) → NamesAt X q p → nth pairs p ≡ some x → (ps : List (K × ℕ)) × (face pairs X q ≡ stands ps) × In x ps
  names_shown (node bs) q p x n e = (x ∷ [], ap (spot pairs) n ∙ lone_shows p x e, here)
  names_shown (tomb r) q p x n e = (x ∷ [], ap (λ s. lone (nth pairs s)) n ∙ lone_shows p x e, here)
  names_shown (many ps) q p x n e = (gather pairs ps, refl, gather_in pairs ps p x n e)

  -- What is shown at a chunk is named there.
  pub shown_names : (X : Main) (q : ℕ) (ps : List (K × ℕ)) (x : K × ℕ) → face pairs X q ≡ stands ps → In x ps → (p : ℕ) × NamesAt X q p × (nth pairs p ≡ some x)
  shown_names X q ps x e j = grind (arith, some, pairs_are, lone_there, clash, in_gather)

  module _ (same : K → K → Bool) where
    -- What a main that keeps the rules shows at a chunk has no key twice.
    pub shown_once : (X : Main) (i q : ℕ) (ps : List (K × ℕ)) → Rule same pairs i X → face pairs X q ≡ stands ps → NoTwice same ps
    shown_once X i q ps r e = grind arith

    -- In a list no two places hold pairs of equal keys.
    list_place : (ps : List ℕ) (p r : ℕ) (x y : K × ℕ) → NoTwice same (gather pairs ps) → In p ps → In r ps → nth pairs p ≡ some x → nth pairs r ≡ some y
        → T (same x.0 y.0) → T (same y.0 x.0) → p ≡ r
    list_place [] p r x y n i j e f t u = elim i [ ]
    list_place (p ∷ ps) a b x y n (In.here) (In.here) e f t u = refl
    list_place (p ∷ ps) a b x y n (In.here) (In.later j) e f t u =
        let n' : NoTwice same (x ∷ gather pairs ps) = rw e at n in absurd (n'.0 y (gather_in pairs ps b y j f) t)
    list_place (p ∷ ps) a b x y n (In.later i) (In.here) e f t u =
        let n' : NoTwice same (y ∷ gather pairs ps) = rw f at n in absurd (n'.0 x (gather_in pairs ps a x i e) u)
    list_place (p ∷ ps) a b x y n (In.later i) (In.later j) e f t u = list_place ps a b x y (grind arith) i j e f t u

    -- At a chunk of a main that keeps the rules no two places hold pairs of equal keys.
    pub one_place : (X : Main) (i q p r : ℕ) (x y : K × ℕ) → Rule same pairs i X → NamesAt X q p → NamesAt X q r → nth pairs p ≡ some x → nth pairs r ≡ some y
        → T (same x.0 y.0) → T (same y.0 x.0) → p ≡ r
    one_place X i q p r x y z n m e f t u = grind (arith, list_place)
