-- The memory shown: what is at a place, and after one is set.
use Rattle.std.proofs.Common.{◌≡◌, ℕ, zero, suc, ◌<◌, ◌≤◌, ltb, ◌⊎◌, List, [], ◌∷◌, map, length, get_or, take, set, Some, None, Option, sym, refl, ap, ◌∙◌, inl, inr, arith, length-take, take_all}
use mathlib.Core.Option.{none, some}
use lib.ListN.{length-map}
use lib.Seq.{map-set, take-set-lt, take-set-le, set_out}
use Rattle.std.specs.List.{slice_get}
use Rattle.std.proofs.lemmas.Bool.{cases_lt, cond_both, ltb-true, ltb-false}
use Rattle.std.proofs.lemmas.Option.{none-some, get_or_from_slice_get}
use Rattle.machine.proofs.Walk.{no_some}
use Rattle.machine.specs.Machine.{Branch as Slot, Main as Shape, node, tomb, many, main}
use Rattle.machine.specs.Tree.{nth as placed}
use Rattle.mains.specs.Lists.{listed}
use Rattle.mains.specs.declared.Main.{Main}
use Rattle.mains.specs.declared.Main.TheVariants.{Node as Noded, Tomb as Tombed, List as Listed}
use Rattle.mains.specs.declared.Node.{Node}
use Rattle.mains.specs.declared.PairList.{PairList}
use Rattle.rules.specs.Memory.{Memory, main_limit, main_at}
use Rattle.theory.specs.Shown.{slots, shown_main, shown_pair, shown_mem, ShowsMemory}

-- What is at a place is read there, whatever stands in for a missing one.
read_past : {A : Type 0} (xs : List A) (n : ℕ) (d : A) → slice_get xs n ≡ None → get_or xs n d ≡ d
read_past [] n d e = refl
read_past (y ∷ xs) zero d e = absurd (none-some _ (sym e))
read_past (y ∷ xs) (suc n) d e = read_past xs n d e

module _ {A B : Type 0} (f : A → B) where
  -- What is at a place below k is at the same place of the first k, each shown.
  front_at : (k : ℕ) (xs : List A) (n : ℕ) (x : A) (d : B) → n < k → slice_get xs n ≡ Some x → get_or (map f (take k xs)) n d ≡ f x
  front_at zero xs n x d l e = absurd (omega arith)
  front_at (suc k) [] n x d l e = absurd (none-some _ e)
  front_at (suc k) (y ∷ xs) zero x d l e = let z : y ≡ x = cc in ap f z
  front_at (suc k) (y ∷ xs) (suc n) x d l e = front_at k xs n x d (omega arith) e

  front_past : (k : ℕ) (xs : List A) (n : ℕ) (d : B) → (n < k → slice_get xs n ≡ None) → get_or (map f (take k xs)) n d ≡ d
  front_past zero xs n d h = refl
  front_past (suc k) [] n d h = refl
  front_past (suc k) (y ∷ xs) zero d h = absurd (none-some _ (sym (h (omega arith))))
  front_past (suc k) (y ∷ xs) (suc n) d h = front_past k xs n d (λ l. h (omega arith))

  length_front : (k : ℕ) (xs : List A) → length (map f (take k xs)) ≤ k
  length_front k xs = omega (arith, length-map (take k xs) f, length-take k xs)

  -- An element that is set is set among the first k, or past them.
  front_set : (k : ℕ) (xs : List A) (n : ℕ) (x : A) → map f (take k (set xs n x)) ≡ set (map f (take k xs)) n (f x)
  front_set k xs n x = by (cases_lt n k)
    where
      by : (n < k) ⊎ (k ≤ n) → map f (take k (set xs n x)) ≡ set (map f (take k xs)) n (f x)
      by (inl l) = ap (map f) (take-set-lt k xs n x l) ∙ map-set f (take k xs) n x
      by (inr l) =
          let most = length_front k xs in
          ap (map f) (take-set-le k xs n x l) ∙ sym (set_out (map f (take k xs)) n (f x) (omega (arith, most)))

  -- What is at a place shows there, and what shows at a place is there.
  place_at : (xs : List A) (n : ℕ) (x : A) → slice_get xs n ≡ Some x → placed (map f xs) n ≡ some (f x)
  place_at [] n x e = absurd (none-some _ e)
  place_at (y ∷ xs) zero x e = let z : y ≡ x = cc in ap (λ u. some (f u)) z
  place_at (y ∷ xs) (suc n) x e = place_at xs n x e

  place_from : (xs : List A) (n : ℕ) (y : B) → placed (map f xs) n ≡ some y → (x : A) × (slice_get xs n ≡ Some x) × (y ≡ f x)
  place_from [] n y e = absurd (no_some e)
  place_from (x ∷ xs) zero y e = (x, refl, cc)
  place_from (x ∷ xs) (suc n) y e = place_from xs n y e

  place_past : (xs : List A) (n : ℕ) → slice_get xs n ≡ None → placed (map f xs) n ≡ none
  place_past [] n e = refl
  place_past (x ∷ xs) zero e = absurd (none-some _ (sym e))
  place_past (x ∷ xs) (suc n) e = place_past xs n e

-- A main that is inside the memory is at a place below the limit.
pub inside : (xs : List Main) (n : ℕ) (x : Main) → main_at xs n ≡ Some x → (n < main_limit) × (slice_get xs n ≡ Some x)
inside xs n x = cond_both (ltb n main_limit) (slice_get xs n) None (λ o. o ≡ Some x → (n < main_limit) × (slice_get xs n ≡ Some x))
    (λ t e. (ltb-true n main_limit t, e)) (λ _ e. absurd (none-some _ e))

outside : (xs : List Main) (n : ℕ) → main_at xs n ≡ None → n < main_limit → slice_get xs n ≡ None
outside xs n = cond_both (ltb n main_limit) (slice_get xs n) None (λ o. o ≡ None → n < main_limit → slice_get xs n ≡ None)
    (λ t e l. e) (λ f e l. let past = ltb-false n main_limit f in absurd (omega (arith, past, l)))

module _ {K : Type 0} (m : Memory K) (n : ℕ) where
  main_at_lem : (x : Main) → main_at m.mains n ≡ Some x → main (shown_mem m) n ≡ shown_main x
  main_at_lem x e = let i = inside m.mains n x e in front_at shown_main main_limit m.mains n x (node []) i.0 i.1

  main_past : main_at m.mains n ≡ None → main (shown_mem m) n ≡ node []
  main_past e = front_past shown_main main_limit m.mains n (node []) (outside m.mains n e)

  node_from : (x : Main) (bs : List Slot) → main_at m.mains n ≡ Some x → main (shown_mem m) n ≡ node bs → (k : Node) × (x ≡ Noded k) × (slots k ≡ bs)
  node_from x bs e s = by x (sym (main_at_lem x e) ∙ s)
    where
      by : (y : Main) → shown_main y ≡ node bs → (k : Node) × (y ≡ Noded k) × (slots k ≡ bs)
      by (Noded k) t = (k, refl, cc)
      by (Tombed p) t = let z : ◌≡◌ {A = ℕ} 0 1 = cc in absurd (omega arith)
      by (Listed l) t = let z : ◌≡◌ {A = ℕ} 0 1 = cc in absurd (omega arith)

  tomb_from : (p : ℕ) → main (shown_mem m) n ≡ tomb p → main_at m.mains n ≡ Some (Tombed p)
  tomb_from p s = go (main_at m.mains n) refl
    where
      by : (y : Main) → shown_main y ≡ tomb p → y ≡ Tombed p
      by (Noded k) t = let z : ◌≡◌ {A = ℕ} 0 1 = cc in absurd (omega arith)
      by (Tombed r) t = let z : r ≡ p = cc in ap Tombed z
      by (Listed l) t = let z : ◌≡◌ {A = ℕ} 0 1 = cc in absurd (omega arith)

      clash : node [] ≡ tomb p → ⊥
      clash t = let z : ◌≡◌ {A = ℕ} 0 1 = cc in omega arith

      go : (o : Option Main) → main_at m.mains n ≡ o → main_at m.mains n ≡ Some (Tombed p)
      go None e = absurd (clash (sym (main_past e) ∙ s))
      go (Some x) e = e ∙ ap Some (by x (sym (main_at_lem x e) ∙ s))

  list_from : (ps : List ℕ) → main (shown_mem m) n ≡ many ps → (l : PairList) × (main_at m.mains n ≡ Some (Listed l)) × (listed l ≡ ps)
  list_from ps s = go (main_at m.mains n) refl
    where
      by : (y : Main) → main_at m.mains n ≡ Some y → shown_main y ≡ many ps → (l : PairList) × (main_at m.mains n ≡ Some (Listed l)) × (listed l ≡ ps)
      by (Noded k) e t = let z : ◌≡◌ {A = ℕ} 0 1 = cc in absurd (omega arith)
      by (Tombed r) e t = let z : ◌≡◌ {A = ℕ} 0 1 = cc in absurd (omega arith)
      by (Listed l) e t = (l, e, cc)

      clash : node [] ≡ many ps → ⊥
      clash t = let z : ◌≡◌ {A = ℕ} 0 1 = cc in omega arith

      go : (o : Option Main) → main_at m.mains n ≡ o → (l : PairList) × (main_at m.mains n ≡ Some (Listed l)) × (listed l ≡ ps)
      go None e = absurd (clash (sym (main_past e) ∙ s))
      go (Some x) e = by x e (sym (main_at_lem x e) ∙ s)

pub shows_memory : (K : Type 0) → ShowsMemory K
shows_memory K =
    record {
      word_at = λ m c n e. get_or_from_slice_get m.words c n 0 e;
      word_past = λ m c e. read_past m.words c 0 e;
      main_at_lem = main_at_lem;
      main_past = main_past;
      node_from = node_from;
      tomb_from = tomb_from;
      list_from = list_from;
      pair_at = λ m p x e. place_at shown_pair m.pairs p x e;
      pair_from = λ m p y e. place_from shown_pair m.pairs p y e;
      pair_past = λ m p e. place_past shown_pair m.pairs p e;
      as_many_words = λ m. refl;
      as_many_mains = λ m l. length-map (take main_limit m.mains) shown_main ∙ ap length (take_all main_limit m.mains l);
      as_many_pairs = λ m. length-map m.pairs shown_pair;
      word_set = λ m c n. refl;
      main_set = λ m n x. ap (λ (xs : List Shape). record { words = m.words; mains = xs; pairs = map shown_pair m.pairs }) (front_set shown_main main_limit m.mains n x);
      pair_set = λ m p x. ap (λ (xs : List (K × ℕ)). record { words = m.words; mains = map shown_main (take main_limit m.mains); pairs = xs }) (map-set shown_pair m.pairs p x);
    }
