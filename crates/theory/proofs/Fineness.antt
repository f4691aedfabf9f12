-- The edits of a main that is fine make mains that are fine.
use Rattle.std.proofs.Common.{◌≡◌, ℕ, suc, ◌<◌, true, false, not, eqb, ltb, ◌⊎◌, List, [], ◌∷◌, length, get_or, take, drop, Some, None, Option, sym, refl, ◌∙◌, subst, inl, inr, ⊎_elim, arith}
use mathlib.Core.List.Memᴰ
use mathlib.Core.List.{Memᴰ}
use Rattle.keys.specs.Routes.{chunk_at}
use Rattle.std.proofs.lemmas.Bool.{cases_Bool, cond_both, cond-false, and_parts, not-true, eqb-true}
use Rattle.std.proofs.lemmas.Option.{none-some, same_Some}
use Rattle.mains.specs.Bits.{has}
use Rattle.mains.specs.Laws.{WellFormed, WellListed, Stands, edited}
use Rattle.mains.specs.Lists.{listed, appended, relisted, unlisted, of_pairs}
use Rattle.mains.specs.Nodes.{branch_at, is_free, grown, changed, inserted, replaced, removed, empty_node, of_one, lone}
use Rattle.mains.specs.declared.Branch.{Branch}
use Rattle.mains.specs.declared.Branch.TheVariants.{Pair as pair, Cell as cell}
use Rattle.mains.specs.declared.Main.{Main}
use Rattle.mains.specs.declared.Main.TheVariants.{Node as node, Tomb as tomb, List as listing}
use Rattle.mains.specs.declared.Node.{Node}
use Rattle.mains.specs.declared.PairList.{PairList}
use Rattle.mains.proofs.Edits.{free_low, inserted_formed, inserted_stands, replaced_formed, replaced_stands, removed_formed, removed_stands}
use Rattle.mains.proofs.Listings.{listed_appended, appended_formed, listed_relisted, relisted_formed, listed_unlisted, unlisted_formed, pairs_formed}
use Rattle.mains.proofs.Made.{empty_formed, empty_stands}
use Rattle.mains.proofs.Standing.{none_has}
use Rattle.rules.specs.Edits.{entombed, kept_node, kept_list, link_main, end_of}
use Rattle.rules.specs.declared.Fork.{Fork}
use Rattle.theory.proofs.ListPlaces.{in_set, in_take, in_drop}
use Rattle.theory.proofs.Shown.{shows_edits}
use Rattle.theory.proofs.Writing.{Fine}

-- A main that is fine is fine where more cells may be named.
pub fine_more : {cells more : List ℕ} {pairs : ℕ} {x : Main} → ((c : ℕ) → Memᴰ c cells → Memᴰ c more) → Fine cells pairs x → Fine more pairs x
fine_more f k = record { formed = k.formed; inner = λ c m. f c (k.inner c m); paired = k.paired }

-- A branch that may be named, where these cells and as many pairs may be.
abbrev pub Given : List ℕ → ℕ → Branch → Type 0
Given cells pairs (pair p) = p < pairs
Given cells pairs (cell c) = Memᴰ c cells

module _ {cells : List ℕ} {pairs : ℕ} where
  -- NODES

  fine_at : (n : Node) → Fine cells pairs (node n) → (q : ℕ) (b : Branch) → branch_at n q ≡ Some b → Given cells pairs b
  fine_at n k q (pair p) e = k.paired p (q, e)
  fine_at n k q (cell c) e = k.inner c (q, e)

  fine_from : (n : Node) → WellFormed n → ((q : ℕ) (b : Branch) → branch_at n q ≡ Some b → Given cells pairs b) → Fine cells pairs (node n)
  fine_from n w f = record { formed = w; inner = λ c m. f m.0 (cell c) m.1; paired = λ p m. f m.0 (pair p) m.1 }

  -- A node that has something else at one chunk.
  fine_edited : (n m : Node) (q : ℕ) (o : Option Branch) → Fine cells pairs (node n) → WellFormed m → Stands m (edited (branch_at n) q o) → ((b : Branch) → o ≡ Some b → Given cells pairs b) → Fine cells pairs (node m)
  fine_edited n m q o k w s f =
      fine_from m w (λ r b e. cond_both (eqb r q) o (branch_at n r) (λ (u : Option Branch). u ≡ Some b → Given cells pairs b) (λ _ u. f b u) (λ _ u. fine_at n k r b u) (sym (s r) ∙ e))

  pub fine_inserted : (n : Node) (q : ℕ) (x : Branch) → Fine cells pairs (node n) → Given cells pairs x → Fine cells pairs (node (inserted n q x))
  fine_inserted n q x k g = ⊎_elim free (λ (e : is_free n q ≡ false). subst (λ (m : Node). Fine cells pairs (node m)) (sym (cond-false (is_free n q) (grown n q x) n e)) k) (cases_Bool (is_free n q))
    where
      free : is_free n q ≡ true → Fine cells pairs (node (inserted n q x))
      free t =
          let none = none_has n q (not-true (has n.bitmap q) (and_parts (ltb q 32) (not (has n.bitmap q)) t).1) in
          fine_edited n (inserted n q x) q (Some x) k (inserted_formed n q x k.formed) (inserted_stands n q x k.formed (free_low n q t) none) (λ b e. subst (Given cells pairs) (same_Some x b e) g)

  pub fine_replaced : (n : Node) (q : ℕ) (x : Branch) → Fine cells pairs (node n) → Given cells pairs x → Fine cells pairs (node (replaced n q x))
  fine_replaced n q x k g = ⊎_elim there (λ (e : has n.bitmap q ≡ false). subst (λ (m : Node). Fine cells pairs (node m)) (sym (cond-false (has n.bitmap q) (changed n q x) n e)) k) (cases_Bool (has n.bitmap q))
    where
      there : has n.bitmap q ≡ true → Fine cells pairs (node (replaced n q x))
      there t = fine_edited n (replaced n q x) q (Some x) k (replaced_formed n q x k.formed) (replaced_stands n q x k.formed t) (λ b e. subst (Given cells pairs) (same_Some x b e) g)

  pub fine_removed : (n : Node) (q : ℕ) → Fine cells pairs (node n) → Fine cells pairs (node (removed n q))
  fine_removed n q k = fine_edited n (removed n q) q None k (removed_formed n q k.formed) (removed_stands n q k.formed) (λ b e. absurd (none-some _ e))

  pub fine_empty : Fine cells pairs (node empty_node)
  fine_empty = fine_from empty_node empty_formed (λ q b e. absurd (none-some _ (sym (empty_stands q) ∙ e)))

  pub fine_tomb : (p : ℕ) → p < pairs → Fine cells pairs (tomb p)
  fine_tomb p l = record { formed = tt; inner = λ c m. absurd m; paired = λ q e. subst (λ i. i < pairs) e l }

  -- A lone pair of a fine node may be named by a tomb.
  pub fine_kept : (index : ℕ) (n : Node) → Fine cells pairs (node n) → Fine cells pairs (kept_node index n)
  fine_kept index n k = cond_both (eqb index 0) (node n) (entombed (lone n) n) (Fine cells pairs) (λ _. k) (λ _. by (lone n) refl)
    where
      by : (o : Option Branch) → lone n ≡ o → Fine cells pairs (entombed o n)
      by (Some (pair p)) e = let it = shows_edits.lone_only n (pair p) k.formed e in fine_tomb p (k.paired p (it.0, it.1.here))
      by _ e = k

  -- LISTS

  fine_list : (l : PairList) → WellListed l → ((p : ℕ) → Memᴰ p (listed l) → p < pairs) → Fine cells pairs (listing l)
  fine_list l w f = record { formed = w; inner = λ c m. absurd m; paired = f }

  pub fine_pairs : (r p : ℕ) → r < pairs → p < pairs → Fine cells pairs (listing (of_pairs r p))
  fine_pairs r p l k = fine_list (of_pairs r p) (pairs_formed r p) by
    where
      by : (i : ℕ) → Memᴰ i (r ∷ p ∷ []) → i < pairs
      by i (Memᴰ.head e) = subst (λ j. j < pairs) (sym e) l
      by i (Memᴰ.tail m) = subst (λ j. j < pairs) (sym (Memᴰ.eq_of_singleton m)) k

  pub fine_appended : (l : PairList) (p : ℕ) → l.count < 32 → Fine cells pairs (listing l) → p < pairs → Fine cells pairs (listing (appended l p))
  fine_appended l p room k g = fine_list (appended l p) (appended_formed l p k.formed) (λ i m. by i (Memᴰ.append_cases (listed l) (subst (Memᴰ i) (listed_appended l p k.formed.row room) m)))
    where
      by : (i : ℕ) → Memᴰ i (listed l) ⊎ Memᴰ i (p ∷ []) → i < pairs
      by i e = grind arith

  pub fine_relisted : (l : PairList) (place p : ℕ) → Fine cells pairs (listing l) → p < pairs → Fine cells pairs (listing (relisted l place p))
  fine_relisted l place p k g = grind (arith, relisted_formed, in_set, listed_relisted)

  pub fine_unlisted : (l : PairList) (place : ℕ) → Fine cells pairs (listing l) → Fine cells pairs (listing (unlisted l place))
  fine_unlisted l place k = fine_list (unlisted l place) (unlisted_formed l place k.formed) (λ i m. by i (Memᴰ.append_cases (take place (listed l)) (subst (Memᴰ i) (listed_unlisted l place) m)))
    where
      by : (i : ℕ) → Memᴰ i (take place (listed l)) ⊎ Memᴰ i (drop (suc place) (listed l)) → i < pairs
      by i (inl m) = k.paired i (in_take place (listed l) i m)
      by i (inr m) = k.paired i (in_drop (suc place) (listed l) i m)

  -- One lone pair of a fine list may be named by a tomb.
  pub fine_kept_list : (l : PairList) → Fine cells pairs (listing l) → Fine cells pairs (kept_list l)
  fine_kept_list l k = cond_both (eqb l.count 1) (tomb (get_or l.pairs 0 0)) (listing l) (Fine cells pairs) (λ t. fine_tomb _ (k.paired _ (by l.pairs k.formed.row l.count (eqb-true l.count 1 t)))) (λ _. k)
    where
      by : (xs : List ℕ) → length xs ≡ 32 → (n : ℕ) → n ≡ 1 → Memᴰ (get_or xs 0 0) (take n xs)
      by [] e n one = absurd (omega (arith, e))
      by (x ∷ xs) e n one = subst (λ i. Memᴰ x (take i (x ∷ xs))) (sym one) (Memᴰ.head refl)

  -- What a new cell holds.
  pub fine_link : (f : Fork) (p index below : ℕ) → f.pair < pairs → p < pairs → Memᴰ below cells → Fine cells pairs (link_main f p index below)
  fine_link f p index below l k m =
      let r = chunk_at f.coming index in
      let q = chunk_at f.standing index in
      cond_both (ltb index (end_of f)) _ _ (Fine cells pairs) (λ _. fine_inserted empty_node r (cell below) fine_empty m)
      (λ _. cond_both (ltb index 7) _ _ (Fine cells pairs) (λ _. fine_inserted (of_one q (pair f.pair)) r (pair p) (fine_inserted empty_node q (pair f.pair) fine_empty l) k) (λ _. fine_pairs f.pair p l k))
