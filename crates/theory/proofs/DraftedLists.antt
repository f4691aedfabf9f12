-- What a put or a cut drafts from a list, in the words of the machine.
use Rattle.std.proofs.Common.{◌≡◌, ℕ, ◌<◌, ◌≤◌, Bool, true, false, T, eqb, ◌⊎◌, List, [], ◌∷◌, map, length, get_or, take, set, Some, None, sym, refl, ap, ◌∙◌, subst, arith, length-set}
use mathlib.Core.List.{Memᴰ}
use mathlib.Core.Option.{none, some}
use Rattle.std.specs.List.{slice_get, remove}
use Rattle.std.proofs.lemmas.List.Edits.{length-remove}
use Rattle.std.proofs.lemmas.Bool.{and_parts, cond_both, eqb-true, eqb-false, leb-true}
use Rattle.keys.specs.Laws.{KeyLaws}
use Rattle.keys.specs.Routes.{chunk_at}
use Rattle.machine.proofs.Laws.{Laws, laws_of}
use Rattle.machine.proofs.Members.{in_one}
use Rattle.machine.proofs.Worth.{find_worth}
use Rattle.machine.specs.Pairs.{worth}
use Rattle.machine.specs.Machine.{Mem, gather, tomb as tombed, many, put, renew, cutting, Prepares}
use Rattle.machine.specs.Tree.{In, here, nth as placed, NoTwice, find}
use Rattle.mains.proofs.Listings.{length_listed, unlisted_formed}
use Rattle.mains.specs.Laws.{WellListed}
use Rattle.mains.specs.Lists.{listed, appended, relisted, unlisted}
use Rattle.mains.specs.declared.Main.{Main}
use Rattle.mains.specs.declared.Main.TheVariants.{Tomb as tomb, List as listing}
use Rattle.mains.specs.declared.PairList.{PairList}
use Rattle.rules.specs.Edits.{kept_list}
use Rattle.rules.specs.Memory.{Memory}
use Rattle.rules.specs.Sound.{sound, pairs_at}
use Rattle.rules.specs.Turns.{place_of}
use Rattle.rules.specs.declared.Pair.{Pair}
use Rattle.theory.proofs.Gathering.{Gathers, gathered, gathers_set, gathers_out, gathers_in, gathers_at, gathers_one, shown_gathers, alike_no_twice, place_none, place_some}
use Rattle.theory.proofs.ListEdits.{at_low, set_in, set_new, set_kept, out_in, out_kept, set_no_twice, out_no_twice, out_other}
use Rattle.theory.proofs.Shown.{shows_edits}
use Rattle.theory.proofs.ShownMemory.{shows_memory}
use Rattle.theory.specs.Shown.{shown_mem, shown_main, shown_pair}

-- A member of one list is one of an equal list.
carry : {A : Type 0} {x : A} {xs ys : List A} → xs ≡ ys → In x xs → In x ys
carry {x = x} e j = subst (λ us. In x us) e j

-- IN ANY MEMORY OF THE MACHINE

module _ {K : Type 0} (same : K → K → Bool) (hash : K → ℕ) (laws : Laws same hash) (m : Mem K) (a : ℕ) (k : K) (ps : List ℕ) (vs : List (K × ℕ)) (g : Gathers m.pairs ps vs) (n : NoTwice same vs)
    (i : ℕ) (x : K × ℕ) (at : placed vs i ≡ some x) (t : T (same x.0 k)) where
  -- The pair at the place i has a key equal to k, so a pair of another key is not the one there.
  not_there : (y : K × ℕ) → ¬ T (same y.0 k) → (us : List (K × ℕ)) → In y us ⊎ (x ≡ y) → In y us
  not_there y f us e = grind arith

  listed_x : In x (gather m.pairs ps)
  listed_x = gathers_in m.pairs ps vs i x at g

  no_twice : NoTwice same (gather m.pairs ps)
  no_twice = subst (NoTwice same) (sym (gathered m.pairs ps vs g)) n

  -- A put sets that place.
  sets : (v p : ℕ) → placed m.pairs p ≡ some (k, v) → Prepares same hash chunk_at m (many ps) a (renew k v) (many (set ps i p)) (some p) []
  sets v p e =
      let old = gathered m.pairs ps vs g in
      let new = gathered m.pairs (set ps i p) (set vs i (k, v)) (gathers_set m.pairs ps vs i p (k, v) e g) in
      let r = gathers_at m.pairs ps vs i x at g in
      Prepares.alters k v ps (set ps i p) p refl e no_twice (subst (NoTwice same) (sym new) (set_no_twice same hash laws k vs i v x n at t)) (length-set ps i p)
      (set_new ps i r.0 p r.1) (λ q j. set_in ps i p q j)
      (λ y j f. carry (sym old) (own y f (set_in vs i (k, v) y (carry new j))))
      (λ y j f. carry (sym new) (not_there y f (set vs i (k, v)) (set_kept vs i x (k, v) y at (carry old j))))
    where
      own : (y : K × ℕ) → ¬ T (same y.0 k) → In y vs ⊎ ((k, v) ≡ y) → In y vs
      own y f e = grind arith

  -- What stays when that place is taken out.
  module _ (qs : List ℕ) (out : remove ps i ≡ qs) where
    stays : gather m.pairs qs ≡ remove vs i
    stays = subst (λ us. gather m.pairs us ≡ remove vs i) out (gathered m.pairs (remove ps i) (remove vs i) (gathers_out m.pairs ps vs i g))

    places : (r : ℕ) → In r qs → In r ps
    places r j = out_in ps i r (carry (sym out) j)

    from : (y : K × ℕ) → In y (gather m.pairs qs) → In y (gather m.pairs ps)
    from y j = carry (sym (gathered m.pairs ps vs g)) (out_in vs i y (carry stays j))

    off : (y : K × ℕ) → In y (gather m.pairs qs) → ¬ T (same y.0 k)
    off y j = out_other same hash laws k vs i x n at t y (carry stays j)

    others : (y : K × ℕ) → In y (gather m.pairs ps) → ¬ T (same y.0 k) → In y (gather m.pairs qs)
    others y j f = carry (sym stays) (not_there y f (remove vs i) (out_kept vs i x y at (carry (gathered m.pairs ps vs g) j)))

    -- A cut takes it out, and two or more stay.
    takes : 2 ≤ length qs → Prepares same hash chunk_at m (many ps) a (cutting k x.1) (many qs) none []
    takes two =
        let r = gathers_at m.pairs ps vs i x at g in
        let short = length-remove ps i (at_low ps i r.0 r.1) in
        let same_long = ap length out in
        Prepares.shrinks k ps qs x refl listed_x t no_twice (subst (NoTwice same) (sym stays) (out_no_twice same vs i n)) two (omega (arith, short, same_long)) places from off others

  -- A cut takes it out, and one stays.
  buries : (r : ℕ) → remove ps i ≡ r ∷ [] → 0 < a → Prepares same hash chunk_at m (many ps) a (cutting k x.1) (tombed r) none []
  buries r out pos =
      let one = gathers_one m.pairs r (remove vs i) (subst (λ us. Gathers m.pairs us (remove vs i)) out (gathers_out m.pairs ps vs i g)) in
      let left = stays (r ∷ []) out ∙ one.2 in
      let member : In one.0 (gather m.pairs (r ∷ [])) = carry (sym left) here in
      Prepares.buries k ps r x one.0 refl listed_x t no_twice (places (r ∷ []) out r here) one.1 (from (r ∷ []) out one.0 member) (off (r ∷ []) out one.0 member)
      (λ y j f. in_one y one.0 (carry left (others (r ∷ []) out y j f))) pos

-- The first of a row, alone.
front_one : (ps : List ℕ) → length ps ≡ 32 → take 1 ps ≡ get_or ps 0 0 ∷ []
front_one ps e = grind arith

-- IN THE MEMORY SHOWN

-- The list l of the memory m keeps the rules of an index, and has the pairs ys, which the memory z has too.
module _ {K : Type 0} (same : K → K → Bool) (hash : K → ℕ) (laws : KeyLaws same hash) (m z : Memory K) (k : K) (index : ℕ) (l : PairList) (ys : List (Pair K))
    (formed : WellListed l) (s : sound same hash m.pairs index (listing l) ≡ true) (there : pairs_at m.pairs (listed l) ≡ Some ys)
    (kept : (i : ℕ) → Memᴰ i (listed l) → slice_get z.pairs i ≡ slice_get m.pairs i) where
  -- What its places hold in the memory z, and what the rules say of it.
  gathers : Gathers (shown_mem z).pairs (listed l) (map shown_pair ys)
  gathers = shown_gathers m z (listed l) ys there kept

  rules : (index ≡ 7) × (2 ≤ l.count) × (l.count ≤ 32) × NoTwice same (map shown_pair ys)
  rules = grind (arith, and_parts, eqb-true, leb-true, alike_no_twice, laws_of)

  -- A put of a key that the list lacks.
  pub append_drafted : (v p : ℕ) → slice_get z.pairs p ≡ Some (record { key = k; value = v }) → place_of same k ys ≡ None → l.count < 32
      → Prepares same hash chunk_at (shown_mem z) (many (listed l)) index (put k v) (many (listed (appended l p))) (some p) []
  append_drafted v p e lacks room =
      let long = length_listed l in
      subst (λ (qs : List ℕ). Prepares same hash chunk_at (shown_mem z) (many (listed l)) index (put k v) (many qs) (some p) []) (sym (shows_edits.appends l p formed.row room))
      (Prepares.extends k v (listed l) p refl
      (subst (λ (us : List (K × ℕ)). find same k us ≡ none) (sym (gathered (shown_mem z).pairs (listed l) (map shown_pair ys) gathers)) (find_worth same k (map shown_pair ys) ∙ ap worth (place_none same k ys lacks)))
      ((shows_memory K).pair_at z p (record { key = k; value = v }) e) (omega (arith, long, room)))

  -- A put of a key that it has.
  pub relist_drafted : (v p i w : ℕ) → slice_get z.pairs p ≡ Some (record { key = k; value = v }) → place_of same k ys ≡ Some (i, w)
      → Prepares same hash chunk_at (shown_mem z) (many (listed l)) index (renew k v) (many (listed (relisted l i p))) (some p) []
  relist_drafted v p i w e found =
      let x = place_some same k ys i w found in
      subst (λ (qs : List ℕ). Prepares same hash chunk_at (shown_mem z) (many (listed l)) index (renew k v) (many qs) (some p) []) (sym (shows_edits.relists l i p))
      (sets same hash (laws_of same hash laws) (shown_mem z) index k (listed l) (map shown_pair ys) gathers rules.3 i x.0 x.1 x.2 v p
      ((shows_memory K).pair_at z p (record { key = k; value = v }) e))

  module _ (i : ℕ) (x : K × ℕ) (at : placed (map shown_pair ys) i ≡ some x) (t : T (same x.0 k)) where
    -- The list that is left counts what it lists.
    counts : length (listed (unlisted l i)) ≡ (unlisted l i).count
    counts = let w = unlisted_formed l i formed in let long = length_listed (unlisted l i) in let row = w.row in let few = w.counted in omega (arith, long, row, few)

    one_stays : eqb (unlisted l i).count 1 ≡ true → Prepares same hash chunk_at (shown_mem z) (many (listed l)) index (cutting k x.1) (tombed (get_or (unlisted l i).pairs 0 0)) none []
    one_stays c =
        let front = ap (λ (n : ℕ). take n (unlisted l i).pairs) (eqb-true (unlisted l i).count 1 c) ∙ front_one (unlisted l i).pairs (unlisted_formed l i formed).row in
        let deep = rules.0 in
        buries same hash (laws_of same hash laws) (shown_mem z) index k (listed l) (map shown_pair ys) gathers rules.3 i x at t (get_or (unlisted l i).pairs 0 0)
        (sym (shows_edits.unlists l i) ∙ front) (omega (arith, deep))

    two_stay : eqb (unlisted l i).count 1 ≡ false → Prepares same hash chunk_at (shown_mem z) (many (listed l)) index (cutting k x.1) (many (listed (unlisted l i))) none []
    two_stay c =
        let r = gathers_at (shown_mem z).pairs (listed l) (map shown_pair ys) i x at gathers in
        let less = shows_edits.unlists_length l i (at_low (listed l) i r.0 r.1) in
        let long = length_listed l in
        let row = formed.row in
        let few = rules.1 in
        let most = rules.2 in
        let left = counts in
        let more = eqb-false (unlisted l i).count 1 c in
        takes same hash (laws_of same hash laws) (shown_mem z) index k (listed l) (map shown_pair ys) gathers rules.3 i x at t (listed (unlisted l i))
        (sym (shows_edits.unlists l i)) (omega (arith, less, long, row, few, most, left, more))

  -- A cut of a key that it has.
  pub unlist_drafted : (i w : ℕ) → place_of same k ys ≡ Some (i, w)
      → Prepares same hash chunk_at (shown_mem z) (many (listed l)) index (cutting k w) (shown_main (kept_list (unlisted l i))) none []
  unlist_drafted i w found =
      let x = place_some same k ys i w found in
      subst (λ (u : ℕ). Prepares same hash chunk_at (shown_mem z) (many (listed l)) index (cutting k u) (shown_main (kept_list (unlisted l i))) none []) x.3
      (cond_both (eqb (unlisted l i).count 1) (tomb (get_or (unlisted l i).pairs 0 0)) (listing (unlisted l i))
      (λ (y : Main). Prepares same hash chunk_at (shown_mem z) (many (listed l)) index (cutting k x.0.1) (shown_main y) none [])
      (one_stays i x.0 x.1 x.2) (two_stay i x.0 x.1 x.2))
