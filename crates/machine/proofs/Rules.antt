-- Each thing that a turn may prepare keeps the rules of mains.
use mathlib.Core.Path.{◌≡◌, sym, ap, ◌∙◌}
use mathlib.Core.Bool.{Bool}
use mathlib.Core.List.{List, [], ◌∷◌, ◌++◌}
use mathlib.Core.Option.{Option, some}
use mathlib.Core.Logic.{inl, inr, ◌≢◌}
use Prim.Native.Nat.{ℕ, zero, suc, ◌+◌, ◌<◌, ◌≤◌}
use native.Mathlib.Omega.{arith}
use native.Mathlib.Decide.{ℕ_discrete}
use lib.Dec.{T}
use lib.ListN.{length, get_or, set}
use Rattle.std.proofs.lemmas.List.{length-append}
use lib.Seq.{get_or-set_same, get_or-set_other}
use Rattle.machine.specs.Tree.{NoTwice, In, here, later, nth}
use Rattle.machine.specs.Machine.{Taken, Branch, nothing, pair, cell, Main, many, Mem, gather, main, Op, Prepares, Cleans, Chain}
use Rattle.machine.proofs.Worth.{none_pair}
use Rattle.machine.proofs.Walk.{no_some}
use Rattle.machine.proofs.Members.{in_one, in_last, find_lacks}
use Rattle.machine.proofs.Split.{no_pair, cell_pair, second, chain_low}
use Rattle.machine.proofs.Prepare.{gather_last}
use Rattle.machine.specs.Rules.{NodeRule, Rule}
use Rattle.machine.proofs.Chunk.{Chunks}
use Rattle.machine.proofs.Laws.{Laws}

taken_there : (bs : List Branch) (q r : ℕ) (b : Branch) → r ≢ q → Taken (get_or bs r nothing) → Taken (get_or (set bs q b) r nothing)
taken_there bs q r b ne t = rw (get_or-set_other bs q r b nothing ne) t

-- A branch is set at a chunk: a pair needs another branch beside it.
rule_set : (a : ℕ) (bs : List Branch) (q : ℕ) (b : Branch) → NodeRule a bs → q < length bs → q < 32 → Taken b
    → ((u : ℕ) → b ≡ pair u → 0 < a → (r : ℕ) × (r ≢ q) × Taken (get_or bs r nothing)) → NodeRule a (set bs q b)
rule_set a bs q b z l small t more =
    let at_q : Taken (get_or (set bs q b) q nothing) = rw (get_or-set_same bs q b nothing l) t in
    record {
      high = z.high;
      chunks = λ r x. elim (ℕ_discrete r q) [ yes e ↦ rw e small | no ne ↦ z.chunks r (rw (get_or-set_other bs q r b nothing ne) at x) ];
      any = λ p. (q, at_q);
      beside = λ p r u e. elim (ℕ_discrete r q) [
        | yes f ↦
            let m = more u (sym (get_or-set_same bs q b nothing l) ∙ (rw f at e)) p in
            (m.0, λ g. m.1 (g ∙ f), taken_there bs q m.0 b m.1 m.2)
        | no ne ↦ (q, λ g. ne (sym g), at_q)
      ];
    }

-- A pair is taken out.
rule_drop : (a : ℕ) (bs : List Branch) (q p : ℕ) → NodeRule a bs → q < length bs → get_or bs q nothing ≡ pair p
    → (0 < a → (r u : ℕ) → r ≢ q → get_or bs r nothing ≡ pair u → (w : ℕ) × (w ≢ q) × (w ≢ r) × Taken (get_or bs w nothing)) → NodeRule a (set bs q nothing)
rule_drop a bs q p z l at stays = record {
  high = z.high;
  chunks = λ r x. grind (arith, get_or-set_same bs q nothing nothing l, get_or-set_other bs q r nothing nothing, z.chunks r);
  any = λ pos. let m = z.beside pos q p at in (m.0, taken_there bs q m.0 nothing m.1 m.2);
  beside = λ pos r u e. elim (ℕ_discrete r q) [
    | yes f ↦ absurd (no_pair (sym (get_or-set_same bs q nothing nothing l) ∙ (rw f at e)))
    | no ne ↦
        let m = stays pos r u ne (sym (get_or-set_other bs q r nothing nothing ne) ∙ e) in
        (m.0, m.2, taken_there bs q m.0 nothing m.1 m.3)
  ];
}

-- A branch node with two pairs.
rule_two : (a : ℕ) (bs : List Branch) (q r u v : ℕ) → a ≤ 6 → q < 32 → r < 32 → q ≢ r → get_or bs q nothing ≡ pair u → get_or bs r nothing ≡ pair v
    → ((j : ℕ) → j ≢ q → j ≢ r → get_or bs j nothing ≡ nothing) → NodeRule a bs
rule_two a bs q r u v l sq sr ne eq er others = record {
  high = l;
  chunks = λ j x. grind (arith, others j);
  any = λ p. (q, rw eq tt);
  beside = λ p j w e. elim (ℕ_discrete j q) [
    | yes f ↦ (r, λ g. ne (sym (g ∙ f)), rw er tt)
    | no f ↦ elim (ℕ_discrete j r) [ yes g ↦ (q, λ i. ne (i ∙ g), rw eq tt) | no g ↦ absurd (no_pair (sym (others j f g) ∙ e)) ]
  ];
}

-- A branch node with one cell.
rule_link : (a : ℕ) (bs : List Branch) (q d : ℕ) → a ≤ 6 → q < 32 → get_or bs q nothing ≡ cell d → ((j : ℕ) → j ≢ q → get_or bs j nothing ≡ nothing) → NodeRule a bs
rule_link a bs q d l sq eq others = record {
  high = l;
  chunks = λ j x. elim (ℕ_discrete j q) [ yes e ↦ rw e sq | no e ↦ absurd (rw (others j e) at x) ];
  any = λ p. (q, rw eq tt);
  beside = λ p j w e. absurd (elim (ℕ_discrete j q) [ yes f ↦ cell_pair (sym eq ∙ (rw f at e)) | no f ↦ no_pair (sym (others j f) ∙ e) ]);
}

module _ {K : Type 0} (same : K → K → Bool) (hash : K → ℕ) (chunk : ℕ → ℕ → ℕ) (laws : Laws same hash) (chunks : Chunks chunk) where
  -- A list without a key twice, and at its end a key that it lacks.
  no_twice_last : (ps : List (K × ℕ)) (k : K) (v : ℕ) → NoTwice same ps → ((x : K × ℕ) → In x ps → ¬ T (same x.0 k)) → NoTwice same (ps ++ ((k, v) ∷ []))
  no_twice_last [] k v n f = ((λ y j. elim j [ ]), tt)
  no_twice_last (p ∷ ps) k v n f = (
    λ y j t. elim (in_last ps (k, v) y j) [ inl i ↦ n.0 y i t | inr e ↦ f p here (rw (← e) at t) ],
    no_twice_last ps k v n.1 (λ x j. f x (later j)),
  )

  -- The chain of a split keeps the rules.
  chain_rule : {m : Mem K} {k : K} {r p : ℕ} {x : K × ℕ} {i : ℕ} {new : List (ℕ × ℕ)} (v : ℕ) → nth m.pairs r ≡ some x → nth m.pairs p ≡ some (k, v) → (T (same x.0 k) → ⊥)
      → Chain same hash chunk m k r p x i new
      → (t d y : ℕ) → nth new t ≡ some (d, y) → Rule same m.pairs (i + t) (main m y)
  chain_rule {k = k} {r = r} {p = p} {x = x} v cr cp na (Chain.ends i d n bs l e ne g1 g2 g3) zero f y q =
      let z : n ≡ y = ap second q in
      let j : i + 0 ≡ i = omega arith in
      rw (j, ← z, e) (rule_two i bs (chunk (hash x.0) i) (chunk (hash k) i) r p l (chunks.small (hash x.0) i) (chunks.small (hash k) i) ne g1 g2 g3)
  chain_rule {k = k} {r = r} {p = p} {x = x} v cr cp na (Chain.ends_list i d n l e) zero f y q =
      let z : n ≡ y = ap second q in
      let j : i + 0 ≡ i = omega arith in
      rw (j, ← z, e) (l, omega arith, omega arith, rw (cr, cp) ((λ y j t. na (rw (in_one y (k, v) j) at t)), ((λ y j. elim j [ ]), tt)))
  chain_rule {k = k} v cr cp na (Chain.links i d n d' n' bs new e ag g1 g2 c) zero f y q =
      let z : n ≡ y = ap second q in
      let j : i + 0 ≡ i = omega arith in
      let l = chain_low same hash chunk c in
      rw (j, ← z, e) (rule_link i bs (chunk (hash k) i) d' (omega arith) (chunks.small (hash k) i) g1 g2)
  chain_rule v cr cp na (Chain.links i d n d' n' bs new e ag g1 g2 c) (suc u) f y q =
      let j : i + suc u ≡ suc i + u = omega arith in
      rw j (chain_rule v cr cp na c u f y q)
  chain_rule v cr cp na c t f y q = absurd (no_some q)

  -- The mains of the new cells keep the rules.
  pub prepares_new_rule : {m : Mem K} {X : Main} {a : ℕ} {o : Op K} {Y : Main} {mp : Option ℕ} {new : List (ℕ × ℕ)} → Prepares same hash chunk m X a o Y mp new
      → (t d y : ℕ) → nth new t ≡ some (d, y) → Rule same m.pairs (suc a + t) (main m y)
  prepares_new_rule (Prepares.splits k v bs r p x dd n rest xe l z slot apart slot_p chain) t d y q = chain_rule v slot slot_p apart chain t d y q
  prepares_new_rule pr t d y q = absurd (no_some q)

  -- The pair that is made is in the memory.
  pub prepares_slot : {m : Mem K} {X : Main} {a : ℕ} {o : Op K} {Y : Main} {mp : Option ℕ} {new : List (ℕ × ℕ)} → Prepares same hash chunk m X a o Y mp new
      → (s : ℕ) → mp ≡ some s → (x : K × ℕ) × (nth m.pairs s ≡ some x)
  prepares_slot (Prepares.adds k v bs p x l z slot) s q = let e : p ≡ s = cc in ((k, v), rw (← e) slot)
  prepares_slot (Prepares.replaces k v bs r p x xe l z slot yy slot_p) s q = let e : p ≡ s = cc in ((k, v), rw (← e) slot_p)
  prepares_slot (Prepares.extends k v ps p xe ab slot short) s q = let e : p ≡ s = cc in ((k, v), rw (← e) slot)
  prepares_slot (Prepares.alters k v ps qs p xe slot np nq len ip names old kept) s q = let e : p ≡ s = cc in ((k, v), rw (← e) slot)
  prepares_slot (Prepares.splits k v bs r p x dd n rest xe l z slot apart slot_p chain) s q = let e : p ≡ s = cc in ((k, v), rw (← e) slot_p)
  prepares_slot pr s q = absurd (no_some q)

  -- The main that a read prepares keeps the rules, if the main that was read does.
  pub prepares_rule : {m : Mem K} {X : Main} {a : ℕ} {o : Op K} {Y : Main} {mp : Option ℕ} {new : List (ℕ × ℕ)} → Prepares same hash chunk m X a o Y mp new
      → Rule same m.pairs a X → Rule same m.pairs a Y
  prepares_rule {m = m} {a = a} (Prepares.adds k v bs p x l z slot) r =
      rule_set a bs (chunk (hash k) a) (pair p) (rw x at r) l (chunks.small (hash k) a) tt (λ u e pos. other pos)
    where
      r' : NodeRule a bs
      r' = rw x at r

      other : 0 < a → (r : ℕ) × (r ≢ chunk (hash k) a) × Taken (get_or bs r nothing)
      other pos = let y = r'.any pos in (y.0, λ e. (rw (e, z) at y.1), y.1)
  prepares_rule {a = a} (Prepares.replaces k v bs r' p x xe l z slot y slot_p) r =
      let n : NodeRule a bs = rw xe at r in
      rule_set a bs (chunk (hash k) a) (pair p) n l (chunks.small (hash k) a) tt (λ u e pos. n.beside pos (chunk (hash k) a) r' z)
  prepares_rule {m = m} {a = a} (Prepares.extends k v ps p xe ab slot short) r =
      let n : Rule same m.pairs a (many ps) = rw xe at r in
      let two = n.1 in (
        n.0,
        omega (arith, length-append ps (p ∷ [])),
        omega (arith, length-append ps (p ∷ [])),
        rw (gather_last m.pairs ps p (k, v) slot)
            (no_twice_last (gather m.pairs ps) k v n.3 (find_lacks same hash laws k (gather m.pairs ps) (none_pair same k (gather m.pairs ps) ab))),
      )
  prepares_rule {m = m} {a = a} (Prepares.alters k v ps qs p xe slot np nq len ip names old kept) r =
      let n : Rule same m.pairs a (many ps) = rw xe at r in
      (n.0, rw len n.1, rw len n.2, nq)
  prepares_rule {m = m} {a = a} (Prepares.shrinks k ps qs x xe ix tx np nq two len names old off kept) r =
      let n : Rule same m.pairs a (many ps) = rw xe at r in
      (n.0, two, omega arith, nq)
  prepares_rule (Prepares.buries k ps r' x z xe ix tx np ir slot iz nz all pos) r = omega arith
  prepares_rule {a = a} (Prepares.drops k bs p x xe l z slot y stays) r = rule_drop a bs (chunk (hash k) a) p (rw xe at r) l z stays
  prepares_rule (Prepares.entombs k bs p x r' q y xe z slot u ne zr slot_r others pos) r = omega arith
  prepares_rule {a = a} (Prepares.splits k v bs r' p x d n rest xe l z slot apart slot_p chain) r =
      rule_set a bs (chunk (hash k) a) (cell d) (rw xe at r) l (chunks.small (hash k) a) tt (λ u e. absurd (cell_pair e))

  -- So does the main that a cleaning prepares.
  pub cleans_rule : (pairs : List (K × ℕ)) {X : Main} {a : ℕ} {k : K} {d p : ℕ} {Y : Main} → Cleans same hash chunk X a k d p Y → Rule same pairs a X → Rule same pairs a Y
  cleans_rule pairs {a = a} {k = k} {p = p} (Cleans.contracts bs x l z more) r =
      rule_set a bs (chunk (hash k) a) (pair p) (rw x at r) l (chunks.small (hash k) a) tt (λ u e pos. more pos)
  cleans_rule pairs (Cleans.entombs bs x z others pos) r = omega arith
