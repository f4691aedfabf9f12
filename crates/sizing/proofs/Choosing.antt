-- The different keys of a list are one of each.
use Rattle.std.proofs.Common.{◌≡◌, ℕ, Bool, true, false, List, [], ◌∷◌, ◌++◌, fold, sym, refl, subst, inl, inr, append_assoc, append-nil}
use mathlib.Core.List.Memᴰ
use mathlib.Core.List.{Memᴰ}
use Rattle.std.proofs.lemmas.Bool.{false≢true, or_parts, or_cases, cond_both}
use Rattle.keys.specs.Laws.{KeyLaws}
use Rattle.sizing.specs.Demand.{holds, with_key, different}
use Rattle.sizing.specs.Law.{Apart, Chosen}

module _ {K : Type 0} (same : K → K → Bool) (hash : K → ℕ) (laws : KeyLaws same hash) where
  -- What holds of the members and of one key more.
  pushed : (P : K → Type 0) (ks : List K) (key : K) → ((k : K) → Memᴰ k ks → P k) → P key → (k : K) → Memᴰ k (ks ++ (key ∷ [])) → P k
  pushed P ks key each last k m =
      elim (Memᴰ.append_cases ks m) [
        | inl i ↦ each k i
        | inr i ↦ subst P (sym (Memᴰ.eq_of_singleton i)) last
      ]

  -- The list has a key that equals this one.
  abbrev Has : List K → K → Type 0
  Has ks key = (one : K) × Memᴰ one ks × (same one key ≡ true)

  holds_one : (ks : List K) (key : K) → holds same ks key ≡ true → Has ks key
  holds_one [] key h = absurd (false≢true h)
  holds_one (k ∷ ks) key h =
      elim (or_cases (same k key) (holds same ks key) h) [
        | inl e ↦ (k, Memᴰ.head refl, e)
        | inr e ↦ let found = holds_one ks key e in (found.0, Memᴰ.tail found.1, found.2)
      ]

  apart_push : (ks : List K) (key : K) → holds same ks key ≡ false → Apart same ks → Apart same (ks ++ (key ∷ []))
  apart_push [] key h a = ((λ other m. elim m [ ]), tt)
  apart_push (k ∷ ks) key h a =
      let parts = or_parts (same k key) (holds same ks key) h in
      (pushed (λ other. same k other ≡ false) ks key a.0 parts.0, apart_push ks key parts.1 a.1)

  -- One key more.
  chosen_push : (ks chosen : List K) (key : K) → Chosen same ks chosen → Chosen same (ks ++ (key ∷ [])) (with_key same chosen key)
  chosen_push ks chosen key so =
      cond_both (holds same chosen key) chosen (chosen ++ (key ∷ [])) (Chosen same (ks ++ (key ∷ [])))
      (λ h. record {
        from = λ k m. Memᴰ.append_left (key ∷ []) (so.from k m);
        each = pushed (Has chosen) ks key so.each (holds_one chosen key h);
        apart = so.apart;
      })
      (λ h. record {
        from =
            pushed (λ k. Memᴰ k (ks ++ (key ∷ []))) chosen key (λ k m. Memᴰ.append_left (key ∷ []) (so.from k m))
            (Memᴰ.append_right ks (Memᴰ.head refl));
        each =
            pushed (Has (chosen ++ (key ∷ []))) ks key
            (λ k m. let found = so.each k m in (found.0, Memᴰ.append_left (key ∷ []) found.1, found.2))
            (key, Memᴰ.append_right chosen (Memᴰ.head refl), laws.reflexive key);
        apart = apart_push chosen key h so.apart;
      })

  chosen_fold : (ks seen chosen : List K) → Chosen same seen chosen → Chosen same (seen ++ ks) (fold (with_key same) chosen ks)
  chosen_fold [] seen chosen so = rw append-nil so
  chosen_fold (k ∷ ks) seen chosen so = rw append_assoc at (chosen_fold ks (seen ++ (k ∷ [])) (with_key same chosen k) (chosen_push seen chosen k so))

  pub chosen_different : (ks : List K) → Chosen same ks (different same ks)
  unfolding different
  chosen_different ks = chosen_fold ks [] [] (record { from = λ k m. m; each = λ k m. elim m [ ]; apart = tt })
