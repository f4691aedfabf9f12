-- One key and one hash more, and what all of them come to.
use Rattle.std.proofs.Common.{◌≡◌, ℕ, ◌+◌, ◌*◌, ◌^◌, ◌-◌, ◌<◌, ◌≤◌, Bool, ◌||◌, List, [], ◌∷◌, map, length, get_or, take, fold, sym, refl, ap, ◌∙◌, arith}
use mathlib.Core.List.Memᴰ
use Rattle.std.specs.List.{list_any}
use Rattle.std.proofs.lemmas.List.{take_more}
use Rattle.std.proofs.lemmas.List.Sums.{fold_more}
use Rattle.keys.specs.Laws.{KeyLaws}
use Rattle.sizing.specs.Demand.{holds, with_key, different, cells_for}
use Rattle.sizing.specs.Depths.{deepest_two_of}
use Rattle.sizing.specs.Law.{Counts}
use Rattle.sizing.proofs.Below.{below_to, cells_below, cells_are, cells_few}
use Rattle.sizing.proofs.Choosing.{chosen_different}
use Rattle.sizing.proofs.Deepest.{cells_more, deepest_ordered}

module _ {K : Type 0} (same : K → K → Bool) where
  pub holds_any : (ks : List K) (key : K) → holds same ks key ≡ list_any (λ k. same k key) ks
  holds_any [] key = refl
  holds_any (k ∷ ks) key = ap (λ b. same k key || b) (holds_any ks key)

  -- One key more.
  pub different_more : (ks : List K) (i : ℕ) (key : K) → i < length ks → key ≡ get_or ks i key → different same (take (i + 1) ks) ≡ with_key same (different same (take i ks)) key
  unfolding different
  different_more ks i key l is = fold_more (with_key same) [] ks i key l ∙ ap (with_key same (fold (with_key same) [] (take i ks))) (sym is)

-- No hash, and one hash more.
pub cells_none : cells_for [] ≡ 1
unfolding cells_for
cells_none = refl

pub cells_one_more : (hashes : List ℕ) (cells i : ℕ) (two : ℕ × ℕ) → i < length hashes → cells ≡ cells_for (take i hashes) → two ≡ deepest_two_of (get_or hashes i 0) (take i hashes) → cells + (two.0 - two.1) ≡ cells_for (take (i + 1) hashes)
cells_one_more hashes cells i two l so t = rw (so, t, take_more hashes i 0 l) (sym (cells_more (take i hashes) (get_or hashes i 0)))

-- What the check of the function that counts cells is given.
pub ruleset of_cells = (cells_none, cells_one_more, deepest_ordered)

module _ {K : Type 0} (same : K → K → Bool) (hash : K → ℕ) (laws : KeyLaws same hash) where
  -- The figures count the different keys, and the cells for their hashes.
  pub figures_count : (ks : List K) (pairs cells : ℕ) → pairs ≡ length (different same ks) → cells ≡ cells_for (map hash (different same ks)) → Counts same hash ks (record { pairs = pairs; cells = cells })
  figures_count ks pairs cells p c =
      record {
        chosen = different same ks;
        chooses = chosen_different same hash laws ks;
        pairs = p;
        below = below_to (map hash (different same ks)) 7;
        are = cells_are same hash laws ks (different same ks) (chosen_different same hash laws ks);
        cells = c ∙ cells_below (map hash (different same ks));
      }

  -- So few cells that their number fits, however many keys there are.
  pub figures_few : (ks : List K) (cells : ℕ) → cells ≡ cells_for (map hash (different same ks)) → cells ≤ 1 + 7 * 2 ^ 32
  figures_few ks cells c =
      rw c
      (cells_few (map hash (different same ks))
      (λ h m. let found = Memᴰ.of_map hash (different same ks) m in let s = laws.short found.0 in let e = found.2 in omega arith))
