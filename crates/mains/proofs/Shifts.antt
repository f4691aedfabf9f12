-- Rows with one element put in or taken out: their lengths, their elements, and how rotations make them.
use Rattle.std.proofs.Common.{◌≡◌, ℕ, ◌+◌, ◌-◌, ◌<◌, ◌≤◌, List, [], ◌++◌, length, get_or, take, drop, set, arith, rules}
use borrow.Rule.Slice.PartMut.{put_mid}
use lib.Seq.{set_at}
use Rattle.std.specs.List.{remove}
use Rattle.std.proofs.lemmas.List.{same_lists, places, get_or-set_same, take_rest}
use Rattle.std.proofs.lemmas.List.Edits.{length-insert, length-remove, get_or-insert_below, get_or-insert_at, get_or-insert_above, get_or-remove_below, get_or-remove_above}
use Rattle.std.proofs.lemmas.Slice.{put_mid-rotated}
use Rattle.std.proofs.lemmas.Bool.{cases_eq}
use Rattle.mains.specs.Rows.{put_in, take_out}

-- One row has one element more than another, at a place: below it both have the same, above it the one is a place behind.
pub record Opens {X : Type 0} (d : X) (less more : List X) (i : ℕ) : Type 0 where
  pub below : (k : ℕ) → k < i → get_or more k d ≡ get_or less k d
  pub above : (k : ℕ) → i ≤ k → k + 1 < length more → get_or more (k + 1) d ≡ get_or less k d

module _ {X : Type 0} (row : List X) (i : ℕ) (x : X) (within : i < length row) where
  pub length_in : length (put_in row i x) ≡ length row
  length_in = grind (arith, places, length-insert)

  pub in_at : (d : X) → get_or (put_in row i x) i d ≡ x
  in_at d = grind (arith, places, get_or-insert_at)

  pub in_opens : (d : X) → Opens d row (put_in row i x) i
  in_opens d =
      record {
        below = λ k l. grind (arith, places, get_or-insert_below);
        above = λ k l h. grind (arith, places, length_in, get_or-insert_above);
      }

  pub length_out : length (take_out row i x) ≡ length row
  length_out = grind (arith, places, length-remove)

  pub out_opens : (d : X) → Opens d (take_out row i x) row i
  out_opens d =
      record {
        below = λ k l. grind (arith, places, length-remove, get_or-remove_below);
        above = λ k l h. grind (arith, places, length-remove, get_or-remove_above);
      }

module _ {X : Type 0} (row turned : List X) (i : ℕ) (x : X) (within : i < length row) where
  -- The part from the place on, as a slice of the row has it.
  abbrev part : List X
  part = take (length row - i) (drop i row)

  -- A rotation of the part by one to the right, then a write at the place, puts an element in.
  pub rotated_in : turned ≡ drop (length part - 1) part ++ take (length part - 1) part → set (put_mid i (length row - i) row turned) i x ≡ put_in row i x
  rotated_in e =
      let more = length-insert row i x (omega arith) in
      let t = rw (take_rest row i) at e in
      same_lists _ _ (search (rules, places)) (λ k d h. grind (arith, places, get_or-set_same, cases_eq k i))

  -- A rotation by one to the left, then a write at the end, takes an element out.
  pub rotated_out : turned ≡ drop 1 part ++ take 1 part → set (put_mid i (length row - i) row turned) (length row - 1) x ≡ take_out row i x
  rotated_out e =
      rw (put_mid-rotated i (length row - i) row turned x within (omega arith) e)
      (set_at (remove row i) (get_or row i x) [] x (length row - 1) (omega (arith, length-remove row i within)))
