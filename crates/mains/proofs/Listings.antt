-- Lists of pairs: what is listed after each edit, and that a list stays well formed.
use Rattle.std.proofs.Common.{◌≡◌, ℕ, ◌-◌, ◌<◌, ◌≤◌, min, [], ◌∷◌, ◌++◌, List, length, take, set, refl, arith, length-set, length-take, rules}
use lib.Seq.{take-set-lt}
use Rattle.std.specs.List.{remove}
use Rattle.std.proofs.lemmas.List.{same_lists, places, take_more_set, set_past, take_all, take_min, drop_all, append-nil}
use Rattle.std.proofs.lemmas.Bool.Decides.{nat_tests}
use Rattle.mains.specs.Rows.{take_out}
use Rattle.mains.specs.Lists.{listed, appended, relisted, unlisted, of_pairs}
use Rattle.mains.specs.Laws.{WellListed}
use Rattle.mains.specs.declared.PairList.{PairList}
use Rattle.mains.proofs.Shifts.{length_out}

pub length_listed : (l : PairList) → length (listed l) ≡ min l.count (length l.pairs)
length_listed l = length-take l.count l.pairs

-- What is listed after each edit.
pub listed_of : (a b : ℕ) → listed (of_pairs a b) ≡ a ∷ (b ∷ [])
listed_of a b = refl

pub listed_appended : (l : PairList) (p : ℕ) → length l.pairs ≡ 32 → l.count < 32 → listed (appended l p) ≡ listed l ++ (p ∷ [])
listed_appended l p row room = grind (arith, nat_tests, take_more_set)

pub listed_relisted : (l : PairList) (i p : ℕ) → listed (relisted l i p) ≡ set (listed l) i p
listed_relisted l i p = grind (arith, nat_tests, length_listed l, take-set-lt, set_past)

front_out : (xs : List ℕ) (n i x : ℕ) → i < n → n ≤ length xs → take (n - 1) (take_out xs i x) ≡ remove (take n xs) i
front_out xs n i x h k = same_lists _ _ (search (rules, places)) (λ j d l. grind (arith, places))

removed_past : (xs : List ℕ) (i : ℕ) → length xs ≤ i → remove xs i ≡ xs
removed_past xs i h = grind (arith, take_all, drop_all, append-nil)

pub listed_unlisted : (l : PairList) (i : ℕ) → listed (unlisted l i) ≡ remove (listed l) i
listed_unlisted l i = grind (arith, nat_tests, length_listed l, front_out, take_min, removed_past)

-- The edits keep a list well formed, whatever the place.
pub pairs_formed : (a b : ℕ) → WellListed (of_pairs a b)
pairs_formed a b = record { counted = omega arith; row = refl }

pub appended_formed : (l : PairList) (p : ℕ) → WellListed l → WellListed (appended l p)
appended_formed l p w = record { counted = grind (arith, nat_tests); row = grind (arith, nat_tests, length-set) }

pub relisted_formed : (l : PairList) (i p : ℕ) → WellListed l → WellListed (relisted l i p)
relisted_formed l i p w = record { counted = grind (arith, nat_tests); row = grind (arith, nat_tests, length-set) }

pub unlisted_formed : (l : PairList) (i : ℕ) → WellListed l → WellListed (unlisted l i)
unlisted_formed l i w = record { counted = grind (arith, nat_tests, length_listed l); row = grind (arith, nat_tests, length_out, length_listed l) }
