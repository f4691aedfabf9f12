-- Reading presses one by one: what is a code, and what is not.
use Rattle.std.proofs.Common.{◌≡◌, ℕ, zero, suc, ◌+◌, ◌<◌, ◌≤◌, Bool, true, false, cond, ◌⊎◌, List, [], ◌∷◌, ◌++◌, length, get_or, take, set, Some, None, Ok, Err, refl, ◌∙◌, inl, inr, arith, take_all, rules, length-set}
use Rattle.std.proofs.lemmas.List.{take_more, take_more_set}
use Rattle.std.proofs.lemmas.Bool.Decides.{nat_tests}
use Rattle.std.proofs.lemmas.Bool.{and_parts, and_from, and_left, and_right}
use Rattle.std.specs.Option.{ok_or}
use Rattle.panel.specs.declared.Refusal.{Refusal}
use Rattle.panel.specs.declared.Refusal.TheVariants.{CodeMisread}
use Rattle.keys.specs.Presses.{is_press, press_byte, all_presses, is_code}
use Rattle.keys.specs.Codes.{code_read}

one_more : (xs : List ℕ) (b : ℕ) → all_presses xs ≡ true → is_press b ≡ true → all_presses (xs ++ (b ∷ [])) ≡ true
one_more [] b h k = and_from (is_press b) true k refl
one_more (x ∷ xs) b h k = let p = and_parts (is_press x) (all_presses xs) h in and_from (is_press x) _ p.0 (one_more xs b p.1 k)

not_all : (xs : List ℕ) (i : ℕ) → i < length xs → is_press (get_or xs i 0) ≡ false → all_presses xs ≡ false
not_all [] i l k = absurd (omega arith)
not_all (x ∷ xs) zero l k = and_left (is_press x) (all_presses xs) k
not_all (x ∷ xs) (suc i) l k = and_right (is_press x) (all_presses xs) (not_all xs i (omega arith) k)

-- What a byte gives by which a press is told, or else an error.
taken : (t : Bool) (c b : ℕ) (e : Refusal) → ok_or (cond t (Some c) None) e ≡ Ok b → (t ≡ true) × (c ≡ b)
taken true c b e o = (refl, cc)
taken false c b e o = search rules

missed : (t : Bool) (c : ℕ) (e r : Refusal) → ok_or (cond t (Some c) None) e ≡ Err r → (t ≡ false) × (e ≡ r)
missed true c e r o = search rules
missed false c e r o = (refl, cc)

-- What is kept so far: the front of the text, all presses, in eight places.
pub record Kept (text kept : List ℕ) (i : ℕ) : Type 0 where
  pub front : take i kept ≡ take i text
  pub presses : all_presses (take i text) ≡ true
  pub places : length kept ≡ 8

module _ (text : List ℕ) where
  -- One press more.
  pub kept_more : (kept : List ℕ) (i b : ℕ) → i < length text → i < length kept → ok_or (press_byte (get_or text i 0)) CodeMisread ≡ Ok b → Kept text kept i → Kept text (set kept i b) (i + 1)
  kept_more kept i b l k e so =
      let p = taken (is_press (get_or text i 0)) (get_or text i 0) b CodeMisread e in
      record {
        front = cc (take_more_set kept i b k, take_more text i 0 l, so.front, p.1);
        presses = rw (take_more text i 0 l) (one_more (take i text) (get_or text i 0) so.presses p.0);
        places = length-set kept i b ∙ so.places;
      }

  -- A byte that is no press.
  pub misread_at : (i : ℕ) (r : Refusal) → i < length text → ok_or (press_byte (get_or text i 0)) CodeMisread ≡ Err r → Err r ≡ code_read text
  misread_at i r l e =
      let m = missed (is_press (get_or text i 0)) (get_or text i 0) CodeMisread r e in
      let n : is_code text ≡ false = and_right _ (all_presses text) (not_all text i l m.0) in
      rw (n, m.1)

  -- Too few or too many bytes.
  pub misread_length : (length text < 1) ⊎ ((1 ≤ length text) × (8 < length text)) → Err CodeMisread ≡ code_read text
  misread_length (inl h) = grind (arith, nat_tests)
  misread_length (inr h) = grind (arith, nat_tests)

  -- All presses are kept: the bytes are a code, and this one.
  pub read_all : (kept : List ℕ) (i : ℕ) → 1 ≤ length text → length text ≤ 8 → length text ≤ i → i ≤ length text → Kept text kept i → Ok (take (length text) kept) ≡ code_read text
  read_all kept i low high done within so =
      let n : i ≡ length text = omega arith in
      let k : Kept text kept (length text) = rw n at so in
      grind (arith, nat_tests, k.front, k.presses, take_all (length text) text (omega arith))

-- What the check of reading a code is given.
pub ruleset of_codes = (misread_at, misread_length, read_all)
