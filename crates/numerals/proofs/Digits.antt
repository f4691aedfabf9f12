-- The text of a number: its digits, the first of them no zero unless it is alone.
use Rattle.std.proofs.Common.{◌≡◌, ℕ, ◌^◌, ◌<◌, ◌≤◌, List, length, get_or, Ok, Err, decimal, Result, sym, ap, ◌∙◌, inl, inr, arith}
use Rattle.std.specs.Prelude.{Option, MatchOption, ◌≢◌}
use Rattle.std.specs.Result.{MatchResult, result_ok}
use Rattle.std.specs.Str.Parse.{AllDigits, digits_value, ParsesUnsigned}
use Rattle.std.proofs.lemmas.Fmt.{decimal-digits_value, digits_decimal, decimal_nonempty, first_decimal, decimal_digit, parse-decimal}
use Rattle.std.proofs.lemmas.Str.Parse.{IsNumeralModel, numerals_by_value, tells_digits, parse_plain, digit_at}
use Rattle.std.proofs.lemmas.Bool.{cases_lt}

plain_digits : IsNumeralModel (AllDigits 10) (digits_value 10)
plain_digits = numerals_by_value (AllDigits 10) tells_digits

-- A number's text is not empty, and has neither a sign nor a zero before more.
pub record Plain (text : List ℕ) : Type 0 where
  pub some : 0 < length text
  pub no_sign : get_or text 0 0 ≢ 43
  pub alone : get_or text 0 0 ≡ 48 → length text ≤ 1

pub plain : (text : List ℕ) (n : ℕ) → n < 2 ^ 64 → text ≡ decimal n → Plain text
plain text n fits e =
    let some = decimal_nonempty n fits in
    rw e
    (record {
      some = some;
      no_sign = λ s. let d = digit_at (decimal n) 0 (digits_decimal plain_digits n fits) some in omega arith;
      alone =
          λ z. elim (cases_lt 0 n) [
            | inl k ↦ omega (arith, first_decimal n k fits)
            | inr k ↦ let o : n ≡ 0 = omega arith in rw (o, decimal_digit 0 (omega arith)) (omega arith)
          ];
    })

-- The text is that of no number.
abbrev pub Numberless : List ℕ → Type 0
Numberless text = (n : ℕ) → n < 2 ^ 64 → text ≢ decimal n

-- What was parsed is the number that the text writes, and where nothing was, it is no number's text.
pub read : {E : Type 0} (text : List ℕ) (r : Result ℕ E) → ParsesUnsigned 64 10 text r → get_or text 0 0 ≢ 43 → (get_or text 0 0 ≡ 48 → length text ≤ 1) → MatchOption (result_ok r) (Numberless text) (λ n. text ≡ decimal n)
read {E} text (Ok n) reads plus zero =
    let k = parse_plain plain_digits {E = E} 64 text (Ok n) reads plus in
    sym (ap decimal k.1 ∙ decimal-digits_value plain_digits text k.0.0 k.0.1 (λ z. omega (arith, zero z, k.0.1)) k.0.2)
read text (Err d) reads plus zero = λ n fits t. let e = parse-decimal 64 n text (Err d) fits fits t reads in cc

-- What is known of a result is known where it turns into a value, or into none.
pub turned : {A E : Type 0} (P : A → Type 0) (Q : E → Type 0) (R : Type 0) (r : Result A E) (o : Option A) → o ≡ result_ok r → MatchResult r P Q → ((e : E) → Q e → R) → MatchOption o R P
turned P Q R (Ok a) o t m f = rw t m
turned P Q R (Err d) o t m f = rw t (f d m)
