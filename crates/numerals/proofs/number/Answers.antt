use Rattle.std.proofs.Common.{IsUtf8, Some, None, subst, sym, rules, arith}
use Rattle.std.proofs.lemmas.Bool.Decides.{nat_tests}
use Rattle.std.proofs.lemmas.Fmt.{IsAscii-decimal}
use Rattle.std.proofs.lemmas.Str.{IsUtf8-from_ascii}
use Rattle.numerals.proofs.Digits.{plain, read, turned}
use Rattle.numerals.proofs.number.Goals as goal

pub returns-in_err-first : goal.returns-in_err-first
returns-in_err-first c =
    rw c.from_residual.ensures
    (λ n fits t. let p = plain c.args.text.now n fits t in let i = c.in_err-first.ensures.item.0 in grind (arith, nat_tests))

pub returns-then-first-eq43 : goal.returns-then-first-eq43
returns-then-first-eq43 c = λ n fits t. let p = plain c.args.text.now n fits t in omega (arith, p.no_sign, c.in_ok-first.ensures.item.3.1 0)

pub returns-then-text-gt1 : goal.returns-then-text-gt1
returns-then-text-gt1 c = λ n fits t. let p = plain c.args.text.now n fits t in omega (arith, p.alone, c.in_ok-first.ensures.item.3.1 0)

pub returns-in_err-ok : goal.returns-in_err-ok
returns-in_err-ok c =
    rw c.from_residual-in_err-ok.ensures
    (turned _ _ _ c.from_utf8.result None c.in_err-ok.ensures.value c.from_utf8.ensures.cases
    (λ d no n fits t. no.0 (subst IsUtf8 (sym t) (IsUtf8-from_ascii _ (IsAscii-decimal n fits)))))

pub returns : goal.returns
returns c =
    let first = c.in_ok-first.ensures.item.3.1 0 in
    let s = turned _ _ Unit c.from_utf8.result (Some c.in_ok-ok.field-0) c.in_ok-ok.ensures.value c.from_utf8.ensures.cases (λ d no. tt) in
    let o = read c.args.text.now c.parse.result (rw s.0 at c.parse.ensures.value.0) (λ p. omega arith) (λ z. omega (arith, c.else-first-eq48.either)) in
    search (rules, o)
