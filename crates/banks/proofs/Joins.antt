-- Two lists of words, one behind the other and cut to the first n: each is a part of the whole.
use Rattle.std.proofs.Common.{◌≡◌, ℕ, ◌-◌, ◌<◌, ◌≤◌, List, ◌++◌, length, take, sym, arith, length-append}
use lib.ListN.{get_or-append}
use lib.Seq.{set-append_left}
use Rattle.std.proofs.lemmas.List.{get_or-append_right, set-append_right}
use Rattle.banks.proofs.Parts.{Sits, sits_within}
use Rattle.banks.proofs.Front.{sits_front}

module _ (n : ℕ) (low high : List ℕ) (cell : ℕ) (k : cell < n) where
  -- A cell of the first list.
  pub sits_low : cell < length low → Sits (λ part. take n (part ++ high)) low cell cell
  sits_low h =
      let e = length-append low high in
      sits_within (take n) (λ part. part ++ high) low cell cell cell
      (record {
        inside = λ i. omega arith;
        beyond = λ o. absurd (omega arith);
        word = sym (get_or-append low high 0 cell h);
        write = λ new. sym (set-append_left low high cell new h);
      })
      (sits_front n (low ++ high) cell k)

  -- A cell behind the first list.
  pub sits_high : (start : ℕ) → start ≡ length low → start ≤ cell → Sits (λ part. take n (low ++ part)) high (cell - start) cell
  sits_high start s h =
      let e = length-append low high in
      sits_within (take n) (λ part. low ++ part) high (cell - start) cell cell
      (record {
        inside = λ i. omega arith;
        beyond = λ o. omega arith;
        word = sym (get_or-append_right low high start cell 0 (sym s) h);
        write = λ new. sym (set-append_right low high start cell new (sym s) h);
      })
      (sits_front n (low ++ high) cell k)
