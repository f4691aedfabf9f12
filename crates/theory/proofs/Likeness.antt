-- Where two memories hold the same, the same shows; and what a main names, it shows.
use Rattle.std.proofs.Common.{◌≡◌, ℕ, Some, None, Option, sym, refl, ◌∙◌, arith}
use mathlib.Core.Option.{none, some}
use Rattle.std.specs.List.{slice_get}
use Rattle.machine.specs.Machine.{HasPair, word, main as main_of}
use Rattle.machine.specs.Tree.{nth as placed}
use Rattle.mains.specs.declared.Main.{Main}
use Rattle.rules.specs.Memory.{Memory, main_at}
use Rattle.theory.proofs.Names.{mem_in}
use Rattle.theory.proofs.Shown.{shows_edits}
use Rattle.theory.proofs.ShownMemory.{shows_memory}
use Rattle.theory.proofs.Writing.{Formed, NamesPair}
use Rattle.theory.specs.Shown.{shown_main, shown_mem}

-- Where the same is there, the same shows.
agree : {A B : Type 0} (o u : Option A) (f : A → B) (d a b : B) → o ≡ u
    → ((x : A) → o ≡ Some x → a ≡ f x) → (o ≡ None → a ≡ d) → ((x : A) → u ≡ Some x → b ≡ f x) → (u ≡ None → b ≡ d) → a ≡ b
agree None u f d a b e h i j k = i refl ∙ sym (k (sym e))
agree (Some x) u f d a b e h i j k = h x refl ∙ sym (j x (sym e))

module _ {K : Type 0} (m z : Memory K) where
  pub word_alike : (c : ℕ) → slice_get z.words c ≡ slice_get m.words c → word (shown_mem z) c ≡ word (shown_mem m) c
  word_alike c e =
      let s = shows_memory K in
      agree (slice_get z.words c) (slice_get m.words c) (λ n. n) 0 _ _ e (s.word_at z c) (s.word_past z c) (s.word_at m c) (s.word_past m c)

  pub main_alike : (n : ℕ) → main_at z.mains n ≡ main_at m.mains n → main_of (shown_mem z) n ≡ main_of (shown_mem m) n
  main_alike n e =
      let s = shows_memory K in
      agree (main_at z.mains n) (main_at m.mains n) shown_main _ _ _ e (s.main_at_lem z n) (s.main_past z n) (s.main_at_lem m n) (s.main_past m n)

  pub pair_alike : (p : ℕ) → slice_get z.pairs p ≡ slice_get m.pairs p → placed (shown_mem z).pairs p ≡ placed (shown_mem m).pairs p
  pair_alike p e =
      let s = shows_memory K in
      agree (slice_get z.pairs p) (slice_get m.pairs p) (λ x. some (x.key, x.value)) none _ _ e (s.pair_at z p) (s.pair_past z p) (s.pair_at m p) (s.pair_past m p)

-- A pair that a main names shows.
pub names_shown : (y : Main) → Formed y → (p : ℕ) → NamesPair y p → HasPair (shown_main y) p
names_shown y w p b = grind (arith, shows_edits, mem_in)
