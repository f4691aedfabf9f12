-- How far a hash goes along with others.
use Rattle.std.specs.Prelude.{ℕ, cond, List, fold, nat_lt}
use Rattle.keys.specs.Routes.{parting_at}

-- The two largest of some numbers, and one number more.
abbrev pub larger_two : ℕ × ℕ → ℕ → ℕ × ℕ
larger_two two n = cond (nat_lt two.0 n) (n, two.0) (cond (nat_lt two.1 n) (two.0, n) two)

-- The two deepest indices at which a hash parts from others.
unfoldable pub deepest_two_of : ℕ → List ℕ → ℕ × ℕ
deepest_two_of h others = fold (λ two g. larger_two two (parting_at h g 0)) (0, 0) others
