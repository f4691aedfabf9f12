-- Sample figures of the definitions that the contracts cite, for the checker to compute.
use Rattle.std.specs.Prelude.{ℕ, List, [], ◌∷◌, codes, nat_eq}
use Rattle.keys.specs.Hashes.{card_hash, fnv1a}
use Rattle.keys.specs.Routes.{chunk_at}
use Rattle.keys.specs.declared.cards.Card.{Card}
use Rattle.sizing.specs.Demand.{capacity_of}

-- A card by its number.
abbrev pub card : ℕ → Card
card n = record { 0 = n }

-- The cells that a table at rest with these two cards needs.
abbrev pub cells_of : ℕ → ℕ → ℕ
cells_of one other = (capacity_of (λ a b. nat_eq a.0 b.0) (λ a. card_hash a.0) (card one ∷ (card other ∷ []))).cells

-- In order: the hash of card 4,294,967,296; the chunks of hash 33 at the indices 0 and 1; the hash of the code 1 and its
-- chunk at index 0; the cells for the cards 1 and 33, 1 and 1,025, 1 and 4,294,967,296.
unfoldable pub sample_figures_of : List ℕ
sample_figures_of =
    card_hash 4294967296
    ∷ (chunk_at 33 0
    ∷ (chunk_at 33 1
    ∷ (fnv1a (codes "1") ∷ (chunk_at (fnv1a (codes "1")) 0 ∷ (cells_of 1 33 ∷ (cells_of 1 1025 ∷ (cells_of 1 4294967296 ∷ [])))))))
