-- The lines that name keys, and the route of a hash as it is printed.
use Rattle.std.specs.Prelude.{◌≡◌, ℕ, ◌^◌, ◌<◌, false, ◌⊎◌, List, ◌++◌, Ok, Err, codes, decimal, Result, ◌≢◌}
use Rattle.panel.specs.declared.Refusal.{Refusal}
use Rattle.panel.specs.declared.Refusal.TheVariants.{CodeMisread, LineMalformed}
use Rattle.keys.specs.Codes.{presses_of}
use Rattle.keys.specs.Presses.{is_code}
use Rattle.keys.specs.Routes.{chunk_at}
use Rattle.sizing.specs.declared.lines.KeyLine.{KeyLine}
use Rattle.sizing.specs.declared.lines.KeyLine.TheVariants.{OfCard, OfCode}

-- The line of a card, by its number.
abbrev pub card_line : ℕ → List ℕ
card_line n = codes "card=" ++ decimal n

-- The line of a code, by its presses.
abbrev pub code_line : List ℕ → List ℕ
code_line presses = codes "code=" ++ presses

-- The line that names a key.
abbrev pub key_line : KeyLine → List ℕ
key_line (OfCard card) = card_line card.0
key_line (OfCode code) = code_line (presses_of code)

-- A line with the form of a code's whose bytes are none.
pub record Misread (line : List ℕ) : Type 0 where
  pub presses : List ℕ
  pub form : line ≡ code_line presses
  pub improper : is_code presses ≡ false

-- A line that has neither form.
pub record Malformed (line : List ℕ) : Type 0 where
  pub no_card : (n : ℕ) → n < 2 ^ 64 → line ≢ card_line n
  pub no_code : (presses : List ℕ) → line ≢ code_line presses

-- What reading a line answers: the key that it names, or which of the two is wrong with it.
abbrev pub Names : List ℕ → Result KeyLine Refusal → Type 0
Names line (Ok key) = line ≡ key_line key
Names line (Err e) = ((e ≡ CodeMisread) × Misread line) ⊎ ((e ≡ LineMalformed) × Malformed line)

-- Seven chunks, with points between.
abbrev pub pointed : ℕ → ℕ → ℕ → ℕ → ℕ → ℕ → ℕ → List ℕ
pointed a b c d e f g =
    decimal a
    ++ (codes "."
    ++ (decimal b
    ++ (codes "."
    ++ (decimal c ++ (codes "." ++ (decimal d ++ (codes "." ++ (decimal e ++ (codes "." ++ (decimal f ++ (codes "." ++ decimal g)))))))))))

-- The route of a hash: its chunks from the root on.
abbrev pub route_text : ℕ → List ℕ
route_text h = pointed (chunk_at h 0) (chunk_at h 1) (chunk_at h 2) (chunk_at h 3) (chunk_at h 4) (chunk_at h 5) (chunk_at h 6)
