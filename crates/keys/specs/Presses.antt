-- Presses, and which bytes are a code.
use Rattle.std.specs.Prelude.{ℕ, Bool, true, cond, ◌&&◌, ◌||◌, List, [], ◌∷◌, length, Some, None, Option, ◌==◌, nat_le}

-- Whether a character is a press: a digit (48 to 57), a star (42) or a hash sign (35).
abbrev pub is_press : ℕ → Bool
is_press c = (nat_le 48 c && nat_le c 57) || (c == 42 || c == 35)

-- The byte of a character that is a press.
abbrev pub press_byte : ℕ → Option ℕ
press_byte c = cond (is_press c) (Some c) None

-- Whether each of a list of bytes is a press.
abbrev pub all_presses : List ℕ → Bool
all_presses [] = true
all_presses (b ∷ bs) = is_press b && all_presses bs

-- Whether bytes are a code: 1 to 8 of them, each a press.
abbrev pub is_code : List ℕ → Bool
is_code bs = (nat_le 1 (length bs) && nat_le (length bs) 8) && all_presses bs
