-- What a code stands for, and what reading one answers.
use Rattle.std.specs.Prelude.{ℕ, cond, List, take, Ok, Err, Result}
use Rattle.panel.specs.declared.Refusal.{Refusal}
use Rattle.panel.specs.declared.Refusal.TheVariants.{CodeMisread}
use Rattle.keys.specs.Presses.{is_code}
use Rattle.keys.specs.declared.keypad.Code.{Code}

-- The presses of a code, as their ASCII bytes, in order.
abbrev pub presses_of : Code → List ℕ
presses_of c = take c.count c.bytes

-- An answer by the presses of its code.
abbrev pub in_presses : Result Code Refusal → Result (List ℕ) Refusal
in_presses (Ok c) = Ok (presses_of c)
in_presses (Err e) = Err e

-- What bytes are read as: the code of these presses, or misread.
abbrev pub code_read : List ℕ → Result (List ℕ) Refusal
code_read bytes = cond (is_code bytes) (Ok bytes) (Err CodeMisread)
