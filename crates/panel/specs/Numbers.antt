-- The numbers of the refusals, and how one is printed.
use Rattle.std.specs.Prelude.{ℕ, List, ◌++◌, codes, decimal}
use Rattle.panel.specs.declared.Refusal.{Refusal}
use Rattle.panel.specs.declared.Refusal.TheVariants.{FigureOutOfLimits, TooLittleMemory, NoSuchSeat, SeatTaken, SeatIdle, CountersSpent, CodeMisread, MemoryUnfit, TableFull, ListFull, LineMalformed, NotFormatted, BeyondBank}

-- The number that the panel shows for a refusal.
abbrev pub number : Refusal → ℕ
number FigureOutOfLimits = 11
number TooLittleMemory = 12
number NoSuchSeat = 13
number SeatTaken = 14
number SeatIdle = 15
number CountersSpent = 16
number CodeMisread = 17
number MemoryUnfit = 21
number TableFull = 31
number ListFull = 32
number LineMalformed = 41
number NotFormatted = 42
number BeyondBank = 51

-- A refusal as it is printed.
abbrev pub panel_text : Refusal → List ℕ
panel_text x = codes "refused=" ++ decimal (number x)
