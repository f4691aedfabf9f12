-- Scripts run on the definitions, for the checker to compute.
use Rattle.std.specs.Prelude.{◌≡◌, ℕ, Bool, List, [], ◌∷◌, replicate, Some, None, Ok, Err, ◌==◌}
use Rattle.keys.specs.Hashes.{card_hash}
use Rattle.keys.specs.declared.cards.Card.{Card}
use Rattle.panel.specs.declared.Refusal.TheVariants.{SeatIdle, TableFull}
use Rattle.mains.specs.declared.Main.TheVariants.{Tomb as tomb}
use Rattle.rules.specs.Calls.{formatted, opened, withdrawn, counted, words_needed, mains_needed, pairs_needed, keys_needed}
use Rattle.rules.specs.Memory.{Memory, State}
use Rattle.rules.specs.Perform.{Picks, turned}
use Rattle.rules.specs.declared.Ask.{Ask}
use Rattle.rules.specs.declared.Ask.TheVariants.{Get, Put, Cut}
use Rattle.rules.specs.declared.Figures.{Figures}
use Rattle.rules.specs.declared.Outcome.{Outcome}
use Rattle.rules.specs.declared.Outcome.TheVariants.{Found, Stored, Removed}
use Rattle.rules.specs.declared.Reply.{Reply}
use Rattle.rules.specs.declared.Reply.TheVariants.{Opened, Turned, Withdrew, Counted}

-- A card by its number.
abbrev pub card : ℕ → Card
card n = record { 0 = n }

-- Cards are equal if their numbers are.
abbrev pub same_card : Card → Card → Bool
same_card a b = a.0 == b.0

-- The hash of a card.
abbrev pub hash_card : Card → ℕ
hash_card a = card_hash a.0

-- Figures for a format: seats, cells, pairs, ticks.
abbrev pub figures : ℕ → ℕ → ℕ → ℕ → Figures
figures seats cells pairs ticks = record { seats = seats; cells = cells; pairs = pairs; ticks = ticks }

-- Memory of just the size that the figures need, with anything in it.
abbrev pub lent : Figures → Memory Card
lent f =
    record {
      words = replicate (words_needed f) 9;
      mains = replicate (mains_needed f) (tomb 5);
      pairs = replicate (pairs_needed f) (record { key = card 4; value = 4 });
      keys = replicate (keys_needed f) (card 7);
    }

-- A line of a script; a turn with the places that it takes.
pub data Line : Type 0 where
  opens : ℕ → Ask → ℕ → Line
  turns : ℕ → Picks → Line
  withdraws : ℕ → Line
  counts : Line

-- The state after a line.
abbrev pub after : State Card → Line → State Card
after s (opens t ask n) = (opened s t ask (card n)).state
after s (turns t picks) = (turned same_card hash_card s t picks).state
after s (withdraws t) = (withdrawn s t).state
after s counts = s

-- What a line answers.
abbrev pub reply : State Card → Line → Reply
reply s (opens t ask n) = Opened (opened s t ask (card n)).answer
reply s (turns t picks) = Turned (turned same_card hash_card s t picks).answer
reply s (withdraws t) = Withdrew (withdrawn s t).answer
reply s counts = Counted (counted same_card hash_card s)

-- What a script answers.
abbrev pub replies : State Card → List Line → List Reply
replies s [] = []
replies s (l ∷ ls) = reply s l ∷ replies (after s l) ls

-- The state that a script leads to.
abbrev pub leads : State Card → List Line → State Card
leads s [] = s
leads s (l ∷ ls) = leads (after s l) ls

-- No places are taken.
abbrev pub none : Picks
none = record { cells = []; mains = []; pairs = [] }

-- These cells, mains and pairs are taken.
abbrev pub taking : List ℕ → List ℕ → List ℕ → Picks
taking cells mains pairs = record { cells = cells; mains = mains; pairs = pairs }

-- A turn that goes on.
abbrev pub going : Reply
going = Turned (Ok None)

-- A turn that finishes.
abbrev pub finishes : Outcome → ℕ → Reply
finishes r stamp = Turned (Ok (Some (record { outcome = r; stamp = stamp })))

-- Two boards put at one cell: the second loses its swap, reads again and splits.
abbrev pub collision : List Line
collision =
    opens 0 (Put 70) 1
    ∷ (opens 1 (Put 71) 33
    ∷ (turns 0 (taking [] (1 ∷ []) (0 ∷ []))
    ∷ (turns 1 (taking [] (2 ∷ []) (1 ∷ []))
    ∷ (turns 0 none
    ∷ (turns 1 none ∷ (turns 1 (taking (1 ∷ []) (2 ∷ (3 ∷ [])) (1 ∷ [])) ∷ (turns 1 none ∷ (counts ∷ (withdraws 1 ∷ [])))))))))

-- It answers so.
abbrev pub Collision : Type 0
Collision =
    replies (formatted (figures 2 8 8 0) (lent (figures 2 8 8 0))) collision
    ≡ Opened (Ok 1)
    ∷ (Opened (Ok 2)
    ∷ (going
    ∷ (going
    ∷ (finishes Stored 3
    ∷ (going
    ∷ (going
    ∷ (finishes Stored 6
    ∷ (Counted (record { pairs = 2; cells = 2; tombs = 0; «open» = 0; ticks = 6 }) ∷ (Withdrew (Err SeatIdle) ∷ [])))))))))

-- After it: a get finds 33; a cut of 1 leaves a tomb and is withdrawn while it cleans; a get of 33 helps and finds it.
abbrev pub helping : List Line
helping =
    opens 0 Get 33
    ∷ (turns 0 none
    ∷ (turns 0 none
    ∷ (opens 0 Cut 1
    ∷ (turns 0 none
    ∷ (turns 0 (taking [] (1 ∷ []) [])
    ∷ (turns 0 none
    ∷ (turns 0 none
    ∷ (turns 0 (taking [] (4 ∷ []) [])
    ∷ (withdraws 0
    ∷ (counts
    ∷ (opens 0 Get 33
    ∷ (turns 0 none ∷ (turns 0 none ∷ (turns 0 (taking [] (5 ∷ []) []) ∷ (turns 0 none ∷ (turns 0 none ∷ (counts ∷ [])))))))))))))))))

-- It answers so.
abbrev pub Helping : Type 0
Helping =
    replies (leads (formatted (figures 2 8 8 0) (lent (figures 2 8 8 0))) collision) helping
    ≡ Opened (Ok 3)
    ∷ (going
    ∷ (finishes (Found 71) 8
    ∷ (Opened (Ok 4)
    ∷ (going
    ∷ (going
    ∷ (going
    ∷ (going
    ∷ (going
    ∷ (Withdrew (Ok (Some (record { outcome = Removed 70; stamp = 11 })))
    ∷ (Counted (record { pairs = 1; cells = 2; tombs = 1; «open» = 0; ticks = 13 })
    ∷ (Opened (Ok 5)
    ∷ (going
    ∷ (going
    ∷ (going
    ∷ (going
    ∷ (finishes (Found 71) 18 ∷ (Counted (record { pairs = 1; cells = 1; tombs = 0; «open» = 0; ticks = 18 }) ∷ [])))))))))))))))))

-- Two cards of one hash: a chain of seven cells down to a list, then a cut in it that leaves a tomb.
abbrev pub deep : List Line
deep =
    opens 0 (Put 70) 1
    ∷ (turns 0 (taking [] (1 ∷ []) (0 ∷ []))
    ∷ (turns 0 none
    ∷ (opens 0 (Put 71) 4294967296
    ∷ (turns 0 (taking (1 ∷ (2 ∷ (3 ∷ (4 ∷ (5 ∷ (6 ∷ (7 ∷ []))))))) (2 ∷ (3 ∷ (4 ∷ (5 ∷ (6 ∷ (7 ∷ (8 ∷ (9 ∷ [])))))))) (1 ∷ []))
    ∷ (turns 0 none
    ∷ (counts
    ∷ (opens 0 Cut 1
    ∷ (turns 0 none
    ∷ (turns 0 none
    ∷ (turns 0 none
    ∷ (turns 0 none
    ∷ (turns 0 none
    ∷ (turns 0 none
    ∷ (turns 0 none ∷ (turns 0 (taking [] (1 ∷ []) []) ∷ (turns 0 none ∷ (withdraws 0 ∷ (counts ∷ []))))))))))))))))))

-- It answers so.
abbrev pub Deep : Type 0
Deep =
    replies (formatted (figures 2 8 8 0) (lent (figures 2 8 8 0))) deep
    ≡ Opened (Ok 1)
    ∷ (going
    ∷ (finishes Stored 2
    ∷ (Opened (Ok 2)
    ∷ (going
    ∷ (finishes Stored 4
    ∷ (Counted (record { pairs = 2; cells = 8; tombs = 0; «open» = 0; ticks = 4 })
    ∷ (Opened (Ok 3)
    ∷ (going
    ∷ (going
    ∷ (going
    ∷ (going
    ∷ (going
    ∷ (going
    ∷ (going
    ∷ (going
    ∷ (going
    ∷ (Withdrew (Ok (Some (record { outcome = Removed 70; stamp = 13 })))
    ∷ (Counted (record { pairs = 1; cells = 8; tombs = 1; «open» = 0; ticks = 13 }) ∷ []))))))))))))))))))

-- Beside card 1, a put of 33: refused as full with one cell, stored with two.
abbrev pub narrow : List Line
narrow =
    opens 0 (Put 70) 1
    ∷ (turns 0 (taking [] (1 ∷ []) (0 ∷ []))
    ∷ (turns 0 none ∷ (opens 1 (Put 71) 33 ∷ (turns 1 (taking (1 ∷ []) (2 ∷ (3 ∷ [])) (1 ∷ [])) ∷ (turns 1 none ∷ [])))))

-- Both begin alike.
abbrev pub begun : List Reply → List Reply
begun ends = Opened (Ok 1) ∷ (going ∷ (finishes Stored 2 ∷ (Opened (Ok 2) ∷ ends)))

-- It answers so with one cell, and so with two.
abbrev pub Narrow : Type 0
Narrow =
    (replies (formatted (figures 2 1 8 0) (lent (figures 2 1 8 0))) narrow ≡ begun (Turned (Err TableFull) ∷ (Turned (Err SeatIdle) ∷ [])))
    × (replies (formatted (figures 2 2 8 0) (lent (figures 2 2 8 0))) narrow ≡ begun (going ∷ (finishes Stored 4 ∷ [])))

-- With one pair allowed, a promised pair counts and a replacement does not.
abbrev pub promising : List Line
promising =
    opens 0 (Put 70) 1
    ∷ (turns 0 (taking [] (1 ∷ []) (0 ∷ []))
    ∷ (opens 1 (Put 71) 2
    ∷ (turns 1 (taking [] (2 ∷ []) (1 ∷ []))
    ∷ (turns 0 none ∷ (opens 1 (Put 72) 1 ∷ (turns 1 (taking [] (2 ∷ []) (1 ∷ [])) ∷ (turns 1 none ∷ [])))))))

-- It answers so.
abbrev pub Promising : Type 0
Promising =
    replies (formatted (figures 2 8 1 0) (lent (figures 2 8 1 0))) promising
    ≡ Opened (Ok 1)
    ∷ (going
    ∷ (Opened (Ok 2)
    ∷ (Turned (Err TableFull) ∷ (finishes Stored 3 ∷ (Opened (Ok 3) ∷ (going ∷ (finishes Stored 5 ∷ [])))))))

-- What two seats, eight cells and eight pairs need: bank cells, main places, pair places, key places.
abbrev pub Needs : Type 0
Needs =
    (words_needed (figures 2 8 8 0) ≡ 22)
    × (mains_needed (figures 2 8 8 0) ≡ 26)
    × (pairs_needed (figures 2 8 8 0) ≡ 10)
    × (keys_needed (figures 2 8 8 0) ≡ 2)

-- All samples, jointly.
pub record Scripts : Type 0 where
  pub collision : Collision
  pub helping : Helping
  pub deep : Deep
  pub narrow : Narrow
  pub promising : Promising
  pub needs : Needs
