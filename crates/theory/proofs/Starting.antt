-- A fresh table is shown by a formatted machine, and reaches its root alone.
use Rattle.std.proofs.Common.{◌≡◌, ℕ, suc, ◌<◌, Bool, false, leb, [], ◌∷◌, length, get_or, replicate, None, sym, refl, ap, ◌∙◌, subst, arith}
use mathlib.Core.List.{Memᴰ}
use Rattle.std.proofs.lemmas.Bool.{and_parts, leb-true, true≢false}
use Rattle.machine.specs.Machine.{Seat as Place, idle, word, main}
use Rattle.machine.specs.Turn.{Turns}
use Rattle.mains.specs.Nodes.{empty_node}
use Rattle.mains.specs.declared.Main.TheVariants.{Node as node}
use Rattle.rules.proofs.Freshness.{formats_fresh, accepted}
use Rattle.rules.proofs.Counting.{counted}
use Rattle.rules.proofs.Naming.{sound_in_lem}
use Rattle.rules.specs.Sanity.{Fresh}
use Rattle.rules.specs.Calls.{between, format_refusal, formatted}
use Rattle.rules.specs.Memory.{Memory}
use Rattle.rules.specs.Reached.{HowMany, ReachedCell, ReachedPair, Reached}
use Rattle.rules.specs.Seats.{is_idle}
use Rattle.rules.specs.declared.Figures.{Figures}
use Rattle.rules.specs.declared.Seat.{Seat}
use Rattle.theory.proofs.Ground.{Within}
use Rattle.theory.proofs.Keeping.{fresh_written}
use Rattle.theory.proofs.Lengths.{tells}
use Rattle.theory.proofs.Order.{all_idle}
use Rattle.theory.proofs.Placing.{main_shown}
use Rattle.theory.proofs.Shown.{shows_edits}
use Rattle.theory.specs.Shown.{slots, shown_main, shown_mem}
use Rattle.theory.proofs.Imaging.{Image}

module _ {K : Type 0} (same : K → K → Bool) (hash : K → ℕ) where
  -- Where something is reached, the bank has its root.
  root_inside : {m : Memory K} {i c : ℕ} → Reached same hash m i c → 0 < length m.words
  root_inside (Reached.root l) = l
  root_inside (Reached.next r x e d n l) = root_inside r

  idles : (n t : ℕ) → get_or {A = Place K} (replicate n idle) t idle ≡ idle
  idles (suc n) (suc t) = idles n t
  idles _ _ = refl

  module _ {f : Figures} where
    -- A fresh table is a formatted machine.
    pub fresh_image : (m : Memory K) → format_refusal f m ≡ None → Image same hash [] [] (formatted f m)
    fresh_image m e =
        record {
          seats = replicate 8 idle;
          flag = false;
          shows =
              record {
                eight = refl;
                idles = λ t i. idles 8 t;
                calls = λ t k i q. absurd (true≢false (ap (λ (x : Seat). is_idle x.phase) (sym (all_idle 8 t)) ∙ i));
              };
          run = Turns.formatted (record { root = (slots empty_node, root, shows_edits.empty_at); has_root = root_inside fresh.root; idles = λ t. idles 8 t });
          calm = λ n. refl;
          fitting = λ c i. elim i [ ];
          written = fresh_written same hash m e;
          poised = λ t i. absurd (true≢false (ap (λ (x : Seat). is_idle x.phase) (sym (all_idle 8 t)) ∙ i));
        }
      where
        fresh : Fresh same hash (formatted f m).memory
        fresh = formats_fresh same hash f m e

        root : main (shown_mem (formatted f m).memory) (word (shown_mem (formatted f m).memory) 0) ≡ shown_main (node empty_node)
        root = main_shown (formatted f m).memory 0 (node empty_node) (sound_in_lem same hash (formatted f m).memory 0 0 (node empty_node) fresh.empty).0

    -- It reaches its root alone.
    pub fresh_within : (m : Memory K) → format_refusal f m ≡ None → Within same hash (formatted f m)
    fresh_within m e =
        let a = (accepted f m e).0 in
        let b = (and_parts (between 1 f.seats 8) _ a).1 in
        let c = (and_parts (between 1 f.cells 4096) _ b).0 in
        let one = leb-true 1 f.cells (and_parts (leb 1 f.cells) _ c).0 in
        let cells = (tells same hash z (counted same hash z)).cells 1 roots in
        let pairs = (tells same hash z (counted same hash z)).pairs 0 nothing in
        record { cells = omega (arith, cells, one); pairs = omega (arith, pairs) }
      where
        z : Memory K
        z = (formatted f m).memory

        fresh : Fresh same hash z
        fresh = formats_fresh same hash f m e

        only_root : (x : ℕ) → Memᴰ x (0 ∷ []) → ReachedCell same hash z x
        only_root x (Memᴰ.head q) = subst (ReachedCell same hash z) (sym q) (record { index = 0; at = fresh.root })
        only_root x (Memᴰ.tail i) = elim i [ ]

        roots : HowMany (ReachedCell same hash z) 1
        roots =
            record {
              them = 0 ∷ [];
              once = ((λ i. elim i [ ]), tt);
              only = only_root;
              all = λ x r. Memᴰ.head (fresh.cells r.index x r.at).1;
              many = refl;
            }

        nothing : HowMany (ReachedPair same hash z) 0
        nothing = record { them = []; once = tt; only = λ x i. elim i [ ]; all = λ p r. absurd (fresh.pairs p r); many = refl }
