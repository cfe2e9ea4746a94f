-- The packets that nodes offer to their interfaces.
use Rattle.std.specs.Prelude.{◌≡◌, ◌⊎◌, ℕ, zero, suc, ◌+◌, ◌≤◌, ◌==◌, List, [], ◌∷◌, ◌++◌, length, map, Option, Some, None}
use Rattle.nm_base.specs.declared.key.Key.{Key}
use Rattle.nm_base.specs.declared.event.Event.{Event}
use Rattle.nm_base.specs.declared.event.Event.TheVariants.{Delivery, Completion}
use Rattle.nm_base.specs.declared.event.Origin.TheVariants.{Arrival, Source}
use Rattle.nm_base.specs.declared.record.Dir.TheVariants.{Out}
use Rattle.nm_model.specs.Lists.{keep_where}
use Rattle.nm_model.specs.EventList.{least}
use Rattle.nm_model.specs.Network.{Net}
use Rattle.nm_model.specs.Port.{option_list, waiting_of}
use Rattle.nm_model.specs.Run.{State, one_list}
use Rattle.nm_model.specs.Trace.{passed}

module _ {P N : Type 0} (net : Net P N) where
  -- What a node sends in answer to an event: by which of its interfaces, and the packet. Nodes
  -- answer to packets that arrive and to those of their sources, and to nothing else.
  abbrev pub answer_to : (ℕ → N) → Event P → Option (ℕ × P)
  answer_to nodes (Delivery (Arrival i) x) =
      (net.react (net.owner i) (nodes (net.owner i)) (Arrival i) x).1
  answer_to nodes (Delivery (Source j) x) =
      (net.react (net.source_node j) (nodes (net.source_node j)) (Source j) x).1
  answer_to nodes (Completion i) = None

  -- in answer to the next event, if one is pending
  abbrev pub next_offer : State P N → Option (Key × Event P) → List (ℕ × P)
  next_offer s None = []
  next_offer s (Some e) = option_list (answer_to s.node e.1)

  -- all packets that were offered in the first n events of the network, in that order, each
  -- with its interface
  abbrev pub offers : ℕ → List (ℕ × P)
  offers zero = []
  offers (suc n) = offers n ++ next_offer (one_list net n) (least (one_list net n).pending)

  -- of such a list, the packets offered to the interfaces of node v
  abbrev pub offered_by : ℕ → List (ℕ × P) → List (ℕ × P)
  offered_by v l = keep_where (λ o. v == net.owner o.0) l

-- and to interface i
abbrev pub offered_to : {P : Type 0} → ℕ → List (ℕ × P) → List (ℕ × P)
offered_to i l = keep_where (λ o. i == o.0) l

-- the first list is the second with some members left out
abbrev pub IsSubsequence : {A : Type 0} → List A → List A → Type 0
IsSubsequence [] ys = Unit {0}
IsSubsequence (x ∷ xs) [] = ⊥
IsSubsequence (x ∷ xs) (y ∷ ys) = ((x ≡ y) × IsSubsequence xs ys) ⊎ IsSubsequence (x ∷ xs) ys

-- packets without their interfaces, or their times
abbrev pub packets_in : {P : Type 0} → List (ℕ × P) → List P
packets_in l = map (λ a. a.1) l

-- What became of the packets that were offered to interface i in the first n events.
pub record AreAccountedFor {P N : Type 0} (net : Net P N) (n i : ℕ) : Type 0 where
  -- an event offers one packet at most
  pub few : length (offers net n) ≤ n
  -- each has started, or waits, or was dropped
  pub all : let s : State P N = one_list net n in
      length (offered_to i (offers net n))
      ≡ length (passed Out i s.records) + length (waiting_of (s.port i).busy)
      + (s.port i).dropped
  -- those that started, and then those that wait, are the offered ones in their order, without
  -- the dropped
  pub in_turn : let s : State P N = one_list net n in
      IsSubsequence (packets_in (passed Out i s.records) ++ waiting_of (s.port i).busy)
      (packets_in (offered_to i (offers net n)))
