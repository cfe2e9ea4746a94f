-- How much waits at the interfaces of a network, in packets or in octets, and for how long.
use Rattle.std.specs.Prelude.{ℕ, zero, suc, ◌+◌, ◌-◌, ◌*◌, max, List, length, sum_by}
use Rattle.std.specs.Option.{option_map_or}
use Rattle.nm_model.specs.EventList.{least}
use Rattle.nm_model.specs.Network.{Net}
use Rattle.nm_model.specs.Port.{waiting_of}
use Rattle.nm_model.specs.Run.{one_list}

-- the greatest of level first, level (first + 1) and so on, up to level (first + more)
abbrev pub greatest_of : (level : ℕ → ℕ) → (first more : ℕ) → ℕ
greatest_of level first zero = level first
greatest_of level first (suc more) =
    max (greatest_of level first more) (level (first + suc more))

-- how many packets wait, and how many octets they have
abbrev pub in_packets : List (List ℕ) → ℕ
in_packets waiting = length waiting

abbrev pub in_octets : List (List ℕ) → ℕ
in_octets waiting = sum_by length waiting

module _ {P N : Type 0} (net : Net P N) where
  -- when the last of the first n events of the one event list happens; 0 if there is none
  abbrev pub time_after : ℕ → ℕ
  time_after zero = 0
  time_after (suc n) =
      option_map_or (λ e. e.0.time) (least (one_list net n).pending) (time_after n)

  -- the queue of an interface; `amount` is how much waiting packets count
  module _ (amount : List P → ℕ) (i : ℕ) where
    -- how much waits at interface i after n events, behind the packet that it transmits
    abbrev pub waiting_after : ℕ → ℕ
    waiting_after n = amount (waiting_of ((one_list net n).port i).busy)

    -- the most that waited at one time, after `first` events and from then on up to `last`
    abbrev pub longest_queue : (first last : ℕ) → ℕ
    longest_queue first last = greatest_of waiting_after first (last - first)

    -- for how many nanoseconds they waited, all together, up to event n: between two events as much
    -- waits as after the first of them
    abbrev pub waited_to : ℕ → ℕ
    waited_to zero = 0
    waited_to (suc n) = waited_to n + waiting_after n * (time_after (suc n) - time_after n)

    -- the same up to a time with n events before it
    abbrev pub waited_before : (time n : ℕ) → ℕ
    waited_before time n = waited_to n + waiting_after n * (time - time_after n)
