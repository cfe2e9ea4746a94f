-- What a partition computes from its knowledge alone: a logical process (Misra, section 2).
use Rattle.std.specs.Prelude.{◌≡◌, ◌==◌, ℕ, zero, suc, ◌<◌, min, Bool, true, false, if◌then◌else◌, leb, length, List, [], ◌∷◌, ◌++◌}
use Rattle.std.specs.FinMap.{get}
use Rattle.nm_base.specs.declared.key.Place.{Place}
use Rattle.nm_base.specs.declared.key.Place.TheVariants.{Arrive, Complete, Fire}
use Rattle.nm_base.specs.declared.key.Key.{Key}
use Rattle.nm_base.specs.declared.event.Event.{Event}
use Rattle.nm_base.specs.declared.event.Event.TheVariants.{Delivery}
use Rattle.nm_base.specs.declared.event.Origin.TheVariants.{Arrival}
use Rattle.nm_model.specs.Lists.{keep_where}
use Rattle.nm_model.specs.EventList.{schedule}
use Rattle.nm_model.specs.Network.{Net}
use Rattle.nm_model.specs.Run.{State, keyed, run, start, pends_before}
use Rattle.nm_model.specs.Knowledge.{Knowledge, IsUnder}
use Rattle.nm_model.specs.Partition.{in_part, comes_in, is_inbox, is_own_record}

-- the messages of channel c from number n on, as arrivals
abbrev pub message_events : {P : Type 0} → ℕ → ℕ → List (ℕ × P) → List (Key × Event P)
message_events c n [] = []
message_events c n (b ∷ l) = keyed b.0 n (Delivery (Arrival c) b.1) ∷ message_events c (suc n) l

-- an arrival with a number that K doesn't reach
abbrev pub is_past : {P : Type 0} → Knowledge P → Place → ℕ → Bool
is_past K (Arrive c) n = leb (length (K c).list) n
is_past K (Complete i) n = false
is_past K (Fire j) n = false

module _ {P N : Type 0} (net : Net P N) (p : ℕ) where
  -- the messages of all channels below a number
  abbrev pub inbox_below : Knowledge P → ℕ → List (Key × Event P)
  inbox_below K zero = []
  inbox_below K (suc c) =
      (if comes_in net p c then message_events c 0 (K c).list else []) ++ inbox_below K c

  abbrev pub inbox_events : Knowledge P → List (Key × Event P)
  inbox_events K = inbox_below K net.ifaces

  -- The replica from scratch: the partition alone, after k events, with all messages of K
  -- pending from the start.
  abbrev pub from_scratch : Knowledge P → ℕ → State P N
  from_scratch K k = run net (in_part net p) k (start net (in_part net p) (inbox_events K))

  abbrev pub safe_among : Knowledge P → ℕ → ℕ
  safe_among K zero = net.stop
  safe_among K (suc c) =
      if comes_in net p c then min (K c).clock (safe_among K c) else safe_among K c

  -- The safe time, the least of the incoming clocks and stop: events before it may be done.
  abbrev pub safe_time : Knowledge P → ℕ
  safe_time K = safe_among K net.ifaces

  -- each of the first k events over K is before its safe time
  abbrev pub IsWithin : Knowledge P → ℕ → Type 0
  IsWithin K k = (m : ℕ) → m < k → pends_before (safe_time K) (from_scratch K m) ≡ true

  -- the messages of J that K hasn't
  abbrev pub new_messages : Knowledge P → Knowledge P → List (Key × Event P)
  new_messages K J = keep_where (λ e. is_past K e.0.place e.0.number) (inbox_events J)

  abbrev pub with_new : Knowledge P → Knowledge P → State P N → State P N
  with_new K J s = record s { pending = schedule (λ q. true) (new_messages K J) s.pending }

  -- K is under J at each channel
  abbrev pub IsUnderAll : Knowledge P → Knowledge P → Type 0
  IsUnderAll K J = (c : ℕ) → comes_in net p c ≡ true → IsUnder (K c) (J c)

  -- the part's state s and the whole's state g agree on its nodes, ports, pending events, outgoing
  -- lists and records
  pub record Agrees (g s : State P N) : Type 0 where
    pub node : (v : ℕ) → (net.part v == p) ≡ true → g.node v ≡ s.node v
    pub port : (i : ℕ) → in_part net p (Arrive i) ≡ true → g.port i ≡ s.port i
    pub sent : (c : ℕ) → in_part net p (Arrive (net.far_end c)) ≡ true → g.sent c ≡ s.sent c
    pub arrived : (c : ℕ) → in_part net p (Arrive c) ≡ true → g.arrived c ≡ s.arrived c
    -- pending arrivals by channels are left aside
    pub own : (q : Key) → in_part net p q.place ≡ true → is_inbox net p q.place ≡ false
        → get g.pending q ≡ get s.pending q
    pub records : keep_where (is_own_record net p) g.records ≡ s.records
