-- What holds of runs, of the whole network and of a partition over what it knows.
use Rattle.std.specs.Prelude.{◌≡◌, ◌≢◌, ℕ, suc, ◌<◌, ◌≤◌, Some}
use Rattle.nm_base.specs.declared.key.Key.{Key}
use Rattle.nm_base.specs.declared.key.Place.TheVariants.{Arrive}
use Rattle.nm_base.specs.declared.event.Event.{Event}
use Rattle.nm_model.specs.Lists.{nth, IsRising}
use Rattle.nm_model.specs.EventList.{least, IsUpTo}
use Rattle.nm_model.specs.Network.{Net}
use Rattle.nm_model.specs.Run.{one_list, made}
use Rattle.nm_model.specs.Knowledge.{Knowledge}
use Rattle.nm_model.specs.Replica.{from_scratch, IsWithin}
use Rattle.nm_model.specs.Before.{IsBefore, IsCount, same_place, events_at}

module _ {P N : Type 0} (net : Net P N) where
  -- each time is passed after some number of events, which is one
  pub record TimesPass : Type 0 where
    pub before : (t : ℕ) → (n : ℕ) × IsBefore net t n
    pub before_once : (t m n : ℕ) → IsBefore net t m → IsBefore net t n → m ≡ n
    pub count : (p : ℕ) (K : Knowledge P) → (k : ℕ) × IsCount net p K k
    pub count_once : (p : ℕ) (K : Knowledge P) (j k : ℕ) → IsCount net p K j → IsCount net p K k
        → j ≡ k
    pub within : (p : ℕ) (K : Knowledge P) (j k : ℕ) → IsCount net p K k → j ≤ k
        → IsWithin net p K j
    pub within_only : (p : ℕ) (K : Knowledge P) (j k : ℕ) → IsCount net p K k → IsWithin net p K j
        → j ≤ k

  -- after n events of the network: the key that is taken next is later, times on an interface rise,
  -- and the events of a place are taken in the order of their numbers
  pub record KeysRise (n : ℕ) : Type 0 where
    pub keys : (e f : Key × Event P) → least (one_list net n).pending ≡ Some e
        → least (one_list net (suc n)).pending ≡ Some f → IsUpTo e.0 f.0 × (f.0 ≢ e.0)
    pub times : (c : ℕ) → IsRising ((one_list net n).sent c)
    pub numbers : (c : ℕ) (e : Key × Event P) → least (one_list net n).pending ≡ Some e
        → e.0.place ≡ Arrive c → e.0.number ≡ (one_list net n).arrived c
    pub consecutive : (e : Key × Event P) → least (one_list net n).pending ≡ Some e
        → e.0.number ≡ events_at net (same_place e.0.place) n

  -- an event makes only later ones
  pub record MakesLaterOnes : Type 0 where
    pub later : (n : ℕ) (e : Key × Event P) → least (one_list net n).pending ≡ Some e
        → (m : ℕ) (f : Key × Event P) → nth (made net (one_list net n) e) m ≡ Some f
        → e.0.time < f.0.time
    pub later_in_part : (p : ℕ) (K : Knowledge P) (k : ℕ) (e : Key × Event P)
        → least (from_scratch net p K k).pending ≡ Some e → (m : ℕ) (f : Key × Event P)
        → nth (made net (from_scratch net p K k) e) m ≡ Some f → e.0.time < f.0.time
