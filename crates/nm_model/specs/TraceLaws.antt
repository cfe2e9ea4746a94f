-- What holds of traces.
use Rattle.std.specs.Prelude.{◌≡◌, ℕ, ◌+◌, ◌<◌, ◌≤◌, false, Some}
use Rattle.nm_base.specs.declared.record.Dir.TheVariants.{In, Out}
use Rattle.nm_base.specs.declared.record.Record.{Record}
use Rattle.nm_model.specs.Lists.{nth}
use Rattle.nm_model.specs.Network.{Net}
use Rattle.nm_model.specs.Run.{one_list, pends_before}
use Rattle.nm_model.specs.Knowledge.{Knowledge}
use Rattle.nm_model.specs.Replica.{from_scratch}
use Rattle.nm_model.specs.Trace.{passed}

module _ {P N : Type 0} (net : Net P N) where
  -- records are in the order of time
  pub record RecordsInOrder : Type 0 where
    pub whole : (n j k : ℕ) (a b : Record P) → j ≤ k → nth (one_list net n).records j ≡ Some a
        → nth (one_list net n).records k ≡ Some b → a.time ≤ b.time
    pub part : (p : ℕ) (K : Knowledge P) (n j k : ℕ) (a b : Record P) → j ≤ k
        → nth (from_scratch net p K n).records j ≡ Some a
        → nth (from_scratch net p K n).records k ≡ Some b → a.time ≤ b.time

  -- what starts at an interface arrives at the far end, in this order, and nothing else does;
  -- transmissions of one interface do not overlap
  pub record StartsArrive : Type 0 where
    pub arrives : (t n : ℕ) → pends_before t (one_list net n) ≡ false → (i m s : ℕ) (x : P)
        → nth (passed Out i (one_list net n).records) m ≡ Some (s, x)
        → s + net.tx i x + net.delay i < t
        → nth (passed In (net.far_end i) (one_list net n).records) m
        ≡ Some (s + net.tx i x + net.delay i, x)
    pub transmitting : (n i m t : ℕ) (x : P)
        → nth (passed In i (one_list net n).records) m ≡ Some (t, x)
        → (s : ℕ) × (nth (passed Out (net.far_end i) (one_list net n).records) m ≡ Some (s, x))
        × (t ≡ s + net.tx (net.far_end i) x + net.delay (net.far_end i))
    pub apart : (n i m k s t : ℕ) (x y : P) → m < k
        → nth (passed Out i (one_list net n).records) m ≡ Some (s, x)
        → nth (passed Out i (one_list net n).records) k ≡ Some (t, y) → s + net.tx i x ≤ t
