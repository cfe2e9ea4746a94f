-- One row more.
use Rattle.std.proofs.Common.{◌≡◌, ℕ, zero, suc, ◌+◌, ◌-◌, subst, ⊎_elim, List, [], ◌∷◌, ◌++◌, length, Some, slice_get, get_or, ◌⊎◌, inl, inr, ◌<◌, refl, sym, ap, ◌∙◌, arith, append_assoc, append-nil, OnOk, Result, Ok, Err}
use Rattle.nm_forward.specs.State.{NodeStateValue}
use Rattle.nm_model.specs.Run.{State}
use Rattle.nm_topology.specs.PartValues.{IfaceValue}
use Rattle.nm_measure.specs.declared.totals.IfaceTotals.{IfaceTotals}
use Rattle.std.proofs.lemmas.Option.{get_or_from_slice_get, slice_get-get_or, slice_get_cases, slice_get_within}
use Rattle.nm_topology.specs.TopologyValue.{TopologyValue}
use Rattle.nm_sim.specs.Network.{net_of}
use Rattle.nm_measure.specs.Busy.{thousandths_of}
use Rattle.nm_measure.specs.Measured.{HasRecent, MeasuredValue}
use Rattle.nm_measure.specs.Queues.{in_octets, in_packets, longest_queue}
use Rattle.nm_series.specs.Rows.{AreSeenBetween, AreTotals, Had, HadIfaces, IsSeenIn, had, iface_row, mean_between, rows_of, whole_mean_between}
use Rattle.nm_series.specs.declared.iface_rows.IfaceSeen.{IfaceSeen}

-- six texts, one behind another
pub put_together : (a b c d e f old one two three four five six : List ℕ) → one ≡ old ++ a → two ≡ one ++ b → three ≡ two ++ c → four ≡ three ++ d
    → five ≡ four ++ e → six ≡ five ++ f → six ≡ old ++ (a ++ b ++ c ++ d ++ e ++ f)
put_together a b c d e f old one two three four five six h1 h2 h3 h4 h5 h6 =
    h6 ∙ ap (λ t. t ++ f) (h5 ∙ ap (λ t. t ++ e) (h4 ∙ ap (λ t. t ++ d) (h3 ∙ ap (λ t. t ++ c) (h2 ∙ ap (λ t. t ++ b) h1)))) ∙ simp append_assoc

pub on_ok : {T E : Type 0} {P Q : Type 0} (r : Result T E) → (P → Q) → OnOk r P → OnOk r Q
on_ok (Ok x) f h = f h
on_ok (Err e) f h = tt

module _ (from : ℕ) (old new : State (List ℕ) NodeStateValue) where
  -- the rows with one more behind them, of interface n + k
  pub rows_more : (n k : ℕ) (ifaces : List IfaceValue) (seen : List IfaceSeen) (i : IfaceValue) (x : IfaceSeen) → length seen ≡ k → slice_get ifaces k ≡ Some i
      → rows_of from old new n ifaces (seen ++ x ∷ []) ≡ rows_of from old new n ifaces seen ++ iface_row from i.name (had (n + k) old) (had (n + k) new) x
  rows_more n k [] seen i x count at = absurd (cc)
  rows_more n zero (j ∷ ifaces) [] i x count at =
      let same : j ≡ i = cc in
      let e : n + zero ≡ n = omega arith in
      append_nil_row j ∙ ap (λ v. iface_row from v.name (had n old) (had n new) x) same ∙ ap (λ m. iface_row from i.name (had m old) (had m new) x) (sym e)
    where
      empty : (m : ℕ) (l : List IfaceValue) → rows_of from old new m l [] ≡ []
      empty m [] = refl
      empty m (_ ∷ l) = refl

      append_nil_row : (v : IfaceValue) → iface_row from v.name (had n old) (had n new) x ++ rows_of from old new (suc n) ifaces [] ≡ iface_row from v.name (had n old) (had n new) x
      append_nil_row v = ap (λ l. iface_row from v.name (had n old) (had n new) x ++ l) (empty (suc n) ifaces) ∙ append-nil (iface_row from v.name (had n old) (had n new) x)
  rows_more n zero (j ∷ ifaces) (y ∷ seen) i x count at = absurd (cc)
  rows_more n (suc k) (j ∷ ifaces) [] i x count at = absurd (cc)
  rows_more n (suc k) (j ∷ ifaces) (y ∷ seen) i x count at =
      let fewer : length seen ≡ k = omega (arith, count) in
      let e : suc n + k ≡ n + suc k = omega arith in
      let first = iface_row from j.name (had n old) (had n new) y in
      ap (λ l. first ++ l) (rows_more (suc n) k ifaces seen i x fewer at ∙ ap (λ m. rows_of from old new (suc n) ifaces seen ++ iface_row from i.name (had m old) (had m new) x) e)
      ∙ sym (append_assoc first (rows_of from old new (suc n) ifaces seen) (iface_row from i.name (had (n + suc k) old) (had (n + suc k) new) x))

  pub no_rows : (n : ℕ) (ifaces : List IfaceValue) → rows_of from old new n ifaces [] ≡ []
  no_rows n [] = refl
  no_rows n (i ∷ ifaces) = refl

-- what stands in a list with one more element is that element, or stood there before
pub pushed : {X : Type 0} (xs : List X) (v : X) (i : ℕ) (x : X) → slice_get (xs ++ v ∷ []) i ≡ Some x → (slice_get xs i ≡ Some x) ⊎ ((i ≡ length xs) × (x ≡ v))
pushed [] v zero x h = inr (refl, cc)
pushed [] v (suc i) x h = absurd (cc)
pushed (y ∷ xs) v zero x h = inl h
pushed (y ∷ xs) v (suc i) x h = go (pushed xs v i x h)
  where
    go : (slice_get xs i ≡ Some x) ⊎ ((i ≡ length xs) × (x ≡ v)) → (slice_get xs i ≡ Some x) ⊎ ((suc i ≡ suc (length xs)) × (x ≡ v))
    go (inl g) = inl g
    go (inr (e, g)) = inr (ap suc e, g)

module _ (t : TopologyValue) (from n : ℕ) (old new : State (List ℕ) NodeStateValue) (before after : List IfaceTotals) where
  had_is : (s : State (List ℕ) NodeStateValue) (all : List IfaceTotals) (d : IfaceTotals) → AreTotals t s all → n < length t.ifaces
      → (let x = get_or all n d in let y : Had = record { traffic = x.traffic; dropped = x.dropped } in y ≡ had n s)
  had_is s all d are low =
      let few : n < length all = let c = are.count in omega (arith, c, low) in
      let e = are.each n (get_or all n d) (slice_get-get_or all n d few) in
      (λ k. record { traffic = e.0 k; dropped = e.1 k })

  -- the text with the row of interface n behind it
  pub row_next : (d e : IfaceTotals) (seen : List IfaceSeen) (x : IfaceSeen) (i : IfaceValue) (name initial mid next : List ℕ)
      → AreTotals t old before → AreTotals t new after → n < length t.ifaces → length seen ≡ n → slice_get t.ifaces n ≡ Some i → name ≡ i.name
      → mid ≡ initial ++ rows_of from old new 0 t.ifaces seen
      → next ≡ mid ++ iface_row from name (record { traffic = (get_or before n d).traffic; dropped = (get_or before n d).dropped })
      (record { traffic = (get_or after n e).traffic; dropped = (get_or after n e).dropped }) x
      → next ≡ initial ++ rows_of from old new 0 t.ifaces (seen ++ x ∷ [])
  row_next d e seen x i name initial mid next was is low count at named so_far more =
      let z : 0 + n ≡ n = omega arith in
      let rows = rows_of from old new 0 t.ifaces seen in
      more ∙ ap (λ a. mid ++ iface_row from name a (record { traffic = (get_or after n e).traffic; dropped = (get_or after n e).dropped }) x) (had_is old before d was low)
      ∙ ap (λ b. mid ++ iface_row from name (had n old) b x) (had_is new after e is low)
      ∙ ap (λ v. mid ++ iface_row from v (had n old) (had n new) x) named
      ∙ ap (λ m. m ++ iface_row from i.name (had n old) (had n new) x) so_far
      ∙ append_assoc initial rows (iface_row from i.name (had n old) (had n new) x)
      ∙ ap (λ m. initial ++ (rows ++ iface_row from i.name (had m old) (had m new) x)) (sym z)
      ∙ ap (λ l. initial ++ l) (sym (rows_more from old new 0 n t.ifaces seen i x count at))

module _ (m : MeasuredValue) (before after : List IfaceTotals) (time : ℕ) where
  -- nothing was seen yet
  pub none_between : AreSeenBetween m before after time []
  none_between = record { longest = λ t first i x recent there at. absurd cc; over_time = λ i x b a at was is. absurd cc }

  -- one interface more
  pub one_between : (seen : List IfaceSeen) (x : IfaceSeen) (n k : ℕ) (d e : IfaceTotals) → length seen ≡ n → k ≡ n
      → ((t : TopologyValue) (first : ℕ) → HasRecent t first m → k < length t.ifaces
      → (x.longest ≡ longest_queue (net_of t) in_packets k first m.part.steps) × (x.longest_octets ≡ longest_queue (net_of t) in_octets k first m.part.steps))
      → x.mean ≡ mean_between (get_or before n d).waited (get_or after n e).waited time
      → x.mean_octets ≡ whole_mean_between (get_or before n d).octets_waited (get_or after n e).octets_waited time
      → x.busy ≡ thousandths_of ((get_or after n e).busy - (get_or before n d).busy) time
      → AreSeenBetween m before after time seen → AreSeenBetween m before after time (seen ++ x ∷ [])
  one_between seen x n k d e count same longest mean octets busy h = record {
    longest = λ t first i y recent there at. ⊎_elim
        (λ old. h.longest t first i y recent there old)
        (λ new.
        let is : k ≡ i = same ∙ sym count ∙ sym new.0 in
        let of_it = subst (λ j. j < length t.ifaces → (x.longest ≡ longest_queue (net_of t) in_packets j first m.part.steps)
        × (x.longest_octets ≡ longest_queue (net_of t) in_octets j first m.part.steps)) is (longest t first recent) there in
        (ap (λ (z : IfaceSeen). z.longest) new.1 ∙ of_it.0, ap (λ (z : IfaceSeen). z.longest_octets) new.1 ∙ of_it.1))
        (pushed seen x i y at);
    over_time = λ i y b a at was is. ⊎_elim
        (λ old. h.over_time i y b a old was is)
        (λ new.
        let here : n ≡ i = sym count ∙ sym new.0 in
        let b_is : get_or before n d ≡ b = get_or_from_slice_get before n b d (ap (slice_get before) here ∙ was) in
        let a_is : get_or after n e ≡ a = get_or_from_slice_get after n a e (ap (slice_get after) here ∙ is) in (
          ap (λ (z : IfaceSeen). z.mean) new.1 ∙ mean ∙ (λ j. mean_between (b_is j).waited (a_is j).waited time),
          ap (λ (z : IfaceSeen). z.mean_octets) new.1 ∙ octets ∙ (λ j. whole_mean_between (b_is j).octets_waited (a_is j).octets_waited time),
          ap (λ (z : IfaceSeen). z.busy) new.1 ∙ busy ∙ (λ j. thousandths_of ((a_is j).busy - (b_is j).busy) time),
        ))
        (pushed seen x i y at);
  }

-- what was seen in a step is that of the one event list
pub seen_in : (t : TopologyValue) (from until : ℕ) (m : MeasuredValue) (before after : List IfaceTotals) (seen : List IfaceSeen) (was : HadIfaces t from before) (is : HadIfaces t until after)
    → (first : ℕ) → first ≡ was.events → HasRecent t first m → m.part.steps ≡ is.events → length seen ≡ length t.ifaces → AreSeenBetween m before after (until - from) seen
    → (i : ℕ) (x : IfaceSeen) → slice_get seen i ≡ Some x → IsSeenIn t from until was.events is.events i x
seen_in t from until m before after seen was is first same recent steps count h i x at =
    let w = slice_get_within seen i x at in
    let low : i < length t.ifaces = omega (arith, w, count) in
    let b = member before (let c = was.totals.count in omega (arith, c, low)) in
    let a = member after (let c = is.totals.count in omega (arith, c, low)) in
    let z = h.over_time i x b.0 a.0 at b.1 a.1 in
    let bz = was.over_time i b.0 b.1 in
    let az = is.over_time i a.0 a.1 in
    record {
      longest = (h.longest t first i x recent low at).0 ∙ (λ j. longest_queue (net_of t) in_packets i (same j) (steps j));
      longest_octets = (h.longest t first i x recent low at).1 ∙ (λ j. longest_queue (net_of t) in_octets i (same j) (steps j));
      mean = z.0 ∙ (λ j. mean_between (bz.0 j) (az.0 j) (until - from));
      mean_octets = z.1 ∙ (λ j. whole_mean_between (bz.1 j) (az.1 j) (until - from));
      busy = z.2 ∙ (λ j. thousandths_of (az.2 j - bz.2 j) (until - from));
    }
  where
    member : (l : List IfaceTotals) → i < length l → (y : IfaceTotals) × (slice_get l i ≡ Some y)
    member l low = ⊎_elim (λ g. (g.0, g.2)) (λ g. absurd (omega (arith, low, g.0))) ((slice_get_cases l i).1)
