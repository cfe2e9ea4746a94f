-- All interfaces, one event later.
use Rattle.std.proofs.Common.{◌≡◌, ◌≢◌, ℕ, suc, ◌+◌, ◌-◌, ◌^◌, ◌<◌, ◌≤◌, max, min, List, [], ◌∷◌, ◌++◌, length, ◌⊎◌, inr, Option, Some, None, slice_get, inl, refl, sym, ap, ◌∙◌, subst, arith, ⊎_elim, append-nil, length-append}
use Rattle.std.proofs.lemmas.Option.{slice_get_cases, slice_get_within}
use Rattle.nm_base.specs.declared.key.Place.{Place}
use Rattle.nm_base.specs.declared.record.Dir.TheVariants.{Out}
use Rattle.nm_events.specs.Held.{Held}
use Rattle.nm_forward.specs.State.{NodeStateValue}
use Rattle.nm_iface.specs.Transmission.{transmission_time}
use Rattle.nm_model.specs.Network.{IsNet}
use Rattle.nm_model.specs.Run.{Effect, one_list, out_record}
use Rattle.nm_model.specs.RunLaws.{KeysRise}
use Rattle.nm_model.specs.Trace.{passed}
use Rattle.nm_model.specs.TraceLaws.{StartsArrive}
use Rattle.nm_model.proofs.ListLemmas.{not_some, nth_cong, nth_front, nth_last, same_number, some_inj}
use Rattle.nm_topology.specs.TopologyValue.{TopologyValue}
use Rattle.nm_sim.specs.Network.{far_of, net_of}
use Rattle.nm_sim.specs.Part.{PartValue}
use Rattle.nm_sim.specs.declared.told.Happened.{Happened}
use Rattle.nm_sim.specs.declared.told.Started.{Started}
use Rattle.nm_base.specs.declared.wanted.Wanted.TheVariants.{Nothing}
use Rattle.nm_measure.specs.declared.seen.Seen.{Seen}
use Rattle.nm_measure.specs.Busy.{part_before}
use Rattle.nm_measure.specs.Interfaces.{AreSeen, HasQueue, HasStarted, IsNext, IsTurn, OneChanges, StartsNone, queue_in}
use Rattle.nm_measure.specs.Queues.{time_after}
use Rattle.nm_measure.specs.Seen.{IsQueue, IsSeen}
use Rattle.nm_measure.specs.Usage.{IsUsed}
use Rattle.nm_measure.specs.Waiting.{queue_begun, queue_empty}
use Rattle.nm_measure.proofs.Lists.{AreTurned}
use Rattle.nm_measure.proofs.Seeing.{queue_anew, queue_first, queue_on, queue_same}
use Rattle.nm_measure.proofs.Transmitting.{used_later, used_more}
use Rattle.nm_measure.proofs.Telling.{none_went, one_went}
use Rattle.nm_measure.proofs.Turns.{effect_at, event_only, next_records, starts_elsewhere, starts_here, starts_more, time_is, time_rises}

-- interface i after event n, but for its queue, which is still that before
abbrev IsHalfSeen : (t : TopologyValue) (first n i : ℕ) → Seen → Type 0
IsHalfSeen t first n i x = IsQueue (net_of t) i first n x.queue
    × IsUsed (net_of t) i t.stop (time_after (net_of t) (suc n)) (passed Out i (one_list (net_of t) (suc n)).records) x.usage.busy x.usage.last_busy x.usage.starts
    × (x.usage.rate ≡ (far_of t i).rate)

pub record AreHalfSeen (t : TopologyValue) (first n : ℕ) (all : List Seen) : Type 0 where
  pub since : first ≤ n
  pub count : length all ≡ length t.ifaces
  pub each : (i : ℕ) (x : Seen) → slice_get all i ≡ Some x → IsHalfSeen t first n i x

-- each of the others stays, and one changes
all_changed : (Is : ℕ → Seen → Type 0) (old new : List Seen) (k : ℕ) (Changes : Seen → Seen → Type 0) → OneChanges k Changes old new
    → ((x y : Seen) → slice_get old k ≡ Some x → Changes x y → Is k y)
    → ((i : ℕ) (x : Seen) → i ≢ k → slice_get old i ≡ Some x → Is i x)
    → (i : ℕ) (y : Seen) → slice_get new i ≡ Some y → Is i y
all_changed Is old new k Changes one here others i y at = ⊎_elim
    (λ same. subst (λ j. Is j y) (sym same) (at_one y (subst (λ j. slice_get new j ≡ Some y) same at)))
    (λ apart. others i y apart (sym (one.others i apart) ∙ at))
    (same_number i k)
  where
    at_one : (y : Seen) → slice_get new k ≡ Some y → Is k y
    at_one y at = ⊎_elim
        (λ g. let z = one.here g.0 g.2 in here g.0 y g.2 (subst (Changes g.0) (some_inj z.0 y (sym z.1 ∙ at)) z.2))
        (λ g. absurd (let w = slice_get_within new k y at in let c = one.count in omega (arith, w, c, g.0)))
        ((slice_get_cases old k).1)

module _ (t : TopologyValue) where
  -- how long a packet's transmission takes
  pub tx_is : (i : ℕ) (x : List ℕ) → transmission_time (far_of t i).rate (max 1 (length x)) ≡ (net_of t).tx i x
  unfolding net_of
  tx_is i x = refl

  module _ (first n now : ℕ) (place : Place) (p : PartValue Held) (what : Happened) (old : List Seen) (seen : AreSeen t first n old) (network : IsNet (net_of t))
      (rises : (m : ℕ) → KeysRise (net_of t) m) (next : IsNext t n now place p what) where
    abbrev effect_of : Effect (List ℕ) NodeStateValue
    effect_of = effect_at (net_of t) n next.event next.first

    now_is : time_after (net_of t) (suc n) ≡ now
    now_is = time_is (net_of t) n next.event next.first ∙ next.at_time

    late : time_after (net_of t) n ≤ time_after (net_of t) (suc n)
    late = let a = time_rises (net_of t) n next.event next.first rises in let b = time_is (net_of t) n next.event next.first in omega (arith, a, b)

    starts_are : (i : ℕ) → passed Out i (one_list (net_of t) (suc n)).records
        ≡ passed Out i (one_list (net_of t) n).records ++ passed Out i (out_record next.event.0.time effect_of.transmission)
    starts_are i = ap (passed Out i) (next_records (net_of t) n next.event next.first)
        ∙ starts_more i next.event.0.time (one_list (net_of t) n).records effect_of.came effect_of.transmission

    starts_same : (i : ℕ) → ((a : ℕ × List ℕ) → effect_of.transmission ≡ Some a → i ≢ a.0)
        → passed Out i (one_list (net_of t) (suc n)).records ≡ passed Out i (one_list (net_of t) n).records
    starts_same i h = starts_are i
        ∙ ap (λ l. passed Out i (one_list (net_of t) n).records ++ l) (starts_elsewhere i next.event.0.time effect_of.transmission h)
        ∙ append-nil (passed Out i (one_list (net_of t) n).records)

    -- an interface at which nothing starts
    unstarted : (i : ℕ) (x : Seen) → slice_get old i ≡ Some x → passed Out i (one_list (net_of t) (suc n)).records ≡ passed Out i (one_list (net_of t) n).records
        → IsHalfSeen t first n i x
    unstarted i x at starts =
        let h = seen.each i x at in (
          h.0.queue,
          subst (λ l. IsUsed (net_of t) i t.stop (time_after (net_of t) (suc n)) l x.usage.busy x.usage.last_busy x.usage.starts) (sym starts)
              (used_later (net_of t) i t.stop (time_after (net_of t) n) (time_after (net_of t) (suc n)) late
              (passed Out i (one_list (net_of t) n).records) x.usage.busy x.usage.last_busy x.usage.starts h.0.used),
          h.1,
        )

    -- nothing starts
    pub half_seen : StartsNone t n → AreHalfSeen t first n old
    half_seen none = record {
      since = seen.since;
      count = seen.count;
      each = λ i x at. unstarted i x at (starts_same i (λ a e. absurd (not_some a (sym (none next.event next.first) ∙ e))));
    }

    -- an interface whose queue stays as it was
    stays : (i : ℕ) (x : Seen) → first ≤ n → IsHalfSeen t first n i x → queue_in i (one_list (net_of t) (suc n)) ≡ queue_in i (one_list (net_of t) n)
        → IsSeen (net_of t) i first (suc n) t.stop x × (x.usage.rate ≡ (far_of t i).rate)
    stays i x since h same = (record { queue = queue_same (net_of t) i first n since x.queue h.0 late same; used = h.1 }, h.2)

    module _ (mid : List Seen) (half : AreHalfSeen t first n mid) where
      here_in : (i : ℕ) (x : Seen) → slice_get mid i ≡ Some x → i < length t.ifaces
      here_in i x at = let w = slice_get_within mid i x at in let c = half.count in omega (arith, w, c)

      -- all queues stay
      pub seen_same : IsTurn t n None → AreSeen t first (suc n) mid
      seen_same turn = record {
        since = let s = half.since in omega (arith, s);
        count = half.count;
        each = λ i x at. stays i x half.since (half.each i x at) (turn i (here_in i x at) (λ e. not_some i e));
      }

      -- one is another
      pub seen_turned : (new : List Seen) (k : ℕ) → IsTurn t n (Some k) → OneChanges k (HasQueue now (queue_in k (one_list (net_of t) (suc n)))) mid new
          → AreSeen t first (suc n) new
      seen_turned new k turn one = record {
        since = let s = half.since in omega (arith, s);
        count = one.count ∙ half.count;
        each = all_changed (λ i y. IsSeen (net_of t) i first (suc n) t.stop y × (y.usage.rate ≡ (far_of t i).rate)) mid new k (HasQueue now (queue_in k (one_list (net_of t) (suc n)))) one
            (λ x y at changes.
            let h = half.each k x at in (
              record {
                queue = subst (IsQueue (net_of t) k first (suc n)) (sym changes.0) (queue_on (net_of t) k first n half.since x.queue h.0 late _ now refl (sym now_is));
                used = subst (λ u. IsUsed (net_of t) k t.stop (time_after (net_of t) (suc n)) (passed Out k (one_list (net_of t) (suc n)).records) u.busy u.last_busy u.starts) (sym changes.1) h.1;
              },
              ap (λ u. u.rate) changes.1 ∙ h.2,
            ))
            (λ i x apart at. stays i x half.since (half.each i x at) (turn i (here_in i x at) (λ e. apart (sym (some_inj k i e)))));
      }

    module _ (mid : List Seen) (k : ℕ) where
      -- a transmission starts at interface k
      pub half_started : StartsArrive (net_of t) → t.stop < 2 ^ 64 → (x : List ℕ) → effect_of.transmission ≡ Some (k, x)
          → OneChanges k (HasStarted (max 1 (length x)) now (t.stop - now)) old mid → AreHalfSeen t first n mid
      half_started arrive few x starts one = record {
        since = seen.since;
        count = one.count ∙ seen.count;
        each = all_changed (IsHalfSeen t first n) old mid k (HasStarted (max 1 (length x)) now (t.stop - now)) one
            (λ u y at changes.
            let h = seen.each k u at in (
              subst (IsQueue (net_of t) k first n) (sym changes.queue) h.0.queue,
              used_now arrive few x starts u y at changes,
              changes.rate ∙ h.1,
            ))
            (λ i u apart at. unstarted i u at (starts_same i (λ a e. subst (λ (z : ℕ × List ℕ). i ≢ z.0) (some_inj (k, x) a (sym starts ∙ e)) apart)));
      }
        where
          used_now : StartsArrive (net_of t) → t.stop < 2 ^ 64 → (x : List ℕ) → effect_of.transmission ≡ Some (k, x)
              → (u y : Seen) → slice_get old k ≡ Some u → HasStarted (max 1 (length x)) now (t.stop - now) u y
              → IsUsed (net_of t) k t.stop (time_after (net_of t) (suc n)) (passed Out k (one_list (net_of t) (suc n)).records) y.usage.busy y.usage.last_busy y.usage.starts
          used_now arrive few x starts u y at changes =
              let h = seen.each k u at in
              let l = passed Out k (one_list (net_of t) n).records in
              let early = next.early in
              let same_time : next.event.0.time ≡ now = next.at_time in
              let is : passed Out k (one_list (net_of t) (suc n)).records ≡ l ++ (now, x) ∷ [] = starts_are k
              ∙ (λ j. l ++ passed Out k (out_record (same_time j) (starts j))) ∙ ap (λ z. l ++ z) (starts_here k now x) in
              let takes : transmission_time u.usage.rate (max 1 (length x)) ≡ (net_of t).tx k x = ap (λ r. transmission_time r (max 1 (length x))) h.1 ∙ tx_is k x in
              let more : min (transmission_time u.usage.rate (max 1 (length x))) (t.stop - now) ≡ part_before (net_of t) k t.stop (now, x) = ap (λ z. min z (t.stop - now)) takes in
              let used = used_more (net_of t) k t.stop now u.usage.busy u.usage.last_busy (min (transmission_time u.usage.rate (max 1 (length x))) (t.stop - now)) u.usage.starts l x (time_after (net_of t) n) h.0.used
              (λ front last split. apart_from arrive x is front last split) (omega (arith, early)) few more in
              subst (λ (z : ℕ × List (ℕ × List ℕ) × ℕ × ℕ × Option (ℕ × ℕ)). IsUsed (net_of t) k t.stop z.0 z.1 z.2 z.3 z.4)
              (λ j. (sym now_is j, sym is j, sym changes.busy j, sym changes.last j, sym changes.starts j)) used
            where
              apart_from : StartsArrive (net_of t) → (x : List ℕ) → passed Out k (one_list (net_of t) (suc n)).records ≡ passed Out k (one_list (net_of t) n).records ++ (now, x) ∷ []
                  → (front : List (ℕ × List ℕ)) (last : ℕ × List ℕ) → passed Out k (one_list (net_of t) n).records ≡ front ++ last ∷ [] → last.0 + (net_of t).tx k last.1 ≤ now
              apart_from arrive x is front last split =
                  let all = front ++ last ∷ [] in
                  let whole : passed Out k (one_list (net_of t) (suc n)).records ≡ all ++ (now, x) ∷ [] = is ∙ ap (λ l. l ++ (now, x) ∷ []) split in
                  let e = length-append front (last ∷ []) in
                  arrive.apart (suc n) k (length front) (length all) last.0 now last.1 x (omega (arith, e))
                  (nth_cong _ _ (length front) last (sym whole) (nth_front all ((now, x) ∷ []) (length front) last (nth_last front last)))
                  (nth_cong _ _ (length all) (now, x) (sym whole) (nth_last all (now, x)))

    -- what is told of an event: this started, or nothing
    pub half_told : (mid : List Seen) → StartsArrive (net_of t) → t.stop < 2 ^ 64
        → ((z : Started) × (what.started ≡ Some z) × (left : ℕ) × (left ≡ t.stop - now) × OneChanges z.iface (HasStarted (max 1 z.octets) now left) old mid)
        ⊎ ((what.started ≡ None) × (mid ≡ old))
        → AreHalfSeen t first n mid
    half_told mid arrive few (inl (z, is, left, left_is, one)) =
        let starts = one_went t Nothing (one_list (net_of t) n) next.event what next.happened z is in
        half_started mid z.iface arrive few starts.0 starts.1
        (subst (λ (y : ℕ × ℕ). OneChanges z.iface (HasStarted (max 1 y.0) now y.1) old mid) (λ k. (starts.2 k, left_is k)) one)
    half_told mid arrive few (inr (none, same)) = subst (AreHalfSeen t first n) (sym same)
        (half_seen (λ e f. event_only (net_of t) n next.event e next.first f (none_went t Nothing (one_list (net_of t) n) next.event what next.happened none)))

-- nothing happened yet
pub seen_first : (t : TopologyValue) (all : List Seen) → length all ≡ length t.ifaces
    → ((i : ℕ) (x : Seen) → slice_get all i ≡ Some x → (x.queue ≡ queue_empty) × (x.usage.busy ≡ 0) × (x.usage.starts ≡ None) × (x.usage.rate ≡ (far_of t i).rate))
    → AreSeen t 0 0 all
seen_first t all count each = record {
  since = omega arith;
  count = count;
  each = λ i x at. let z = each i x at in (record { queue = subst (IsQueue (net_of t) i 0 0) (sym z.0) (queue_first (net_of t) i); used = inl (refl, z.1, z.2) }, z.3);
}

-- the most that wait are looked for anew
abbrev pub IsBegun : Seen → Seen → Type 0
IsBegun x y = (y.usage ≡ x.usage) × (y.queue ≡ queue_begun x.queue)

pub seen_anew : (t : TopologyValue) (first n : ℕ) (old new : List Seen) → AreTurned IsBegun old new (length old) → length new ≡ length old → AreSeen t first n old → AreSeen t n n new
seen_anew t first n old new begun count h = record {
  since = omega arith;
  count = count ∙ h.count;
  each = λ i y at.
      let z = begun i y at in
      let s = h.each i z.0 z.1 in
      let b = z.2 (slice_get_within old i z.0 z.1) in (
        record {
          queue = subst (IsQueue (net_of t) i n n) (sym b.1) (queue_anew (net_of t) i first n z.0.queue s.0.queue);
          used = subst (λ u. IsUsed (net_of t) i t.stop (time_after (net_of t) n) (passed Out i (one_list (net_of t) n).records) u.busy u.last_busy u.starts) (sym b.0) s.0.used;
        },
        ap (λ u. u.rate) b.0 ∙ s.1,
      );
}
