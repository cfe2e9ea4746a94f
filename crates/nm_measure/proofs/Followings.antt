-- The ways of one source's packets, one event later.
use Rattle.std.proofs.Common.{◌≡◌, ◌≢◌, ℕ, suc, ◌+◌, ◌<◌, ◌==◌, Bool, true, false, cond, List, [], ◌∷◌, ◌++◌, length, Option, Some, None, refl, sym, ap, ◌∙◌, subst, arith, ⊎_elim, append-nil, append_assoc}
use Rattle.std.specs.Option.{option_map}
use Rattle.nm_base.specs.declared.key.Place.{Place}
use Rattle.nm_base.specs.declared.key.Place.TheVariants.{Arrive, Complete, Fire}
use Rattle.nm_base.specs.declared.record.Dir.TheVariants.{In, Out}
use Rattle.nm_events.specs.Held.{Held}
use Rattle.nm_model.proofs.ListLemmas.{kept-append, number_apart, number_tied, same_number}
use Rattle.nm_model.specs.Lists.{set_at}
use Rattle.nm_model.specs.declared.offering.Offering.{Offering}
use Rattle.nm_model.specs.declared.offering.Offering.TheVariants.{Nothing, Started, Waits, Dropped}
use Rattle.nm_sim.specs.Network.{net_of}
use Rattle.nm_sim.specs.Part.{PartValue}
use Rattle.nm_sim.specs.declared.told.Happened.{Happened}
use Rattle.nm_topology.specs.TopologyValue.{TopologyValue}
use Rattle.nm_measure.specs.declared.courses.Ended.{Ended}
use Rattle.nm_measure.specs.declared.courses.Hop.{Hop}
use Rattle.nm_measure.specs.declared.courses.EndPlace.TheVariants.{Node}
use Rattle.nm_measure.specs.declared.courses.Reason.{Reason}
use Rattle.nm_measure.specs.declared.courses.Reason.TheVariants.{Counted}
use Rattle.nm_measure.specs.declared.fates.Fate.{Fate}
use Rattle.nm_measure.specs.declared.fates.Fate.TheVariants as fate
use Rattle.nm_measure.specs.declared.flow_counts.PacketOutcome.{PacketOutcome}
use Rattle.nm_measure.specs.declared.flow_counts.PacketOutcome.TheVariants as outcome
use Rattle.nm_measure.specs.declared.tag.Tag.{Tag}
use Rattle.nm_forward.specs.declared.counter.Counter.{Counter}
use Rattle.nm_measure.specs.Counted.{counts_for}
use Rattle.nm_measure.specs.Courses.{is_packet, own_ends, passes_in, tags_in}
use Rattle.nm_measure.specs.CoursesValue.{CoursesValue}
use Rattle.nm_measure.specs.Followed.{AreCourses, AreFollowed, IsFollowed, NumbersRise, begun, came_to_end, over, gone_past, went_out}
use Rattle.nm_measure.specs.Interfaces.{IsNext}
use Rattle.nm_measure.specs.Lanes.{CanBe, lanes_in, with_offer}
use Rattle.nm_measure.specs.Sent.{is_fire, sent_in}
use Rattle.nm_measure.specs.Ways.{WayEnd, answer_tag, counter_at, drop_at, dropped_as, end_at, ended_as, ends_in, fate_at, made_as, outcome_by, own_tag, tagged_list, time_of, unsent_at}
use Rattle.nm_measure.proofs.Coursing.{courses_as, courses_begun, courses_kept, courses_over, courses_passed, courses_rise, end_of}
use Rattle.nm_measure.proofs.Firings.{SourceStep, made_dropped}
use Rattle.nm_measure.proofs.Following.{ArrivalStep}
use Rattle.nm_measure.proofs.Laning.{answer_counts_none}
use Rattle.nm_measure.proofs.Making.{fires, made_later, rests}
use Rattle.nm_measure.proofs.Numbers.{packet_none}
use Rattle.nm_measure.proofs.Passing.{started_passes}
use Rattle.nm_measure.proofs.Tallies.{dropped_one, one_if, tags_as, tags_first, tags_left, tags_next, tags_offered}

none_of : (b : Bool) → ◌≡◌ {A = ℕ} (cond b 1 0) 0 → b ≡ false
none_of true h = absurd (omega (arith, h))
none_of false h = refl

-- a packet that counts for no source is none of its packets
one_none : (j k : ℕ) (tag : Tag) → counts_for j tag ≡ false → one_if (is_packet j k) tag ≡ 0
one_none j k tag none = ap (λ b. cond b 1 0) (packet_none j tag none k)

one_some : (j k : ℕ) (tag : Tag) → is_packet j k tag ≡ true → one_if (is_packet j k) tag ≡ 1
one_some j k tag is = ap (λ b. cond b 1 0) is

module _ (t : TopologyValue) (made : ℕ) (taken : List Ended) (c : CoursesValue) where
  -- the same, said otherwise
  said : (old new : List (Tag × Hop)) (tags : ℕ → ℕ) (ends later : List WayEnd) → old ≡ new → ends ≡ later → AreCourses t old tags made taken ends c → AreCourses t new tags made taken later c
  said old new tags ends later same also = subst (λ (z : List (Tag × Hop) × List WayEnd). AreCourses t z.0 tags made taken z.1 c) (λ i. (same i, also i))

-- what is sent is offered
module _ (t : TopologyValue) (passes : List (Tag × Hop)) (made : ℕ) (taken : List Ended) (ends : List WayEnd) (c : CoursesValue) (count : ℕ) (all : ℕ → List Tag × List Tag) (a : Tag) (now : ℕ) (x : List ℕ) where
  abbrev held : ℕ → ℕ
  held k = one_if (is_packet c.source k) a + tags_in (is_packet c.source k) count all

  offered_tags : (o : Offering) → CanBe count all o → ((k : ℕ) → o ≡ Nothing → one_if (is_packet c.source k) a ≡ 0) → ((k : ℕ) → dropped_one (is_packet c.source k) o a ≡ 0)
      → AreCourses t passes held made taken ends c → AreCourses t passes (λ k. tags_in (is_packet c.source k) count (with_offer o a all)) made taken ends c
  offered_tags o can none kept was = courses_as t passes made taken ends c held _
      (λ k. let z = tags_offered (is_packet c.source k) count all o a can (none k) in let y = kept k in omega (arith, z, y)) was

  pub courses_offered : (o : Offering) → CanBe count all o → ((k : ℕ) → o ≡ Nothing → one_if (is_packet c.source k) a ≡ 0) → AreCourses t passes held made taken ends c
      → AreCourses t (passes ++ started_passes o a now) (λ k. tags_in (is_packet c.source k) count (with_offer o a all)) made taken
      (ends ++ own_ends c.source (dropped_as (drop_at now (a, x)) o)) (went_out o a now c)
  courses_offered Nothing can none was = said t made taken c passes (passes ++ []) _ ends (ends ++ []) (sym (append-nil passes)) (sym (append-nil ends)) (offered_tags Nothing can none (λ k. refl) was)
  courses_offered (Started i) can none was =
      let hop : Hop = record { iface = i; dir = Out; time = now } in
      said t made taken (gone_past a hop c) (passes ++ (a, hop) ∷ []) _ _ ends (ends ++ []) refl (sym (append-nil ends))
      (courses_as t (passes ++ (a, hop) ∷ []) made taken ends (gone_past a hop c) held _
      (λ k. let z = tags_offered (is_packet c.source k) count all (Started i) a can (none k) in omega (arith, z))
      (courses_passed t passes made taken ends c a hop held (λ k is. let one = one_some c.source k a is in omega (arith, one)) was))
  courses_offered (Waits i) can none was = said t made taken c passes (passes ++ []) _ ends (ends ++ []) (sym (append-nil passes)) (sym (append-nil ends)) (offered_tags (Waits i) can none (λ k. refl) was)
  courses_offered (Dropped i) can none was =
      said t made taken (went_out (Dropped i) a now c) passes (passes ++ []) _ _ _ (sym (append-nil passes)) refl
      (courses_over t passes made taken ends c (drop_at now (a, x) i) held (λ k. tags_in (is_packet c.source k) count all) (λ k. refl) was)

-- a packet comes to a node, where its way ends or does not
module _ (t : TopologyValue) (passes : List (Tag × Hop)) (made : ℕ) (taken : List Ended) (ends : List WayEnd) (c : CoursesValue) (count : ℕ) (all : ℕ → List Tag × List Tag) (x : Tag × List ℕ) (counter : Counter) (v now : ℕ) where
  abbrev in_hand : Tag → ℕ → ℕ
  in_hand a k = one_if (is_packet c.source k) a + tags_in (is_packet c.source k) count all

  abbrev ended_here : Option PacketOutcome → CoursesValue
  ended_here how = came_to_end x.0 how (Counted counter) (record { node = v; octets = length x.1; now = now }) c

  ends_with : (a : Tag) (out : PacketOutcome) → counts_for c.source a ≡ false → AreCourses t passes (in_hand x.0) made taken ends c
      → AreCourses t passes (in_hand a) made taken (ends ++ own_ends c.source (ended_as (end_at counter v now x) (Some out))) (ended_here (Some out))
  ends_with a out other was =
      courses_as t passes made taken _ (ended_here (Some out)) (λ k. tags_in (is_packet c.source k) count all) (in_hand a) (λ k. let none = one_none c.source k a other in omega (arith, none))
      (courses_over t passes made taken ends c (end_at counter v now x out) (in_hand x.0) (λ k. tags_in (is_packet c.source k) count all) (λ k. refl) was)

  answer_other : (f : Fate) → f ≢ fate.SentOn → counts_for c.source (answer_tag f x.0) ≡ false
  answer_other f apart = none_of (counts_for c.source (answer_tag f x.0)) (answer_counts_none c.source f x.0 apart)

  pub courses_came : (f : Fate) → AreCourses t passes (in_hand x.0) made taken ends c
      → AreCourses t passes (in_hand (answer_tag f x.0)) made taken (ends ++ own_ends c.source (ended_as (end_at counter v now x) (outcome_by f))) (ended_here (outcome_by f))
  courses_came fate.SentOn was = said t made taken c passes passes _ ends (ends ++ []) refl (sym (append-nil ends)) was
  courses_came fate.Requested was = ends_with (answer_tag fate.Requested x.0) outcome.Delivered (answer_other fate.Requested (λ e. cc)) was
  courses_came fate.Delivered was = ends_with (answer_tag fate.Delivered x.0) outcome.Delivered refl was
  courses_came fate.Told was = ends_with (answer_tag fate.Told x.0) outcome.Delivered refl was
  courses_came fate.Refused was = ends_with (answer_tag fate.Refused x.0) outcome.Refused refl was
  courses_came fate.Discarded was = ends_with (answer_tag fate.Discarded x.0) outcome.Discarded refl was

own_append : (j : ℕ) (a b : List WayEnd) → own_ends j (a ++ b) ≡ own_ends j a ++ own_ends j b
own_append j a b = kept-append (λ (e : WayEnd). counts_for j e.tag) a b

-- what a source did not make
unmade : (t : TopologyValue) (n now : ℕ) (place : Place) (p : PartValue Held) (h : Happened) → IsNext t n now place p h → (j : ℕ) → is_fire j place ≡ false → sent_in (net_of t) j (suc n) ≡ sent_in (net_of t) j n
unmade t n now place p h next j none =
    let a = made_later t n next.event place next.first next.at_place j in
    let b : ◌≡◌ {A = ℕ} (cond (is_fire j place) 1 0) 0 = ap (λ b. cond b 1 0) none in
    omega (arith, a, b)

made_as_is : (t : TopologyValue) (passes : List (Tag × Hop)) (tags : ℕ → ℕ) (taken : List Ended) (ends : List WayEnd) (c : CoursesValue) (m n : ℕ) → m ≡ n → AreCourses t passes tags m taken ends c → AreCourses t passes tags n taken ends c
made_as_is t passes tags taken ends c m n same = subst (λ k. AreCourses t passes tags k taken ends c) same

module _ (t : TopologyValue) (n now i : ℕ) (p : PartValue Held) (h : Happened) (next : IsNext t n now (Arrive i) p h) (step : ArrivalStep t n now i h) (low : (net_of t).far_end i < length t.ifaces) (taken : List Ended) where
  abbrev v : ℕ
  v = (net_of t).owner i

  abbrev x : Tag × List ℕ
  x = step.packet

  abbrev f : Fate
  f = fate_at t ((net_of t).owner i) step.packet.1

  abbrev a : Tag
  a = answer_tag (fate_at t ((net_of t).owner i) step.packet.1) step.packet.0

  abbrev all : ℕ → List Tag × List Tag
  all = lanes_in t (tagged_list t n)

  abbrev popped : ℕ → List Tag × List Tag
  popped = set_at (lanes_in t (tagged_list t n)) ((net_of t).far_end i) (step.on, (lanes_in t (tagged_list t n) ((net_of t).far_end i)).1)

  abbrev hop : Hop
  hop = record { iface = i; dir = In; time = now }

  abbrev pub one : CoursesValue → CoursesValue
  one c = gone_past step.packet.0 (record { iface = i; dir = In; time = now }) c

  abbrev pub two : CoursesValue → CoursesValue
  two c = came_to_end step.packet.0 (outcome_by f) (Counted (counter_at t ((net_of t).owner i) step.packet.1)) (record { node = (net_of t).owner i; octets = length step.packet.1; now = now }) c

  abbrev pub three : CoursesValue → CoursesValue
  three c = went_out h.offering a now c

  module _ (c : CoursesValue) (was : AreFollowed t n taken (Some c)) where
    abbrev made : ℕ
    made = sent_in (net_of t) c.source n

    abbrev passes : List (Tag × Hop)
    passes = passes_in t n ++ (step.packet.0, record { iface = i; dir = In; time = now }) ∷ []

    abbrev count : ℕ
    count = length t.ifaces

    abbrev hand : Tag → ℕ → ℕ
    hand g k = one_if (is_packet c.source k) g + tags_in (is_packet c.source k) (length t.ifaces) popped

    abbrev had : List WayEnd
    had = own_ends c.source (ends_in t n)

    was_one : AreCourses t passes (hand step.packet.0) made taken had (one c)
    was_one = courses_passed t (passes_in t n) made taken had c step.packet.0 hop (hand step.packet.0)
        (λ k is. let w = one_some c.source k step.packet.0 is in omega (arith, w))
        (courses_as t (passes_in t n) made taken had c (λ k. tags_in (is_packet c.source k) count all) (hand step.packet.0)
        (λ k. tags_left (is_packet c.source k) count ((net_of t).far_end i) all step.packet.0 step.on low step.first) was)

    abbrev came : List WayEnd
    came = ended_as (end_at (counter_at t v step.packet.1) v now step.packet) (outcome_by f)

    was_two : AreCourses t passes (hand a) made taken (had ++ own_ends c.source came) (two (one c))
    was_two = courses_came t passes made taken had (one c) count popped step.packet (counter_at t v step.packet.1) v now f was_one

    abbrev sent : List (Tag × Hop)
    sent = passes ++ started_passes h.offering a now

    abbrev lost : List WayEnd
    lost = dropped_as (drop_at now (a, step.packet.1)) h.offering

    was_three : AreCourses t sent (λ k. tags_in (is_packet c.source k) count (with_offer h.offering a popped)) made taken ((had ++ own_ends c.source came) ++ own_ends c.source lost) (three (two (one c)))
    was_three = courses_offered t passes made taken (had ++ own_ends c.source came) (two (one c)) count popped a now step.packet.1 h.offering step.can
        (λ k none. one_none c.source k a (none_of (counts_for c.source a) (step.nothing c.source none))) was_two

    passes_are : sent ≡ passes_in t (suc n)
    passes_are = append_assoc (passes_in t n) ((step.packet.0, record { iface = i; dir = In; time = now }) ∷ []) (started_passes h.offering a now) ∙ step.passes

    ends_are : (had ++ own_ends c.source came) ++ own_ends c.source lost ≡ own_ends c.source (ends_in t (suc n))
    ends_are = ap (λ l. l ++ own_ends c.source lost) (sym (own_append c.source (ends_in t n) came)) ∙ sym (own_append c.source (ends_in t n ++ came) lost) ∙ ap (own_ends c.source) step.ends

    pub arrival_followed : AreFollowed t (suc n) taken (Some (three (two (one c))))
    arrival_followed = made_as_is t (passes_in t (suc n)) _ taken (own_ends c.source (ends_in t (suc n))) (three (two (one c))) made _ (sym (unmade t n now (Arrive i) p h next c.source refl))
        (courses_as t (passes_in t (suc n)) made taken (own_ends c.source (ends_in t (suc n))) (three (two (one c))) _ (λ k. tags_in (is_packet c.source k) count (lanes_in t (tagged_list t (suc n))))
        (λ k. tags_as (is_packet c.source k) count (with_offer h.offering a popped) (lanes_in t (tagged_list t (suc n))) step.lanes)
        (said t made taken (three (two (one c))) sent (passes_in t (suc n)) _ _ _ passes_are ends_are was_three))

    pub arrival_rises : NumbersRise (Some c) × NumbersRise (Some (one c)) × NumbersRise (Some (two (one c)))
    arrival_rises = (
      courses_rise t (passes_in t n) made taken had c _ was,
      courses_rise t passes made taken had (one c) _ was_one,
      courses_rise t passes made taken (had ++ own_ends c.source came) (two (one c)) _ was_two,
    )

-- a source makes a packet
module _ (t : TopologyValue) (n now i : ℕ) (p : PartValue Held) (h : Happened) (next : IsNext t n now (Fire i) p h) (step : SourceStep t n now i h) (timed : now ≡ time_of ((net_of t).source i (sent_in (net_of t) i n))) (taken : List Ended) where
  abbrev own : Tag
  own = own_tag i ((net_of t).source_node i) (sent_in (net_of t) i n) now

  abbrev here : ℕ → List Tag × List Tag
  here = lanes_in t (tagged_list t n)

  module _ (c : CoursesValue) (was : AreFollowed t n taken (Some c)) where
    abbrev sent_after : ℕ
    sent_after = sent_in (net_of t) c.source (suc n)

    abbrev now_held : ℕ → ℕ
    now_held k = one_if (is_packet c.source k) own + tags_in (is_packet c.source k) (length t.ifaces) here

    was_begun : AreCourses t (passes_in t n) now_held sent_after taken (own_ends c.source (ends_in t n)) (begun own c)
    was_begun = ⊎_elim
        (λ (eq : i ≡ c.source).
        made_as_is t (passes_in t n) now_held taken (own_ends c.source (ends_in t n)) (begun own c) (sent_in (net_of t) c.source n + 1) sent_after
        (let l = later in let one = fires i c.source eq in omega (arith, l, one))
        (courses_begun t (passes_in t n) (sent_in (net_of t) c.source n) taken (own_ends c.source (ends_in t n)) c own _ now_held (λ k. refl) was
        (ap (λ k. i == k) (sym eq) ∙ number_tied i) (ap (λ k. sent_in (net_of t) k n) eq)
        (timed ∙ ap (λ k. time_of ((net_of t).source k (sent_in (net_of t) k n))) eq)))
        (λ apart.
        made_as_is t (passes_in t n) now_held taken (own_ends c.source (ends_in t n)) (begun own c) (sent_in (net_of t) c.source n) sent_after
        (let l = later in let none = rests i c.source (λ e. apart (sym e)) in omega (arith, l, none))
        (courses_kept t (passes_in t n) (sent_in (net_of t) c.source n) taken (own_ends c.source (ends_in t n)) c own _ now_held (λ k. refl) was
        (number_apart i c.source apart)))
        (same_number i c.source)
      where
        later : sent_in (net_of t) c.source (suc n) ≡ sent_in (net_of t) c.source n + cond (is_fire c.source (Fire i)) 1 0
        later = made_later t n next.event (Fire i) next.first next.at_place c.source

    pub source_rises : NumbersRise (Some c) × NumbersRise (Some (begun own c))
    source_rises = (
      courses_rise t (passes_in t n) (sent_in (net_of t) c.source n) taken (own_ends c.source (ends_in t n)) c _ was,
      courses_rise t (passes_in t n) sent_after taken (own_ends c.source (ends_in t n)) (begun own c) _ was_begun,
    )

    -- its node sends it, or does not
    pub offer_followed : h.offering ≢ Nothing → AreFollowed t (suc n) taken (Some (went_out h.offering own now (begun own c)))
    offer_followed other =
        courses_as t (passes_in t (suc n)) sent_after taken (own_ends c.source (ends_in t (suc n))) (went_out h.offering own now (begun own c)) _ (λ k. tags_in (is_packet c.source k) (length t.ifaces) (lanes_in t (tagged_list t (suc n))))
        (λ k. tags_as (is_packet c.source k) (length t.ifaces) (with_offer h.offering own here) (lanes_in t (tagged_list t (suc n))) step.lanes)
        (said t sent_after taken (went_out h.offering own now (begun own c)) _ (passes_in t (suc n)) _ _ _ step.passes
        (sym (own_append c.source (ends_in t n) (dropped_as (drop_at now (own, step.packet)) h.offering))
        ∙ ap (λ l. own_ends c.source (ends_in t n ++ l)) (sym (made_dropped (end_at (unsent_at t i) ((net_of t).source_node i) now (own, step.packet) outcome.Discarded) (drop_at now (own, step.packet)) h.offering other))
        ∙ ap (own_ends c.source) step.ends)
        (courses_offered t (passes_in t n) sent_after taken (own_ends c.source (ends_in t n)) (begun own c) (length t.ifaces) here own now step.packet h.offering step.can (λ k none. absurd (other none)) was_begun))

    pub loss_followed : h.offering ≡ Nothing → (reason : Reason) → reason ≡ Counted (unsent_at t i)
        → AreFollowed t (suc n) taken (Some (over own (record { outcome = outcome.Discarded; reason = reason; place = Node ((net_of t).source_node i); time = now }) (begun own c)))
    loss_followed none reason because =
        subst (λ r. AreFollowed t (suc n) taken (Some (over own (record { outcome = outcome.Discarded; reason = r; place = Node ((net_of t).source_node i); time = now }) (begun own c)))) (sym because)
        (courses_as t (passes_in t (suc n)) sent_after taken (own_ends c.source (ends_in t (suc n))) (over own (end_of discarded) (begun own c)) (λ k. tags_in (is_packet c.source k) (length t.ifaces) here) (λ k. tags_in (is_packet c.source k) (length t.ifaces) (lanes_in t (tagged_list t (suc n))))
        (λ k. tags_as (is_packet c.source k) (length t.ifaces) here (lanes_in t (tagged_list t (suc n))) (λ l. ap (λ o. with_offer o own here l) (sym none) ∙ step.lanes l))
        (said t sent_after taken (over own (end_of discarded) (begun own c)) (passes_in t n) (passes_in t (suc n)) _ _ _
        (sym (append-nil (passes_in t n)) ∙ ap (λ o. passes_in t n ++ started_passes o own now) (sym none) ∙ step.passes)
        (sym (own_append c.source (ends_in t n) (discarded ∷ [])) ∙ ap (λ o. own_ends c.source (ends_in t n ++ made_as discarded (drop_at now (own, step.packet)) o)) (sym none) ∙ ap (own_ends c.source) step.ends)
        (courses_over t (passes_in t n) sent_after taken (own_ends c.source (ends_in t n)) (begun own c) discarded now_held (λ k. tags_in (is_packet c.source k) (length t.ifaces) here) (λ k. refl) was_begun)))
      where
        discarded : WayEnd
        discarded = end_at (unsent_at t i) ((net_of t).source_node i) now (own, step.packet) outcome.Discarded

-- a transmission ends
module _ (t : TopologyValue) (n now i : ℕ) (p : PartValue Held) (h : Happened) (next : IsNext t n now (Complete i) p h) (low : i < length t.ifaces) (taken : List Ended) (c : CoursesValue) (was : AreFollowed t n taken (Some c)) where
  abbrev tags_before : ℕ → ℕ
  tags_before k = tags_in (is_packet c.source k) (length t.ifaces) (lanes_in t (tagged_list t n))

  abbrev tags_after : ℕ → ℕ
  tags_after k = tags_in (is_packet c.source k) (length t.ifaces) (lanes_in t (tagged_list t (suc n)))

  made_same : sent_in (net_of t) c.source n ≡ sent_in (net_of t) c.source (suc n)
  made_same = sym (unmade t n now (Complete i) p h next c.source refl)

  ends_same : ends_in t n ≡ ends_in t (suc n) → own_ends c.source (ends_in t n) ≡ own_ends c.source (ends_in t (suc n))
  ends_same same = ap (own_ends c.source) same

  pub completion_rises : NumbersRise (Some c)
  completion_rises = courses_rise t (passes_in t n) (sent_in (net_of t) c.source n) taken (own_ends c.source (ends_in t n)) c _ was

  -- and nothing else happens
  pub quiet_followed : ends_in t n ≡ ends_in t (suc n) → ((k : ℕ) → lanes_in t (tagged_list t n) k ≡ lanes_in t (tagged_list t (suc n)) k) → passes_in t n ≡ passes_in t (suc n)
      → AreFollowed t (suc n) taken (Some c)
  quiet_followed ends lanes went =
      made_as_is t (passes_in t (suc n)) tags_after taken (own_ends c.source (ends_in t (suc n))) c _ _ made_same
      (courses_as t (passes_in t (suc n)) (sent_in (net_of t) c.source n) taken (own_ends c.source (ends_in t (suc n))) c tags_before tags_after
      (λ k. tags_as (is_packet c.source k) (length t.ifaces) (lanes_in t (tagged_list t n)) (lanes_in t (tagged_list t (suc n))) lanes)
      (said t (sent_in (net_of t) c.source n) taken c (passes_in t n) (passes_in t (suc n)) tags_before _ _ went (ends_same ends) was))

  -- what waited longest starts
  pub start_followed : ends_in t n ≡ ends_in t (suc n) → (tag : Tag) (waits : List Tag) → (lanes_in t (tagged_list t n) i).1 ≡ tag ∷ waits
      → ((k : ℕ) → set_at (lanes_in t (tagged_list t n)) i ((lanes_in t (tagged_list t n) i).0 ++ tag ∷ [], waits) k ≡ lanes_in t (tagged_list t (suc n)) k)
      → passes_in t n ++ (tag, record { iface = i; dir = Out; time = now }) ∷ [] ≡ passes_in t (suc n)
      → AreFollowed t (suc n) taken (Some (gone_past tag (record { iface = i; dir = Out; time = now }) c))
  start_followed ends tag waits first lanes went =
      let hop : Hop = record { iface = i; dir = Out; time = now } in
      let moved = λ (k : ℕ). tags_next (is_packet c.source k) (length t.ifaces) i (lanes_in t (tagged_list t n)) tag waits low first in
      made_as_is t (passes_in t (suc n)) tags_after taken (own_ends c.source (ends_in t (suc n))) (gone_past tag hop c) _ _ made_same
      (courses_as t (passes_in t (suc n)) (sent_in (net_of t) c.source n) taken (own_ends c.source (ends_in t (suc n))) (gone_past tag hop c) tags_before tags_after
      (λ k. sym (moved k).0 ∙ tags_as (is_packet c.source k) (length t.ifaces) _ (lanes_in t (tagged_list t (suc n))) lanes)
      (said t (sent_in (net_of t) c.source n) taken (gone_past tag hop c) _ (passes_in t (suc n)) tags_before _ _ went (ends_same ends)
      (courses_passed t (passes_in t n) (sent_in (net_of t) c.source n) taken (own_ends c.source (ends_in t n)) c tag hop tags_before
      (λ k is. let one = one_some c.source k tag is in let few = (moved k).1 in omega (arith, one, few)) was)))

-- nothing was sent yet
pub followed_first : (t : TopologyValue) (c : CoursesValue) → c.under_way ≡ [] → c.ended ≡ [] → AreFollowed t 0 [] (Some c)
followed_first t c under_way ended = record {
  numbers = [];
  under_way = under_way;
  rise = tt;
  each = λ k. sym (tags_first (is_packet c.source k) (length t.ifaces));
  few = λ k past. tags_first (is_packet c.source k) (length t.ifaces);
  fresh = λ k past. refl;
  ended = ended;
  gone = tt;
}

-- the same where no source may be followed
module _ (t : TopologyValue) (j : Option ℕ) (taken : List Ended) where
  none_goes : (n m : ℕ) (new : Option CoursesValue) → new ≡ None → IsFollowed t j n taken None → IsFollowed t j m taken new
  none_goes n m new is was = subst (IsFollowed t j m taken) (sym is) (was.0, tt)

  module _ (n now i : ℕ) (p : PartValue Held) (h : Happened) where
    pub quiet_goes : (next : IsNext t n now (Complete i) p h) → i < length t.ifaces → ends_in t n ≡ ends_in t (suc n) → ((k : ℕ) → lanes_in t (tagged_list t n) k ≡ lanes_in t (tagged_list t (suc n)) k)
        → passes_in t n ≡ passes_in t (suc n) → (o : Option CoursesValue) → IsFollowed t j n taken o → IsFollowed t j (suc n) taken o
    quiet_goes next low ends lanes went None was = was
    quiet_goes next low ends lanes went (Some c) was = (was.0, quiet_followed t n now i p h next low taken c was.1 ends lanes went)

    pub start_goes : (next : IsNext t n now (Complete i) p h) → i < length t.ifaces → ends_in t n ≡ ends_in t (suc n) → (tag : Tag) (waits : List Tag) → (lanes_in t (tagged_list t n) i).1 ≡ tag ∷ waits
        → ((k : ℕ) → set_at (lanes_in t (tagged_list t n)) i ((lanes_in t (tagged_list t n) i).0 ++ tag ∷ [], waits) k ≡ lanes_in t (tagged_list t (suc n)) k)
        → passes_in t n ++ (tag, record { iface = i; dir = Out; time = now }) ∷ [] ≡ passes_in t (suc n)
        → (o new : Option CoursesValue) → (NumbersRise o → new ≡ option_map (gone_past tag (record { iface = i; dir = Out; time = now })) o) → IsFollowed t j n taken o → IsFollowed t j (suc n) taken new
    start_goes next low ends tag waits first lanes went None new is was = none_goes n (suc n) new (is tt) was
    start_goes next low ends tag waits first lanes went (Some c) new is was =
        subst (IsFollowed t j (suc n) taken) (sym (is (completion_rises t n now i p h next low taken c was.1)))
        (was.0, start_followed t n now i p h next low taken c was.1 ends tag waits first lanes went)

    module _ (next : IsNext t n now (Arrive i) p h) (step : ArrivalStep t n now i h) (low : (net_of t).far_end i < length t.ifaces) where
      pub arrival_goes : (o o1 o2 o3 : Option CoursesValue) → (NumbersRise o → o1 ≡ option_map (one t n now i p h next step low taken) o) → (NumbersRise o1 → o2 ≡ option_map (two t n now i p h next step low taken) o1)
          → (NumbersRise o2 → o3 ≡ option_map (three t n now i p h next step low taken) o2) → IsFollowed t j n taken o → IsFollowed t j (suc n) taken o3
      arrival_goes None o1 o2 o3 a b c was =
          let n1 = a tt in
          let n2 = b (subst NumbersRise (sym n1) tt) ∙ ap (option_map (two t n now i p h next step low taken)) n1 in
          none_goes n (suc n) o3 (c (subst NumbersRise (sym n2) tt) ∙ ap (option_map (three t n now i p h next step low taken)) n2) was
      arrival_goes (Some x) o1 o2 o3 a b c was =
          let r = arrival_rises t n now i p h next step low taken x was.1 in
          let n1 = a r.0 in
          let n2 = b (subst NumbersRise (sym n1) r.1) ∙ ap (option_map (two t n now i p h next step low taken)) n1 in
          let n3 = c (subst NumbersRise (sym n2) r.2) ∙ ap (option_map (three t n now i p h next step low taken)) n2 in
          subst (IsFollowed t j (suc n) taken) (sym n3) (was.0, arrival_followed t n now i p h next step low taken x was.1)

    module _ (next : IsNext t n now (Fire i) p h) (step : SourceStep t n now i h) (timed : now ≡ time_of ((net_of t).source i (sent_in (net_of t) i n))) where
      abbrev pub made_tag : Tag
      made_tag = own_tag i ((net_of t).source_node i) (sent_in (net_of t) i n) now

      pub offer_goes : h.offering ≢ Nothing → (o o1 o2 : Option CoursesValue) → o1 ≡ option_map (begun made_tag) o → (NumbersRise o1 → o2 ≡ option_map (went_out h.offering made_tag now) o1)
          → IsFollowed t j n taken o → IsFollowed t j (suc n) taken o2
      offer_goes other None o1 o2 a b was = none_goes n (suc n) o2 (b (subst NumbersRise (sym a) tt) ∙ ap (option_map (went_out h.offering made_tag now)) a) was
      offer_goes other (Some x) o1 o2 a b was =
          let r = source_rises t n now i p h next step timed taken x was.1 in
          let n2 = b (subst NumbersRise (sym a) r.1) ∙ ap (option_map (went_out h.offering made_tag now)) a in
          subst (IsFollowed t j (suc n) taken) (sym n2) (was.0, offer_followed t n now i p h next step timed taken x was.1 other)

      pub loss_goes : h.offering ≡ Nothing → (reason : Reason) → reason ≡ Counted (unsent_at t i) → (o o1 o2 : Option CoursesValue) → o1 ≡ option_map (begun made_tag) o
          → (NumbersRise o1 → o2 ≡ option_map (over made_tag (record { outcome = outcome.Discarded; reason = reason; place = Node ((net_of t).source_node i); time = now })) o1)
          → IsFollowed t j n taken o → IsFollowed t j (suc n) taken o2
      loss_goes none reason because None o1 o2 a b was = none_goes n (suc n) o2 (b (subst NumbersRise (sym a) tt) ∙ ap (option_map (over made_tag (record { outcome = outcome.Discarded; reason = reason; place = Node ((net_of t).source_node i); time = now }))) a) was
      loss_goes none reason because (Some x) o1 o2 a b was =
          let r = source_rises t n now i p h next step timed taken x was.1 in
          let n2 = b (subst NumbersRise (sym a) r.1) ∙ ap (option_map (over made_tag (record { outcome = outcome.Discarded; reason = reason; place = Node ((net_of t).source_node i); time = now }))) a in
          subst (IsFollowed t j (suc n) taken) (sym n2) (was.0, loss_followed t n now i p h next step timed taken x was.1 none reason because)
