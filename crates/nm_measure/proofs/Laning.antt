-- The lanes of interfaces, one step later.
use Rattle.std.proofs.Common.{◌≡◌, ◌≢◌, ℕ, suc, ◌+◌, ◌-◌, ◌<◌, List, [], ◌∷◌, ◌++◌, length, Option, None, Some, IsSomeAnd, slice_get, slice_set, refl, sym, ap, ◌∙◌, subst, arith, ⊎_elim, length-set, append_assoc, append-nil, length-append}
use Rattle.std.proofs.lemmas.List.Sums.{sum_by_push, sum_by-cons, sum_by-set}
use Rattle.std.proofs.lemmas.Option.{get_or_from_slice_get, slice_get_within}
use Rattle.nm_model.proofs.ListLemmas.{same_number, set_here, set_there, some_inj}
use Rattle.nm_model.specs.Lists.{set_at}
use Rattle.nm_model.specs.declared.offering.Offering.{Offering}
use Rattle.nm_measure.specs.declared.flow_counts.FlowCounts.{FlowCounts}
use Rattle.nm_measure.specs.declared.flow_counts.PacketOutcome.{PacketOutcome}
use Rattle.nm_measure.specs.declared.flow_times.FlowTimes.{FlowTimes}
use Rattle.nm_measure.specs.declared.lane.Lane.{Lane}
use Rattle.nm_measure.specs.declared.fates.Fate.{Fate}
use Rattle.nm_measure.specs.declared.fates.Fate.TheVariants as fate
use Rattle.nm_measure.specs.declared.role.Role.{Role}
use Rattle.nm_measure.specs.declared.role.Role.TheVariants as role
use Rattle.nm_measure.specs.declared.tag.Tag.{Tag}
use Rattle.nm_measure.specs.Counted.{AreFlows}
use Rattle.nm_measure.specs.Lanes.{AreWatched, IsLane, left_in_hand, one_of, own_among, own_in, with_offer, with_start, with_wait}
use Rattle.nm_measure.specs.Ways.{WayEnd, answer_tag, dropped_as, ended_as, nobodys, outcome_by, reply_as, reply_tag}
use Rattle.nm_measure.proofs.Flowing.{flows_under}
use Rattle.nm_measure.proofs.Lists.{set_other, set_same}

head_is : {X : Type 0} (x y : X) (xs ys : List X) → x ∷ xs ≡ y ∷ ys → x ≡ y
head_is x y xs ys e = cc

tail_is : {X : Type 0} (x y : X) (xs ys : List X) → x ∷ xs ≡ y ∷ ys → xs ≡ ys
tail_is x y xs ys e = cc

-- one lane changes
own_set : (j : ℕ) (lanes : List Lane) (k : ℕ) (x y : Lane) → slice_get lanes k ≡ Some x
    → own_in j (slice_set lanes k y) + own_among j x.line.items ≡ own_in j lanes + own_among j y.line.items
own_set j lanes k x y at =
    let h = sum_by-set (λ (l : Lane). own_among j l.line.items) lanes k y x (slice_get_within lanes k x at) in
    subst (λ z. own_in j (slice_set lanes k y) + own_among j z.line.items ≡ own_in j lanes + own_among j y.line.items) (get_or_from_slice_get lanes k x x at) h

-- what has waited longest, in the one queue of a lane
middle : {X : Type 0} (xs ys : List X) (y : X) → slice_get (xs ++ y ∷ ys) (length xs) ≡ Some y
middle [] ys y = refl
middle (x ∷ xs) ys y = middle xs ys y

pub first_waits : (tags : List Tag × List Tag) (x : Lane) → IsLane tags x → (tag : Tag) (waits : List Tag) → tags.1 ≡ tag ∷ waits → slice_get x.line.items (length x.line.items - x.waiting) ≡ Some tag
first_waits tags x is tag waits first =
    let line : x.line.items ≡ tags.0 ++ tag ∷ waits = is.line ∙ ap (λ l. tags.0 ++ l) first in
    let long = ap length line in
    let more = length-append tags.0 (tag ∷ waits) in
    let count = is.waiting ∙ ap length first in
    let place : length x.line.items - x.waiting ≡ length tags.0 = omega (arith, long, more, count) in
    (λ i. slice_get (line i) (place i)) ∙ middle tags.0 waits tag

abbrev AreLanes : (ℕ → List Tag × List Tag) → List Lane → Type 0
AreLanes all lanes = (i : ℕ) (x : Lane) → slice_get lanes i ≡ Some x → IsLane (all i) x

lanes_set : (all : ℕ → List Tag × List Tag) (lanes : List Lane) (k : ℕ) (tags : List Tag × List Tag) (y : Lane) → k < length lanes → AreLanes all lanes → IsLane tags y → AreLanes (set_at all k tags) (slice_set lanes k y)
lanes_set all lanes k tags y there was new i z found = ⊎_elim
    (λ (eq : i ≡ k).
    let is : y ≡ z = some_inj y z (sym (set_same lanes k y there) ∙ ap (slice_get (slice_set lanes k y)) (sym eq) ∙ found) in
    subst (λ n. IsLane (set_at all k tags n) z) (sym eq) (subst (λ l. IsLane l z) (sym (set_here all k tags)) (subst (IsLane tags) is new)))
    (λ apart. subst (λ l. IsLane l z) (sym (set_there all k tags i apart)) (was i z (sym (set_other lanes k i y apart) ∙ found)))
    (same_number i k)

module _ (count : ℕ) (all : ℕ → List Tag × List Tag) (ends : List WayEnd) (lanes : List Lane) (counts : List FlowCounts) (times : List FlowTimes) (k : ℕ) (x y : Lane) (at : slice_get lanes k ≡ Some x) where
  there : k < length lanes
  there = slice_get_within lanes k x at

  -- the numbers of sources, where the packets in hand and in lanes are as many as before
  numbers_as : (old new : List Tag) → AreWatched count all old ends lanes counts times
      → ((j : ℕ) → own_among j old + own_among j x.line.items ≡ own_among j new + own_among j y.line.items)
      → AreFlows ends (λ j. own_among j new + own_in j (slice_set lanes k y)) counts times
  numbers_as old new was same = flows_under ends (λ j. own_among j old + own_in j lanes) (λ j. own_among j new + own_in j (slice_set lanes k y)) counts times
      (λ j. let a = same j in let b = own_set j lanes k x y at in omega (arith, a, b)) was.numbers

  lane_is : (tags : List Tag × List Tag) → IsLane tags y → (old new : List Tag) → AreWatched count all old ends lanes counts times
      → ((j : ℕ) → own_among j old + own_among j x.line.items ≡ own_among j new + own_among j y.line.items)
      → AreWatched count (set_at all k tags) new ends (slice_set lanes k y) counts times
  lane_is tags is old new was same = record {
    all_there = length-set lanes k y ∙ was.all_there;
    each = lanes_set all lanes k tags y there was.each is;
    numbers = numbers_as old new was same;
  }

  -- the first packet on the link is the first in line
  line_of : (tag : Tag) (on : List Tag) → AreWatched count all [] ends lanes counts times → (all k).0 ≡ tag ∷ on → x.line.items ≡ tag ∷ (on ++ (all k).1)
  line_of tag on was first = (was.each k x at).line ∙ ap (λ l. l ++ (all k).1) first

  is_on_link : (tag : Tag) (on : List Tag) → AreWatched count all [] ends lanes counts times → (all k).0 ≡ tag ∷ on → x.waiting < length x.line.items
  is_on_link tag on was first =
      let long = (was.each k x at).waiting in
      let count_all = ap length (line_of tag on was first) in
      let more = length-append on (all k).1 in
      omega (arith, long, count_all, more)

  -- the first packet on the link arrives
  pub leaves_link : (r : Option Tag) (tag : Tag) (on : List Tag) → AreWatched count all [] ends lanes counts times → (all k).0 ≡ tag ∷ on
      → (x.waiting < length x.line.items → IsSomeAnd r (λ z. x.line.items ≡ z ∷ y.line.items)) → y.waiting ≡ x.waiting
      → (r ≡ Some tag) × AreWatched count (set_at all k (on, (all k).1)) (tag ∷ []) ends (slice_set lanes k y) counts times
  leaves_link None tag on was first takes same = absurd (takes (is_on_link tag on was first))
  leaves_link (Some r) tag on was first takes same =
      let w = (all k).1 in
      let line = line_of tag on was first in
      let split : r ∷ y.line.items ≡ tag ∷ (on ++ w) = sym (takes (is_on_link tag on was first)) ∙ line in
      let rest : y.line.items ≡ on ++ w = tail_is r tag y.line.items (on ++ w) split in (
        ap Some (head_is r tag y.line.items (on ++ w) split),
        lane_is (on, w) (record { line = rest; waiting = same ∙ (was.each k x at).waiting }) [] (tag ∷ []) was
            (λ j. let a = ap (own_among j) line in let b = ap (own_among j) rest in let c = sum_by-cons (one_of j) tag (on ++ w) in omega (arith, a, b, c)),
      )

  -- a packet's transmission starts at once
  pub starts_at_once : (tag : Tag) → AreWatched count all (tag ∷ []) ends lanes counts times → (all k).1 ≡ [] → y.line.items ≡ x.line.items ++ tag ∷ [] → y.waiting ≡ x.waiting
      → AreWatched count (with_start k tag all) [] ends (slice_set lanes k y) counts times
  starts_at_once tag was none more same =
      let h = was.each k x at in
      let line : y.line.items ≡ ((all k).0 ++ tag ∷ []) ++ (all k).1 = more ∙ ap (λ l. l ++ tag ∷ []) (h.line ∙ ap (λ l. (all k).0 ++ l) none ∙ append-nil (all k).0) ∙ sym (ap (λ l. ((all k).0 ++ tag ∷ []) ++ l) none ∙ append-nil ((all k).0 ++ tag ∷ [])) in
      lane_is ((all k).0 ++ tag ∷ [], (all k).1) (record { line = line; waiting = same ∙ h.waiting }) (tag ∷ []) [] was
      (λ j. let a = ap (own_among j) more in let b = sum_by_push (one_of j) x.line.items tag in omega (arith, a, b))

  -- a packet waits behind the others
  pub waits_behind : (tag : Tag) → AreWatched count all (tag ∷ []) ends lanes counts times → y.line.items ≡ x.line.items ++ tag ∷ [] → y.waiting ≡ x.waiting + 1
      → AreWatched count (with_wait k tag all) [] ends (slice_set lanes k y) counts times
  waits_behind tag was more one =
      let h = was.each k x at in
      let line : y.line.items ≡ (all k).0 ++ ((all k).1 ++ tag ∷ []) = more ∙ ap (λ l. l ++ tag ∷ []) h.line ∙ append_assoc (all k).0 (all k).1 (tag ∷ []) in
      let long = length-append (all k).1 (tag ∷ []) in
      let was_long = h.waiting in
      lane_is ((all k).0, (all k).1 ++ tag ∷ []) (record { line = line; waiting = omega (arith, one, was_long, long) }) (tag ∷ []) [] was
      (λ j. let a = ap (own_among j) more in let b = sum_by_push (one_of j) x.line.items tag in omega (arith, a, b))

  -- the first that waits starts
  pub next_starts : (tag : Tag) (waits : List Tag) → AreWatched count all [] ends lanes counts times → (all k).1 ≡ tag ∷ waits → y.line.items ≡ x.line.items → y.waiting ≡ x.waiting - 1
      → AreWatched count (set_at all k ((all k).0 ++ tag ∷ [], waits)) [] ends (slice_set lanes k y) counts times
  next_starts tag waits was first line less =
      let h = was.each k x at in
      let new : y.line.items ≡ ((all k).0 ++ tag ∷ []) ++ waits = line ∙ h.line ∙ ap (λ l. (all k).0 ++ l) first ∙ sym (append_assoc (all k).0 (tag ∷ []) waits) in
      let long = ap length first in
      let was_long = h.waiting in
      lane_is ((all k).0 ++ tag ∷ [], waits) (record { line = new; waiting = omega (arith, less, was_long, long) }) [] [] was
      (λ j. let a = ap (own_among j) line in omega (arith, a))

-- lanes that are the same
pub watched_as : (count : ℕ) (all new : ℕ → List Tag × List Tag) (hand : List Tag) (ends : List WayEnd) (lanes : List Lane) (counts : List FlowCounts) (times : List FlowTimes)
    → ((i : ℕ) → all i ≡ new i) → AreWatched count all hand ends lanes counts times → AreWatched count new hand ends lanes counts times
watched_as count all new hand ends lanes counts times same was = record {
  all_there = was.all_there;
  each = λ i x at. subst (λ l. IsLane l x) (same i) (was.each i x at);
  numbers = was.numbers;
}

-- what is in hand, and what is when it ended
pub in_hand : (count : ℕ) (all : ℕ → List Tag × List Tag) (tag : Tag) (ends : List WayEnd) (lanes : List Lane) (counts : List FlowCounts) (times : List FlowTimes)
    → AreWatched count all (tag ∷ []) ends lanes counts times → AreFlows ends (λ j. one_of j tag + own_in j lanes) counts times
in_hand count all tag ends lanes counts times was = flows_under ends (λ j. own_among j (tag ∷ []) + own_in j lanes) (λ j. one_of j tag + own_in j lanes) counts times (λ j. omega arith) was.numbers

pub out_of_hand : (count : ℕ) (all : ℕ → List Tag × List Tag) (hand : List Tag) (ends new : List WayEnd) (lanes : List Lane) (counts after : List FlowCounts) (times later : List FlowTimes)
    → AreWatched count all hand ends lanes counts times → AreFlows new (λ j. own_in j lanes) after later → AreWatched count all [] new lanes after later
out_of_hand count all hand ends new lanes counts after times later was flows = record {
  all_there = was.all_there;
  each = was.each;
  numbers = flows_under new (λ j. own_in j lanes) (λ j. own_among j [] + own_in j lanes) after later (λ j. omega arith) flows;
}

-- a source's packet comes to hand
pub to_hand : (count : ℕ) (all : ℕ → List Tag × List Tag) (tag : Tag) (ends : List WayEnd) (lanes : List Lane) (counts after : List FlowCounts) (times later : List FlowTimes)
    → AreWatched count all [] ends lanes counts times → (((u : ℕ → ℕ) → AreFlows ends u counts times → AreFlows ends (λ j. one_of j tag + u j) after later))
    → AreWatched count all (tag ∷ []) ends lanes after later
to_hand count all tag ends lanes counts after times later was makes = record {
  all_there = was.all_there;
  each = was.each;
  numbers = flows_under ends (λ j. one_of j tag + (own_among j [] + own_in j lanes)) (λ j. own_among j (tag ∷ []) + own_in j lanes) after later (λ j. omega arith)
      (makes (λ j. own_among j [] + own_in j lanes) was.numbers);
}

-- what is in hand is no source's own
pub nothing_in_hand : (count : ℕ) (all : ℕ → List Tag × List Tag) (tag : Tag) (ends : List WayEnd) (lanes : List Lane) (counts : List FlowCounts) (times : List FlowTimes)
    → AreWatched count all (tag ∷ []) ends lanes counts times → ((j : ℕ) → one_of j tag ≡ 0) → AreWatched count all [] ends lanes counts times
nothing_in_hand count all tag ends lanes counts times was none = record {
  all_there = was.all_there;
  each = was.each;
  numbers = flows_under ends (λ j. own_among j (tag ∷ []) + own_in j lanes) (λ j. own_among j [] + own_in j lanes) counts times (λ j. let z = none j in omega (arith, z)) was.numbers;
}

-- what became of an offer, said otherwise
pub offered_as : (count : ℕ) (all : ℕ → List Tag × List Tag) (ends : List WayEnd) (offering is : Offering) → offering ≡ is → (tag : Tag) (end : ℕ → WayEnd) (lanes : List Lane) (counts : List FlowCounts) (times : List FlowTimes)
    → AreWatched count (with_offer is tag all) [] (ends ++ dropped_as end is) lanes counts times → AreWatched count (with_offer offering tag all) [] (ends ++ dropped_as end offering) lanes counts times
offered_as count all ends offering is same tag end lanes counts times = subst (λ o. AreWatched count (with_offer o tag all) [] (ends ++ dropped_as end o) lanes counts times) (sym same)

-- the way of what is in hand ended so
pub ended_with : (count : ℕ) (all : ℕ → List Tag × List Tag) (tag : Tag) (ends : List WayEnd) (end : PacketOutcome → WayEnd) (how : Option PacketOutcome) (o : PacketOutcome) → how ≡ Some o
    → (lanes : List Lane) (counts after : List FlowCounts) (times later : List FlowTimes)
    → AreWatched count all (tag ∷ []) ends lanes counts times → AreFlows (ends ++ end o ∷ []) (λ j. own_in j lanes) after later
    → AreWatched count all (left_in_hand how tag) (ends ++ ended_as end how) lanes after later
ended_with count all tag ends end how o is lanes counts after times later was flows =
    subst (λ h. AreWatched count all (left_in_hand h tag) (ends ++ ended_as end h) lanes after later) (sym is)
    (out_of_hand count all (tag ∷ []) ends (ends ++ end o ∷ []) lanes counts after times later was flows)

-- nothing was seen yet
own_first : (j : ℕ) (lanes : List Lane) → ((i : ℕ) (x : Lane) → slice_get lanes i ≡ Some x → x.line.items ≡ []) → own_in j lanes ≡ 0
own_first j [] none = refl
own_first j (x ∷ lanes) none =
    let a = sum_by-cons (λ (l : Lane). own_among j l.line.items) x lanes in
    let b = own_first j lanes (λ i y at. none (suc i) y at) in
    let c = ap (own_among j) (none 0 x refl) in
    omega (arith, a, b, c)

pub watched_first : (count : ℕ) (lanes : List Lane) (counts : List FlowCounts) (times : List FlowTimes) → length lanes ≡ count
    → ((i : ℕ) (x : Lane) → slice_get lanes i ≡ Some x → (x.line.items ≡ []) × (x.waiting ≡ 0)) → AreFlows [] (λ j. 0) counts times
    → AreWatched count (λ i. ([], [])) [] [] lanes counts times
watched_first count lanes counts times long none flows = record {
  all_there = long;
  each = λ i x at. let z = none i x at in record { line = z.0; waiting = z.1 };
  numbers = flows_under [] (λ j. 0) (λ j. own_among j [] + own_in j lanes) counts times (λ j. let z = own_first j lanes (λ i x at. (none i x at).0) in omega (arith, z)) flows;
}

-- a packet that counts for no source comes to hand
nobodys_to_hand : (count : ℕ) (all : ℕ → List Tag × List Tag) (tag : Tag) (ends : List WayEnd) (lanes : List Lane) (counts : List FlowCounts) (times : List FlowTimes)
    → ((j : ℕ) → one_of j tag ≡ 0) → AreWatched count all [] ends lanes counts times → AreWatched count all (tag ∷ []) ends lanes counts times
nobodys_to_hand count all tag ends lanes counts times none was = record {
  all_there = was.all_there;
  each = was.each;
  numbers = flows_under ends (λ j. own_among j [] + own_in j lanes) (λ j. own_among j (tag ∷ []) + own_in j lanes) counts times (λ j. let z = none j in omega (arith, z)) was.numbers;
}

-- an answer is no source's own
reply_counts_none : (j : ℕ) (tag : Tag) → one_of j (reply_tag tag) ≡ 0
reply_counts_none j tag = go tag.role
  where
    go : (r : Role) → one_of j (reply_as r tag) ≡ 0
    go role.Sent = refl
    go role.Reply = refl
    go role.Nothing = refl

pub answer_counts_none : (j : ℕ) (f : Fate) (tag : Tag) → f ≢ fate.SentOn → one_of j (answer_tag f tag) ≡ 0
answer_counts_none j fate.SentOn tag other = absurd (other refl)
answer_counts_none j fate.Requested tag other = reply_counts_none j tag
answer_counts_none j fate.Delivered tag other = refl
answer_counts_none j fate.Told tag other = refl
answer_counts_none j fate.Refused tag other = refl
answer_counts_none j fate.Discarded tag other = refl

-- after its end a packet's answer is in hand
pub answer_to_hand : (count : ℕ) (all : ℕ → List Tag × List Tag) (f : Fate) (tag : Tag) (ends : List WayEnd) (lanes : List Lane) (counts : List FlowCounts) (times : List FlowTimes)
    → AreWatched count all (left_in_hand (outcome_by f) tag) ends lanes counts times → AreWatched count all (answer_tag f tag ∷ []) ends lanes counts times
answer_to_hand count all fate.SentOn tag ends lanes counts times was = was
answer_to_hand count all fate.Requested tag ends lanes counts times was = nobodys_to_hand count all (reply_tag tag) ends lanes counts times (λ j. reply_counts_none j tag) was
answer_to_hand count all fate.Delivered tag ends lanes counts times was = nobodys_to_hand count all nobodys ends lanes counts times (λ j. refl) was
answer_to_hand count all fate.Told tag ends lanes counts times was = nobodys_to_hand count all nobodys ends lanes counts times (λ j. refl) was
answer_to_hand count all fate.Refused tag ends lanes counts times was = nobodys_to_hand count all nobodys ends lanes counts times (λ j. refl) was
answer_to_hand count all fate.Discarded tag ends lanes counts times was = nobodys_to_hand count all nobodys ends lanes counts times (λ j. refl) was
