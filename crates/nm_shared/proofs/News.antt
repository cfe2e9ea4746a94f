-- How many messages an act adds.
use Rattle.std.proofs.Common.{◌≡◌, ◌≢◌, ⊎_elim, ℕ, zero, suc, ◌+◌, ◌-◌, ◌<◌, ◌≤◌, Bool, true, false, not, ◌&&◌, cond, if◌then◌else◌, List, [], ◌∷◌, ◌++◌, length, Option, Some, None, Result, Ok, Err, refl, sym, ap, ◌∙◌, subst, length-append, get_or-set_same, get_or-set_other, arith}
use Rattle.std.specs.Prelude.{slice_get, slice_index_or, slice_set}
use Rattle.std.proofs.lemmas.Bool.{cases_lt}
use mathlib.Core.Logic.{dite}
use native.Mathlib.Decide.{ℕ_discrete}
use Rattle.nm_base.specs.declared.key.Place.TheVariants.{Arrive}
use Rattle.nm_topology.specs.PartValues.{IfaceValue}
use Rattle.nm_topology.specs.Topology.{receiving_iface}
use Rattle.nm_topology.specs.TopologyValue.{TopologyValue}
use Rattle.nm_model.specs.Accept as model
use Rattle.nm_model.specs.Knowledge.{Know, nothing_known}
use Rattle.nm_model.specs.Partition.{comes_in, in_part}
use Rattle.nm_knowledge.specs.Answers.{answer}
use Rattle.nm_knowledge.specs.Octets.{same_octets}
use Rattle.nm_knowledge.specs.declared.answer.Accepted.{Accepted}
use Rattle.nm_knowledge.specs.declared.answer.Accepted.TheVariants.{New, Known as IsKnown, Raised}
use Rattle.nm_sim.specs.Network.{far_from, net_of}
use Rattle.nm_book.specs.Book.{BookValue, message_channel}
use Rattle.nm_book.specs.Accepting.{Learns, LearnsIf, Takes, message_taken}
use Rattle.nm_book.specs.declared.fault.AcceptFault.{AcceptFault}
use Rattle.nm_book.specs.declared.message.ChannelMessage.{ChannelMessage}
use Rattle.nm_book.specs.declared.message.ChannelMessage.TheVariants.{Data, Null}
use Rattle.nm_book.specs.Running.{Runs}
use Rattle.nm_book.specs.declared.running.Ran.{Ran}
use Rattle.nm_book.specs.declared.running.Ran.TheVariants.{All, Limit, Memory}
use Rattle.nm_shared.specs.Counted.{Meets, PassCounts, Rises}
use Rattle.nm_shared.specs.Known.{HasAllChannels, messages_below, messages_known, news}
use Rattle.nm_shared.specs.Home.{Home}

abbrev count_at : List (Know (List ℕ)) → ℕ → ℕ
count_at knows c = length (slice_index_or knows c nothing_known).list

abbrev new_of : model.Answer → ℕ
new_of model.New = 1
new_of model.Raised = 0
new_of model.Known = 0
new_of (model.Gap n) = 0
new_of (model.Differs n) = 0
new_of (model.Late t) = 0
new_of model.NotRising = 0
new_of (model.Contrary n) = 0

-- a message more is known where the answer says so
Adds : Know (List ℕ) → model.Accepted (List ℕ) → Type 0
Adds a x = length x.after.list ≡ length a.list + new_of x.answer

adds_either : (a : Know (List ℕ)) (q : Bool) (x y : model.Accepted (List ℕ)) → Adds a x → Adds a y → Adds a (cond q x y)
adds_either a true x y h k = h
adds_either a false x y h k = k

one_more : (a : Know (List ℕ)) (m : ℕ × List ℕ) → Adds a (record { answer = model.New; after = record { list = a.list ++ m ∷ []; clock = m.0 } })
unfolding Adds
one_more a m = length-append a.list (m ∷ [])

gap : (a : Know (List ℕ)) (n : ℕ) → Adds a (record { answer = model.Gap n; after = a })
unfolding Adds
gap a n = omega arith

late : (a : Know (List ℕ)) (t : ℕ) → Adds a (record { answer = model.Late t; after = a })
unfolding Adds
late a t = omega arith

not_rising : (a : Know (List ℕ)) → Adds a (record { answer = model.NotRising; after = a })
unfolding Adds
not_rising a = omega arith

raised : (a : Know (List ℕ)) (t : ℕ) → Adds a (record { answer = model.Raised; after = record a { clock = t } })
unfolding Adds
raised a t = omega arith

known : (a : Know (List ℕ)) → Adds a (record { answer = model.Known; after = a })
unfolding Adds
known a = omega arith

old_data : (a : Know (List ℕ)) (n : ℕ) (q : Bool) → Adds a (record { answer = cond q model.Known (model.Differs n); after = a })
unfolding Adds
old_data a n true = omega arith
old_data a n false = omega arith

old_null : (a : Know (List ℕ)) (n : ℕ) (q : Bool) → Adds a (record { answer = cond q (model.Contrary n) model.Known; after = a })
unfolding Adds
old_null a n true = omega arith
old_null a n false = omega arith

data_adds : (o : Option (ℕ × List ℕ)) (a : Know (List ℕ)) (n : ℕ) (m : ℕ × List ℕ) → Adds a (model.data_at same_octets o a n m)
data_adds (Some x) a n m = old_data a n _
data_adds None a n m = adds_either a _ _ _ (adds_either a _ _ _ (late a a.clock) (adds_either a _ _ _ (not_rising a) (one_more a m))) (gap a (length a.list))

null_adds : (o : Option (ℕ × List ℕ)) (a : Know (List ℕ)) (n t : ℕ) → Adds a (model.null_at o a n t)
null_adds (Some x) a n t = old_null a n _
null_adds None a n t = adds_either a _ _ _ (adds_either a _ _ _ (raised a t) (known a)) (gap a (length a.list))

taken_adds : (ks : List (Know (List ℕ))) (m : ChannelMessage) → length (message_taken ks m).after.list ≡ count_at ks (message_channel m) + new_of (message_taken ks m).answer
unfolding Adds
taken_adds ks (Data d) = data_adds _ (slice_index_or ks d.channel nothing_known) d.number (d.time, d.packet)
taken_adds ks (Null n) = null_adds _ (slice_index_or ks n.channel nothing_known) n.count n.clock

if_same : (q : Bool) (m n : ℕ) → m ≡ n → (if q then m else 0) ≡ (if q then n else 0)
if_same true m n e = e
if_same false m n e = refl

below_same : (t : TopologyValue) (p : ℕ) (ks js : List (Know (List ℕ))) (n : ℕ) → ((c : ℕ) → c < n → count_at js c ≡ count_at ks c) → messages_below t p js n ≡ messages_below t p ks n
below_same t p ks js zero h = refl
below_same t p ks js (suc n) h =
    let one = if_same (comes_in (net_of t) p (receiving_iface t n)) (count_at js n) (count_at ks n) (h n (omega arith)) in
    let rest = below_same t p ks js n (λ c lt. h c (omega arith)) in
    omega (arith, one, rest)

if_more : (q : Bool) (m n d : ℕ) → q ≡ true → m ≡ n + d → (if q then m else 0) ≡ (if q then n else 0) + d
if_more true m n d e h = h
if_more false m n d e h = absurd (cc)

-- one channel below number n has d messages more
below_more : (t : TopologyValue) (p : ℕ) (ks js : List (Know (List ℕ))) (c d n : ℕ) → c < n → comes_in (net_of t) p (receiving_iface t c) ≡ true → count_at js c ≡ count_at ks c + d → ((i : ℕ) → i ≢ c → count_at js i ≡ count_at ks i) → messages_below t p js n ≡ messages_below t p ks n + d
below_more t p ks js c d zero lt comes more same = absurd (omega arith)
below_more t p ks js c d (suc n) lt comes more same = dite (ℕ_discrete n c)
    (λ e.
    let rest = below_same t p ks js n (λ i below. same i (omega arith)) in
    let comes' : comes_in (net_of t) p (receiving_iface t n) ≡ true = ap (λ i. comes_in (net_of t) p (receiving_iface t i)) e ∙ comes in
    let more' : count_at js n ≡ count_at ks n + d = subst (λ i. count_at js i ≡ count_at ks i + d) (sym e) more in
    let one = if_more (comes_in (net_of t) p (receiving_iface t n)) (count_at js n) (count_at ks n) d comes' more' in
    omega (arith, one, rest))
    (λ ne.
    let rest = below_more t p ks js c d n (omega arith) comes more same in
    let one = if_same (comes_in (net_of t) p (receiving_iface t n)) (count_at js n) (count_at ks n) (same n ne) in
    omega (arith, one, rest))

-- no channel has a number past the last: at no interface comes one in
past : {A : Type 0} (l : List A) (i : ℕ) (d : A) → length l ≤ i → slice_index_or l i d ≡ d
past [] i d le = refl
past (x ∷ l) zero d le = absurd (omega arith)
past (x ∷ l) (suc i) d le = past l i d (omega arith)

none_past : {A : Type 0} (l : List A) (i : ℕ) → length l ≤ i → slice_get l i ≡ None
none_past [] i le = refl
none_past (x ∷ l) zero le = absurd (omega arith)
none_past (x ∷ l) (suc i) le = none_past l i (omega arith)

and_not : (q : Bool) → (q && not q) ≡ false
and_not true = refl
and_not false = refl

own_far_end : (t : TopologyValue) (i : ℕ) → length t.ifaces ≤ i → (net_of t).far_end i ≡ i
unfolding net_of
own_far_end t i le = ap (λ (o : Option IfaceValue). (far_from i o).iface) (none_past t.ifaces i le)

none_comes : (t : TopologyValue) (p c : ℕ) → length t.receivers ≤ c → comes_in (net_of t) p (receiving_iface t c) ≡ false
none_comes t p c le =
    let i = length t.ifaces in
    let at : receiving_iface t c ≡ i = past t.receivers c i le in
    let none : comes_in (net_of t) p i ≡ false = ap (λ j. in_part (net_of t) p (Arrive i) && not (in_part (net_of t) p (Arrive j))) (own_far_end t i (omega arith)) ∙ and_not (in_part (net_of t) p (Arrive i)) in
    ap (comes_in (net_of t) p) at ∙ none

below_last : (t : TopologyValue) (p c : ℕ) → comes_in (net_of t) p (receiving_iface t c) ≡ true → c < length t.receivers
below_last t p c comes = ⊎_elim (λ h. h) (λ le. absurd (let no = none_comes t p c le in cc)) (cases_lt c (length t.receivers))

-- one channel's knowledge was set
set_adds : (t : TopologyValue) (p : ℕ) (ks : List (Know (List ℕ))) (c : ℕ) (y : Know (List ℕ)) (d : ℕ) → length ks ≡ length t.receivers → comes_in (net_of t) p (receiving_iface t c) ≡ true → length y.list ≡ count_at ks c + d → messages_below t p (slice_set ks c y) (length t.receivers) ≡ messages_below t p ks (length t.receivers) + d
set_adds t p ks c y d all comes more =
    let lt = below_last t p c comes in
    below_more t p ks (slice_set ks c y) c d (length t.receivers) lt comes
    (ap (λ (k : Know (List ℕ)). length k.list) (get_or-set_same ks c y nothing_known (omega arith)) ∙ more)
    (λ i ne. ap (λ (k : Know (List ℕ)). length k.list) (get_or-set_other ks c i y nothing_known ne))

some_is : (x y : model.Answer) → Some x ≡ Some y → x ≡ y
some_is x y e = cc

ok_new : (a : Accepted) (x : model.Answer) → Some x ≡ answer (Ok a) → new_of x ≡ news (Ok a)
ok_new New x e = ap new_of (some_is x model.New e)
ok_new IsKnown x e = ap new_of (some_is x model.Known e)
ok_new Raised x e = ap new_of (some_is x model.Raised e)

module _ (t : TopologyValue) (p : ℕ) (ks js : List (Know (List ℕ))) (c : ℕ) (taken : model.Accepted (List ℕ)) where
  Added : ℕ → Type 0
  Added d = messages_below t p js (length t.receivers) ≡ messages_below t p ks (length t.receivers) + d

  none_added : js ≡ ks → Added 0
  unfolding Added
  none_added e = let same = ap (λ l. messages_below t p l (length t.receivers)) e in omega (arith, same)

  learns_adds : (r : Result Accepted AcceptFault) → length ks ≡ length t.receivers → comes_in (net_of t) p (receiving_iface t c) ≡ true → length taken.after.list ≡ count_at ks c + new_of taken.answer → Learns ks js c taken r → Added (news r)
  unfolding Added
  learns_adds (Ok a) all comes more l =
      let e = ok_new a taken.answer l.0 in
      let set = set_adds t p ks c taken.after (new_of taken.answer) all comes more in
      let same = ap (λ k. messages_below t p k (length t.receivers)) l.1 in
      omega (arith, e, set, same)
  learns_adds (Err e) all comes more l = none_added l.3

  learns_if_adds : (q : Bool) (r : Result Accepted AcceptFault) → comes_in (net_of t) p (receiving_iface t c) ≡ q → length ks ≡ length t.receivers → length taken.after.list ≡ count_at ks c + new_of taken.answer → LearnsIf q ks js c taken r → Added (news r)
  learns_if_adds true r is all more l = learns_adds r all is more l
  learns_if_adds false r is all more l = subst (λ x. Added (news x)) (sym l.0) (none_added l.1)

  added : (d : ℕ) → Added d → messages_below t p js (length t.receivers) ≡ messages_below t p ks (length t.receivers) + d
  unfolding Added
  added d h = h

-- a book that is told knows as many messages more as the answer says are new
pub accept_adds : (m : ChannelMessage) (b : BookValue) (r : Result Accepted AcceptFault) (c : BookValue) → HasAllChannels b → Takes b c (message_channel m) (message_taken b.knows m) r → messages_known c ≡ messages_known b + news r
accept_adds m b r c all h =
    let taken = message_taken b.knows m in
    ap messages_known h.same
    ∙ added b.topology b.partition b.knows c.knows (message_channel m) taken (news r)
    (learns_if_adds b.topology b.partition b.knows c.knows (message_channel m) taken _ r refl all (taken_adds b.knows m) h.learns)

-- what does not change what is known adds nothing to it
none_adds : (b c : BookValue) → messages_known c ≡ messages_known b → messages_known c ≡ messages_known b + 0
none_adds b c e = omega (arith, e)

pub handed_adds : (h : ℕ) (b c : BookValue) → c ≡ record b { handed = h } → messages_known c ≡ messages_known b + 0
handed_adds h b c e = none_adds b c (ap messages_known e)

pub runs_add : (limit : ℕ) (b : BookValue) (r : Ran) (c : BookValue) → Runs b c limit r → messages_known c ≡ messages_known b + 0
runs_add limit b (All n) c h = none_adds b c (ap messages_known h.same)
runs_add limit b (Limit n) c h = none_adds b c (ap messages_known h.same)
runs_add limit b (Memory n) c h = none_adds b c (ap messages_known h.same)

true_false : true ≡ false → ⊥
true_false e = cc

-- amounts of exact counts rise by what is added
pub rises_by : (exact : Bool) (a n d b : ℕ) → exact ≡ true → Rises exact a n b → n ≡ d → b ≡ a + d
rises_by exact a n d b e rises is =
    let h = rises (λ f. absurd (true_false (sym e ∙ f))) in
    omega (arith, h, is)

less : (x y d : ℕ) → y ≡ x + d → y - x ≡ d
less x y d e = omega arith

pub messages_rise : (exact : Bool) (own : Home) (before after : PassCounts) (b c : BookValue) (d : ℕ) → Meets exact own before after b c → exact ≡ true
    → messages_known c ≡ messages_known b + d → after.messages ≡ before.messages + d
messages_rise exact own before after b c d h is more =
    rises_by exact before.messages (messages_known c - messages_known b) d after.messages is h.messages (less (messages_known b) (messages_known c) d more)
