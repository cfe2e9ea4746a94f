-- Why a book only grows, whatever a call answers.
use Rattle.std.specs.Prelude.{◌≡◌, ℕ, zero, suc, ◌+◌, ◌≤◌, Bool, true, false, if◌then◌else◌, List, [], ◌∷◌, ◌++◌, length, slice_index_or, slice_set, Option, Some, None, Result, Ok, Err, refl}
use Rattle.std.proofs.Common.{⊎_elim, ◌<◌, leb, sym, subst, ap, arith, length-append}
use Rattle.std.proofs.lemmas.Bool.{cases_lt, leb-true}
use Rattle.nm_base.specs.declared.fault.Fault.{Fault}
use Rattle.nm_base.specs.declared.fault.Fault.TheVariants.{Refused as Unmerged, Memory as NoRoom}
use Rattle.nm_topology.specs.Topology.{receiving_iface}
use Rattle.nm_topology.specs.TopologyValue.{TopologyValue}
use Rattle.nm_model.specs.Accept as model
use Rattle.nm_model.specs.Join.{join}
use Rattle.nm_model.specs.Knowledge.{Know, nothing_known}
use Rattle.nm_model.specs.Partition.{comes_in}
use Rattle.nm_knowledge.specs.Octets.{same_octets}
use Rattle.nm_knowledge.specs.declared.answer.Accepted.{Accepted}
use Rattle.nm_sim.specs.Network.{net_of}
use Rattle.nm_book.specs.Book.{BookValue, message_channel}
use Rattle.nm_book.specs.Accepting.{Learns, LearnsIf, Takes, message_taken}
use Rattle.nm_book.specs.Merging.{AreJoined, BookMerges, KnowledgeValue, MergesChannels, joined_at}
use Rattle.nm_book.specs.Running.{Runs}
use Rattle.nm_book.specs.declared.fault.AcceptFault.{AcceptFault}
use Rattle.nm_book.specs.declared.fault.MergeRefusal.{MergeRefusal}
use Rattle.nm_book.specs.declared.fault.MergeRefusal.TheVariants.{Stranger as NotMine, Channel}
use Rattle.nm_book.specs.declared.message.ChannelMessage.{ChannelMessage}
use Rattle.nm_book.specs.declared.message.ChannelMessage.TheVariants.{Data, Null}
use Rattle.nm_book.specs.declared.running.Ran.{Ran}
use Rattle.nm_book.specs.declared.running.Ran.TheVariants.{All, Limit, Memory}
use Rattle.nm_shared.specs.Known.{Grows, messages_below}

abbrev count_at : List (Know (List ℕ)) → ℕ → ℕ
count_at knows c = length (slice_index_or knows c nothing_known).list

if_rises : (q : Bool) (m n : ℕ) → m ≤ n → (if q then m else 0) ≤ (if q then n else 0)
if_rises true m n h = h
if_rises false m n h = omega arith

below_rises : (t : TopologyValue) (p : ℕ) (ks js : List (Know (List ℕ))) (n : ℕ)
    → ((c : ℕ) → count_at ks c ≤ count_at js c) → messages_below t p ks n ≤ messages_below t p js n
below_rises t p ks js zero h = omega arith
below_rises t p ks js (suc n) h =
    let one = if_rises (comes_in (net_of t) p (receiving_iface t n)) (count_at ks n) (count_at js n)
    (h n) in
    let rest = below_rises t p ks js n h in
    omega (arith, one, rest)

pub same_grows : (b c : BookValue) → c ≡ b → Grows b c
same_grows b c e = subst (Grows b) (sym e) (record {
  home = refl;
  channels = refl;
  messages = omega arith;
  events = omega arith;
})

told_grows : (b c : BookValue) → c ≡ record b { knows = c.knows } → length c.knows ≡ length b.knows
    → ((n : ℕ) → count_at b.knows n ≤ count_at c.knows n) → Grows b c
told_grows b c e channels h = subst (Grows b) (sym e) (record {
  home = refl;
  channels = channels;
  messages = below_rises b.topology b.partition b.knows c.knows (length b.topology.receivers) h;
  events = omega arith;
})

length_set : (ks : List (Know (List ℕ))) (c : ℕ) (y : Know (List ℕ))
    → length (slice_set ks c y) ≡ length ks
length_set [] c y = refl
length_set (k ∷ ks) zero y = refl
length_set (k ∷ ks) (suc c) y = ap suc (length_set ks c y)

set_rises : (ks : List (Know (List ℕ))) (c : ℕ) (y : Know (List ℕ)) → count_at ks c ≤ length y.list
    → (n : ℕ) → count_at ks n ≤ count_at (slice_set ks c y) n
set_rises [] c y h n = omega arith
set_rises (k ∷ ks) zero y h zero = h
set_rises (k ∷ ks) zero y h (suc n) = omega arith
set_rises (k ∷ ks) (suc c) y h zero = omega arith
set_rises (k ∷ ks) (suc c) y h (suc n) = set_rises ks c y h n

-- what is known of the channel does not become less
Rises : Know (List ℕ) → model.Accepted (List ℕ) → Type 0
Rises a x = length a.list ≤ length x.after.list

rises_either : (a : Know (List ℕ)) (q : Bool) (x y : model.Accepted (List ℕ)) → Rises a x
    → Rises a y → Rises a (if q then x else y)
rises_either a true x y h k = h
rises_either a false x y h k = k

unchanged : (a : Know (List ℕ)) (answer : model.Answer) → Rises a (record {
  answer = answer;
  after = a;
})
unfolding Rises
unchanged a answer = omega arith

one_more : (a : Know (List ℕ)) (m : ℕ × List ℕ) → Rises a (record {
  answer = model.New;
  after = record { list = a.list ++ m ∷ []; clock = m.0 };
})
unfolding Rises
one_more a m = omega (arith, length-append a.list (m ∷ []))

later : (a : Know (List ℕ)) (t : ℕ) → Rises a (record {
  answer = model.Raised;
  after = record a { clock = t };
})
unfolding Rises
later a t = omega arith

data_rises : (o : Option (ℕ × List ℕ)) (a : Know (List ℕ)) (n : ℕ) (m : ℕ × List ℕ)
    → Rises a (model.data_at same_octets o a n m)
data_rises (Some x) a n m = unchanged a _
data_rises None a n m =
    rises_either a _ _ _
    (rises_either a _ _ _ (unchanged a (model.Late a.clock))
    (rises_either a _ _ _ (unchanged a model.NotRising) (one_more a m)))
    (unchanged a (model.Gap (length a.list)))

null_rises : (o : Option (ℕ × List ℕ)) (a : Know (List ℕ)) (n t : ℕ)
    → Rises a (model.null_at o a n t)
null_rises (Some x) a n t = unchanged a _
null_rises None a n t = rises_either a _ _ _
    (rises_either a _ _ _ (later a t) (unchanged a model.Known))
    (unchanged a (model.Gap (length a.list)))

taken_rises : (ks : List (Know (List ℕ))) (m : ChannelMessage)
    → count_at ks (message_channel m) ≤ length (message_taken ks m).after.list
unfolding Rises
taken_rises ks (Data d) =
    data_rises _ (slice_index_or ks d.channel nothing_known) d.number (d.time, d.packet)
taken_rises ks (Null n) = null_rises _ (slice_index_or ks n.channel nothing_known) n.count n.clock

-- what a book may know after a message or null message of channel c
abbrev Learned : List (Know (List ℕ)) → List (Know (List ℕ)) → Type 0
Learned ks js = (length js ≡ length ks) × ((n : ℕ) → count_at ks n ≤ count_at js n)

same_learned : (ks js : List (Know (List ℕ))) → js ≡ ks → Learned ks js
same_learned ks js e = subst (Learned ks) (sym e) (refl, λ n. omega arith)

set_learned : (ks js : List (Know (List ℕ))) (c : ℕ) (y : Know (List ℕ))
    → count_at ks c ≤ length y.list → js ≡ slice_set ks c y → Learned ks js
set_learned ks js c y h e = subst (Learned ks) (sym e) (length_set ks c y, set_rises ks c y h)

learns_learned : (ks js : List (Know (List ℕ))) (c : ℕ) (taken : model.Accepted (List ℕ))
    (r : Result Accepted AcceptFault) → count_at ks c ≤ length taken.after.list
    → Learns ks js c taken r → Learned ks js
learns_learned ks js c taken (Ok a) h l = set_learned ks js c taken.after h l.1
learns_learned ks js c taken (Err e) h l = same_learned ks js l.3

learns_if_learned : (q : Bool) (ks js : List (Know (List ℕ))) (c : ℕ)
    (taken : model.Accepted (List ℕ)) (r : Result Accepted AcceptFault)
    → count_at ks c ≤ length taken.after.list → LearnsIf q ks js c taken r → Learned ks js
learns_if_learned true ks js c taken r h l = learns_learned ks js c taken r h l
learns_if_learned false ks js c taken r h l = same_learned ks js l.1

pub accept_grows : (m : ChannelMessage) (b : BookValue) (r : Result Accepted AcceptFault)
    (c : BookValue) → Takes b c (message_channel m) (message_taken b.knows m) r → Grows b c
accept_grows m b r c h =
    let l = learns_if_learned _ b.knows c.knows (message_channel m) (message_taken b.knows m) r
    (taken_rises b.knows m) h.learns in
    told_grows b c h.same l.0 l.1

run_grows : (n : ℕ) (b c : BookValue) → c ≡ record b {
  events = c.events;
} → c.events ≡ b.events + n → Grows b c
run_grows n b c e more = subst (Grows b) (sym e) (record {
  home = refl;
  channels = refl;
  messages = omega arith;
  events = omega arith;
})

pub runs_grow : (limit : ℕ) (b : BookValue) (r : Ran) (c : BookValue) → Runs b c limit r → Grows b c
runs_grow limit b (All n) c h = run_grows n b c h.same h.run.0
runs_grow limit b (Limit n) c h = run_grows n b c h.same h.run.0
runs_grow limit b (Memory n) c h = run_grows n b c h.same h.run.0

join_rises : (a b : Know (List ℕ)) → length a.list ≤ length (join a b).list
join_rises a b = pick (leb (length a.list) (length b.list)) refl
  where
    pick : (q : Bool) → leb (length a.list) (length b.list) ≡ q
        → length a.list ≤ length (if q then b.list else a.list)
    pick true e = leb-true _ _ e
    pick false e = omega arith

joined_if_rises : (q : Bool) (a b : Know (List ℕ))
    → length a.list ≤ length (if q then join a b else a).list
joined_if_rises true a b = join_rises a b
joined_if_rises false a b = omega arith

none_past : (ks : List (Know (List ℕ))) (n : ℕ) → length ks ≤ n → count_at ks n ≡ 0
none_past [] n le = refl
none_past (k ∷ ks) zero le = absurd (omega arith)
none_past (k ∷ ks) (suc n) le = none_past ks n (omega arith)

joined_learned : (t : TopologyValue) (p : ℕ) (ks os js : List (Know (List ℕ)))
    → AreJoined t p ks os js → Learned ks js
joined_learned t p ks os js h = (
  h.count,
  λ n. ⊎_elim (λ (lt : n < length ks). below n lt)
      (λ (le : length ks ≤ n). let none = none_past ks n le in omega arith)
      (cases_lt n (length ks)),
)
  where
    below : (n : ℕ) → n < length ks → count_at ks n ≤ count_at js n
    below n lt =
        let rises = joined_if_rises (comes_in (net_of t) p (receiving_iface t n))
        (slice_index_or ks n nothing_known) (slice_index_or os n nothing_known) in
        let same : count_at js n
        ≡ length (joined_at t p ks os n).list = ap (λ (k : Know (List ℕ)). length k.list)
        (h.each n lt) in
        omega (arith, rises, same)

merges_learned : (q : Bool) (t : TopologyValue) (p : ℕ) (ks os js : List (Know (List ℕ)))
    (r : Result Unit (Fault MergeRefusal)) → MergesChannels t p ks os q js r → Learned ks js
merges_learned q t p ks os js (Ok u) h = joined_learned t p ks os js h.2
merges_learned q t p ks os js (Err (Unmerged NotMine)) h = same_learned ks js h.1
merges_learned q t p ks os js (Err (Unmerged (Channel c f))) h = same_learned ks js h.2
merges_learned q t p ks os js (Err NoRoom) h = same_learned ks js h.2

pub merge_grows : (o : KnowledgeValue) (b : BookValue) (r : Result Unit (Fault MergeRefusal))
    (c : BookValue) → BookMerges b c o r → Grows b c
merge_grows o b r c h =
    let l = merges_learned _ b.topology b.partition b.knows o.knows c.knows r h.merges in
    told_grows b c h.same l.0 l.1

pub handed_grows : (h : ℕ) (b c : BookValue) → c ≡ record b { handed = h } → Grows b c
handed_grows h b c e = subst (Grows b) (sym e) (record {
  home = refl;
  channels = refl;
  messages = omega arith;
  events = omega arith;
})
