-- Two sessions, from their greeting to their end.
use Rattle.std.proofs.Common.{◌≡◌, ◌≢◌, inl, inr, ℕ, zero, suc, ◌≤◌, Bool, true, false, not, ◌==◌, ◌&&◌, cond, List, [], ◌∷◌, ◌++◌, length, map, Some, None, refl, sym, subst, ap, ap₂, ◌∙◌, arith, true≢false}
use Rattle.std.proofs.lemmas.Bool.{and_parts}
use Rattle.std.specs.List.{AllByRecursion}
use Rattle.nm_model.specs.Certificate.{is_done}
use Rattle.nm_model.specs.Partition.{comes_in, goes_out, receiver_of, sender_of}
use Rattle.nm_model.specs.Promise.{Promising}
use Rattle.nm_model.proofs.ListLemmas.{number_is}
use Rattle.nm_sim.specs.Network.{net_of}
use Rattle.nm_topology.specs.Topology.{receiving_iface}
use Rattle.nm_topology.specs.TopologyValue.{TopologyValue}
use Rattle.nm_book.specs.Book.{BookValue, is_incoming, is_outgoing, replica_of, sent_over}
use Rattle.nm_frames.specs.declared.side.ChannelIn.{ChannelIn}
use Rattle.nm_frames.specs.declared.side.ChannelOut.{ChannelOut}
use Rattle.nm_frames.specs.Channels.{channels_below, channels_between, runs_between}
use Rattle.nm_frames.specs.Owed.{owed, promising_of}
use Rattle.nm_frames.specs.Session.{SessionValue, new_incoming, new_outgoing}
use Rattle.nm_frames.specs.Told.{HasAsked, HasTold, HasToldFrom, IsAllTold}
use Rattle.nm_frames.proofs.Telling.{quiet}
use Rattle.nm_laws.specs.Sessions.{AreNeighbours, HoldsSent, Talks, Turn, First, Second, session_of}
use Rattle.nm_laws.proofs.Sides.{Pair, Pairs, Way, both_go_on}

-- ---- at first

other : (p q : ℕ) → p ≢ q → (q == p) ≡ false
other p q apart = go (q == p) refl
  where
    go : (z : Bool) → (q == p) ≡ z → z ≡ false
    go true e = absurd (apart (sym (number_is q p e)))
    go false e = refl

Runs : TopologyValue → ℕ → ℕ → ℕ → Type 0
Runs t p q c = (goes_out (net_of t) p (receiving_iface t c) ≡ true) × (comes_in (net_of t) q (receiving_iface t c) ≡ true)

runs : (t : TopologyValue) (p q c : ℕ) → p ≢ q → runs_between t p q c ≡ true → Runs t p q c
unfolding Runs
runs t p q c apart h =
    let e = and_parts (sender_of (net_of t) (receiving_iface t c) == p) (receiver_of (net_of t) (receiving_iface t c) == q) h in
    let from : sender_of (net_of t) (receiving_iface t c) ≡ p = number_is _ p e.0 in
    let to : receiver_of (net_of t) (receiving_iface t c) ≡ q = number_is _ q e.1 in
    let no_from : (receiver_of (net_of t) (receiving_iface t c) == p) ≡ false = ap (λ z. z == p) to ∙ other p q apart in
    let no_to : (sender_of (net_of t) (receiving_iface t c) == q) ≡ false = ap (λ z. z == q) from ∙ other q p (λ g. apart (sym g)) in
    (ap₂ (λ x y. x && not y) e.0 no_from, ap₂ (λ x y. x && not y) e.1 no_to)

push : (P : ℕ → Type 0) (cs : List ℕ) (c : ℕ) → AllByRecursion P cs → P c → AllByRecursion P (cs ++ c ∷ [])
push P [] c all is = (is, tt)
push P (d ∷ cs) c all is = (all.0, push P cs c all.1 is)

keep : (P : ℕ → Type 0) (cs : List ℕ) → AllByRecursion P cs → AllByRecursion P (cs ++ [])
keep P [] all = tt
keep P (d ∷ cs) all = (all.0, keep P cs all.1)

all_run : (t : TopologyValue) (p q : ℕ) → p ≢ q → (n : ℕ) → AllByRecursion (Runs t p q) (channels_below t p q n)
all_run t p q apart zero = tt
all_run t p q apart (suc c) = go (runs_between t p q c) refl (all_run t p q apart c)
  where
    go : (z : Bool) → runs_between t p q c ≡ z → AllByRecursion (Runs t p q) (channels_below t p q c) → AllByRecursion (Runs t p q) (channels_below t p q c ++ cond z (c ∷ []) [])
    go true e all = push (Runs t p q) (channels_below t p q c) c all (runs t p q c apart e)
    go false e all = keep (Runs t p q) (channels_below t p q c) all

module _ (a b : BookValue) (same : b.topology ≡ a.topology) (apart : a.partition ≢ b.partition) where
  new_pair : (c : ℕ) → Runs a.topology a.partition b.partition c → Pair a b (new_incoming c) (new_outgoing c)
  unfolding Runs
  new_pair c h = record {
    same = refl;
    goes = h.0;
    comes = subst (λ t. comes_in (net_of t) b.partition (receiving_iface t c) ≡ true) (sym same) h.1;
    known = λ given. absurd (true≢false (sym given));
    within = λ n at. absurd (let e : None ≡ Some n = at in cc);
  }

  new_pairs : (cs : List ℕ) → AllByRecursion (Runs a.topology a.partition b.partition) cs → Pairs a b (map new_incoming cs) (map new_outgoing cs)
  new_pairs [] all = tt
  new_pairs (c ∷ cs) all = (new_pair c all.0, new_pairs cs all.1)

  first_way : Way a b (session_of a b) (session_of b a)
  first_way = record {
    bye = refl;
    pairs = subst (λ t. Pairs a b (map new_incoming (channels_between t a.partition b.partition)) (map new_outgoing (channels_between a.topology a.partition b.partition))) (sym same)
        (new_pairs (channels_between a.topology a.partition b.partition) (all_run a.topology a.partition b.partition apart (length a.topology.receivers)));
    asked = λ given. absurd (true≢false (sym given));
  }

-- ---- meanwhile

go_on : (a b : BookValue) → HoldsSent a b → HoldsSent b a → (turns : List Turn) (s t last end : SessionValue) → Way a b s t → Way b a t s → Talks (a, b) turns (s, t) (last, end)
    → Way a b last end × Way b a end last
go_on a b ab ba [] s t last end w v same =
    let one : last ≡ s = ap (λ (z : SessionValue × SessionValue). z.0) same in
    let two : end ≡ t = ap (λ (z : SessionValue × SessionValue). z.1) same in
    (subst (λ x. Way a b x end) (sym one) (subst (λ y. Way a b s y) (sym two) w), subst (λ x. Way b a end x) (sym one) (subst (λ y. Way b a y s) (sym two) v))
go_on a b ab ba (First ∷ turns) s t last end w v (f, u, gave, took, talk) =
    let next = both_go_on a b ba s t u f gave took w v in go_on a b ab ba turns _ u last end next.0 next.1 talk
go_on a b ab ba (Second ∷ turns) s t last end w v (f, u, gave, took, talk) =
    let next = both_go_on b a ab t s u f gave took v w in go_on a b ab ba turns u _ last end next.1 next.0 talk

-- ---- in the end

told_all : (a b : BookValue) (kind : Promising) (is : List ChannelIn) (os : List ChannelOut) → Pairs a b is os → AllByRecursion (HasAsked b) is → AllByRecursion (HasTold a kind) os
    → AllByRecursion (IsAllTold a kind) os
told_all a b kind [] [] p asked told = tt
told_all a b kind [] (o ∷ os) p asked told = absurd p
told_all a b kind (i ∷ is) [] p asked told = absurd p
told_all a b kind (i ∷ is) (o ∷ os) p asked told = (one p.0 asked.0 told.0, told_all a b kind is os p.1 asked.1 told.1)
  where
    at_end : (n : ℕ) → o.cursor ≡ Some n → is_outgoing a o.channel ≡ true → n ≤ length (sent_over a o.channel) → HasToldFrom a kind o n → IsAllTold a kind o
    at_end n at goes most (inl past) = absurd (omega (arith, most, past))
    at_end n at goes most (inr h) = record { goes_out = goes; all = at ∙ ap Some h.0; promise = h.1 }

    one : Pair a b i o → HasAsked b i → HasTold a kind o → IsAllTold a kind o
    one q ask tell =
        let known = q.known (ask (subst (λ c. is_incoming b c ≡ true) (sym q.same) q.comes)) in
        at_end known.0 known.1 q.goes (q.within known.0 known.1) (tell q.goes known.0 known.1)

has_asked : (a b : BookValue) (s t : SessionValue) → Way b a t s → owed t b ≡ None → AllByRecursion (HasAsked b) t.incoming
has_asked a b s t v silent = go t.bye_given refl
  where
    go : (z : Bool) → t.bye_given ≡ z → AllByRecursion (HasAsked b) t.incoming
    go true e = v.asked e
    go false e = (quiet t b silent e).asked

has_left : (a b : BookValue) (s t : SessionValue) → Way a b s t → Way b a t s → is_done (net_of a.topology) a.partition (replica_of a) ≡ true → owed s a ≡ None → owed t b ≡ None → s.bye_given ≡ true
has_left a b s t w v done silent other_silent = go s.bye_given refl
  where
    go : (z : Bool) → s.bye_given ≡ z → s.bye_given ≡ true
    go true e = e
    go false e =
        let said = quiet s a silent e in
        absurd (said.goes_on done (told_all a b (promising_of s) t.incoming s.outgoing w.pairs (has_asked a b s t v other_silent) said.told))

pub parted : (a b : BookValue) → AreNeighbours a b → HoldsSent a b → HoldsSent b a → (turns : List Turn) (s t : SessionValue) → Talks (a, b) turns (session_of a b, session_of b a) (s, t)
    → owed s a ≡ None → owed t b ≡ None → (s.bye_taken ≡ true) × (t.bye_taken ≡ true)
parted a b near ab ba turns s t talk silent other_silent =
    let begun = first_way a b near.topology near.apart in
    let begun_back = first_way b a (sym near.topology) (λ e. near.apart (sym e)) in
    let last = go_on a b ab ba turns (session_of a b) (session_of b a) s t begun begun_back talk in
    let one = has_left a b s t last.0 last.1 near.first_done silent other_silent in
    let two = has_left b a t s last.1 last.0 near.second_done other_silent silent in
    (last.1.bye ∙ two, last.0.bye ∙ one)
