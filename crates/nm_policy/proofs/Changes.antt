-- What an event changes, for those that act by it.
use Rattle.std.proofs.Common.{◌≡◌, ◌≢◌, ◌⊎◌, ℕ, ◌&&◌, Bool, true, false, not, List, length, set, Option, Some, None, refl, sym, ◌∙◌, ap, ⊎_elim}
use Rattle.std.specs.Prelude.{◌==◌, nat_lt, slice_index_or, is_some}
use Rattle.std.proofs.lemmas.Bool.{cases_lt}
use Rattle.std.proofs.lemmas.Grind.{get_or-set_at}
use Rattle.std.proofs.lemmas.List.{get_or-set_other, get_or_past, length-set, set-get_or, set_past}
use Rattle.nm_policy.specs.Contact.{has_settled}
use Rattle.nm_policy.specs.Contacts.{ContactsValue, after, breaks_of, broke_at, contact_at, with_peer, without_contact}
use Rattle.nm_policy.specs.Decisions.{is_due_at}
use Rattle.nm_policy.specs.Ends.{rest_of}
use Rattle.nm_policy.specs.Peers.{called, is_due, link_broke, new_peer, not_called}
use Rattle.nm_policy.specs.declared.contact.Contact.{Contact}
use Rattle.nm_policy.specs.declared.ends.Ends.{Ends}
use Rattle.nm_policy.specs.declared.ends.Ends.TheVariants.{Open, Once, Sure}
use Rattle.nm_policy.specs.declared.contact_event.ContactEvent.TheVariants.{Broke, Called, NotCalled}
use Rattle.nm_policy.specs.declared.peer.Peer.{Peer}
use Rattle.nm_policy.proofs.Events.{if_case, is_low, other_peer}

and_none : (b : Bool) → (b && false) ≡ false
and_none true = refl
and_none false = refl

length_with : (p : ℕ) (f : Peer → Peer) (ps : List Peer) → length (with_peer p f ps) ≡ length ps
length_with p f ps =
    if_case (nat_lt p (length ps)) (λ z. length z ≡ length ps) (set ps p (f (slice_index_or ps p new_peer))) ps (λ _. length-set ps p _) (λ _. refl)

wanted_other : (p : ℕ) (f : Peer → Peer) (ps : List Peer) (q : ℕ) → q ≢ p → is_due_at (with_peer p f ps) q ≡ is_due_at ps q
wanted_other p f ps q ne =
    ap (λ n. nat_lt q n && is_due (slice_index_or (with_peer p f ps) q new_peer)) (length_with p f ps)
    ∙ ap (λ x. nat_lt q (length ps) && is_due x) (other_peer p f ps q ne)

wanted_same : (p : ℕ) (f : Peer → Peer) (ps : List Peer) → ((x : Peer) → is_due (f x) ≡ false) → is_due_at (with_peer p f ps) p ≡ false
wanted_same p f ps none =
    if_case (nat_lt p (length ps)) (λ z. is_due_at z p ≡ false) (set ps p v) ps
    (λ is. ap (λ x. nat_lt p (length (set ps p v)) && is_due x) (get_or-set_at ps p p v new_peer refl (is_low p (length ps) is))
    ∙ ap (λ b. nat_lt p (length (set ps p v)) && b) (none (slice_index_or ps p new_peer)) ∙ and_none (nat_lt p (length (set ps p v))))
    (λ no. ap (λ b. b && is_due (slice_index_or ps p new_peer)) no)
  where
    v : Peer
    v = f (slice_index_or ps p new_peer)

rests : (ends : Ends) → (rest_of ends false == 0) ≡ false
rests Open = refl
rests Once = refl
rests Sure = refl

rests_then : (x : Peer) → is_due (not_called x) ≡ false
rests_then x = ap (λ b. not x.is_called && b) (rests x.ends) ∙ and_none (not x.is_called)

-- A peer was called or not: it is to be called no more, and all others are as they were.
module _ (key peer : ℕ) (old new : ContactsValue) (did : (new ≡ after old (NotCalled peer)) ⊎ (new ≡ after old (Called key peer))) where
  pub no_more : is_due_at new.peers peer ≡ false
  no_more =
      ⊎_elim (λ is. ap (λ s. is_due_at s.peers peer) is ∙ wanted_same peer not_called old.peers rests_then)
      (λ is. ap (λ s. is_due_at s.peers peer) is ∙ wanted_same peer called old.peers (λ x. refl)) did

  pub others : (q : ℕ) → q ≢ peer → is_due_at new.peers q ≡ is_due_at old.peers q
  others q ne =
      ⊎_elim (λ is. ap (λ s. is_due_at s.peers q) is ∙ wanted_other peer not_called old.peers q ne)
      (λ is. ap (λ s. is_due_at s.peers q) is ∙ wanted_other peer called old.peers q ne) did

  pub as_many : length new.peers ≡ length old.peers
  as_many =
      ⊎_elim (λ is. ap (λ s. length s.peers) is ∙ length_with peer not_called old.peers) (λ is. ap (λ s. length s.peers) is ∙ length_with peer called old.peers)
      did

-- a connection that breaks is there no more
broke_connections : (s : ContactsValue) (key : ℕ) (was_there : Bool) → (after s (Broke key was_there)).connections ≡ set s.connections key None
broke_connections s key was_there = of (contact_at s.connections key) refl
  where
    broke : (peer : Option ℕ) (change : Peer → Peer) → (breaks_of change peer (without_contact key s)).connections ≡ set s.connections key None
    broke (Some p) change = refl
    broke None change = refl

    of : (o : Option Contact) → contact_at s.connections key ≡ o → (broke_at key was_there o s).connections ≡ set s.connections key None
    of None at = sym (set-get_or s.connections key None) ∙ ap (λ z. set s.connections key z) at
    of (Some c) at = broke c.peer (link_broke (is_some c.name) (has_settled c) was_there)

module _ (s t : ContactsValue) (key : ℕ) (was_there : Bool) (is : t ≡ after s (Broke key was_there)) where
  now : t.connections ≡ set s.connections key None
  now = ap (λ z. z.connections) is ∙ broke_connections s key was_there

  pub gone : contact_at t.connections key ≡ None
  gone =
      ⊎_elim (λ low. ap (λ z. contact_at z key) now ∙ get_or-set_at s.connections key key None None refl low)
      (λ past. ap (λ z. contact_at z key) now ∙ ap (λ z. contact_at z key) (set_past s.connections key None past) ∙ get_or_past s.connections key None past)
      (cases_lt key (length s.connections))

  pub kept : (k : ℕ) → k ≢ key → contact_at t.connections k ≡ contact_at s.connections k
  kept k ne = ap (λ z. contact_at z k) now ∙ get_or-set_other s.connections key k None None ne

  pub as_long : length t.connections ≡ length s.connections
  as_long = ap length now ∙ length-set s.connections key None
