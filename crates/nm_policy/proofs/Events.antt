-- What holds whatever events come.
use Rattle.std.proofs.Common.{◌≡◌, ◌≢◌, ◌⊎◌, ℕ, ◌<◌, Bool, true, false, not, ◌&&◌, List, [], ◌∷◌, length, map, replicate, set, Option, Some, None, refl, sym, ◌∙◌, ap, subst, arith, ⊎_elim, inl, inr}
use Rattle.std.specs.Prelude.{◌==◌, nat_lt, option_map, slice_index_or, is_some, if◌then◌else◌}
use Rattle.std.proofs.lemmas.Bool.{and_parts, cases_lt, true≢false}
use Rattle.std.proofs.lemmas.Bool.Decides.{nat_tests}
use Rattle.std.proofs.Math.ListN.{get_or-map}
use Rattle.std.proofs.lemmas.Grind.{get_or-set_at}
use Rattle.std.proofs.lemmas.List.{get_or-replicate, get_or-set_other, get_or_past, length-replicate, set-get_or, set_past}
use Rattle.nm_frames.specs.declared.replica_name.ReplicaName.{ReplicaName}
use Rattle.nm_policy.specs.Contact.{accepted_contact, called_contact, has_settled, heard, polled, replaced_by}
use Rattle.nm_policy.specs.Contacts.{ContactsValue, after, breaks_of, broke_at, contact_at, ended_at, ends_of, greeted_at, greets, peer_of, room_for, waits_at, with_peer, without_contact}
use Rattle.nm_policy.specs.Decisions.{is_due_at}
use Rattle.nm_policy.specs.Laws.{LeadsTo, MayAllCome, MayCome, after_all, at_first}
use Rattle.nm_policy.specs.Peers.{called, is_due, link_broke, link_ended, new_peer, not_called, rested}
use Rattle.nm_policy.specs.declared.contact.Contact.{Contact}
use Rattle.nm_policy.specs.declared.contact_event.ContactEvent.{ContactEvent}
use Rattle.nm_policy.specs.declared.contact_event.ContactEvent.TheVariants.{Polled, Called, NotCalled, Accepted, Heard, Greeted, Ended, Broke}
use Rattle.nm_policy.specs.declared.peer.Peer.{Peer}

abbrev Slots : Type 0
Slots = List (Option Contact)

-- a peer is called, as far as is known
abbrev pub is_called_at : List Peer → ℕ → Bool
is_called_at peers peer = (slice_index_or peers peer new_peer).is_called

-- connections lead to peers that are called, and no two to one
pub record IsSound (s : ContactsValue) : Type 0 where
  pub called : (key peer : ℕ) → LeadsTo s key peer → is_called_at s.peers peer ≡ true
  pub one : (one other peer : ℕ) → LeadsTo s one peer → LeadsTo s other peer → one ≡ other

pub same_or : (a b : ℕ) → (a ≡ b) ⊎ (a ≢ b)
same_or a b =
    ⊎_elim (λ low. inr (λ e. absurd (omega (arith, low, e))))
    (λ high. ⊎_elim (λ low. inr (λ e. absurd (omega (arith, low, e)))) (λ high'. inl (omega (arith, high, high'))) (cases_lt b a)) (cases_lt a b)

pub if_case : {X : Type 0} (b : Bool) (P : X → Type 0) (x y : X) → (b ≡ true → P x) → (b ≡ false → P y) → P (if b then x else y)
if_case true P x y f g = f refl
if_case false P x y f g = g refl

none_leads : {X : Type 0} (o : Option ℕ) (q : ℕ) → o ≡ None → o ≡ Some q → X
none_leads o q is leads = absurd (let e : None ≡ Some q = sym is ∙ leads in cc)

-- slots

blank_at : (n i : ℕ) → contact_at (replicate n None) i ≡ None
blank_at n i =
    ⊎_elim (λ low. get_or-replicate n i None None low)
    (λ past. get_or_past (replicate n None) i None (let e = length-replicate {A = Option Contact} n None in omega (arith, past, e))) (cases_lt i n)

-- a slot is changed, and leads to whom it led
set_same_peer : (cs : Slots) (key : ℕ) (c c' : Contact) → contact_at cs key ≡ Some c → c'.peer ≡ c.peer → (k : ℕ)
    → peer_of (contact_at (set cs key (Some c')) k) ≡ peer_of (contact_at cs k)
set_same_peer cs key c c' at same k =
    ⊎_elim
    (λ e. ⊎_elim
    (λ low. ap peer_of (get_or-set_at cs key k (Some c') None e low) ∙ same ∙ sym (ap peer_of at) ∙ ap (λ z. peer_of (contact_at cs z)) (sym e))
    (λ past. ap (λ z. peer_of (contact_at z k)) (set_past cs key (Some c') past)) (cases_lt key (length cs)))
    (λ ne. ap peer_of (get_or-set_other cs key k (Some c') None ne)) (same_or k key)

-- to whom a slot leads that is filled
set_leads : (cs : Slots) (key : ℕ) (c : Contact) (q : ℕ) → peer_of (contact_at (set cs key (Some c)) key) ≡ Some q → c.peer ≡ Some q
set_leads cs key c q leads =
    ⊎_elim (λ low. sym (ap peer_of (get_or-set_at cs key key (Some c) None refl low)) ∙ leads)
    (λ past. none_leads (peer_of (contact_at (set cs key (Some c)) key)) q
    (ap (λ z. peer_of (contact_at z key)) (set_past cs key (Some c) past) ∙ ap peer_of (get_or_past cs key None past)) leads) (cases_lt key (length cs))

-- a slot is emptied
drop_leads : (cs : Slots) (key k q : ℕ) → peer_of (contact_at (set cs key None) k) ≡ Some q → (k ≢ key) × (peer_of (contact_at cs k) ≡ Some q)
drop_leads cs key k q leads =
    ⊎_elim
    (λ e. none_leads (peer_of (contact_at (set cs key None) k)) q
    (⊎_elim (λ low. ap peer_of (get_or-set_at cs key k None None e low))
    (λ past. ap (λ z. peer_of (contact_at z k)) (set_past cs key None past)
    ∙ ap peer_of (get_or_past cs k None (omega (arith, past, e)))) (cases_lt key (length cs))) leads)
    (λ ne. (ne, sym (ap peer_of (get_or-set_other cs key k None None ne)) ∙ leads)) (same_or k key)

-- each slot is changed, and leads to whom it led
map_same_peer : (f : Contact → Contact) → ((c : Contact) → (f c).peer ≡ c.peer) → (cs : Slots) (k : ℕ)
    → peer_of (contact_at (map (option_map f) cs) k) ≡ peer_of (contact_at cs k)
map_same_peer f same cs k = ap peer_of (get_or-map (option_map f) cs k None) ∙ of (contact_at cs k)
  where
    of : (o : Option Contact) → peer_of (option_map f o) ≡ peer_of o
    of None = refl
    of (Some c) = same c

polled_peer : (ran_out : Bool) (c : Contact) → (polled ran_out c).peer ≡ c.peer
polled_peer ran_out c = refl

replaced_peer : (name : ReplicaName) (c : Contact) → (replaced_by name c).peer ≡ c.peer
replaced_peer name c = refl

-- peers

pub other_peer : (p : ℕ) (f : Peer → Peer) (ps : List Peer) (q : ℕ) → q ≢ p → slice_index_or (with_peer p f ps) q new_peer ≡ slice_index_or ps q new_peer
other_peer p f ps q ne =
    if_case (nat_lt p (length ps)) (λ z. slice_index_or z q new_peer ≡ slice_index_or ps q new_peer) (set ps p (f (slice_index_or ps p new_peer))) ps
    (λ _. get_or-set_other ps p q (f (slice_index_or ps p new_peer)) new_peer ne) (λ _. refl)

pub is_low : (p n : ℕ) → nat_lt p n ≡ true → p < n
is_low p n is = grind (arith, nat_tests)

same_peer : (p : ℕ) (f : Peer → Peer) (ps : List Peer) → nat_lt p (length ps) ≡ true → slice_index_or (with_peer p f ps) p new_peer ≡ f (slice_index_or ps p new_peer)
same_peer p f ps low =
    if_case (nat_lt p (length ps)) (λ z. slice_index_or z p new_peer ≡ f (slice_index_or ps p new_peer)) (set ps p (f (slice_index_or ps p new_peer))) ps
    (λ is. get_or-set_at ps p p (f (slice_index_or ps p new_peer)) new_peer refl (is_low p (length ps) is)) (λ no. absurd (true≢false (sym low ∙ no)))

rested_new : (ran_out : Bool) → rested ran_out new_peer ≡ new_peer
rested_new true = refl
rested_new false = refl

rested_called : (ran_out : Bool) (ps : List Peer) (q : ℕ) → is_called_at (map (rested ran_out) ps) q ≡ is_called_at ps q
rested_called ran_out ps q =
    ap (λ d. (slice_index_or (map (rested ran_out) ps) q d).is_called) (sym (rested_new ran_out)) ∙ ap (λ x. x.is_called) (get_or-map (rested ran_out) ps q new_peer)

not_called_called : (p : ℕ) (ps : List Peer) (q : ℕ) → is_called_at (with_peer p not_called ps) q ≡ is_called_at ps q
not_called_called p ps q =
    if_case (nat_lt p (length ps)) (λ z. is_called_at z q ≡ is_called_at ps q) (set ps p (not_called (slice_index_or ps p new_peer))) ps
    (λ is. ⊎_elim
    (λ e. ap (λ x. x.is_called) (get_or-set_at ps p q (not_called (slice_index_or ps p new_peer)) new_peer e (is_low p (length ps) is))
    ∙ ap (λ z. is_called_at ps z) (sym e))
    (λ ne. ap (λ x. x.is_called) (get_or-set_other ps p q (not_called (slice_index_or ps p new_peer)) new_peer ne)) (same_or q p)) (λ _. refl)

-- what keeps a state sound

keeps : (s t : ContactsValue) → ((k : ℕ) → peer_of (contact_at t.connections k) ≡ peer_of (contact_at s.connections k))
    → ((q : ℕ) → is_called_at t.peers q ≡ is_called_at s.peers q) → IsSound s → IsSound t
keeps s t leads called sound = record {
  called = λ k q at. called q ∙ sound.called k q (sym (leads k) ∙ at);
  one = λ k k' q at at'. sound.one k k' q (sym (leads k) ∙ at) (sym (leads k') ∙ at');
}

fewer : (s t : ContactsValue) (key : ℕ) → t.connections ≡ set s.connections key None
    → ((k q : ℕ) → k ≢ key → LeadsTo s k q → is_called_at t.peers q ≡ true) → IsSound s → IsSound t
fewer s t key is called sound = record {
  called = λ k q at. let old = drop_leads s.connections key k q (sym (ap (λ z. peer_of (contact_at z k)) is) ∙ at) in called k q old.0 old.1;
  one = λ k k' q at at'.
      let old = drop_leads s.connections key k q (sym (ap (λ z. peer_of (contact_at z k)) is) ∙ at) in
      let old' = drop_leads s.connections key k' q (sym (ap (λ z. peer_of (contact_at z k')) is) ∙ at') in sound.one k k' q old.1 old'.1;
}

-- a peer whose connection goes is called by no other
still_called : (s : ContactsValue) (key p : ℕ) (f : Peer → Peer) → IsSound s → LeadsTo s key p → (k q : ℕ) → k ≢ key → LeadsTo s k q
    → is_called_at (with_peer p f s.peers) q ≡ true
still_called s key p f sound at k q ne leads =
    let other : q ≢ p = λ e. ne (sound.one k key p (leads ∙ ap (λ z. Some z) e) at) in
    ap (λ x. x.is_called) (other_peer p f s.peers q other) ∙ sound.called k q leads

sound_called : (s : ContactsValue) (key p : ℕ) → MayCome s (Called key p) → IsSound s → IsSound (after s (Called key p))
sound_called s key p may sound = record {
  called = λ k q at. ⊎_elim (λ e. now_called q (sym (set_leads s.connections key c q (subst (λ z. peer_of (contact_at (set s.connections key (Some c)) z) ≡ Some q) e at))))
      (λ ne. before k q (old k q ne at)) (same_or k key);
  one = λ k k' q at at'.
      ⊎_elim
      (λ e. ⊎_elim (λ e'. e ∙ sym e') (λ ne'. absurd (true≢false (not_both k' q (old k' q ne' at') (set_leads s.connections key c q (subst (λ z. peer_of (contact_at (set s.connections key (Some c)) z) ≡ Some q) e at)))))
      (same_or k' key))
      (λ ne. ⊎_elim
      (λ e'. absurd (true≢false (not_both k q (old k q ne at) (set_leads s.connections key c q (subst (λ z. peer_of (contact_at (set s.connections key (Some c)) z) ≡ Some q) e' at')))))
      (λ ne'. sound.one k k' q (old k q ne at) (old k' q ne' at')) (same_or k' key)) (same_or k key);
}
  where
    c : Contact
    c = called_contact p (waits_at p s.peers)

    low : nat_lt p (length s.peers) ≡ true
    low = (and_parts (nat_lt p (length s.peers)) (is_due (slice_index_or s.peers p new_peer)) may.1).0

    old : (k q : ℕ) → k ≢ key → peer_of (contact_at (set s.connections key (Some c)) k) ≡ Some q → LeadsTo s k q
    old k q ne at = sym (ap peer_of (get_or-set_other s.connections key k (Some c) None ne)) ∙ at

    now_called : (q : ℕ) → Some q ≡ Some p → is_called_at (with_peer p called s.peers) q ≡ true
    now_called q e = let is : q ≡ p = cc in ap (λ z. is_called_at (with_peer p called s.peers) z) is ∙ ap (λ x. x.is_called) (same_peer p called s.peers low)

    before : (k q : ℕ) → LeadsTo s k q → is_called_at (with_peer p called s.peers) q ≡ true
    before k q at =
        ⊎_elim (λ e. now_called q (ap (λ z. Some z) e)) (λ ne. ap (λ x. x.is_called) (other_peer p called s.peers q ne) ∙ sound.called k q at) (same_or q p)

    not_both : (k q : ℕ) → LeadsTo s k q → Some p ≡ Some q → true ≡ false
    not_both k q at e =
        let is : q ≡ p = cc in
        let wanted = (and_parts (nat_lt p (length s.peers)) (is_due (slice_index_or s.peers p new_peer)) may.1).1 in
        let free = (and_parts (not (is_called_at s.peers p)) _ wanted).0 in
        let busy : is_called_at s.peers p ≡ true = ap (λ z. is_called_at s.peers z) (sym is) ∙ sound.called k q at in
        sym free ∙ ap not busy

sound_accepted : (s : ContactsValue) (key : ℕ) → IsSound s → IsSound (after s (Accepted key))
sound_accepted s key sound = record {
  called = λ k q at. sound.called k q (old k q at);
  one = λ k k' q at at'. sound.one k k' q (old k q at) (old k' q at');
}
  where
    c : Contact
    c = accepted_contact (after s (Accepted key)).accepted

    old : (k q : ℕ) → peer_of (contact_at (set s.connections key (Some c)) k) ≡ Some q → LeadsTo s k q
    old k q at =
        ⊎_elim (λ e. absurd (let is : None ≡ Some q = set_leads s.connections key c q (subst (λ z. peer_of (contact_at (set s.connections key (Some c)) z) ≡ Some q) e at) in cc))
        (λ ne. sym (ap peer_of (get_or-set_other s.connections key k (Some c) None ne)) ∙ at) (same_or k key)

sound_greeted : (s : ContactsValue) (key : ℕ) (name : ReplicaName) → IsSound s → IsSound (after s (Greeted key name))
sound_greeted s key name sound = of (contact_at s.connections key) refl
  where
    cs : Slots
    cs = s.connections

    cs' : Slots
    cs' = map (option_map (replaced_by name)) cs

    greeted : (c : Contact) → contact_at cs key ≡ Some c → IsSound (greets key name c s)
    greeted c at =
        if_case (is_some c.name) IsSound s _ (λ _. sound)
        (λ _. if_case (is_some c.peer) IsSound _ _
        (λ _. keeps s _ (λ k. set_same_peer cs key c _ at refl k) (λ q. refl) sound)
        (λ _. keeps s _
        (λ k. set_same_peer cs' key (replaced_by name c) _ (get_or-map (option_map (replaced_by name)) cs key None ∙ ap (option_map (replaced_by name)) at)
        (sym (replaced_peer name c)) k ∙ map_same_peer (replaced_by name) (replaced_peer name) cs k) (λ q. refl) sound))

    of : (o : Option Contact) → contact_at cs key ≡ o → IsSound (greeted_at key name o s)
    of None at = sound
    of (Some c) at = greeted c at

sound_heard : (s : ContactsValue) (key : ℕ) → IsSound s → IsSound (after s (Heard key))
sound_heard s key sound = keeps s _ (λ k. same (contact_at s.connections key) refl k) (λ q. refl) sound
  where
    same : (o : Option Contact) → contact_at s.connections key ≡ o → (k : ℕ)
        → peer_of (contact_at (set s.connections key (option_map heard o)) k) ≡ peer_of (contact_at s.connections k)
    same (Some c) at k = set_same_peer s.connections key c (heard c) at refl k
    same None at k = ap (λ z. peer_of (contact_at z k)) (ap (λ z. set s.connections key z) (sym at) ∙ set-get_or s.connections key None)

sound_ended : (s : ContactsValue) (key : ℕ) → IsSound s → IsSound (after s (Ended key))
sound_ended s key sound = of (contact_at s.connections key) refl
  where
    ended : (peer : Option ℕ) (name : Option ReplicaName) → peer_of (contact_at s.connections key) ≡ peer → IsSound (ends_of peer name (without_contact key s))
    ended (Some p) name at = fewer s _ key refl (still_called s key p link_ended sound at) sound
    ended None (Some name) at = fewer s _ key refl (λ k q ne leads. sound.called k q leads) sound
    ended None None at = fewer s _ key refl (λ k q ne leads. sound.called k q leads) sound

    of : (o : Option Contact) → contact_at s.connections key ≡ o → IsSound (ended_at key o s)
    of None at = sound
    of (Some c) at = ended c.peer c.name (ap peer_of at)

sound_broke : (s : ContactsValue) (key : ℕ) (was_there : Bool) → IsSound s → IsSound (after s (Broke key was_there))
sound_broke s key was_there sound = of (contact_at s.connections key) refl
  where
    broke : (peer : Option ℕ) (change : Peer → Peer) → peer_of (contact_at s.connections key) ≡ peer → IsSound (breaks_of change peer (without_contact key s))
    broke (Some p) change at = fewer s _ key refl (still_called s key p change sound at) sound
    broke None change at = fewer s _ key refl (λ k q ne leads. sound.called k q leads) sound

    of : (o : Option Contact) → contact_at s.connections key ≡ o → IsSound (broke_at key was_there o s)
    of None at = sound
    of (Some c) at = broke c.peer (link_broke (is_some c.name) (has_settled c) was_there) (ap peer_of at)

sound_after : (s : ContactsValue) (e : ContactEvent) → MayCome s e → IsSound s → IsSound (after s e)
sound_after s (Polled ran_out) may sound =
    keeps s _ (λ k. map_same_peer (polled ran_out) (polled_peer ran_out) s.connections k) (λ q. rested_called ran_out s.peers q) sound
sound_after s (Called key p) may sound = sound_called s key p may sound
sound_after s (NotCalled p) may sound = keeps s _ (λ k. refl) (λ q. not_called_called p s.peers q) sound
sound_after s (Accepted key) may sound = sound_accepted s key sound
sound_after s (Heard key) may sound = sound_heard s key sound
sound_after s (Greeted key name) may sound = sound_greeted s key name sound
sound_after s (Ended key) may sound = sound_ended s key sound
sound_after s (Broke key was_there) may sound = sound_broke s key was_there sound

sound_after_all : (s : ContactsValue) (es : List ContactEvent) → MayAllCome s es → IsSound s → IsSound (after_all s es)
sound_after_all s [] may sound = sound
sound_after_all s (e ∷ es) may sound = sound_after_all (after s e) es may.1 (sound_after s e may.0 sound)

sound_first : (peers : ℕ) (callers : List ReplicaName) → IsSound (at_first peers callers)
sound_first peers callers =
    let n = room_for peers (length callers) in
    record {
      called = λ k q at. none_leads (peer_of (contact_at (replicate n None) k)) q (ap peer_of (blank_at n k)) at;
      one = λ k k' q at at'. none_leads (peer_of (contact_at (replicate n None) k)) q (ap peer_of (blank_at n k)) at;
    }

pub after_all_sound : (peers : ℕ) (callers : List ReplicaName) (es : List ContactEvent) → MayAllCome (at_first peers callers) es → IsSound (after_all (at_first peers callers) es)
after_all_sound peers callers es may = sound_after_all (at_first peers callers) es may (sound_first peers callers)

pub not_wanted : (ps : List Peer) (p : ℕ) → is_called_at ps p ≡ true → is_due_at ps p ≡ false
not_wanted ps p is = ap (λ (c : Bool). nat_lt p (length ps) && (not c && ((slice_index_or ps p new_peer).rest == 0))) is ∙ none (nat_lt p (length ps))
  where
    none : (b : Bool) → (b && false) ≡ false
    none true = refl
    none false = refl

module _ (s : ContactsValue) (key peer other : ℕ) (leads : LeadsTo s key peer) (ne : other ≢ peer) where
  of_other : (p : ℕ) (f : Peer → Peer) → Some p ≡ Some peer → slice_index_or (with_peer p f s.peers) other new_peer ≡ slice_index_or s.peers other new_peer
  of_other p f e = other_peer p f s.peers other (λ is. let same : p ≡ peer = cc in ne (is ∙ same))

  pub told_ended : slice_index_or (after s (Ended key)).peers other new_peer ≡ slice_index_or s.peers other new_peer
  told_ended = of (contact_at s.connections key) leads
    where
      ended : (p : Option ℕ) (name : Option ReplicaName) → p ≡ Some peer → slice_index_or (ends_of p name (without_contact key s)).peers other new_peer ≡ slice_index_or s.peers other new_peer
      ended (Some p) name e = of_other p link_ended e
      ended None name e = none_leads None peer refl e

      of : (o : Option Contact) → peer_of o ≡ Some peer → slice_index_or (ended_at key o s).peers other new_peer ≡ slice_index_or s.peers other new_peer
      of None e = none_leads None peer refl e
      of (Some c) e = ended c.peer c.name e

  pub told_broke : (was_there : Bool) → slice_index_or (after s (Broke key was_there)).peers other new_peer ≡ slice_index_or s.peers other new_peer
  told_broke was_there = of (contact_at s.connections key) leads
    where
      broke : (p : Option ℕ) (change : Peer → Peer) → p ≡ Some peer → slice_index_or (breaks_of change p (without_contact key s)).peers other new_peer ≡ slice_index_or s.peers other new_peer
      broke (Some p) change e = of_other p change e
      broke None change e = none_leads None peer refl e

      of : (o : Option Contact) → peer_of o ≡ Some peer → slice_index_or (broke_at key was_there o s).peers other new_peer ≡ slice_index_or s.peers other new_peer
      of None e = none_leads None peer refl e
      of (Some c) e = broke c.peer (link_broke (is_some c.name) (has_settled c) was_there) e
