-- Peers that are called one after another, and connections that are let go so.
use Rattle.std.proofs.Common.{add-one, ◌≡◌, ◌≢◌, ℕ, suc, ◌+◌, ◌<◌, ◌≤◌, ◌&&◌, Bool, true, false, length, List, Option, None, refl, sym, subst, ◌∙◌, ap, arith, below_more, if◌then◌else◌, ⊎_elim, inl, inr}
use Rattle.std.specs.Prelude.{nat_lt, slice_index_or}
use Rattle.std.proofs.lemmas.Bool.{cases_lt}
use Rattle.std.proofs.lemmas.Bool.Decides.{nat_tests}
use Rattle.std.proofs.lemmas.List.{get_or_past}
use Rattle.slab.specs.Slab.{Slab, Updates, get}
use Rattle.nm_frames.specs.Session.{SessionValue}
use Rattle.nm_policy.specs.Contact.{is_stale}
use Rattle.nm_policy.specs.Contacts.{ContactsValue, contact_at, is_slot}
use Rattle.nm_policy.specs.Decisions.{is_due_at}
use Rattle.nm_policy.specs.Peers.{is_due, new_peer}
use Rattle.nm_policy.proofs.Changes.{as_long, as_many, gone, kept, no_more, others}
use Rattle.nm_replica.specs.Connections.{Admits, AsksFor, CallsSome, Dials, Keeps, LetGoStale, LetsGo, MakesRoom}
use Rattle.nm_replica.specs.declared.connection.Connection.{Connection}

-- nobody below this number is to be called
abbrev pub NoneWanted : ContactsValue → ℕ → Type 0
NoneWanted s n = (peer : ℕ) → peer < n → is_due_at s.peers peer ≡ false

pub one_over : (s : ContactsValue) (n : ℕ) → is_due_at s.peers n ≡ false → NoneWanted s n → NoneWanted s (n + 1)
one_over s n free before peer low = below_more (λ p. is_due_at s.peers p ≡ false) n before free peer low

module _ {W : Type 0} (leads_to : W → Option ℕ) (sessions : List (Option SessionValue) × List (Option SessionValue)) (n : ℕ) (old new : ContactsValue) (slab : Slab (Connection W))
    (did : Dials leads_to sessions n old new slab) where
  pub one_dialed : NoneWanted old n → NoneWanted new (n + 1)
  one_dialed before peer low =
      below_more (λ p. is_due_at new.peers p ≡ false) n
      (λ p l. let ne : p ≢ n = λ e. absurd (omega (arith, l, e)) in
      ⊎_elim (λ is. others 0 n old new (inl is.0) p ne ∙ before p l) (λ d. others d.0 n old new (inr d.2) p ne ∙ before p l) did)
      (⊎_elim (λ is. no_more 0 n old new (inl is.0)) (λ d. no_more d.0 n old new (inr d.2)) did) peer low

  pub dialed_as_many : length new.peers ≡ length old.peers
  dialed_as_many = ⊎_elim (λ is. as_many 0 n old new (inl is.0)) (λ d. as_many d.0 n old new (inr d.2)) did

  -- one more was called
  pub one_more_called : (first : ContactsValue) → is_due_at old.peers n ≡ true → (k : ℕ) × CallsSome k first old → (k : ℕ) × CallsSome k first new
  one_more_called first due so_far = (suc so_far.0, (old, so_far.1, (n, due, ⊎_elim (λ is. inl is.0) (λ d. inr (d.0, d.1, d.2)) did)))

-- nobody is to be called, where that is so below their number
pub none_wanted : (s : ContactsValue) (n : ℕ) → length s.peers ≤ n → NoneWanted s n → (peer : ℕ) → is_due_at s.peers peer ≡ false
none_wanted s n over below peer = by_test (nat_lt peer (length s.peers)) refl
  where
    by_test : (b : Bool) → nat_lt peer (length s.peers) ≡ b → is_due_at s.peers peer ≡ false
    by_test true is = let low : peer < length s.peers = grind (arith, nat_tests) in below peer (omega (arith, low, over))
    by_test false past = ap (λ b. b && is_due (slice_index_or s.peers peer new_peer)) past

-- no connection with a key below this has waited too long
abbrev pub NoneStale : ContactsValue → ℕ → Type 0
NoneStale s n = (key : ℕ) → key < n → is_slot is_stale (contact_at s.connections key) ≡ false

pub one_kept : (s : ContactsValue) (n : ℕ) → is_slot is_stale (contact_at s.connections n) ≡ false → NoneStale s n → NoneStale s (n + 1)
one_kept s n early before key low = below_more (λ k. is_slot is_stale (contact_at s.connections k) ≡ false) n before early key low

module _ (n : ℕ) (old new : ContactsValue) (went : LetsGo n old new) where
  pub one_gone : NoneStale old n → NoneStale new (n + 1)
  one_gone before key low =
      below_more (λ k. is_slot is_stale (contact_at new.connections k) ≡ false) n
      (λ k l. let ne : k ≢ n = λ e. absurd (omega (arith, l, e)) in ap (is_slot is_stale) (kept old new n went.0 went.1 k ne) ∙ before k l)
      (ap (is_slot is_stale) (gone old new n went.0 went.1)) key low

  pub gone_as_long : length new.connections ≡ length old.connections
  gone_as_long = as_long old new n went.0 went.1

pub none_stale : (s : ContactsValue) (n : ℕ) → length s.connections ≤ n → NoneStale s n → (key : ℕ) → is_slot is_stale (contact_at s.connections key) ≡ false
none_stale s n over below key =
    ⊎_elim (λ low. below key (omega (arith, low, over))) (λ past. ap (is_slot is_stale) (get_or_past s.connections key None past))
    (cases_lt key (length s.connections))

-- one more was let go that was stale
pub one_more_gone : (first old new : ContactsValue) (key : ℕ) → (n : ℕ) × LetGoStale n first old → is_slot is_stale (contact_at old.connections key) ≡ true → LetsGo key old new
    → (n : ℕ) × LetGoStale n first new
one_more_gone first old new key so_far stale went = (suc so_far.0, (old, so_far.1, (key, stale, went)))

-- one more was kept or not, once there was room
pub one_more_admitted : (n : ℕ) (first old roomy new : ContactsValue) → Admits n first old → MakesRoom old roomy → Keeps roomy new → Admits (n + 1) first new
one_more_admitted n first old roomy new so_far room keeps = rw add-one (old, so_far, (roomy, room, keeps))

-- of the connections with a key below this one those are taken out that were stale; all others are as they were
module _ {W : Type 0} (first : ContactsValue) (before : Slab (Connection W)) where
  abbrev pub slot_after : ℕ → Option (Connection W)
  slot_after key = if is_slot is_stale (contact_at first.connections key) then None else get before key

  pub record AreTakenOut (s : ContactsValue) (slab : Slab (Connection W)) (n : ℕ) : Type 0 where
    pub below : (key : ℕ) → key < n → get slab key ≡ slot_after key
    pub rest : (key : ℕ) → n ≤ key → get slab key ≡ get before key
    pub known : (key : ℕ) → n ≤ key → contact_at s.connections key ≡ contact_at first.connections key

  pub one_taken_out : (s t : ContactsValue) (slab new : Slab (Connection W)) (n : ℕ) → AreTakenOut s slab n → is_slot is_stale (contact_at s.connections n) ≡ true → LetsGo n s t
      → Updates slab new n None → AreTakenOut t new (n + 1)
  one_taken_out s t slab new n out stale went up =
      let was : is_slot is_stale (contact_at first.connections n) ≡ true = ap (is_slot is_stale) (sym (out.known n (omega arith))) ∙ stale in
      let here : get new n ≡ slot_after n = up.changed ∙ sym (ap {A = Bool} (λ b. if b then None else get before n) was) in
      record {
        below = λ key low. below_more (λ k. get new k ≡ slot_after k) n
            (λ k l. let ne : k ≢ n = λ e. absurd (omega (arith, l, e)) in up.others k ne ∙ out.below k l) here key low;
        rest = λ key high. let ne : key ≢ n = λ e. absurd (omega (arith, high, e)) in up.others key ne ∙ out.rest key (omega (arith, high));
        known = λ key high. let ne : key ≢ n = λ e. absurd (omega (arith, high, e)) in kept s t n went.0 went.1 key ne ∙ out.known key (omega (arith, high));
      }

  pub one_left_in : (s : ContactsValue) (slab : Slab (Connection W)) (n : ℕ) → AreTakenOut s slab n → is_slot is_stale (contact_at s.connections n) ≡ false → AreTakenOut s slab (n + 1)
  one_left_in s slab n out fresh =
      let was : is_slot is_stale (contact_at first.connections n) ≡ false = ap (is_slot is_stale) (sym (out.known n (omega arith))) ∙ fresh in
      let here : get slab n ≡ slot_after n = out.rest n (omega arith) ∙ sym (ap {A = Bool} (λ b. if b then None else get before n) was) in
      record {
        below = λ key low. below_more (λ k. get slab k ≡ slot_after k) n out.below here key low;
        rest = λ key high. out.rest key (omega (arith, high));
        known = λ key high. out.known key (omega (arith, high));
      }

  -- all keys were looked at
  pub all_taken_out : (s : ContactsValue) (slab : Slab (Connection W)) (n : ℕ) → length first.connections ≤ n → AreTakenOut s slab n → (key : ℕ) → get slab key ≡ slot_after key
  all_taken_out s slab n over out key =
      ⊎_elim (λ low. out.below key low)
      (λ high. let past : is_slot is_stale (contact_at first.connections key) ≡ false = ap (is_slot is_stale) (get_or_past first.connections key None (omega (arith, over, high))) in
      out.rest key high ∙ sym (ap {A = Bool} (λ b. if b then None else get before key) past))
      (cases_lt key n)

-- how often a transport was asked, if nothing else asks it
pub asks_between : (n most a b a' b' : ℕ) → AsksFor n most a b → a ≡ a' → b' ≡ b → AsksFor n most a' b'
asks_between n most a b a' b' asks same last = subst (λ (x : ℕ). AsksFor n most a' x) (sym last) (subst (λ (x : ℕ). AsksFor n most x b) same asks)
