-- Of each of some replicas a book was seen to be done.
use Rattle.std.proofs.Common.{◌≡◌, ◌≢◌, ◌⊎◌, inl, inr, ℕ, ◌+◌, ◌<◌, ◌≤◌, Bool, true, false, nat_lt, ◌&&◌, ◌||◌, ◌==◌, List, map, length, slice_index_or, slice_set, refl, sym, ◌∙◌, ap, subst, arith, ⊎_elim}
use Rattle.std.proofs.lemmas.Bool.{and_parts, cases_lt, true≢false}
use Rattle.std.proofs.lemmas.Bool.Decides.{nat_tests}
use Rattle.std.proofs.lemmas.Grind.{get_or-set_at}
use Rattle.std.proofs.lemmas.List.{get_or-set_other, length-map, map-set}
use Rattle.nm_model.specs.Certificate.{is_done}
use Rattle.nm_sim.specs.Network.{net_of}
use Rattle.nm_book.specs.Book.{BookValue, replica_of, state_of}
use Rattle.nm_shared.specs.Counted.{Meets, PassCounts}
use Rattle.nm_shared.specs.Home.{Home, home_of}
use Rattle.nm_policy.specs.Contacts.{ContactsValue}
use Rattle.nm_policy.specs.Stays.{stayed}
use Rattle.nm_policy.specs.declared.staying.Stay.{Stay}
use Rattle.nm_replica.specs.Recording.{WasEmptied}
use Rattle.nm_replica.specs.Served.{AllWereFinished, HasStayed, WasFinished, WasSeen, WereFinished, is_handed_out}
use Rattle.nm_replica.specs.Finished.{IsDone}
use Rattle.nm_replica.specs.Staying.{HasOneLeft, MayEnd, stay_after}
use Rattle.nm_replica.specs.declared.acts.Standing.{Standing}

-- one replica more
pub one_finished : (exact : Bool) {P : Type 0} (f : P → ℕ) (k : ℕ) (passes : List P) (p : P) (b : BookValue) → k < length passes
    → WereFinished exact k (map f passes) → (exact ≡ true → f p ≤ b.events) → IsDone b → WereFinished exact (k + 1) (map f (slice_set passes k p))
one_finished exact f k passes p b low so_far few done n under =
    ⊎_elim
    (λ before.
    let other : n ≢ k = λ e. absurd (omega (arith, before, e)) in
    let is = so_far n before in
    (is.0, (λ x. subst (λ z. z ≤ is.0.events) (sym (same ∙ get_or-set_other (map f passes) k n (f p) 0 other)) (is.1 x)), is.2))
    (λ here.
    let at : n ≡ k = omega (arith, here, under) in
    let long : k < length (map f passes) = subst (λ z. k < z) (sym (length-map passes f)) low in
    (b, (λ x. subst (λ z. z ≤ b.events) (sym (same ∙ get_or-set_at (map f passes) k n (f p) 0 at long)) (few x)), done))
    (cases_lt n k)
  where
    same : slice_index_or (map f (slice_set passes k p)) n 0 ≡ slice_index_or (slice_set (map f passes) k (f p)) n 0
    same = ap (λ z. slice_index_or z n 0) (map-set f passes k p)

-- a look at a book counts no event
pub looked_at : (exact : Bool) (own : Home) {before after : PassCounts} (b c : BookValue) → c ≡ b → Meets exact own before after b c → exact ≡ true → after.events ≤ b.events
looked_at exact own b c same meets is =
    let least = (meets.at_least is).1 in
    let equal : c.events ≡ b.events = ap (λ z. z.events) same in
    let risen = meets.events (λ no. absurd cc) in
    omega (arith, least, equal, risen)

-- a replica that is done, and whose book keeps its records or has none left to hand out
pub is_finished : (exact : Bool) (own : Home) (keeps is_last : Bool) (s : Standing) → WasSeen exact own s → (is_last ≡ true → WasFinished exact own false)
    → (s.is_done && (keeps || is_last || (s.handed == s.records))) ≡ true → WasFinished exact own keeps
is_finished exact own true is_last s seen last is = (seen.0, seen.1, sym seen.2 ∙ (and_parts s.is_done true is).0, (λ no. absurd cc))
is_finished exact own false true s seen last is = last refl
is_finished exact own false false s seen last is =
    let both = and_parts s.is_done (s.handed == s.records) is in
    let equal = both.1 in
    let all : s.handed ≡ s.records = grind (arith, nat_tests) in
    (seen.0, seen.1, sym seen.2 ∙ both.0, (λ no. sym seen.3 ∙ all ∙ seen.4))

-- a replica whose last record was handed out
pub was_last : (exact : Bool) (own : Home) (c : BookValue) (is_last : Bool) → (exact ≡ true → home_of c ≡ own) → is_last ≡ is_handed_out c → is_last ≡ true
    → WasFinished exact own false
was_last exact own c is_last home is last =
    let both = and_parts (is_done (net_of c.topology) c.partition (replica_of c)) (c.handed == length (state_of c).records) (sym is ∙ last) in
    let equal = both.1 in
    let all : c.handed ≡ length (state_of c).records = grind (arith, nat_tests) in
    (c, home, both.0, (λ no. all))

-- of each replica, whatever was counted of it
pub all_finished : (exact : Bool) (replicas : ℕ) (counted : List ℕ) → 0 < replicas → WereFinished exact replicas counted → AllWereFinished replicas
all_finished exact replicas counted some all = (some, λ n low. let is = all n low in (is.0, is.2))

-- a replica that may end has stayed and leaves, or all are done
pub has_left : (is_done ran_out : Bool) (contacts : ContactsValue) (old mid new : Stay) (replicas : ℕ) → mid ≡ old → new ≡ stay_after is_done ran_out contacts mid
    → MayEnd is_done contacts new replicas → HasStayed ran_out contacts old new ⊎ AllWereFinished replicas
has_left is_done ran_out contacts old mid new replicas same stays may =
    ⊎_elim (λ left. inl (stays ∙ ap (λ (b : Bool). stay_after b ran_out contacts mid) may.0 ∙ ap (stayed ran_out contacts) same, left)) (λ all. inr all) may.1

-- a replica that is done, and whose book has a record left that it does not keep
pub one_left : (exact : Bool) (own : Home) (keeps is_last : Bool) (s : Standing) → WasSeen exact own s → s.is_done ≡ true
    → (s.is_done && (keeps || is_last || (s.handed == s.records))) ≡ false → HasOneLeft exact own keeps
one_left exact own true is_last s seen done isnt = absurd (true≢false (sym (ap (λ (b : Bool). b && (true || is_last || (s.handed == s.records))) done) ∙ isnt))
one_left exact own false true s seen done isnt = absurd (true≢false (sym (ap (λ (b : Bool). b && (false || true || (s.handed == s.records))) done) ∙ isnt))
one_left exact own false false s seen done isnt =
    let apart : (s.handed == s.records) ≡ false = sym (ap (λ (b : Bool). b && (false || false || (s.handed == s.records))) done) ∙ isnt in
    let b = seen.0 in
    let all = length (state_of b).records in (
      refl,
      (
        b,
        seen.1,
        ap (λ (d : Bool). d && (b.handed == all)) (sym seen.2 ∙ done) ∙ ap (λ (n : ℕ). n == all) (sym seen.3) ∙ ap (λ (n : ℕ). s.handed == n) (sym seen.4) ∙ apart,
      ),
    )

-- no record is left to hand out, where the book keeps them, had none left, or has handed all out since
pub emptied_if : (exact : Bool) (own : Home) (keeps : Bool) (s : Standing) → WasSeen exact own s → (left : Bool) → left ≡ nat_lt s.handed s.records
    → (keeps ≡ true) ⊎ (left ≡ false) ⊎ WasEmptied exact own → (keeps ≡ true) ⊎ WasEmptied exact own
emptied_if exact own keeps s seen left is (inl kept) = inl kept
emptied_if exact own keeps s seen left is (inr (inl none)) =
    let handed = seen.3 in
    let records = seen.4 in
    let past : s.records ≤ s.handed = grind (arith, nat_tests, is, none) in
    inr (seen.0, seen.1, omega (arith, past, handed, records))
emptied_if exact own keeps s seen left is (inr (inr emptied)) = inr emptied
