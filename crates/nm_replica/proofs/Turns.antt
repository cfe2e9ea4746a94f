-- Keys that are served one after another.
use Rattle.std.proofs.Common.{◌≡◌, ◌∙◌, ◌⊎◌, ◌||◌, inl, inr, ℕ, Some, ◌+◌, ◌<◌, ◌≤◌, Bool, true, false, add-one, length, refl, subst, sym}
use Rattle.std.proofs.lemmas.Bool.{true≢false}
use Rattle.std.specs.Prelude.{IsSome, IsSomeAnd}
use Rattle.slab.specs.Slab.{Slab, get, with_value}
use Rattle.slab.proofs.SlabLemmas.{Updates-with_value}
use Rattle.nm_base.specs.Count.{saturated}
use Rattle.nm_base.specs.Wire.{WireSeen}
use Rattle.nm_engine.specs.Link.{LinkValue}
use Rattle.nm_engine.specs.Passes.{ByPass, Owner}
use Rattle.nm_engine.specs.declared.answer.Turn.{Turn}
use Rattle.nm_engine.specs.declared.answer.Turn.TheVariants as turn
use Rattle.nm_policy.specs.Contact.{does_count}
use Rattle.nm_policy.specs.Contacts.{contact_at, is_slot}
use Rattle.nm_replica.specs.Connections.{AreAllReady, IsNoneReady, WaitsOnce, is_ready}
use Rattle.nm_replica.specs.Moved.{CountsMoves, CountsMovesAt}
use Rattle.nm_replica.specs.Turns.{GivesTurns, HasTurns, HasTurnsAt, Links, MayDoMore, Progresses, ServesAll, ServesKeys, ServesTwice, SettlesKey, TurnsAs, WaitsAndServes, has_moved}
use Rattle.nm_replica.specs.declared.connection.Connection.{Connection}
use Rattle.nm_replica.specs.declared.connections.Connections.{Connections}
use Rattle.nm_replica.specs.declared.limits.TheConstants.{MAX_TURNS}
use Rattle.nm_replica.specs.declared.turning.Does.{Does}
use Rattle.nm_replica.specs.declared.turning.Does.TheVariants.{Hear, Speak}
use Rattle.nm_replica.specs.declared.turning.Moves.{Moves}

-- a turn in which something moved is progress
is_progress : (last : Turn) → has_moved last ≡ true → last ≡ turn.Progress
is_progress turn.Progress is = refl
is_progress turn.Idle is = absurd (true≢false (sym is))
is_progress turn.Ended is = absurd (true≢false (sym is))
is_progress (turn.Broken cause) is = absurd (true≢false (sym is))
is_progress turn.Failed is = absurd (true≢false (sym is))

module _ {W : Type 0} (seen : W → WireSeen) (o : Owner) where
  -- one more turn of a link, in which something moved
  pub progresses_more : (by : ByPass) (does : Does) (n : ℕ) (old mid new : LinkValue W) (last : Turn) → by.owner ≡ o → Progresses seen o does n old mid → TurnsAs seen by does mid new last → has_moved last ≡ true
      → Progresses seen o does (n + 1) old new
  progresses_more by does n old mid new last own before one is = rw add-one (mid, before, (by, own, subst (TurnsAs seen by does mid new) (is_progress last is) one))

  -- it has had all its turns
  pub has_had_all : (does : Does) (n : ℕ) (old new : LinkValue W) → n ≡ MAX_TURNS → Progresses seen o does n old new → HasTurns seen o does old new turn.Progress
  has_had_all does n old new all before = inl (n, all, before, refl)

  -- in its last turn nothing moved, or it was over
  pub has_had_last : (by : ByPass) (does : Does) (n : ℕ) (old mid new : LinkValue W) (last : Turn) → by.owner ≡ o → n < MAX_TURNS → Progresses seen o does n old mid → TurnsAs seen by does mid new last → has_moved last ≡ false
      → HasTurns seen o does old new last
  has_had_last by does n old mid new last own low before one other = inr (n, mid, low, before, (by, own, one), other)

module _ {W : Type 0} (l : Links W) where
  -- a connection had its turns, and what moved was counted
  pub gives_turns : (does : Does) (key : ℕ) (old : Connections W) (was now : Connection W) (link : LinkValue _) (counts : Bool) (last : Turn) (m : Moves) → get old.open key ≡ Some was
      → counts ≡ is_slot does_count (contact_at old.contacts.connections key) → now.link ≡ link → HasTurns (λ w. l.seen w.wire) l.owner does was.link link last
      → CountsMoves counts (record was { link = link }) now m → GivesTurns key old (record old { «open» = with_value old.open key now }) l does (m, last)
  gives_turns does key old was now link counts last m at is same turns counted =
      let up = Updates-with_value old.open key now (subst IsSome (sym at) refl) in
      record {
        talked = subst (λ o. HasTurnsAt l does o (get (with_value old.open key now) key) last) (sym at)
            (subst (λ o. IsSomeAnd o (λ c. HasTurns (λ w. l.seen w.wire) l.owner does was.link c.link last)) (sym up.changed)
            (subst (λ k. HasTurns (λ w. l.seen w.wire) l.owner does was.link k last) (sym same) turns));
        moved = subst (λ b. CountsMovesAt b (get old.open key) (get (with_value old.open key now) key) m) is
            (subst (λ o. CountsMovesAt counts o (get (with_value old.open key now) key) m) (sym at)
            (subst (λ o. IsSomeAnd o (λ c. CountsMoves counts was c m)) (sym up.changed)
            (record {
              moved = counted.moved;
              octets = counted.octets;
              has_heard = counted.has_heard;
              told = counted.told;
              counted = counted.counted;
              heard = counted.heard;
            })));
        others = up.others;
        contacts = refl;
        sessions = refl;
      }

  -- one more key was served
  pub serves_one_more : (does : Does) (key : ℕ) (old mid turned new : Connections W) (before : Moves) (last : Turn) (m all : Moves)
      → ServesKeys l does key old mid before → GivesTurns key mid turned l does (m, last) → m.has_more ≡ has_moved last → SettlesKey key turned new last m.has_heard
      → all.moved ≡ saturated (before.moved + m.moved) → all.octets ≡ saturated (before.octets + m.octets)
      → all.has_heard ≡ (before.has_heard || m.has_heard) → all.has_more ≡ (before.has_more || m.has_more) → ServesKeys l does (key + 1) old new all
  serves_one_more does key old mid turned new before last m all so_far had more settled moved octets has_heard has_more =
      rw add-one (mid, before, m, so_far, (turned, last, had, more, settled), record { moved = moved; octets = octets; has_heard = has_heard; has_more = has_more })

  -- all keys were served
  pub serves_all : (does : Does) (old new : Connections W) (key end : ℕ) (all : Moves) → length old.open.slots ≤ end → key ≡ end → ServesKeys l does key old new all
      → ServesAll l does old new all
  serves_all does old new key end all most last served = (end, most, subst (λ (n : ℕ). ServesKeys l does n old new all) last served)

  -- all keys were served, and then once more
  pub serves_twice : (old mid new : Connections W) (heard said : Moves) (moved octets : ℕ) → ServesAll l Hear old mid heard
      → ServesAll l Speak mid new said → moved ≡ saturated (heard.moved + said.moved) → octets ≡ saturated (heard.octets + said.octets)
      → ServesTwice l old new moved octets said
  serves_twice old mid new heard said moved octets first second sum sum' = (mid, heard, first, second, sum, sum')

  -- all keys were served twice after a wait, and nothing was done with connections since
  pub waits_and_serves : (ran_out : Bool) (old waited served new : Connections W) (moved octets : ℕ) (said : Moves) → WaitsOnce ran_out old.contacts waited.contacts
      → (ran_out ≡ true → AreAllReady waited.open) → ServesTwice l waited served moved octets said → new ≡ served → WaitsAndServes l ran_out old new moved octets said
  waits_and_serves ran_out old waited served new moved octets said waits ready serves same =
      (waited, waits, ready, subst (λ (c : Connections W). ServesTwice l waited c moved octets said) (sym same) serves)

-- whether more may be done, by its four reasons
pub may_do_more : {W : Type 0} (said : Moves) (runs_on is_any has_more : Bool) (slab : Slab (Connection W)) → has_more ≡ (said.has_heard || said.has_more || runs_on || is_any)
    → (is_any ≡ false → IsNoneReady slab) → (is_any ≡ true → (key : ℕ) × (is_ready (get slab key) ≡ true)) → MayDoMore said runs_on slab has_more
may_do_more said runs_on is_any has_more slab is none some = record {
  some = λ more. by_reason said.has_heard refl said.has_more refl runs_on refl is_any refl (sym is ∙ more);
  none = λ no. let all = none_of said.has_heard said.has_more runs_on is_any (sym is ∙ no) in (all.0, all.1, all.2, none all.3);
}
  where
    by_reason : (a : Bool) → said.has_heard ≡ a → (b : Bool) → said.has_more ≡ b → (c : Bool) → runs_on ≡ c → (d : Bool) → is_any ≡ d → (a || b || c || d) ≡ true
        → (said.has_heard ≡ true) ⊎ (said.has_more ≡ true) ⊎ (runs_on ≡ true) ⊎ ((key : ℕ) × (is_ready (get slab key) ≡ true))
    by_reason true p b q c r d s e = inl p
    by_reason false p true q c r d s e = inr (inl q)
    by_reason false p false q true r d s e = inr (inr (inl r))
    by_reason false p false q false r true s e = inr (inr (inr (some s)))
    by_reason false p false q false r false s e = absurd (true≢false (sym e))

    none_of : (a b c d : Bool) → (a || b || c || d) ≡ false → (a ≡ false) × (b ≡ false) × (c ≡ false) × (d ≡ false)
    none_of true b c d e = absurd (true≢false e)
    none_of false true c d e = absurd (true≢false e)
    none_of false false true d e = absurd (true≢false e)
    none_of false false false true e = absurd (true≢false e)
    none_of false false false false e = (refl, refl, refl, refl)
