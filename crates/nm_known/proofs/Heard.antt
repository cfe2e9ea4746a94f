-- The frames of a file, taken one after another.
use Rattle.std.proofs.Common.{◌≡◌, ◌&&◌, ℕ, zero, suc, ◌+◌, ◌<◌, ◌≤◌, ◌==◌, Bool, true, false, cond, if◌then◌else◌, ltb, List, [], ◌∷◌, ◌++◌, length, length-set, take, Option, Some, None, slice_set, slice_index_or, refl, sym, ◌∙◌, ap, ap₂, subst, arith, append-nil, append_assoc, add-one}
use Rattle.std.proofs.lemmas.Bool.{true≢false}
use Rattle.std.proofs.lemmas.Bool.Decides.{nat_tests}
use Rattle.nm_model.specs.Accept.{New, Known, Raised, Gap, Late, NotRising, Accepted, last_from, data_at, accept_data, null_at, accept_null}
use Rattle.nm_model.specs.Knowledge.{Know, nothing_known}
use Rattle.nm_model.specs.Lists.{nth}
use Rattle.nm_knowledge.proofs.Nexts.{nth_past}
use Rattle.nm_knowledge.specs.Octets.{same_octets}
use Rattle.nm_knowledge.specs.Order.{IsAccepted}
use Rattle.nm_book.proofs.Tellings.{set_elsewhere, set_here}
use Rattle.nm_book.specs.Book.{BookValue, is_incoming}
use Rattle.nm_book.specs.declared.message.ChannelMessage.TheVariants.{Data as DataMessage, Null as NullMessage}
use Rattle.nm_book.specs.declared.message.Data.{Data as DataFields}
use Rattle.nm_book.specs.declared.message.Null.{Null as NullFields}
use Rattle.nm_frames.specs.declared.frame.Frame.{Frame}
use Rattle.nm_frames.specs.declared.frame.Frame.TheVariants.{Data, Null}
use Rattle.nm_frames.specs.Frame.{data_frame, null_frame}
use Rattle.nm_known.specs.Known.{IsOfReplica, known_frames, channel_frames, channel_known, frames_below, message_frames, replica_hello}
use Rattle.nm_known.specs.Reading.{HasHeard, IsAfter, IsAmid, KnowsNoneFrom, Learned}
use Rattle.nm_known.specs.declared.taking.Expected.{Expected}
use Rattle.nm_known.specs.declared.taking.Expected.TheVariants.{Hello as ExpectsHello, Channel as ExpectsChannel, End as ExpectsEnd}
use Rattle.nm_known.proofs.Going.{amid_more, begins_with, goes_from, null_next, of_knowing, skipped}
use Rattle.nm_known.proofs.Written.{message_frames-append}

-- A message that was accepted as the next one is known behind the others.
module _ (a : Know (List ℕ)) (m : ℕ × List ℕ) where
  abbrev grown : Know (List ℕ)
  grown = record { list = a.list ++ m ∷ []; clock = m.0 }

  counted : (x y z : Bool) → x ≡ true
      → IsAccepted (cond x (cond y (record { answer = Late a.clock; after = a }) (cond {A = Accepted (List ℕ)} z (record { answer = NotRising; after = a }) (record { answer = New; after = grown }))) (record { answer = Gap (length a.list); after = a })).answer
      → (cond x (cond y (record { answer = Late a.clock; after = a }) (cond {A = Accepted (List ℕ)} z (record { answer = NotRising; after = a }) (record { answer = New; after = grown }))) (record { answer = Gap (length a.list); after = a })).after ≡ grown
  counted false y z e is = absurd is
  counted true true z e is = absurd is
  counted true false true e is = absurd is
  counted true false false e is = refl

  pub data_after : (n : ℕ) → n ≡ length a.list → IsAccepted (accept_data same_octets a n m).answer → (accept_data same_octets a n m).after ≡ grown
  data_after n next =
      subst (λ o. IsAccepted (data_at same_octets o a n m).answer → (data_at same_octets o a n m).after ≡ grown) (sym (nth_past a.list n (omega (arith, next))))
      (counted (n == length a.list) (ltb m.0 a.clock) (last_from m.0 a.list) (grind (arith, nat_tests, next)))

-- a null message adds no message
pub null_after : (a : Know (List ℕ)) (n t : ℕ) → (accept_null a n t).after.list ≡ a.list
null_after a n t = at_once (nth a.list n)
  where
    counted : (x y : Bool) → (cond x (cond {A = Accepted (List ℕ)} y (record { answer = Raised; after = record a { clock = t } }) (record { answer = Known; after = a })) (record { answer = Gap (length a.list); after = a })).after.list ≡ a.list
    counted false y = refl
    counted true false = refl
    counted true true = refl

    at_once : (o : Option (ℕ × List ℕ)) → (null_at o a n t).after.list ≡ a.list
    at_once (Some m) = refl
    at_once None = counted (n == length a.list) (ltb a.clock t)

-- the channels below number n are told alike where the same is known of them
pub frames_kept : (b : BookValue) (knows : List (Know (List ℕ))) (n : ℕ) → ((k : ℕ) → k < n → slice_index_or knows k nothing_known ≡ channel_known b k) → frames_below (record b { knows = knows }) n ≡ frames_below b n
frames_kept b knows zero same = refl
frames_kept b knows (suc n) same =
    ap₂ (λ l k. l ++ (if is_incoming b n then channel_frames n k else [])) (frames_kept b knows n (λ k less. same k (omega (arith, less)))) (same n (omega arith))

-- all channels below number n were told
pub told_below : (b : BookValue) (n : ℕ) (next : Expected) (frames : List Frame) → length b.knows ≡ length b.topology.receivers → frames ≡ replica_hello b ∷ frames_below b n
    → KnowsNoneFrom b n → IsAfter b n next → n ≤ length b.topology.receivers
    → ((other : BookValue) → IsOfReplica b other → (rest : List Frame) → known_frames other ≡ frames ++ rest → frames_below other (length b.topology.receivers) ≡ frames_below other n ++ rest)
    → HasHeard b next frames
told_below b n ExpectsHello frames count is none after within left = absurd after
told_below b n (ExpectsChannel c) frames count is none after within left = record {
  count = count;
  front = (
    is ∙ ap (λ l. replica_hello b ∷ l) (sym (append-nil (frames_below b n)) ∙ ap₂ (λ l k. l ++ message_frames c 0 k) (sym (skipped b n c after.0 after.3)) (sym (ap (λ (k : Know (List ℕ)). k.list) (none c after.0)))),
    after.1,
    λ k past. none k (let low = after.0 in omega (arith, past, low)),
  );
  follows = λ other ok rest e. goes_from b other ok n (ExpectsChannel c) rest none after within (left other ok rest e);
}
told_below b n ExpectsEnd frames count is none after within left = record {
  count = count;
  front = is ∙ ap (λ l. replica_hello b ∷ l) (sym (skipped b n (length b.topology.receivers) within after));
  follows = λ other ok rest e. goes_from b other ok n ExpectsEnd rest none after within (left other ok rest e);
}

module _ (b : BookValue) where
  pub heard_hello : (next : Expected) (told : List Frame) (f : Frame) → HasHeard b ExpectsHello told → f ≡ replica_hello b → IsAfter b 0 next → HasHeard b next (told ++ f ∷ [])
  heard_hello next told f heard is after =
      told_below b 0 next (told ++ f ∷ []) heard.count (ap₂ (λ l g. l ++ g ∷ []) heard.front.0 is) heard.front.1 after (omega arith)
      (λ other ok rest e. (begins_with b other f rest ok (heard.follows other ok (f ∷ rest) (e ∙ append_assoc told (f ∷ []) rest))).1)

  module _ (c : ℕ) (told : List Frame) (heard : HasHeard b (ExpectsChannel c) told) (a : Know (List ℕ)) where
    abbrev new : BookValue
    new = record b { knows = slice_set b.knows c a }

    there : c < length b.knows
    there = let low = heard.front.1 in let count = heard.count in omega (arith, low, count)

    -- another thing is known of the channel alone
    known_now : channel_known new c ≡ a
    known_now = set_here b.knows c a there

    others : KnowsNoneFrom new (c + 1)
    others k past = set_elsewhere b.knows c k a (λ e. omega (arith, past, e)) ∙ heard.front.2 k past

    before : frames_below new c ≡ frames_below b c
    before = frames_kept b (slice_set b.knows c a) c (λ k less. set_elsewhere b.knows c k a (λ e. omega (arith, less, e)))

    still : length new.knows ≡ length new.topology.receivers
    still = length-set b.knows c a ∙ heard.count

    -- what comes behind one frame more
    behind_one : (other : BookValue) → IsOfReplica b other → (f : Frame) (rest : List Frame) → known_frames other ≡ (told ++ f ∷ []) ++ rest → IsAmid b other c (f ∷ rest)
    behind_one other ok f rest e = heard.follows other ok (f ∷ rest) (e ∙ append_assoc told (f ∷ []) rest)

    pub more_heard : (m : ℕ × List ℕ) → a ≡ record { list = (channel_known b c).list ++ m ∷ []; clock = m.0 } → HasHeard new (ExpectsChannel c) (told ++ data_frame c (length (channel_known b c).list) m.0 m.1 ∷ [])
    more_heard m is = record { count = still; front = (frames, heard.front.1, others); follows = follows }
      where
        one_more : message_frames c 0 (channel_known b c).list ++ data_frame c (length (channel_known b c).list) m.0 m.1 ∷ [] ≡ message_frames c 0 ((channel_known b c).list ++ m ∷ [])
        one_more =
            let e : length (channel_known b c).list ≡ 0 + length (channel_known b c).list = omega arith in
            ap (λ k. message_frames c 0 (channel_known b c).list ++ data_frame c k m.0 m.1 ∷ []) e ∙ sym (message_frames-append c 0 (channel_known b c).list (m ∷ []))

        frames : told ++ data_frame c (length (channel_known b c).list) m.0 m.1 ∷ [] ≡ replica_hello b ∷ (frames_below new c ++ message_frames c 0 (channel_known new c).list)
        frames =
            ap (λ l. l ++ data_frame c (length (channel_known b c).list) m.0 m.1 ∷ []) heard.front.0
            ∙ ap (λ l. replica_hello b ∷ l) (append_assoc (frames_below b c) (message_frames c 0 (channel_known b c).list) (data_frame c (length (channel_known b c).list) m.0 m.1 ∷ []))
            ∙ ap (λ l. replica_hello b ∷ (frames_below b c ++ l)) (one_more ∙ ap (λ (k : Know (List ℕ)). message_frames c 0 k.list) (sym is ∙ sym known_now))
            ∙ ap (λ l. replica_hello b ∷ (l ++ message_frames c 0 (channel_known new c).list)) (sym before)

        follows : (other : BookValue) → IsOfReplica new other → (rest : List Frame) → known_frames other ≡ (told ++ data_frame c (length (channel_known b c).list) m.0 m.1 ∷ []) ++ rest → IsAmid new other c rest
        follows other ok rest e = amid_more b new other c m rest heard.front.1 (of_knowing b (slice_set b.knows c a) other ok) refl refl (known_now ∙ is) (behind_one other (of_knowing b (slice_set b.knows c a) other ok) (data_frame c (length (channel_known b c).list) m.0 m.1) rest e)

    pub all_heard : (next : Expected) (clock : ℕ) → is_incoming b c ≡ true → a.list ≡ (channel_known b c).list → a.clock ≡ clock → IsAfter new (c + 1) next
        → HasHeard new next (told ++ null_frame c (length (channel_known b c).list) clock ∷ [])
    all_heard next clock comes same is after = told_below new (c + 1) next _ still frames others after (let low = heard.front.1 in omega (arith, low)) left
      where
        frames : told ++ null_frame c (length (channel_known b c).list) clock ∷ [] ≡ replica_hello b ∷ frames_below new (c + 1)
        frames =
            ap (λ l. l ++ null_frame c (length (channel_known b c).list) clock ∷ []) heard.front.0
            ∙ ap (λ l. replica_hello b ∷ l) (append_assoc (frames_below b c) (message_frames c 0 (channel_known b c).list) (null_frame c (length (channel_known b c).list) clock ∷ []))
            ∙ ap₂ (λ l k. replica_hello b ∷ (frames_below b c ++ (message_frames c 0 l ++ null_frame c (length l) k ∷ []))) (sym same) (sym is)
            ∙ ap₂ (λ l k. replica_hello b ∷ (l ++ channel_frames c k)) (sym before) (sym known_now)
            ∙ ap (λ (z : Bool). replica_hello b ∷ (frames_below new c ++ (if z then channel_frames c (channel_known new c) else []))) (sym comes)
            ∙ ap (λ k. replica_hello b ∷ frames_below new k) (sym (add-one c))

        left : (other : BookValue) → IsOfReplica new other → (rest : List Frame) → known_frames other ≡ (told ++ null_frame c (length (channel_known b c).list) clock ∷ []) ++ rest
            → frames_below other (length b.topology.receivers) ≡ frames_below other (c + 1) ++ rest
        left other ok rest e =
            let amid = behind_one other (of_knowing b (slice_set b.knows c a) other ok) (null_frame c (length (channel_known b c).list) clock) rest e in
            let one = null_next b other c _ rest amid in
            amid.below ∙ ap₂ (λ k l. frames_below other k ++ l) (sym (add-one c)) (sym one.rest_is)

-- a book after it learned
after_is : (b later : BookValue) (knows : List (Know (List ℕ))) → later ≡ record b { knows = later.knows } → later.knows ≡ knows → later ≡ record b { knows = knows }
after_is b later knows same is = same ∙ ap (λ l. record b { knows = l }) is

module _ (b later : BookValue) (same : later ≡ record b { knows = later.knows }) (told : List Frame) where
  next_data : (c n time : ℕ) (packet : List ℕ) → HasHeard b (ExpectsChannel c) told → n ≡ length (channel_known b c).list
      → Learned b later (DataMessage (record { channel = c; number = n; time = time; packet = packet })) → HasHeard later (ExpectsChannel c) (told ++ data_frame c n time packet ∷ [])
  next_data c n time packet heard next learned =
      let grown : Know (List ℕ) = record { list = (channel_known b c).list ++ (time, packet) ∷ []; clock = time } in
      let is : later ≡ record b { knows = slice_set b.knows c grown } =
      after_is b later (slice_set b.knows c grown) same (learned.after ∙ ap (slice_set b.knows c) (data_after (channel_known b c) (time, packet) n next learned.accepted)) in
      subst (λ z. HasHeard z (ExpectsChannel c) (told ++ data_frame c n time packet ∷ [])) (sym is)
      (subst (λ k. HasHeard (record b { knows = slice_set b.knows c grown }) (ExpectsChannel c) (told ++ data_frame c k time packet ∷ [])) (sym next)
      (more_heard b c told heard grown (time, packet) refl))

  pub heard_data : (c : ℕ) (d : DataFields) → HasHeard b (ExpectsChannel c) told → d.channel ≡ c → d.number ≡ length (channel_known b c).list → Learned b later (DataMessage d)
      → HasHeard later (ExpectsChannel c) (told ++ Data d ∷ [])
  heard_data c d heard own next learned =
      subst (λ k. HasHeard later (ExpectsChannel c) (told ++ data_frame k d.number d.time d.packet ∷ [])) (sym own)
      (next_data c d.number d.time d.packet heard next (subst (λ k. Learned b later (DataMessage (record { channel = k; number = d.number; time = d.time; packet = d.packet }))) own learned))

  last_null : (c n clock : ℕ) (next : Expected) → HasHeard b (ExpectsChannel c) told → n ≡ length (channel_known b c).list → Learned b later (NullMessage (record { channel = c; count = n; clock = clock }))
      → (channel_known later c).clock ≡ clock → (c + 1 ≤ length later.topology.receivers → IsAfter later (c + 1) next) → HasHeard later next (told ++ null_frame c n clock ∷ [])
  last_null c n clock next heard all learned clocked after =
      let a : Know (List ℕ) = (accept_null (channel_known b c) n clock).after in
      let is : later ≡ record b { knows = slice_set b.knows c a } = after_is b later (slice_set b.knows c a) same learned.after in
      let there : c < length b.knows = (let low = heard.front.1 in let count = heard.count in omega (arith, low, count)) in
      let clock_is : a.clock ≡ clock = ap (λ (k : Know (List ℕ)). k.clock) (sym (set_here b.knows c a there)) ∙ ap (λ z. (channel_known z c).clock) (sym is) ∙ clocked in
      let low : c + 1 ≤ length later.topology.receivers = (let less = heard.front.1 in subst (λ z. c + 1 ≤ length z.topology.receivers) (sym is) (omega (arith, less))) in
      subst (λ z. HasHeard z next (told ++ null_frame c n clock ∷ [])) (sym is)
      (subst (λ k. HasHeard (record b { knows = slice_set b.knows c a }) next (told ++ null_frame c k clock ∷ [])) (sym all)
      (all_heard b c told heard a next clock learned.comes (null_after (channel_known b c) n clock) clock_is (subst (λ z. IsAfter z (c + 1) next) is (after low))))

  pub heard_null : (c : ℕ) (n : NullFields) (next : Expected) → HasHeard b (ExpectsChannel c) told → n.channel ≡ c → n.count ≡ length (channel_known b c).list → Learned b later (NullMessage n)
      → (channel_known later c).clock ≡ n.clock → (c + 1 ≤ length later.topology.receivers → IsAfter later (c + 1) next) → HasHeard later next (told ++ Null n ∷ [])
  heard_null c n next heard own all learned clocked after =
      subst (λ k. HasHeard later next (told ++ null_frame k n.count n.clock ∷ [])) (sym own)
      (last_null c n.count n.clock next heard all (subst (λ k. Learned b later (NullMessage (record { channel = k; count = n.count; clock = n.clock }))) own learned) clocked after)

-- these frames were taken, whatever was before
abbrev pub HasHeardMore : (b : BookValue) → Expected → (later : BookValue) → Expected → List Frame → Type 0
HasHeardMore b expected later next came = (told : List Frame) → HasHeard b expected told → HasHeard later next (told ++ came)

pub none_more : (b : BookValue) (expected : Expected) → HasHeardMore b expected b expected []
none_more b expected told heard = subst (HasHeard b expected) (sym (append-nil told)) heard

pub one_heard_more : (b mid later : BookValue) (expected now next : Expected) (frames : List Frame) (n m : ℕ) (f : Frame) → take m frames ≡ take n frames ++ f ∷ []
    → HasHeardMore b expected mid now (take n frames) → ((told : List Frame) → HasHeard mid now told → HasHeard later next (told ++ f ∷ [])) → HasHeardMore b expected later next (take m frames)
one_heard_more b mid later expected now next frames n m f more so_far one told heard =
    subst (HasHeard later next) (append_assoc told (take n frames) (f ∷ []) ∙ ap (λ l. told ++ l) (sym more)) (one (told ++ take n frames) (so_far told heard))

-- one after another changed what is known, and nothing else
pub still_same : (b mid later : BookValue) → mid ≡ record b { knows = mid.knows } → later ≡ record mid { knows = later.knows } → later ≡ record b { knows = later.knows }
still_same b mid later first second = second ∙ ap (λ (z : BookValue). record z { knows = later.knows }) first

-- what the tests of a message and of a clock say
both_true : (x y : Bool) → (x && y) ≡ true → (x ≡ true) × (y ≡ true)
both_true true true e = (refl, refl)
both_true true false e = absurd (true≢false (sym e))
both_true false y e = absurd (true≢false (sym e))

pub is_next_of : (comes : Bool) (own c number have : ℕ) → (comes && (own == c) && (number == have)) ≡ true → (own ≡ c) × (number ≡ have)
is_next_of comes own c number have e =
    let all = both_true (comes && (own == c)) (number == have) e in
    let first = (both_true comes (own == c) all.0).1 in
    let second = all.1 in (grind (arith, nat_tests, first), grind (arith, nat_tests, second))

pub has_clock_of : (comes : Bool) (known clock : ℕ) → (comes && (known == clock)) ≡ true → known ≡ clock
has_clock_of comes known clock e = let second = (both_true comes (known == clock) e).1 in grind (arith, nat_tests, second)
