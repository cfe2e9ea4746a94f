-- How the file of another book of the replica goes on.
use Rattle.std.proofs.Common.{◌≡◌, ℕ, zero, suc, ◌<◌, ◌≤◌, ◌==◌, Bool, true, false, cond, if◌then◌else◌, ltb, List, [], ◌∷◌, ◌++◌, length, drop, Some, refl, sym, ◌∙◌, ap, ap₂, subst, ⊎_elim, arith, append-nil, append_assoc, length-append, true≢false}
use Rattle.std.proofs.Math.Seq.{drop-append_seam}
use Rattle.std.proofs.lemmas.Bool.Decides.{nat_tests}
use Rattle.nm_model.specs.Accept.{Known, Raised, Gap, Accepted, accept_data, accept_null, last_from, null_at}
use Rattle.nm_model.specs.Knowledge.{IsKnow, IsUnder, Know, nothing_known}
use Rattle.nm_model.specs.Lists.{nth}
use Rattle.nm_model.proofs.Accepting.{last_is}
use Rattle.nm_model.proofs.ListLemmas.{equal_or_less, nth_front}
use Rattle.nm_knowledge.proofs.Nexts.{data_is_new, nth_past}
use Rattle.nm_knowledge.specs.Octets.{same_octets}
use Rattle.nm_knowledge.specs.Order.{IsAccepted}
use Rattle.nm_topology.specs.TopologyValue.{TopologyValue}
use Rattle.nm_book.specs.Book.{BookValue, is_incoming}
use Rattle.nm_book.specs.declared.message.Data.{Data as DataFields}
use Rattle.nm_book.specs.declared.message.Null.{Null as NullFields}
use Rattle.nm_frames.specs.declared.frame.Frame.{Frame}
use Rattle.nm_frames.specs.declared.frame.Frame.TheVariants.{Hello, Have, Data, Null, Bye}
use Rattle.nm_frames.specs.declared.frame.Have.{Have as HaveFields}
use Rattle.nm_frames.specs.declared.frame.Hello.{Hello as HelloFields}
use Rattle.nm_frames.specs.Frame.{data_frame, hello_frame, null_frame}
use Rattle.nm_known.specs.Known.{IsOfReplica, channel_frames, channel_known, frames_below, known_frames, message_frames, replica_hello, told_of}
use Rattle.nm_known.specs.Reading.{ComesNone, Continues, IsAfter, IsAmid, KnowsNoneFrom}
use Rattle.nm_known.specs.declared.taking.Expected.{Expected}
use Rattle.nm_known.specs.declared.taking.Expected.TheVariants.{Hello as ExpectsHello, Channel as ExpectsChannel, End as ExpectsEnd}
use Rattle.nm_known.proofs.Written.{below_more}

same_rest : {X : Type 0} (xs ys zs : List X) → xs ++ ys ≡ xs ++ zs → ys ≡ zs
same_rest xs ys zs e = sym (drop-append_seam xs ys) ∙ ap (drop (length xs)) e ∙ drop-append_seam xs zs

-- of channels that do not come in nothing is told
pub skipped : (b : BookValue) (n m : ℕ) → n ≤ m → ComesNone b n m → frames_below b m ≡ frames_below b n
skipped b n zero within none = let e : 0 ≡ n = omega (arith, within) in ap (frames_below b) e
skipped b n (suc m) within none = ⊎_elim
    (λ e. ap (frames_below b) (sym e))
    (λ less. ap (λ (z : Bool). frames_below b m ++ (if z then channel_frames m (channel_known b m) else [])) (none m (omega (arith, less)) (omega arith))
    ∙ append-nil (frames_below b m) ∙ skipped b n m (omega (arith, less)) (λ c past low. none c past (omega (arith, low))))
    (equal_or_less n (suc m) within)

-- whether a channel comes in says the topology, and the partition
channels_of : (b : BookValue) (t u : TopologyValue) (p q : ℕ) (c : ℕ) → t ≡ u → p ≡ q → is_incoming (record b { topology = t; partition = p }) c ≡ is_incoming (record b { topology = u; partition = q }) c
channels_of b t u p q c e f = ap₂ (λ x y. is_incoming (record b { topology = x; partition = y }) c) e f

module _ (b other : BookValue) (is : IsOfReplica b other) where
  pub same_channels : (c : ℕ) → is_incoming other c ≡ is_incoming b c
  same_channels c = channels_of b other.topology b.topology other.partition b.partition c is.topology is.partition

  pub same_hello : replica_hello other ≡ replica_hello b
  same_hello = ap₂ (λ t p. hello_frame 2 p other.replica t.digest) is.topology is.partition ∙ ap (λ r. hello_frame 2 b.partition r b.topology.digest) is.replica

  pub same_count : length other.topology.receivers ≡ length b.topology.receivers
  same_count = ap (λ t. length t.receivers) is.topology

  -- where nothing is known of a channel, all that is told of it is to come
  abbrev Begins : ℕ → Know (List ℕ) → Type 0
  Begins c a = (under : IsUnder a (channel_known other c)) × (message_frames c (length a.list) under.begins.0 ≡ message_frames c 0 (channel_known other c).list)

  begun : (c : ℕ) → Begins c nothing_known
  begun c = (record { begins = ((channel_known other c).list, refl); later = λ n x low at. omega arith; clock = omega arith }, refl)

  -- after the channels below number n
  pub goes_from : (n : ℕ) (next : Expected) (rest : List Frame) → KnowsNoneFrom b n → IsAfter b n next → n ≤ length b.topology.receivers
      → frames_below other (length b.topology.receivers) ≡ frames_below other n ++ rest → Continues b other next rest
  goes_from n ExpectsHello rest none after within left = absurd after
  goes_from n ExpectsEnd rest none after within left =
      same_rest (frames_below other n) rest []
      (sym left ∙ skipped other n (length b.topology.receivers) within (λ c past low. same_channels c ∙ after c past low) ∙ sym (append-nil (frames_below other n)))
  goes_from n (ExpectsChannel c) rest none after within left =
      let begins : Begins c (channel_known b c) = subst (Begins c) (sym (none c after.0)) (begun c) in
      let more = below_more other (suc c) (length b.topology.receivers) (let low = after.1 in omega (arith, low)) in
      record {
        comes = after.2;
        under = begins.0;
        later = more.0;
        below = more.1;
        parts =
            same_rest (frames_below other n) rest (channel_frames c (channel_known other c) ++ more.0)
            (sym left ∙ more.1 ∙ ap₂ (λ l k. (l ++ k) ++ more.0) (skipped other n c after.0 (λ k past low. same_channels k ∙ after.3 k past low)) all_told
            ∙ append_assoc (frames_below other n) (channel_frames c (channel_known other c)) more.0)
            ∙ append_assoc (message_frames c 0 (channel_known other c).list) (null_frame c (length (channel_known other c).list) (channel_known other c).clock ∷ []) more.0
            ∙ ap (λ l. l ++ (null_frame c (length (channel_known other c).list) (channel_known other c).clock ∷ more.0)) (sym begins.1);
      }
    where
      all_told : told_of other c ≡ channel_frames c (channel_known other c)
      all_told = ap (λ (z : Bool). if z then channel_frames c (channel_known other c) else []) (same_channels c ∙ after.2)

-- what is known there was come by
pub know_there : (b other : BookValue) → IsOfReplica b other → (c : ℕ) → c < length b.topology.receivers → is_incoming b c ≡ true → IsKnow (channel_known other c)
know_there b other ok c low comes = ok.knows c (let same = same_count b other ok in omega (arith, low, same)) (same_channels b other ok c ∙ comes)

-- a replica is the same whatever it knows
pub of_knowing : (b : BookValue) (knows : List (Know (List ℕ))) (other : BookValue) → IsOfReplica (record b { knows = knows }) other → IsOfReplica b other
of_knowing b knows other ok = record { topology = ok.topology; partition = ok.partition; replica = ok.replica; knows = ok.knows; fits = ok.fits }

heads : {X : Type 0} (x y : X) (xs ys : List X) → x ∷ xs ≡ y ∷ ys → x ≡ y
heads x y xs ys e = cc

tails : {X : Type 0} (x y : X) (xs ys : List X) → x ∷ xs ≡ y ∷ ys → xs ≡ ys
tails x y xs ys e = cc

pub none_heads : {X : Type 0} (x : X) (xs : List X) → x ∷ xs ≡ [] → ⊥
none_heads x xs e = cc

-- the first frames of the file
pub begins_with : (b other : BookValue) (f : Frame) (rest : List Frame) → IsOfReplica b other → f ∷ rest ≡ known_frames other
    → (f ≡ replica_hello b) × (frames_below other (length b.topology.receivers) ≡ rest)
begins_with b other f rest is e = (
  heads _ _ _ _ e ∙ same_hello b other is,
  ap (frames_below other) (sym (same_count b other is)) ∙ sym (tails _ _ _ _ e),
)

-- Amid a channel's frames comes a message, or the null message.
module _ (b other : BookValue) (c : ℕ) where
  abbrev here : Know (List ℕ)
  here = channel_known b c

  abbrev there : Know (List ℕ)
  there = channel_known other c

  abbrev last : Frame
  last = null_frame c (length there.list) there.clock

  pub record NextData (d : DataFields) (rest later : List Frame) : Type 0 where
    pub own : d.channel ≡ c
    pub next : d.number ≡ length here.list
    pub more : List (ℕ × List ℕ)
    pub list : here.list ++ (d.time, d.packet) ∷ more ≡ there.list
    pub rest_is : rest ≡ message_frames c (suc (length here.list)) more ++ (last ∷ later)

  pub record NextNull (n : NullFields) (rest later : List Frame) : Type 0 where
    pub own : n.channel ≡ c
    pub all : n.count ≡ length here.list
    pub list : here.list ≡ there.list
    pub clock : n.clock ≡ there.clock
    pub rest_is : rest ≡ later

  data_is : (d : DataFields) (n : NullFields) → Data d ≡ Null n → ⊥
  data_is d n e = cc

  data_of : (d e : DataFields) → Data d ≡ Data e → d ≡ e
  data_of d e is = cc

  null_of : (n m : NullFields) → Null n ≡ Null m → n ≡ m
  null_of n m is = cc

  next_data_of : (d : DataFields) (rest later : List Frame) (more : List (ℕ × List ℕ)) → here.list ++ more ≡ there.list → Data d ∷ rest ≡ message_frames c (length here.list) more ++ (last ∷ later) → NextData d rest later
  next_data_of d rest later [] list is = absurd (data_is d _ (heads _ _ _ _ is))
  next_data_of d rest later (m ∷ ms) list is =
      let one : d ≡ record { channel = c; number = length here.list; time = m.0; packet = m.1 } = data_of d _ (heads _ _ _ _ is) in
      record {
        own = ap (λ (x : DataFields). x.channel) one;
        next = ap (λ (x : DataFields). x.number) one;
        more = ms;
        list = ap (λ (x : DataFields). here.list ++ (x.time, x.packet) ∷ ms) one ∙ list;
        rest_is = tails _ _ _ _ is;
      }

  next_null_of : (n : NullFields) (rest later : List Frame) (more : List (ℕ × List ℕ)) → here.list ++ more ≡ there.list → Null n ∷ rest ≡ message_frames c (length here.list) more ++ (last ∷ later) → NextNull n rest later
  next_null_of n rest later (m ∷ ms) list is = absurd (data_is _ n (sym (heads _ _ _ _ is)))
  next_null_of n rest later [] list is =
      let one : n ≡ record { channel = c; count = length there.list; clock = there.clock } = null_of n _ (heads _ _ _ _ is) in
      let all : here.list ≡ there.list = sym (append-nil here.list) ∙ list in
      record {
        own = ap (λ (x : NullFields). x.channel) one;
        all = ap (λ (x : NullFields). x.count) one ∙ ap length (sym all);
        list = all;
        clock = ap (λ (x : NullFields). x.clock) one;
        rest_is = tails _ _ _ _ is;
      }

  pub data_next : (d : DataFields) (rest : List Frame) (amid : IsAmid b other c (Data d ∷ rest)) → NextData d rest amid.later
  data_next d rest amid = next_data_of d rest amid.later amid.under.begins.0 amid.under.begins.1 amid.parts

  pub null_next : (n : NullFields) (rest : List Frame) (amid : IsAmid b other c (Null n ∷ rest)) → NextNull n rest amid.later
  null_next n rest amid = next_null_of n rest amid.later amid.under.begins.0 amid.under.begins.1 amid.parts

  hello_data : (h : HelloFields) (f : DataFields) → Hello h ≡ Data f → ⊥
  hello_data h f e = cc

  hello_null : (h : HelloFields) (f : NullFields) → Hello h ≡ Null f → ⊥
  hello_null h f e = cc

  pub no_hello : (h : HelloFields) (rest : List Frame) → IsAmid b other c (Hello h ∷ rest) → ⊥
  no_hello h rest amid = pick amid.under.begins.0 amid.parts
    where
      pick : (more : List (ℕ × List ℕ)) → Hello h ∷ rest ≡ message_frames c (length here.list) more ++ (last ∷ amid.later) → ⊥
      pick [] is = hello_null h _ (heads _ _ _ _ is)
      pick (m ∷ ms) is = hello_data h _ (heads _ _ _ _ is)

  have_data : (h : HaveFields) (f : DataFields) → Have h ≡ Data f → ⊥
  have_data h f e = cc

  have_null : (h : HaveFields) (f : NullFields) → Have h ≡ Null f → ⊥
  have_null h f e = cc

  pub no_have : (h : HaveFields) (rest : List Frame) → IsAmid b other c (Have h ∷ rest) → ⊥
  no_have h rest amid = pick amid.under.begins.0 amid.parts
    where
      pick : (more : List (ℕ × List ℕ)) → Have h ∷ rest ≡ message_frames c (length here.list) more ++ (last ∷ amid.later) → ⊥
      pick [] is = have_null h _ (heads _ _ _ _ is)
      pick (m ∷ ms) is = have_data h _ (heads _ _ _ _ is)

  bye_data : (f : DataFields) → Bye ≡ Data f → ⊥
  bye_data f e = cc

  bye_null : (f : NullFields) → Bye ≡ Null f → ⊥
  bye_null f e = cc

  pub no_bye : (rest : List Frame) → IsAmid b other c (Bye ∷ rest) → ⊥
  no_bye rest amid = pick amid.under.begins.0 amid.parts
    where
      pick : (more : List (ℕ × List ℕ)) → Bye ∷ rest ≡ message_frames c (length here.list) more ++ (last ∷ amid.later) → ⊥
      pick [] is = bye_null _ (heads _ _ _ _ is)
      pick (m ∷ ms) is = bye_data _ (heads _ _ _ _ is)

  pub not_over : IsAmid b other c [] → ⊥
  not_over amid = pick amid.under.begins.0 amid.parts
    where
      pick : (more : List (ℕ × List ℕ)) → [] ≡ message_frames c (length here.list) more ++ (last ∷ amid.later) → ⊥
      pick [] is = none_heads _ _ (sym is)
      pick (m ∷ ms) is = none_heads _ _ (sym is)

pub nth_seam : (xs ys : List (ℕ × List ℕ)) (m : ℕ × List ℕ) → nth (xs ++ m ∷ ys) (length xs) ≡ Some m
nth_seam [] ys m = refl
nth_seam (x ∷ xs) ys m = nth_seam xs ys m

-- The next message of more knowledge is taken, and then there is less to come.
module _ (a k : Know (List ℕ)) (m : ℕ × List ℕ) (more : List (ℕ × List ℕ)) (under : IsUnder a k) (know : IsKnow k) (list : a.list ++ m ∷ more ≡ k.list) where
  pub at_next : nth k.list (length a.list) ≡ Some m
  at_next = ap (λ l. nth l (length a.list)) (sym list) ∙ nth_seam a.list more m

  abbrev pub next_under : IsUnder (record { list = a.list ++ m ∷ []; clock = m.0 }) k
  next_under = record {
    begins = (more, append_assoc a.list (m ∷ []) more ∙ list);
    later = λ n x past at. let less = know.rising (length a.list) n m x (longer n past) at_next at in omega (arith, less);
    clock = know.last (length a.list) m at_next;
  }
    where
      longer : (n : ℕ) → length (a.list ++ m ∷ []) ≤ n → length a.list < n
      longer n past = let long = length-append a.list (m ∷ []) in omega (arith, past, long)

  pub next_accepted : (n : ℕ) → n ≡ length a.list → IsAccepted (accept_data same_octets a n m).answer
  next_accepted n next =
      subst (λ (r : Accepted (List ℕ)). IsAccepted r.answer)
      (sym (data_is_new a n next same_octets m (under.later (length a.list) m (omega arith) at_next) (not_last (last_from m.0 a.list) refl))) tt
    where
      not_last : (z : Bool) → last_from m.0 a.list ≡ z → last_from m.0 a.list ≡ false
      not_last false e = e
      not_last true e =
          let l = last_is m.0 a.list e in
          let i = l.0 in
          let in_list : nth k.list i ≡ Some l.1 = ap (λ z. nth z i) (sym list) ∙ nth_front a.list (m ∷ more) i l.1 l.3 in
          let less = know.rising i (length a.list) l.1 m (let long = l.2 in omega (arith, long)) in_list at_next in
          let most = l.4 in absurd (omega (arith, less, most))

-- what is known goes on with these messages, and the file with these frames
abbrev Goes : (other : BookValue) (c : ℕ) (rest later : List Frame) → Know (List ℕ) → Type 0
Goes other c rest later a = (under : IsUnder a (channel_known other c))
    × (rest ≡ message_frames c (length a.list) under.begins.0 ++ (null_frame c (length (channel_known other c).list) (channel_known other c).clock ∷ later))

-- a message was taken, and the file goes on
pub amid_more : (b new other : BookValue) (c : ℕ) (m : ℕ × List ℕ) (rest : List Frame) → c < length b.topology.receivers → IsOfReplica b other → new.topology ≡ b.topology → new.partition ≡ b.partition
    → channel_known new c ≡ record { list = (channel_known b c).list ++ m ∷ []; clock = m.0 } → IsAmid b other c (data_frame c (length (channel_known b c).list) m.0 m.1 ∷ rest) → IsAmid new other c rest
amid_more b new other c m rest low ok topology partition grown amid =
    let one = data_next b other c _ rest amid in
    let goes : Goes other c rest amid.later (channel_known new c) = subst (Goes other c rest amid.later) (sym grown) (
      next_under (channel_known b c) (channel_known other c) m one.more amid.under (know_there b other ok c low amid.comes) one.list,
      one.rest_is ∙ ap (λ k. message_frames c k one.more ++ (null_frame c (length (channel_known other c).list) (channel_known other c).clock ∷ amid.later)) (sym (long m)),
    ) in
    record {
      comes = channels_of b new.topology b.topology new.partition b.partition c topology partition ∙ amid.comes;
      under = goes.0;
      later = amid.later;
      below = ap (λ t. frames_below other (length t.receivers)) topology ∙ amid.below;
      parts = goes.1;
    }
  where
    long : (m : ℕ × List ℕ) → length ((channel_known b c).list ++ m ∷ []) ≡ suc (length (channel_known b c).list)
    long m = let l = length-append (channel_known b c).list (m ∷ []) in omega (arith, l)

-- a null message that tells how many there are, and a clock not below, is taken
module _ (a : Know (List ℕ)) (n t : ℕ) (next : n ≡ length a.list) where
  abbrev Taken : Accepted (List ℕ) → Type 0
  Taken r = IsAccepted r.answer × (a.clock ≤ t → r.after.clock ≡ t)

  raised : (x y : Bool) → x ≡ true → ltb a.clock t ≡ y → Taken (cond x (cond {A = Accepted (List ℕ)} y (record { answer = Raised; after = record a { clock = t } }) (record { answer = Known; after = a })) (record { answer = Gap (length a.list); after = a }))
  raised false y e less = absurd (true≢false (sym e))
  raised true true e less = (tt, λ low. refl)
  raised true false e less = (tt, λ low. grind (arith, nat_tests, less, low))

  pub null_taken_so : Taken (accept_null a n t)
  null_taken_so = subst (λ o. Taken (null_at o a n t)) (sym (nth_past a.list n (omega (arith, next)))) (raised (n == length a.list) (ltb a.clock t) (grind (arith, nat_tests, next)) refl)
