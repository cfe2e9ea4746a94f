-- What a replica knows, written frame by frame.
use Rattle.std.proofs.Common.{◌≡◌, ◌⊎◌, inl, inr, true, ℕ, zero, suc, ◌+◌, ◌<◌, ◌≤◌, List, [], ◌∷◌, ◌++◌, length, take, drop, Some, Result, Ok, Err, sym, ◌∙◌, ap, ap₂, subst, ⊎_elim, arith, append-nil, append_assoc, length-append, add-one}
use Rattle.std.proofs.Math.Seq.{take-append-add}
use Rattle.std.proofs.lemmas.Grind.{flat_map-append}
use Rattle.std.proofs.lemmas.List.{length-take-le, take-append-drop, take_all}
use Rattle.std.specs.Io.KnownBytes.{Appends}
use Rattle.nm_base.proofs.Sinks.{Appends-append}
use Rattle.std.specs.List.{AllByRecursion}
use Rattle.nm_base.specs.Sink.{SinkSeen, WroteAll}
use Rattle.nm_base.specs.declared.fault.Fault.TheVariants.{Refused, Memory}
use Rattle.nm_model.specs.Knowledge.{IsKnow, Know}
use Rattle.nm_model.specs.Lists.{nth}
use Rattle.nm_model.proofs.ListLemmas.{below_or_at, equal_or_less}
use Rattle.nm_book.specs.Book.{BookValue, is_incoming}
use Rattle.nm_files.specs.Writing.{TraceFault, Writes}
use Rattle.nm_files.proofs.Pieces.{Writes-more}
use Rattle.nm_frames.specs.declared.frame.Frame.{Frame}
use Rattle.nm_frames.specs.Frame.{IsFrame, data_frame, frame_octets, hello_frame, null_frame, stream_octets}
use Rattle.nm_known.specs.Known.{AreKnown, channel_known, channel_frames, frames_below, message_frames, replica_hello, told_of}

-- the first octets were taken whole
pub Writes-after : (old mid new : SinkSeen) (r : Result Unit TraceFault) (a b : List ℕ) → WroteAll old mid a → Writes mid new r b → Writes old new r (a ++ b)
Writes-after old mid new (Ok _) a b v w = record {
  whole = Appends-append old.taken mid.taken new.taken a b v.whole w.whole;
  no_fault = w.no_fault ∙ v.no_fault;
}
Writes-after old mid new (Err (Refused _)) a b v w = record {
  part = length a + w.part;
  short = let h = w.short in let l = length-append a b in omega (arith, h, l);
  front = subst (λ l. Appends old.taken new.taken l) (sym (take-append-add a b w.part)) (Appends-append old.taken mid.taken new.taken a (take w.part b) v.whole w.front);
  fault = w.fault ∙ ap (λ n. n + 1) v.no_fault;
}
Writes-after old mid new (Err Memory) a b v w = record {
  part = length a + w.part;
  within = let h = w.within in let l = length-append a b in omega (arith, h, l);
  front = subst (λ l. Appends old.taken new.taken l) (sym (take-append-add a b w.part)) (Appends-append old.taken mid.taken new.taken a (take w.part b) v.whole w.front);
  no_fault = w.no_fault ∙ v.no_fault;
}

-- those behind them were not, and more was to come
pub Writes-cut : (old mid new : SinkSeen) (e : TraceFault) (a b more all : List ℕ) → all ≡ (a ++ b) ++ more → WroteAll old mid a → Writes mid new (Err e) b → Writes old new (Err e) all
Writes-cut old mid new e a b more all is v w =
    subst (Writes old new (Err e)) (sym is) (Writes-more old new e (a ++ b) more (Writes-after old mid new (Err e) a b v w))

pub WroteAll-after : (old mid new : SinkSeen) (a b all : List ℕ) → all ≡ a ++ b → WroteAll old mid a → WroteAll mid new b → WroteAll old new all
WroteAll-after old mid new a b all is v w = subst (WroteAll old new) (sym is) (Writes-after old mid new (Ok tt) a b v w)

pub stream_of_both : (a b : List Frame) → stream_octets (a ++ b) ≡ stream_octets a ++ stream_octets b
stream_of_both a b = flat_map-append frame_octets a b

pub stream_of_one : (f : Frame) → stream_octets (f ∷ []) ≡ frame_octets f
stream_of_one f = append-nil (frame_octets f)

-- messages in two parts
pub message_frames-append : (c n : ℕ) (xs ys : List (ℕ × List ℕ)) → message_frames c n (xs ++ ys) ≡ message_frames c n xs ++ message_frames c (n + length xs) ys
message_frames-append c n [] ys = let e : n ≡ n + 0 = omega arith in ap (λ k. message_frames c k ys) e
message_frames-append c n (x ∷ xs) ys =
    let e : suc n + length xs ≡ n + suc (length xs) = omega arith in
    ap (λ l. data_frame c n x.0 x.1 ∷ l) (message_frames-append c (suc n) xs ys ∙ ap (λ k. message_frames c (suc n) xs ++ message_frames c k ys) e)

-- the message at a number of a list
pub message_there : (list : List (ℕ × List ℕ)) (n : ℕ) (m : ℕ × List ℕ) → Some m ≡ nth list n → (n < length list) × (take (n + 1) list ≡ take n list ++ m ∷ [])
message_there list n m is = let at = one list n is in (at.0, ap (λ k. take k list) (add-one n) ∙ at.1)
  where
    one : (list : List (ℕ × List ℕ)) (n : ℕ) → Some m ≡ nth list n → (n < length list) × (take (suc n) list ≡ take n list ++ m ∷ [])
    one [] n is = absurd cc
    one (x ∷ xs) zero is = let e : x ≡ m = cc in (omega arith, ap (λ y. y ∷ []) e)
    one (x ∷ xs) (suc n) is = let at = one xs n is in (let low = at.0 in omega (arith, low), ap (λ l. x ∷ l) at.1)

module _ (c : ℕ) (list : List (ℕ × List ℕ)) where
  -- the octets of the first messages
  abbrev pub first_octets : ℕ → List ℕ
  first_octets n = stream_octets (message_frames c 0 (take n list))

  pub one_message_more : (n time : ℕ) (packet : List ℕ) → n ≤ length list → take (n + 1) list ≡ take n list ++ (time, packet) ∷ [] → first_octets (n + 1) ≡ first_octets n ++ frame_octets (data_frame c n time packet)
  one_message_more n time packet within next =
      let long : 0 + length (take n list) ≡ n = omega (arith, length-take-le n list within) in
      ap (λ l. stream_octets (message_frames c 0 l)) next
      ∙ ap stream_octets (message_frames-append c 0 (take n list) ((time, packet) ∷ []))
      ∙ stream_of_both (message_frames c 0 (take n list)) (message_frames c (0 + length (take n list)) ((time, packet) ∷ []))
      ∙ ap (λ k. first_octets n ++ stream_octets (data_frame c k time packet ∷ [])) long
      ∙ ap (λ l. first_octets n ++ l) (stream_of_one (data_frame c n time packet))

  messages_left : (n : ℕ) → stream_octets (message_frames c 0 list) ≡ first_octets n ++ stream_octets (message_frames c (0 + length (take n list)) (drop n list))
  messages_left n =
      ap (λ l. stream_octets (message_frames c 0 l)) (sym (take-append-drop n list))
      ∙ ap stream_octets (message_frames-append c 0 (take n list) (drop n list))
      ∙ stream_of_both (message_frames c 0 (take n list)) (message_frames c (0 + length (take n list)) (drop n list))

  -- one more message, and then all others
  pub others_left : (n time : ℕ) (packet : List ℕ) → n ≤ length list → take (n + 1) list ≡ take n list ++ (time, packet) ∷ []
      → (more : List ℕ) × (stream_octets (message_frames c 0 list) ≡ (first_octets n ++ frame_octets (data_frame c n time packet)) ++ more)
  others_left n time packet within next = (
    stream_octets (message_frames c (0 + length (take (n + 1) list)) (drop (n + 1) list)),
    messages_left (n + 1) ∙ ap (λ l. l ++ stream_octets (message_frames c (0 + length (take (n + 1) list)) (drop (n + 1) list))) (one_message_more n time packet within next),
  )

  pub all_messages : (n : ℕ) → n ≡ length list → first_octets n ≡ stream_octets (message_frames c 0 list)
  all_messages n all = ap (λ l. stream_octets (message_frames c 0 l)) (take_all n list (omega (arith, all)))

module _ (b : BookValue) where
  -- the frames of the channels below two numbers
  pub below_more : (n m : ℕ) → n ≤ m → (more : List Frame) × (frames_below b m ≡ frames_below b n ++ more)
  below_more n zero within = let e : n ≡ 0 = omega (arith, within) in ([], ap (frames_below b) (sym e) ∙ sym (append-nil (frames_below b n)))
  below_more n (suc m) within = ⊎_elim
      (λ e. ([], ap (frames_below b) (sym e) ∙ sym (append-nil (frames_below b n))))
      (λ less. let l = below_more n m (omega (arith, less)) in (l.0 ++ told_of b m, ap (λ l. l ++ told_of b m) l.1 ∙ append_assoc (frames_below b n) l.0 (told_of b m)))
      (equal_or_less n (suc m) within)

  pub one_channel_more : (n : ℕ) → stream_octets (frames_below b (n + 1)) ≡ stream_octets (frames_below b n) ++ stream_octets (told_of b n)
  one_channel_more n = ap (λ k. stream_octets (frames_below b k)) (add-one n) ∙ stream_of_both (frames_below b n) (told_of b n)

  pub channels_left : (n m : ℕ) → n < m → (more : List ℕ) × (stream_octets (frames_below b m) ≡ (stream_octets (frames_below b n) ++ stream_octets (told_of b n)) ++ more)
  channels_left n m less =
      let l = below_more (suc n) m (omega (arith, less)) in
      (stream_octets l.0, ap stream_octets l.1 ∙ stream_of_both (frames_below b (suc n)) l.0 ∙ ap (λ o. o ++ stream_octets l.0) (stream_of_both (frames_below b n) (told_of b n)))

-- the Hello with these fields
pub hello_is : (b : BookValue) (version partition replica : ℕ) (digest : List ℕ) → version ≡ 2 → partition ≡ b.partition → replica ≡ b.replica → digest ≡ b.topology.digest
    → hello_frame version partition replica digest ≡ replica_hello b
hello_is b version partition replica digest v p r d =
    ap₂ (λ x y. hello_frame x y replica digest) v p ∙ ap₂ (λ x y. hello_frame 2 b.partition x y) r d

-- the null message of a channel stands behind its messages
pub channel_written : (old mid new : SinkSeen) (r : Result Unit TraceFault) (c : ℕ) (k : Know (List ℕ)) → WroteAll old mid (stream_octets (message_frames c 0 k.list))
    → Writes mid new r (frame_octets (null_frame c (length k.list) k.clock)) → Writes old new r (stream_octets (channel_frames c k))
channel_written old mid new r c k v w =
    subst (Writes old new r)
    (sym (stream_of_both (message_frames c 0 k.list) (null_frame c (length k.list) k.clock ∷ []) ∙ ap (λ l. stream_octets (message_frames c 0 k.list) ++ l) (stream_of_one (null_frame c (length k.list) k.clock))))
    (Writes-after old mid new r (stream_octets (message_frames c 0 k.list)) (frame_octets (null_frame c (length k.list) k.clock)) v w)

-- frames in two parts
pub each_of_both : (a b : List Frame) → AllByRecursion IsFrame a → AllByRecursion IsFrame b → AllByRecursion IsFrame (a ++ b)
each_of_both [] b x y = y
each_of_both (f ∷ a) b x y = (x.0, each_of_both a b x.1 y)

module _ (c : ℕ) (list : List (ℕ × List ℕ)) where
  pub fits_more : (n time : ℕ) (packet : List ℕ) → n ≤ length list → take (n + 1) list ≡ take n list ++ (time, packet) ∷ []
      → AllByRecursion IsFrame (message_frames c 0 (take n list)) → IsFrame (data_frame c n time packet) → AllByRecursion IsFrame (message_frames c 0 (take (n + 1) list))
  fits_more n time packet within next so_far one =
      let long : 0 + length (take n list) ≡ n = omega (arith, length-take-le n list within) in
      subst (AllByRecursion IsFrame)
      (sym (ap (message_frames c 0) next ∙ message_frames-append c 0 (take n list) ((time, packet) ∷ []) ∙ ap (λ k. message_frames c 0 (take n list) ++ data_frame c k time packet ∷ []) long))
      (each_of_both (message_frames c 0 (take n list)) (data_frame c n time packet ∷ []) so_far (one, tt))

  pub fits_all : (n : ℕ) → n ≡ length list → AllByRecursion IsFrame (message_frames c 0 (take n list)) → AllByRecursion IsFrame (message_frames c 0 list)
  fits_all n all so_far = subst (λ l. AllByRecursion IsFrame (message_frames c 0 l)) (take_all n list (omega (arith, all))) so_far

pub fits_channel_more : (b : BookValue) (n : ℕ) → AllByRecursion IsFrame (frames_below b n) → AllByRecursion IsFrame (told_of b n) → AllByRecursion IsFrame (frames_below b (n + 1))
fits_channel_more b n so_far one = subst (λ k. AllByRecursion IsFrame (frames_below b k)) (sym (add-one n)) (each_of_both (frames_below b n) (told_of b n) so_far one)

pub one_known_more : (b : BookValue) (n : ℕ) → AreKnown b n → (is_incoming b n ≡ true → IsKnow (channel_known b n)) → AreKnown b (n + 1)
one_known_more b n so_far one = λ c low comes. pick c comes (below_or_at c n (omega (arith, low)))
  where
    pick : (c : ℕ) → is_incoming b c ≡ true → (c < n) ⊎ (c ≡ n) → IsKnow (channel_known b c)
    pick c comes (inl less) = so_far c less comes
    pick c comes (inr same) = subst (λ k. is_incoming b k ≡ true → IsKnow (channel_known b k)) (sym same) one comes
