-- A file that is read piece by piece.
use Rattle.std.proofs.Common.{◌≢◌, ◌≡◌, ◌⊎◌, ℕ, zero, suc, ◌≤◌, ◌<◌, List, [], ◌∷◌, ◌++◌, length, take, drop, get_or, replicate, inl, inr, false, slice_index_or, Option, Some, None, IfSome, IsSomeAnd, refl, sym, ◌∙◌, ap, ap₂, subst, append-nil, append_assoc, arith, Err}
use Rattle.std.proofs.Math.Seq.{split_at}
use Rattle.std.proofs.lemmas.List.{take-append-drop}
use Rattle.std.proofs.lemmas.Bool.{true≢false}
use Rattle.std.specs.Io.{StartsWith}
use Rattle.std.specs.List.{AllByRecursion}
use Rattle.std.specs.Io.KnownBytes.{Keeps}
use Rattle.nm_base.specs.declared.fault.Fault.{Fault}
use Rattle.nm_base.specs.declared.fault.Fault.TheVariants.{Memory, Refused}
use Rattle.nm_model.specs.Knowledge.{nothing_known}
use Rattle.nm_model.proofs.ListLemmas.{not_some}
use Rattle.nm_book.specs.Book.{BookValue}
use Rattle.nm_frames.proofs.Deciding.{stays}
use Rattle.nm_frames.proofs.Streams.{not_short, one_front, one_split}
use Rattle.nm_frames.specs.declared.fault.FrameFault.{FrameFault}
use Rattle.nm_frames.specs.declared.fault.FrameFault.TheVariants.{BadLength, BadKind, BadBody, Failed as HasFailed, Memory as LacksMemory}
use Rattle.nm_frames.specs.declared.frame.Frame.{Frame}
use Rattle.nm_frames.specs.declared.frame.Frame.TheVariants.{Hello, Have, Data, Null, Bye}
use Rattle.nm_frames.specs.declared.frame.Hello.{Hello as HelloFields}
use Rattle.nm_frames.specs.Frame.{IsFrame, frame_octets, stream_octets}
use Rattle.nm_frames.specs.Pieces.{new_reader}
use Rattle.nm_frames.specs.Reader.{FedFault, FedWhole, Feeds, ReaderValue}
use Rattle.nm_frames.specs.Stream.{IsShort, fault_shown}
use Rattle.nm_known.specs.Known.{ExplainsText, IsNoFile, IsOfOther, IsOfReplica, KnowsNothing, TellsOnly, frames_below, known_frames, known_octets, replica_hello}
use Rattle.nm_known.specs.Reading.{BeginsOther, CutsOff, Explains, Continues, HasHeard, HoldsPart, IsNoFront, IsReadTo, frame_fault}
use Rattle.nm_known.specs.declared.known_fault.KnownCause.{KnownCause}
use Rattle.nm_known.specs.declared.known_fault.KnownCause.TheVariants.{Topology, Form, Failed}
use Rattle.nm_known.specs.declared.taking.Expected.{Expected}
use Rattle.nm_known.specs.declared.taking.Expected.TheVariants.{Hello as ExpectsHello, Channel as ExpectsChannel, End as ExpectsEnd}
use Rattle.nm_known.proofs.Going.{none_heads, not_over, same_hello}
use Rattle.nm_known.proofs.Telling.{one_knowledge}
use Rattle.nm_known.proofs.Written.{each_of_both, stream_of_both}

-- at first
none_of : (n c : ℕ) → slice_index_or (replicate n (nothing_known {P = List ℕ})) c nothing_known ≡ nothing_known
none_of zero c = refl
none_of (suc n) zero = refl
none_of (suc n) (suc c) = none_of n c

many_of : {X : Type 0} (n : ℕ) (x : X) → length (replicate n x) ≡ n
many_of zero x = refl
many_of (suc n) x = ap suc (many_of n x)

pub new_holds : HoldsPart new_reader
new_holds = record { sound = refl; no_fault = refl; short = inl (omega arith) }

pub nothing_read : (text : Option (List ℕ)) (b : BookValue) → KnowsNothing b → IsReadTo text b ExpectsHello new_reader text
nothing_read None b fresh = tt
nothing_read (Some text) b fresh = record {
  frames = [];
  heard = record {
    count = ap length fresh ∙ many_of (length b.topology.receivers) nothing_known;
    front = (refl, λ c past. ap (λ l. slice_index_or l c nothing_known) fresh ∙ none_of (length b.topology.receivers) c);
    follows = λ other ok rest e. sym e;
  };
  each = tt;
  parts = refl;
}

more_parts : (text : List ℕ) (told came : List Frame) (rest after left : List ℕ) → text ≡ stream_octets told ++ rest → rest ≡ stream_octets came ++ after → text ≡ stream_octets (told ++ came) ++ after
more_parts text told came rest after left is more =
    is ∙ ap (λ l. stream_octets told ++ l) more ∙ sym (append_assoc (stream_octets told) (stream_octets came) after) ∙ ap (λ l. l ++ after) (sym (stream_of_both told came))

-- the next piece was taken
pub read_on : (text before after : Option (List ℕ)) (b new : BookValue) (expected next : Expected) (old mid : ReaderValue) (came : List Frame) → IsReadTo text b expected old before
    → CutsOff before after old mid came → ((told : List Frame) → HasHeard b expected told → HasHeard new next (told ++ came)) → IsReadTo text new next mid after
read_on None before after b new expected next old mid came read cut heard = tt
read_on (Some text) None after b new expected next old mid came read cut heard = absurd read
read_on (Some text) (Some rest) None b new expected next old mid came read cut heard = absurd cut.parts
read_on (Some text) (Some rest) (Some left) b new expected next old mid came read cut heard = record {
  frames = read.frames ++ came;
  heard = heard read.frames read.heard;
  each = each_of_both read.frames came read.each cut.each;
  parts = more_parts text read.frames came (old.rest ++ rest) (mid.rest ++ left) left read.parts cut.parts;
}

-- or there is none
pub read_up : (text before : Option (List ℕ)) (b : BookValue) (expected : Expected) (reader : ReaderValue) → IsReadTo text b expected reader before → IfSome before (λ left. left ≡ [])
    → IsReadTo text b expected reader (Some [])
read_up None before b expected reader read none = tt
read_up (Some text) None b expected reader read none = absurd read
read_up (Some text) (Some left) b expected reader read none = record {
  frames = read.frames;
  heard = read.heard;
  each = read.each;
  parts = read.parts ∙ ap (λ l. stream_octets read.frames ++ (reader.rest ++ l)) none;
}

pub read_whole : (text : Option (List ℕ)) (b : BookValue) (reader : ReaderValue) → IsReadTo text b ExpectsEnd reader (Some []) → reader.rest ≡ [] → IfSome text (λ text. text ≡ known_octets b)
read_whole None b reader read none = tt
read_whole (Some text) b reader read none =
    read.parts ∙ ap (λ l. stream_octets read.frames ++ (l ++ [])) none ∙ append-nil (stream_octets read.frames) ∙ ap stream_octets read.heard.front

-- frames that are whole now
pub cut_off : (before after : Option (List ℕ)) (old new : ReaderValue) (piece : List ℕ) (came : List Frame) → FedWhole old new piece [] came
    → IfSome before (λ rest. IsSomeAnd after (λ left. rest ≡ piece ++ left)) → CutsOff before after old new came
cut_off before after old new piece came fed is = record {
  holds = record { sound = fed.still_sound; no_fault = fed.none; short = fed.short };
  each = subst (AllByRecursion IsFrame) (sym fed.cut.added) fed.cut.each;
  parts = joined before after is;
}
  where
    joined : (before after : Option (List ℕ)) → IfSome before (λ rest. IsSomeAnd after (λ left. rest ≡ piece ++ left))
        → IfSome before (λ rest. IsSomeAnd after (λ left. old.rest ++ rest ≡ stream_octets came ++ (new.rest ++ left)))
    joined None after is = tt
    joined (Some rest) None is = absurd is
    joined (Some rest) (Some left) is =
        ap (λ l. old.rest ++ l) is ∙ sym (append_assoc old.rest piece left) ∙ ap (λ l. l ++ left) fed.cut.parts
        ∙ ap (λ l. (stream_octets l ++ new.rest) ++ left) (sym fed.cut.added) ∙ append_assoc (stream_octets came) new.rest left

-- ---- why a text is refused

-- a stream has one first frames only
frames_prefix : (fs gs : List Frame) (x : List ℕ) → AllByRecursion IsFrame fs → AllByRecursion IsFrame gs → stream_octets fs ++ x ≡ stream_octets gs → (rest : List Frame) × (gs ≡ fs ++ rest)
frames_prefix [] gs x is js e = (gs, refl)
frames_prefix (f ∷ fs) [] x is js e = absurd (not_short f is.0 (stream_octets fs ++ x) (subst IsShort (sym e ∙ append_assoc (frame_octets f) (stream_octets fs) x) (inl (omega arith))))
frames_prefix (f ∷ fs) (g ∷ gs) x is js e =
    let one = one_front f g (stream_octets fs ++ x) (stream_octets gs) is.0 js.0 (sym (append_assoc (frame_octets f) (stream_octets fs) x) ∙ e) in
    let more = frames_prefix fs gs x is.1 js.1 one.1 in
    (more.0, ap₂ (λ h l. h ∷ l) (sym one.0) more.1)

begins_other : (b : BookValue) (frames : List Frame) (text rest : List ℕ) → AllByRecursion IsFrame frames → BeginsOther b frames → text ≡ stream_octets frames ++ rest → IsOfOther b text
begins_other b [] text rest each other is = absurd other
begins_other b (Hello h ∷ frames) text rest each other is = (h, stream_octets frames ++ rest, each.0, is ∙ append_assoc (frame_octets (Hello h)) (stream_octets frames) rest, other)
begins_other b (Have h ∷ frames) text rest each other is = absurd other
begins_other b (Data d ∷ frames) text rest each other is = absurd other
begins_other b (Null n ∷ frames) text rest each other is = absurd other
begins_other b (Bye ∷ frames) text rest each other is = absurd other

-- the file of no book of the replica begins with more frames than with some
no_front_of_more : (b : BookValue) (frames more : List Frame) → IsNoFront b frames → IsNoFront b (frames ++ more)
no_front_of_more b frames more why = λ other ok rest e. why other ok (more ++ rest) (e ∙ append_assoc frames more rest)

pub still_other : (b : BookValue) (frames more : List Frame) (e : Fault KnownCause) → Explains b frames e → Explains b (frames ++ more) e
still_other b frames more Memory h = tt
still_other b frames more (Refused Form) h = no_front_of_more b frames more h
still_other b frames more (Refused Failed) h = tt
still_other b [] more (Refused Topology) h = absurd h
still_other b (Hello x ∷ frames) more (Refused Topology) h = h
still_other b (Have x ∷ frames) more (Refused Topology) h = absurd h
still_other b (Data x ∷ frames) more (Refused Topology) h = absurd h
still_other b (Null x ∷ frames) more (Refused Topology) h = absurd h
still_other b (Bye ∷ frames) more (Refused Topology) h = absurd h

-- a refused frame refuses the text
pub text_explains : (text before after : Option (List ℕ)) (b : BookValue) (expected : Expected) (old mid : ReaderValue) (came : List Frame) (e : Fault KnownCause) → IsReadTo text b expected old before
    → CutsOff before after old mid came → ((told : List Frame) → HasHeard b expected told → Explains b (told ++ came) e) → ExplainsText b text e
text_explains text before after b expected old mid came Memory read cut why = tt
text_explains text before after b expected old mid came (Refused Failed) read cut why = tt
text_explains None before after b expected old mid came (Refused Form) read cut why = tt
text_explains (Some text) None after b expected old mid came (Refused Form) read cut why = absurd read
text_explains (Some text) (Some rest) None b expected old mid came (Refused Form) read cut why = absurd cut.parts
text_explains (Some text) (Some rest) (Some left) b expected old mid came (Refused Form) read cut why = λ other ok e.
    let parts = more_parts text read.frames came (old.rest ++ rest) (mid.rest ++ left) left read.parts cut.parts in
    let front = frames_prefix (read.frames ++ came) (known_frames other) (mid.rest ++ left) (each_of_both read.frames came read.each cut.each) ok.fits (sym parts ∙ e) in
    why read.frames read.heard other ok front.0 front.1
text_explains None before after b expected old mid came (Refused Topology) read cut why = tt
text_explains (Some text) None after b expected old mid came (Refused Topology) read cut why = absurd read
text_explains (Some text) (Some rest) None b expected old mid came (Refused Topology) read cut why = absurd cut.parts
text_explains (Some text) (Some rest) (Some left) b expected old mid came (Refused Topology) read cut why =
    begins_other b (read.frames ++ came) text (mid.rest ++ left) (each_of_both read.frames came read.each cut.each) (why read.frames read.heard)
    (more_parts text read.frames came (old.rest ++ rest) (mid.rest ++ left) left read.parts cut.parts)

-- frames before octets that show a fault are those of no stream of whole frames
no_stream : (fs gs : List Frame) (x left : List ℕ) (e : FrameFault) → AllByRecursion IsFrame fs → AllByRecursion IsFrame gs → fault_shown x ≡ Some e → stream_octets fs ++ (x ++ left) ≡ stream_octets gs → ⊥
no_stream fs gs x left e is js shown same =
    let still = stays x left e shown in
    let one = one_split fs gs (x ++ left) [] is js (inl (e, still)) (inr (refl, inl (omega arith))) (same ∙ sym (append-nil (stream_octets gs))) in
    not_some e (sym (ap fault_shown one.1) ∙ still)

shown_fault : (text before : Option (List ℕ)) (b : BookValue) (expected : Expected) (old new : ReaderValue) (piece : List ℕ) (came : List Frame) (fault : FrameFault)
    → IfSome before (λ xs. StartsWith xs piece) → IsReadTo text b expected old before → FedFault old new piece [] came fault → IfSome text (IsNoFile b)
shown_fault None before b expected old new piece came fault front read fed = tt
shown_fault (Some text) None b expected old new piece came fault front read fed = absurd read
shown_fault (Some text) (Some xs) b expected old new piece came fault front read fed = λ other ok e.
    let left = drop (length piece) xs in
    let whole : xs ≡ piece ++ left = sym (take-append-drop (length piece) xs) ∙ ap (λ l. l ++ left) front in
    let more : old.rest ++ xs ≡ stream_octets fed.cut.frames ++ (fed.rest ++ left) =
    ap (λ l. old.rest ++ l) whole ∙ sym (append_assoc old.rest piece left) ∙ ap (λ l. l ++ left) fed.cut.parts ∙ append_assoc (stream_octets fed.cut.frames) fed.rest left in
    let parts = more_parts text read.frames fed.cut.frames (old.rest ++ xs) (fed.rest ++ left) left read.parts more in
    no_stream (read.frames ++ fed.cut.frames) (known_frames other) fed.rest left fault (each_of_both read.frames fed.cut.frames read.each fed.cut.each) ok.fits fed.shown (sym parts ∙ e)

-- a fault of frames refuses the text
pub frames_fault : (text before : Option (List ℕ)) (b : BookValue) (expected : Expected) (old new : ReaderValue) (piece : List ℕ) (came : List Frame) (fault : FrameFault) → old.failed ≡ false
    → IfSome before (λ xs. StartsWith xs piece) → IsReadTo text b expected old before → Feeds old new piece [] came (Err fault) → ExplainsText b text (frame_fault fault)
frames_fault text before b expected old new piece came LacksMemory sound front read fed = tt
frames_fault text before b expected old new piece came HasFailed sound front read fed = absurd (true≢false (sym fed.was ∙ sound))
frames_fault text before b expected old new piece came BadLength sound front read fed = shown_fault text before b expected old new piece came BadLength front read fed
frames_fault text before b expected old new piece came BadKind sound front read fed = shown_fault text before b expected old new piece came BadKind front read fed
frames_fault text before b expected old new piece came BadBody sound front read fed = shown_fault text before b expected old new piece came BadBody front read fed

-- the file ends within a frame, or too soon
pub ends_too_soon : (text : Option (List ℕ)) (b : BookValue) (expected : Expected) (reader : ReaderValue) → HoldsPart reader → IsReadTo text b expected reader (Some []) → (expected ≡ ExpectsEnd → reader.rest ≡ [] → ⊥)
    → IfSome text (IsNoFile b)
ends_too_soon None b expected reader holds read unlike = tt
ends_too_soon (Some text) b expected reader holds read unlike = λ other ok e.
    let one = one_split read.frames (known_frames other) (reader.rest ++ []) [] read.each ok.fits
    (inr (subst (λ l. (fault_shown l ≡ None) × IsShort l) (sym (append-nil reader.rest)) (holds.no_fault, holds.short))) (inr (refl, inl (omega arith)))
    (sym read.parts ∙ e ∙ sym (append-nil (stream_octets (known_frames other)))) in
    over expected other unlike (sym (append-nil reader.rest) ∙ one.1) (read.heard.follows other ok [] (sym one.0 ∙ sym (append-nil read.frames)))
  where
    over : (expected : Expected) (other : BookValue) → (expected ≡ ExpectsEnd → reader.rest ≡ [] → ⊥) → reader.rest ≡ [] → Continues b other expected [] → ⊥
    over ExpectsHello other unlike none goes = none_heads _ _ (sym goes)
    over (ExpectsChannel c) other unlike none goes = not_over b other c goes
    over ExpectsEnd other unlike none goes = unlike refl none

-- a fault means the same to the book once it learned
of_later : (b later other : BookValue) → later ≡ record b { knows = later.knows } → IsOfReplica b other → IsOfReplica later other
of_later b later other same ok = subst (λ z. IsOfReplica z other) (sym same) (record { topology = ok.topology; partition = ok.partition; replica = ok.replica; knows = ok.knows; fits = ok.fits })

explains_before : (b later : BookValue) (frames : List Frame) (e : Fault KnownCause) → later ≡ record b { knows = later.knows } → Explains later frames e → Explains b frames e
explains_before b later frames Memory same why = tt
explains_before b later frames (Refused Form) same why = λ other ok. why other (of_later b later other same ok)
explains_before b later frames (Refused Failed) same why = tt
explains_before b later frames (Refused Topology) same why = subst (λ z. BeginsOther z frames) same why

pub text_explains_before : (b later : BookValue) (text : Option (List ℕ)) (e : Fault KnownCause) → later ≡ record b { knows = later.knows } → ExplainsText later text e → ExplainsText b text e
text_explains_before b later text Memory same why = tt
text_explains_before b later None (Refused Form) same why = tt
text_explains_before b later (Some text) (Refused Form) same why = λ other ok. why other (of_later b later other same ok)
text_explains_before b later text (Refused Failed) same why = tt
text_explains_before b later None (Refused Topology) same why = tt
text_explains_before b later (Some text) (Refused Topology) same why = subst (λ z. IsOfOther z text) same why

-- why, of the frames up to one of a list, and of all
pub why_all : (b mid : BookValue) (told frames : List Frame) (n : ℕ) (f : Frame) (e : Fault KnownCause) → mid ≡ record b { knows = mid.knows } → frames ≡ take n frames ++ f ∷ drop (suc n) frames
    → Explains mid ((told ++ take n frames) ++ f ∷ []) e → Explains b (told ++ frames) e
why_all b mid told frames n f e same parts why =
    subst (λ l. Explains b l e)
    (append_assoc (told ++ take n frames) (f ∷ []) (drop (suc n) frames) ∙ append_assoc told (take n frames) (f ∷ drop (suc n) frames) ∙ ap (λ l. told ++ l) (sym parts))
    (still_other b ((told ++ take n frames) ++ f ∷ []) (drop (suc n) frames) e (explains_before b mid ((told ++ take n frames) ++ f ∷ []) e same why))

-- what was shown of a reader was taken off it
pub taken_off : (before rested after : Option (List ℕ)) (limit : Option ℕ) (piece : List ℕ) → Keeps before rested → IfSome before (λ _. IfSome limit (λ (n : ℕ). length piece ≤ n))
    → IfSome rested (λ xs. IfSome limit (λ (n : ℕ). length piece ≤ n) → after ≡ Some (drop (length piece) xs)) → IfSome before (λ xs. StartsWith xs piece)
    → IfSome before (λ rest. IsSomeAnd after (λ left. rest ≡ piece ++ left))
taken_off None rested after limit piece kept within drops front = tt
taken_off (Some xs) None after limit piece kept within drops front = absurd kept
taken_off (Some xs) (Some ys) after limit piece kept within drops front =
    subst (λ o. IsSomeAnd o (λ left. xs ≡ piece ++ left)) (sym (drops within))
    (sym (take-append-drop (length piece) xs) ∙ ap₂ (λ l k. l ++ drop (length piece) k) front (sym kept))

-- a list at one of its frames
pub cut_at : (frames : List Frame) (n : ℕ) (f : Frame) → n < length frames → f ≡ get_or frames n f → frames ≡ take n frames ++ f ∷ drop (suc n) frames
cut_at frames n f low is = split_at frames n f low ∙ ap (λ x. take n frames ++ x ∷ drop (suc n) frames) (sym is)

pub not_end : (expected : Expected) → (expected ≡ ExpectsHello) ⊎ ((c : ℕ) × (expected ≡ ExpectsChannel c)) → expected ≡ ExpectsEnd → ⊥
not_end expected (inl is) end = cc
not_end expected (inr (c, is)) end = cc

-- no other knowledge has the file
pub tells_only : (text : Option (List ℕ)) (b : BookValue) (reader : ReaderValue) → HoldsPart reader → IsReadTo text b ExpectsEnd reader (Some []) → IfSome text (TellsOnly b)
tells_only None b reader holds read = tt
tells_only (Some text) b reader holds read = λ other ok e.
    let one = one_split read.frames (known_frames other) (reader.rest ++ []) [] read.each ok.fits
    (inr (subst (λ l. (fault_shown l ≡ None) × IsShort l) (sym (append-nil reader.rest)) (holds.no_fault, holds.short))) (inr (refl, inl (omega arith)))
    (sym read.parts ∙ e ∙ sym (append-nil (stream_octets (known_frames other)))) in
    one_knowledge b other ok (sym read.heard.front ∙ one.0)

digest_of : (g h : HelloFields) → Hello g ≡ Hello h → g.digest ≡ h.digest
digest_of g h e = let is : g ≡ h = cc in ap (λ (x : HelloFields). x.digest) is

-- the file of a book of the replica is not refused
pub not_refused : (b written : BookValue) → IsOfReplica b written → (fault : Fault KnownCause) → ExplainsText b (Some (known_octets written)) fault → (fault ≢ Refused Form) × (fault ≢ Refused Topology)
not_refused b written ok Memory why = ((λ e. cc), (λ e. cc))
not_refused b written ok (Refused Failed) why = ((λ e. cc), (λ e. cc))
not_refused b written ok (Refused Form) why = absurd (why written ok refl)
not_refused b written ok (Refused Topology) (h, rest, fits, is, other) =
    let one = one_front (replica_hello written) (Hello h) (stream_octets (frames_below written (length written.topology.receivers))) rest ok.fits.0 fits is in
    let same : replica_hello b ≡ Hello h = sym (same_hello b written ok) ∙ one.0 in
    absurd (other (sym (digest_of _ h same)))
