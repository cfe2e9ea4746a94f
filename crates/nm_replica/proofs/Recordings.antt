-- Records that a replica hands out, and the trace files to which they go.
use Rattle.std.proofs.Common.{◌≡◌, inl, inr, ℕ, ◌+◌, ◌≤◌, Bool, true, All, List, [], ◌∷◌, ◌++◌, flat_map, length, take, drop, slice_get, Option, Some, is_some, Result, Ok, Err, IfErr, if◌then◌else◌, length-drop, refl, sym, ◌∙◌, ap, subst, arith, append-nil}
use Rattle.std.proofs.lemmas.Grind.{flat_map-append}
use Rattle.std.proofs.lemmas.List.{append_assoc, get_or-drop, length-append}
use Rattle.std.proofs.lemmas.List.Elements.{All-append, All-cons, All-drop, All-take}
use Rattle.std.proofs.lemmas.Option.{slice_get_within, get_or_from_slice_get, slice_get-get_or}
use Rattle.nm_base.specs.Count.{saturated}
use Rattle.nm_base.specs.Sink.{SinkSeen}
use Rattle.nm_base.specs.declared.limits.TheConstants.{MAX_TIME}
use Rattle.nm_base.specs.declared.record.Record.{Record}
use Rattle.nm_pcap.specs.Writer.{Writer}
use Rattle.nm_files.proofs.Files.{more_records, no_records}
use Rattle.nm_files.proofs.Records.{one_more}
use Rattle.nm_book.specs.Book.{BookValue, state_of}
use Rattle.nm_shared.specs.Home.{Home, home_of}
use Rattle.nm_files.specs.Files.{FailedAt}
use Rattle.nm_files.specs.declared.trace_files.FileFault.{FileFault}
use Rattle.nm_replica.specs.Recording.{AreHandedOut, HandsOut, Streamed, Streams, TakesOut, Wrote, WroteAsCounted, out_of}

pub none_out : (b : BookValue) (room : List (Record (List ℕ))) → TakesOut b room b room
none_out b room =
    let e : b.handed ≡ b.handed + 0 = omega arith in
    let same : b ≡ record b { handed = b.handed + 0 } = ap {A = ℕ} (λ z. record b { handed = z }) e in
    (0, same, sym (append-nil room))

at_drop : {X : Type 0} (xs : List X) (h n : ℕ) (x : X) → slice_get xs (h + n) ≡ Some x → slice_get (drop h xs) n ≡ Some x
at_drop xs h n x is =
    let low = slice_get_within xs (h + n) x is in
    let long = length-drop h xs in
    slice_get-get_or (drop h xs) n x (omega (arith, low, long)) ∙ ap (λ z. Some z) (get_or-drop h xs n x ∙ get_or_from_slice_get xs (h + n) x x is)

-- after some records one more
pub one_out : (b mid c : BookValue) (room some more : List (Record (List ℕ))) (o : Option (Record (List ℕ))) (r : Record (List ℕ)) → TakesOut b room mid some
    → o ≡ slice_get (state_of mid).records mid.handed → o ≡ Some r → c ≡ record mid { handed = mid.handed + (if is_some o then 1 else 0) } → more ≡ some ++ r ∷ []
    → TakesOut b room c more
one_out b mid c room some more o r took is there next last =
    let n = took.0 in
    let records = (state_of b).records in
    let at : slice_get records (b.handed + n) ≡ Some r = sym (ap {A = BookValue} (λ z. slice_get (state_of z).records z.handed) took.1) ∙ sym is ∙ there in
    let one : (if is_some o then 1 else 0) ≡ 1 = ap {A = Option (Record (List ℕ))} (λ z. if is_some z then 1 else 0) there in
    let step : c ≡ record mid { handed = mid.handed + 1 } = next ∙ ap {A = ℕ} (λ z. record mid { handed = mid.handed + z }) one in
    let base : record mid { handed = mid.handed + 1 } ≡ record b { handed = (b.handed + n) + 1 } = ap {A = BookValue} (λ z. record z { handed = z.handed + 1 }) took.1 in
    let count : (b.handed + n) + 1 ≡ b.handed + (n + 1) = omega arith in
    let moved : record b { handed = (b.handed + n) + 1 } ≡ record b { handed = b.handed + (n + 1) } = ap {A = ℕ} (λ z. record b { handed = z }) count in
    let text : more ≡ room ++ take (n + 1) (drop b.handed records) =
    last ∙ ap {A = List (Record (List ℕ))} (λ z. z ++ r ∷ []) took.2 ∙ append_assoc room (take n (drop b.handed records)) (r ∷ [])
    ∙ ap {A = List (Record (List ℕ))} (λ z. room ++ z) (sym (one_more (drop b.handed records) n (n + 1) r (at_drop records b.handed n r at) refl)) in
    (n + 1, step ∙ base ∙ moved, text)

pub handed_times : (b c : BookValue) (room given : List (Record (List ℕ))) (cap : ℕ) → room ≡ [] → HandsOut b room cap c given → All (λ r. r.time ≤ MAX_TIME) given
handed_times b c room given cap none hands =
    let n = hands.takes.0 in
    let records = (state_of b).records in
    subst (All (λ r. r.time ≤ MAX_TIME)) (sym (hands.takes.2 ∙ ap (λ z. z ++ take n (drop b.handed records)) none))
    (All-take (λ r. r.time ≤ MAX_TIME) n (drop b.handed records) (All-drop (λ r. r.time ≤ MAX_TIME) b.handed records hands.times))

module _ (exact : Bool) (own : Home) where
  -- what came into an empty list is a hand-out
  pub handed_out : (b c : BookValue) (room given : List (Record (List ℕ))) → room ≡ [] → (exact ≡ true → home_of b ≡ own) → TakesOut b room c given
      → AreHandedOut exact own given
  handed_out b c room given none home takes =
      let n = takes.0 in
      let out = out_of (b, n) in (
        (b, n) ∷ [],
        All-cons (λ out'. exact ≡ true → home_of out'.0 ≡ own) (b, n) [] home (λ k d low. absurd (omega (arith, low))),
        takes.2 ∙ ap (λ z. z ++ out) none ∙ sym (append-nil out),
      )

  handed_more : (xs ys : List (Record (List ℕ))) → AreHandedOut exact own xs → AreHandedOut exact own ys → AreHandedOut exact own (xs ++ ys)
  handed_more xs ys v w = (
    v.0 ++ w.0,
    All-append (λ out. exact ≡ true → home_of out.0 ≡ own) v.0 w.0 v.1 w.1,
    ap (λ z. z ++ ys) v.2 ∙ ap (λ z. flat_map out_of v.0 ++ z) w.2 ∙ sym (flat_map-append out_of v.0 w.0),
  )

  module _ {S : Type 0} (seen : S → SinkSeen) where
    pub streams_none : (files : List (Option (Writer S))) → Streams seen exact own files files
    streams_none files =
        (0, record { records = []; count = refl; handed = ([], (λ k d low. absurd (omega (arith, low))), refl); took = no_records seen files })

    pub streams_more : (old mid new : List (Option (Writer S))) → Streams seen exact own old mid → Streams seen exact own mid new
        → Streams seen exact own old new
    streams_more old mid new v w =
        let a = v.1 in
        let b = w.1 in (
          length (a.records ++ b.records),
          record {
            records = a.records ++ b.records;
            count = refl;
            handed = handed_more a.records b.records a.handed b.handed;
            took = more_records seen a.records b.records old mid new a.took b.took;
          },
        )

    pub counted_none : (files : List (Option (Writer S))) → WroteAsCounted seen exact own 0 files files
    counted_none files =
        (0, omega arith, record { records = []; count = refl; handed = ([], (λ k d low. absurd (omega (arith, low))), refl); took = no_records seen files })

    -- so many more
    pub counted_more : (old mid new : List (Option (Writer S))) (before more all : ℕ) → WroteAsCounted seen exact own before old mid → Wrote seen exact own more mid new
        → all ≡ saturated (before + more) → WroteAsCounted seen exact own all old new
    counted_more old mid new before more all v b is =
        let a = v.2 in
        let n = length-append a.records b.records in
        let m = a.count in
        let k = b.count in
        let w = v.1 in (
          length (a.records ++ b.records),
          omega (arith, n, m, k, w, is),
          record {
            records = a.records ++ b.records;
            count = refl;
            handed = handed_more a.records b.records a.handed b.handed;
            took = more_records seen a.records b.records old mid new a.took b.took;
          },
        )

    -- all that was handed out is the most that there may be
    pub streamed_all : (old new : List (Option (Writer S))) → Streams seen exact own old new → Streamed seen exact own old new
    streamed_all old new all = (new, all, inl refl)

    pub streamed_none : (files : List (Option (Writer S))) → Streamed seen exact own files files
    streamed_none files = streamed_all files files (streams_none files)

    -- a file failed at the first hand-out
    pub streamed_failed : (old new : List (Option (Writer S))) (records : List (Record (List ℕ))) (fault : FileFault) → AreHandedOut exact own records
        → FailedAt seen records old new fault → Streamed seen exact own old new
    streamed_failed old new records fault handed failed = (old, streams_none old, inr (records, fault, handed, failed))

    pub streamed_more : (old mid new : List (Option (Writer S))) → Streams seen exact own old mid → Streamed seen exact own mid new
        → Streamed seen exact own old new
    streamed_more old mid new v w = (w.0, streams_more old mid w.0 v w.1, w.2)

-- what holds anyway holds where there is an error
pub on_error : {V E : Type 0} {K : Type 0} (r : Result V E) → K → IfErr r (λ _. K)
on_error (Ok v) k = tt
on_error (Err e) k = k

-- or of some errors alone
pub on_such_error : {V E : Type 0} (P : E → Type 0) {K : Type 0} (r : Result V E) → K → IfErr r (λ e. P e → K)
on_such_error P (Ok v) k = tt
on_such_error P (Err e) k = λ _. k
