-- Trace files that are written side by side.
use Rattle.std.proofs.Common.{◌≡◌, ◌⊎◌, inl, inr, ℕ, ◌==◌, ◌<◌, ◌≤◌, true, false, Bool, Option, Some, None, List, [], ◌∷◌, length, get_or, set, length-set, take, ◌+◌, ◌++◌, slice_get, slice_set, Err, refl, sym, ◌∙◌, ap, subst, arith, length-append}
use Rattle.std.proofs.lemmas.List.{get_or-set_same, get_or-set_other}
use Rattle.std.proofs.lemmas.List.Elements.{All-from_get_or, All-get_or}
use Rattle.std.proofs.lemmas.Option.{slice_get_within, get_or_from_slice_get, slice_get-get_or}
use Rattle.std.proofs.lemmas.Bool.Decides.{nat_tests}
use Rattle.std.specs.Io.KnownBytes.{Appends}
use Rattle.nm_base.specs.Sink.{SinkSeen}
use Rattle.nm_base.proofs.Sinks.{Appends-append}
use Rattle.nm_base.specs.Count.{saturated}
use Rattle.nm_base.specs.declared.record.Record.{Record}
use Rattle.nm_pcap.specs.Format.{record_octets}
use Rattle.nm_pcap.specs.Outcome.{AddedAll, AddedNothing, AddedPart, Adds}
use Rattle.nm_pcap.specs.Writer.{Writer}
use Rattle.nm_pcap.specs.declared.writer.PcapFault.{PcapFault}
use Rattle.nm_pcap.specs.declared.writer.PcapFault.TheVariants.{File, Failed}
use Rattle.nm_pcap.specs.Writing.{written}
use Rattle.nm_files.specs.Files.{AreCounted, FileTook, FilesTook, IsCounted, Took}
use Rattle.nm_files.specs.Outputs.{Files}
use Rattle.nm_files.specs.TraceFile.{written_at}
use Rattle.nm_files.proofs.Made.{appended}
use Rattle.nm_files.proofs.Pieces.{WroteAll-nil}
use Rattle.nm_files.proofs.Records.{one_more, written_at-append, written_elsewhere, written_there}
use Rattle.nm_pcap.proofs.Forms.{written-nil}

-- a record that is not written to its file is written in part, or not at all
pub not_written : {S : Type 0} (seen : S → SinkSeen) (old new : Writer S) (e : PcapFault) (octets : List ℕ) (n : ℕ) → n ≡ new.written → Adds seen old new (Err e) octets
    → AddedPart seen old new octets n ⊎ AddedNothing seen old new × (n ≡ new.written)
not_written seen old new (File m) octets n is w = inl (subst (AddedPart seen old new octets) (w.told ∙ sym is) w)
not_written seen old new Failed octets n is w = inr (w, is)

module _ {S : Type 0} (seen : S → SinkSeen) (r : Record (List ℕ)) where
  -- the record's own file took it
  pub own_took : (old new : Writer S) (n : ℕ) → r.iface ≡ n → AddedAll seen old new (written old.form (record_octets r)) → Took seen (r ∷ []) n old new
  own_took old new n here w =
      let same : (r.iface == n) ≡ true = grind (arith, nat_tests, here) in
      record {
        whole = subst (Appends (seen old.sink).taken (seen new.sink).taken) (sym (written_there old.form n r same)) w.whole;
        no_fault = w.no_fault;
        same_form = w.same_form;
        as_sound = w.still_sound ∙ sym w.sound;
        counted = λ before is. let more = w.count in let all = ap length (written_there old.form n r same) in omega (arith, is, more, all);
      }

  -- another file took nothing of it
  other_took : (n : ℕ) (o : Option (Writer S)) → (r.iface == n) ≡ false → FileTook seen (r ∷ []) n o o
  other_took n None other = tt
  other_took n (Some file) other = record {
    whole = subst (Appends (seen file.sink).taken (seen file.sink).taken) (sym (written_elsewhere file.form n r other)) (WroteAll-nil (seen file.sink)).whole;
    no_fault = refl;
    same_form = refl;
    as_sound = refl;
    counted = λ before is. let none = ap length (written_elsewhere file.form n r other) in omega (arith, is, none);
  }

  same_file : (n : ℕ) (o p : Option (Writer S)) → p ≡ o → (r.iface == n) ≡ false → FileTook seen (r ∷ []) n o p
  same_file n o p same other = subst (FileTook seen (r ∷ []) n o) (sym same) (other_took n o other)

  -- no file is the record's own
  pub none_took : (files : List (Option (Writer S))) → length files ≤ r.iface → FilesTook seen (r ∷ []) files files
  none_took files far = record {
    count = refl;
    each = λ n o p old new.
        let low = slice_get_within files n o old in
        same_file n o p (let e : Some p ≡ Some o = sym new ∙ old in cc) (grind (arith, nat_tests, arith, far, low));
  }

  -- one is
  pub one_took : (files : List (Option (Writer S))) (k : ℕ) (own new : Option (Writer S)) → k ≡ r.iface → k < length files → slice_get files k ≡ Some own
      → FileTook seen (r ∷ []) r.iface own new → FilesTook seen (r ∷ []) files (slice_set files k new)
  one_took files k own new is low there own_did = record {
    count = length-set files k new;
    each = λ n o p old at. pick n o p old at (n == k) refl;
  }
    where
      took : FileTook seen (r ∷ []) k own new
      took = subst (λ m. FileTook seen (r ∷ []) m own new) (sym is) own_did

      pick : (n : ℕ) (o p : Option (Writer S)) → slice_get files n ≡ Some o → slice_get (slice_set files k new) n ≡ Some p → (b : Bool) → (n == k) ≡ b → FileTook seen (r ∷ []) n o p
      pick n o p old at true same =
          let here : n ≡ k = grind (arith, nat_tests, same) in
          let first : get_or (set files k new) k p ≡ p = get_or_from_slice_get (set files k new) k p p (subst (λ m. slice_get (set files k new) m ≡ Some p) here at) in
          let is_new : new ≡ p = sym (get_or-set_same files k new p low) ∙ first in
          let was : Some o ≡ Some own = sym old ∙ ap (slice_get files) here ∙ there in
          let is_own : own ≡ o = cc in
          subst (λ m. FileTook seen (r ∷ []) m o p) (sym here) (subst (λ z. FileTook seen (r ∷ []) k z p) is_own (subst (FileTook seen (r ∷ []) k own) is_new took))
      pick n o p old at false other =
          let away : n ≡ k → ⊥ = λ e. grind (arith, nat_tests, other, e) in
          let first : get_or (set files k new) n p ≡ p = get_or_from_slice_get (set files k new) n p p at in
          let kept : get_or files n p ≡ p = sym (get_or-set_other files k n new p away) ∙ first in
          let was : get_or files n p ≡ o = get_or_from_slice_get files n o p old in
          same_file n o p (sym kept ∙ was) (grind (arith, nat_tests, other, is))

module _ {S : Type 0} (seen : S → SinkSeen) where
  none_yet : (n : ℕ) (o p : Option (Writer S)) → p ≡ o → FileTook seen [] n o p
  none_yet n None p same = subst (FileTook seen [] n None) (sym same) tt
  none_yet n (Some file) p same = subst (FileTook seen [] n (Some file)) (sym same) (record {
    whole = subst (Appends (seen file.sink).taken (seen file.sink).taken) (sym (written-nil file.form)) (WroteAll-nil (seen file.sink)).whole;
    no_fault = refl;
    same_form = refl;
    as_sound = refl;
    counted = λ before is. let none = ap length (written-nil file.form) in omega (arith, is, none);
  })

  -- of no records all files took what is theirs
  pub no_records : (files : List (Option (Writer S))) → FilesTook seen [] files files
  no_records files = record {
    count = refl;
    each = λ n o p old new. none_yet n o p (let e : Some p ≡ Some o = sym new ∙ old in cc);
  }

  file_more : (xs ys : List (Record (List ℕ))) (n : ℕ) (o m p : Option (Writer S)) → FileTook seen xs n o m → FileTook seen ys n m p → FileTook seen (xs ++ ys) n o p
  file_more xs ys n None None None v w = tt
  file_more xs ys n None None (Some p) v w = absurd w
  file_more xs ys n None (Some m) p v w = absurd v
  file_more xs ys n (Some o) None p v w = absurd v
  file_more xs ys n (Some o) (Some m) None v w = absurd w
  file_more xs ys n (Some o) (Some m) (Some p) v w = record {
    whole = subst (Appends (seen o.sink).taken (seen p.sink).taken) (sym (written_at-append o.form n xs ys))
        (Appends-append (seen o.sink).taken (seen m.sink).taken (seen p.sink).taken (written_at o.form n xs) (written_at o.form n ys) v.whole
        (subst (λ f. Appends (seen m.sink).taken (seen p.sink).taken (written_at f n ys)) v.same_form w.whole));
    no_fault = w.no_fault ∙ v.no_fault;
    same_form = w.same_form ∙ v.same_form;
    as_sound = w.as_sound ∙ v.as_sound;
    counted = λ before is.
        let first = written_at o.form n xs in
        let more = subst (λ f. p.written ≡ saturated ((before + length first) + length (written_at f n ys))) v.same_form (w.counted (before + length first) (v.counted before is)) in
        let all = ap length (written_at-append o.form n xs ys) ∙ length-append first (written_at o.form n ys) in
        omega (arith, more, all);
  }

  -- and of more
  pub more_records : (xs ys : List (Record (List ℕ))) (old mid new : List (Option (Writer S))) → FilesTook seen xs old mid → FilesTook seen ys mid new → FilesTook seen (xs ++ ys) old new
  more_records xs ys old mid new v w = record {
    count = w.count ∙ v.count;
    each = λ n o p first last.
        let low = slice_get_within old n o first in
        let same = v.count in
        let at = slice_get-get_or mid n o (omega (arith, low, same)) in
        file_more xs ys n o (get_or mid n o) p (v.each n o (get_or mid n o) first at) (w.each n (get_or mid n o) p at last);
  }

  -- after the first n records one more
  pub next_record : (records : List (Record (List ℕ))) (n : ℕ) (r : Record (List ℕ)) (old mid new : List (Option (Writer S))) → slice_get records n ≡ Some r
      → FilesTook seen (take n records) old mid → FilesTook seen (r ∷ []) mid new → FilesTook seen (take (n + 1) records) old new
  next_record records n r old mid new is v w =
      subst (λ l. FilesTook seen l old new) (sym (one_more records n (n + 1) r is refl)) (more_records (take n records) (r ∷ []) old mid new v w)

-- Files are counted, whatever records they take.
module _ {S : Type 0} (seen : S → SinkSeen) (made : Option Files) where
  file_counted : (records : List (Record (List ℕ))) (n : ℕ) (o p : Option (Writer S)) → FileTook seen records n o p
      → IsCounted seen made o → IsCounted seen made p
  file_counted records n None None took was = tt
  file_counted records n None (Some p) took was = absurd took
  file_counted records n (Some o) None took was = absurd took
  file_counted records n (Some o) (Some p) took (octets, holds) =
      let more = written_at o.form n records in
      let count = took.counted (length octets) holds.counted in
      let all = length-append octets more in (
        octets ++ more,
        record {
          form = took.same_form ∙ holds.form;
          taken = λ first told. appended (seen o.sink).taken (seen p.sink).taken more octets took.whole (holds.taken first told);
          counted = omega (arith, count, all);
        },
      )

  pub files_counted : (records : List (Record (List ℕ))) (old new : List (Option (Writer S))) → FilesTook seen records old new
      → AreCounted seen made old → AreCounted seen made new
  files_counted records old new took was =
      All-from_get_or (IsCounted seen made) new None (λ i low.
      let same = took.count in
      let there : i < length old = omega (arith, low, same) in
      file_counted records i (get_or old i None) (get_or new i None)
      (took.each i (get_or old i None) (get_or new i None) (slice_get-get_or old i None there) (slice_get-get_or new i None low))
      (All-get_or (IsCounted seen made) old i None there was))
