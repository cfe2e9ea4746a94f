-- What is written of records.
use Rattle.std.proofs.Common.{◌≡◌, ℕ, ◌+◌, ◌==◌, true, false, cond, List, [], ◌∷◌, ◌++◌, length, take, drop, flat_map, Some, Result, Err, Ok, slice_get, append-nil, add-one, sym, ◌∙◌, ap, subst, arith}
use Rattle.std.proofs.Math.Seq.{take-suc}
use Rattle.std.proofs.lemmas.Grind.{flat_map-append}
use Rattle.std.proofs.lemmas.List.{take_all, take-append-drop}
use Rattle.std.proofs.lemmas.List.Elements.{filter-append}
use Rattle.std.proofs.lemmas.Option.{slice_get_within, get_or_from_slice_get}
use Rattle.nm_base.specs.Sink.{SinkSeen}
use Rattle.nm_base.specs.declared.record.Record.{Record}
use Rattle.nm_pcap.specs.declared.form.Form.{Form}
use Rattle.nm_pcap.specs.declared.form.Form.TheVariants.{Octets}
use Rattle.nm_pcap.specs.Format.{file_header, record_octets}
use Rattle.nm_pcap.specs.Writer.{Writer}
use Rattle.nm_pcap.specs.Writing.{ending, written}
use Rattle.nm_pcap.proofs.Forms.{written-append, written-nil}
use Rattle.nm_files.specs.TraceFile.{octets_after, records_at, trace_file, written_at}
use Rattle.nm_files.specs.Writing.{TraceFault, WrotePart, WroteOn, WritesOn}
use Rattle.nm_files.proofs.Pieces.{WroteAll-part, WroteOn-nil, WritesOn-after, WritesOn-more}

pub written_at-append : (form : Form) (iface : ℕ) (a b : List (Record (List ℕ))) → written_at form iface (a ++ b) ≡ written_at form iface a ++ written_at form iface b
written_at-append form iface a b =
    ap (λ l. written form (flat_map record_octets l)) (filter-append (λ r. r.iface == iface) a b)
    ∙ ap (written form) (flat_map-append record_octets (records_at iface a) (records_at iface b))
    ∙ written-append form (flat_map record_octets (records_at iface a)) (flat_map record_octets (records_at iface b))

pub written_there : (form : Form) (iface : ℕ) (r : Record (List ℕ)) → (r.iface == iface) ≡ true → written_at form iface (r ∷ []) ≡ written form (record_octets r)
written_there form iface r h =
    ap (λ b. written form (flat_map record_octets (cond b (r ∷ []) []))) h ∙ ap (written form) (append-nil (record_octets r))

pub written_elsewhere : (form : Form) (iface : ℕ) (r : Record (List ℕ)) → (r.iface == iface) ≡ false → written_at form iface (r ∷ []) ≡ []
written_elsewhere form iface r h = ap (λ b. written form (flat_map record_octets (cond b (r ∷ []) []))) h ∙ written-nil form

-- a trace file is its header, its records and what stands at its end
pub file_parts : (form : Form) (iface : ℕ) (records : List (Record (List ℕ))) → trace_file form iface records ≡ (written form file_header ++ written_at form iface records) ++ ending form
file_parts form iface records = ap (λ l. l ++ ending form) (written-append form file_header (flat_map record_octets (records_at iface records)))

-- the trace file of an interface is what stands in it once all records are written as they are
pub whole_file : (n : ℕ) (records : List (Record (List ℕ))) → octets_after n records ≡ trace_file Octets n records
whole_file n records = sym (file_parts Octets n records ∙ append-nil (octets_after n records))

-- one more record of a list
pub one_more : (records : List (Record (List ℕ))) (n m : ℕ) (r : Record (List ℕ)) → slice_get records n ≡ Some r → m ≡ n + 1 → take m records ≡ take n records ++ r ∷ []
one_more records n m r is next =
    ap (λ k. take k records) (next ∙ add-one n) ∙ take-suc records n r (slice_get_within records n r is)
    ∙ ap (λ x. take n records ++ x ∷ []) (get_or_from_slice_get records n r r is)

-- Of a list of records some are written: which they are is told of each piece alone.
module _ (pick : List (Record (List ℕ)) → List (Record (List ℕ))) (none : pick [] ≡ []) (both : (a b : List (Record (List ℕ))) → pick (a ++ b) ≡ pick a ++ pick b) where
  picked_both : (form : Form) (iface : ℕ) (a b : List (Record (List ℕ))) → written_at form iface (pick (a ++ b)) ≡ written_at form iface (pick a) ++ written_at form iface (pick b)
  picked_both form iface a b = ap (written_at form iface) (both a b) ∙ written_at-append form iface (pick a) (pick b)

  -- a list is its first so many, and the others
  parts_at : (form : Form) (iface : ℕ) (records : List (Record (List ℕ))) (n : ℕ)
      → written_at form iface (pick records) ≡ written_at form iface (pick (take n records)) ++ written_at form iface (pick (drop n records))
  parts_at form iface records n = ap (λ l. written_at form iface (pick l)) (sym (take-append-drop n records)) ∙ picked_both form iface (take n records) (drop n records)

  module _ {S : Type 0} (seen : S → SinkSeen) (iface : ℕ) (records : List (Record (List ℕ))) where
    -- no record was written so far
    pub no_record : (old : Writer S) (n : ℕ) → n ≡ 0 → old.failed ≡ false → WroteOn seen old old (written_at old.form iface (pick (take n records)))
    no_record old n zero sound =
        subst (WroteOn seen old old)
        (sym (ap (λ k. written_at old.form iface (pick (take k records))) zero ∙ ap (written_at old.form iface) none ∙ written-nil old.form)) (WroteOn-nil seen old sound)

    -- after the first n records some more were dealt with, whatever came of it
    after_records : (old mid new : Writer S) (outcome : Result Unit TraceFault) (n m : ℕ) (some : List (Record (List ℕ))) → take m records ≡ take n records ++ some
        → WroteOn seen old mid (written_at old.form iface (pick (take n records))) → WritesOn seen mid new outcome (written_at mid.form iface (pick some))
        → WritesOn seen old new outcome (written_at old.form iface (pick (take m records)))
    after_records old mid new outcome n m some next v w =
        subst (WritesOn seen old new outcome)
        (sym (ap (λ l. written_at old.form iface (pick l)) next ∙ picked_both old.form iface (take n records) some))
        (WritesOn-after seen old mid new outcome (written_at old.form iface (pick (take n records))) (written_at old.form iface (pick some)) v
        (subst (λ f. WritesOn seen mid new outcome (written_at f iface (pick some))) v.same_form w))

    pub next_records : (old mid new : Writer S) (n m : ℕ) (some : List (Record (List ℕ))) → take m records ≡ take n records ++ some
        → WroteOn seen old mid (written_at old.form iface (pick (take n records))) → WroteOn seen mid new (written_at mid.form iface (pick some))
        → WroteOn seen old new (written_at old.form iface (pick (take m records)))
    next_records old mid new n m some next v w = after_records old mid new (Ok tt) n m some next v w

    pub last_records : (old mid new : Writer S) (e : TraceFault) (n m : ℕ) (some : List (Record (List ℕ))) → take m records ≡ take n records ++ some
        → WroteOn seen old mid (written_at old.form iface (pick (take n records))) → WritesOn seen mid new (Err e) (written_at mid.form iface (pick some))
        → WritesOn seen old new (Err e) (written_at old.form iface (pick records))
    last_records old mid new e n m some next v w =
        subst (WritesOn seen old new (Err e)) (sym (parts_at old.form iface records m))
        (WritesOn-more seen old new e _ _ (after_records old mid new (Err e) n m some next v w))

    -- the records are all, or they are some
    pub all_records : (old new : Writer S) (n : ℕ) → n ≡ length records → WroteOn seen old new (written_at old.form iface (pick (take n records)))
        → WroteOn seen old new (written_at old.form iface (pick records))
    all_records old new n all w = subst (λ l. WroteOn seen old new (written_at old.form iface (pick l))) (take_all n records (omega (arith, all))) w

    pub some_records : (old new : Writer S) (n : ℕ) → WroteOn seen old new (written_at old.form iface (pick (take n records)))
        → WrotePart (seen old.sink) (seen new.sink) (written_at old.form iface (pick records))
    some_records old new n w =
        subst (WrotePart (seen old.sink) (seen new.sink)) (sym (parts_at old.form iface records n))
        (WroteAll-part (seen old.sink) (seen new.sink) (written_at old.form iface (pick (take n records))) (written_at old.form iface (pick (drop n records))) w.all)

module _ {S : Type 0} (seen : S → SinkSeen) (iface : ℕ) (records : List (Record (List ℕ))) where
  -- the file is cut short in its header, or in its records, or it is written as far as its end
  pub cut_in_header : (old new : Writer S) (e : TraceFault) → WritesOn seen old new (Err e) (written old.form file_header) → WritesOn seen old new (Err e) (trace_file old.form iface records)
  cut_in_header old new e w =
      subst (WritesOn seen old new (Err e)) (sym (file_parts old.form iface records))
      (WritesOn-more seen old new e _ (ending old.form) (WritesOn-more seen old new e (written old.form file_header) (written_at old.form iface records) w))

  pub after_header : (old mid new : Writer S) (outcome : Result Unit TraceFault) → WroteOn seen old mid (written old.form file_header) → WritesOn seen mid new outcome (written_at mid.form iface records)
      → WritesOn seen old new outcome (written old.form file_header ++ written_at old.form iface records)
  after_header old mid new outcome v w =
      WritesOn-after seen old mid new outcome (written old.form file_header) (written_at old.form iface records) v
      (subst (λ f. WritesOn seen mid new outcome (written_at f iface records)) v.same_form w)

  pub cut_in_records : (old mid new : Writer S) (e : TraceFault) → WroteOn seen old mid (written old.form file_header) → WritesOn seen mid new (Err e) (written_at mid.form iface records)
      → WritesOn seen old new (Err e) (trace_file old.form iface records)
  cut_in_records old mid new e v w =
      subst (WritesOn seen old new (Err e)) (sym (file_parts old.form iface records))
      (WritesOn-more seen old new e _ (ending old.form) (after_header old mid new (Err e) v w))

  pub to_the_end : (old mid late new : Writer S) (outcome : Result Unit TraceFault) → WroteOn seen old mid (written old.form file_header) → WroteOn seen mid late (written_at mid.form iface records)
      → WritesOn seen late new outcome (ending late.form) → WritesOn seen old new outcome (trace_file old.form iface records)
  to_the_end old mid late new outcome v w x =
      subst (WritesOn seen old new outcome) (sym (file_parts old.form iface records))
      (WritesOn-after seen old late new outcome (written old.form file_header ++ written_at old.form iface records) (ending old.form)
      (after_header old mid late (Ok tt) v w)
      (subst (λ f. WritesOn seen late new outcome (ending f)) (w.same_form ∙ v.same_form) x))
