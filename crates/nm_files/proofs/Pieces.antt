-- Octets that are written in pieces.
use Rattle.std.proofs.Common.{◌≡◌, ℕ, ◌+◌, take, length, List, [], ◌++◌, true, false, Option, Some, None, Result, Ok, Err, refl, sym, ◌∙◌, ap, subst, arith, length-append, append-nil}
use Rattle.std.proofs.Math.Seq.{take-append-add}
use Rattle.std.proofs.lemmas.List.{take-append-le, take_all}
use Rattle.std.specs.Io.KnownBytes.{Appends}
use Rattle.nm_base.specs.Sink.{SinkSeen, WroteAll, WrotePrefix}
use Rattle.nm_base.proofs.Sinks.{Appends-append}
use Rattle.nm_pcap.specs.declared.writer.PcapFault.{PcapFault}
use Rattle.nm_pcap.specs.declared.writer.PcapFault.TheVariants.{File, Failed}
use Rattle.nm_pcap.specs.Outcome.{Adds}
use Rattle.nm_pcap.specs.Writer.{Writer}
use Rattle.nm_base.specs.declared.fault.Fault.TheVariants.{Refused, Memory}
use Rattle.nm_files.specs.Writing.{TraceFault, WrotePart, Writes, WroteOn, WritesOn, sink_outcome}

pub WroteAll-nil : (s : SinkSeen) → WroteAll s s []
WroteAll-nil s = record { whole = nothing s.taken; no_fault = refl }
  where
    nothing : (o : Option (List ℕ)) → Appends o o []
    nothing None = tt
    nothing (Some l) = sym (append-nil l)

-- the first piece was taken whole
WroteAll-append : (old mid new : SinkSeen) (a b : List ℕ) → WroteAll old mid a → WroteAll mid new b → WroteAll old new (a ++ b)
WroteAll-append old mid new a b v w = record {
  whole = Appends-append old.taken mid.taken new.taken a b v.whole w.whole;
  no_fault = w.no_fault ∙ v.no_fault;
}

WrotePrefix-after : (old mid new : SinkSeen) (a b : List ℕ) → WroteAll old mid a → WrotePrefix mid new b → WrotePrefix old new (a ++ b)
WrotePrefix-after old mid new a b v w = record {
  part = length a + w.part;
  short = let h = w.short in let l = length-append a b in omega (arith, h, l);
  front = subst (λ l. Appends old.taken new.taken l) (sym (take-append-add a b w.part)) (Appends-append old.taken mid.taken new.taken a (take w.part b) v.whole w.front);
  fault = w.fault ∙ ap (λ n. n + 1) v.no_fault;
}

WrotePart-after : (old mid new : SinkSeen) (a b : List ℕ) → WroteAll old mid a → WrotePart mid new b → WrotePart old new (a ++ b)
WrotePart-after old mid new a b v w = record {
  part = length a + w.part;
  within = let h = w.within in let l = length-append a b in omega (arith, h, l);
  front = subst (λ l. Appends old.taken new.taken l) (sym (take-append-add a b w.part)) (Appends-append old.taken mid.taken new.taken a (take w.part b) v.whole w.front);
  no_fault = w.no_fault ∙ v.no_fault;
}

-- a piece that was taken whole is the front of more
pub WroteAll-part : (old new : SinkSeen) (a b : List ℕ) → WroteAll old new a → WrotePart old new (a ++ b)
WroteAll-part old new a b w = record {
  part = length a;
  within = let l = length-append a b in omega (arith, l);
  front = subst (λ l. Appends old.taken new.taken l) (sym (take-append-le (length a) a b (omega arith) ∙ take_all (length a) a (omega arith))) w.whole;
  no_fault = w.no_fault;
}

-- what was not written whole is the front of more
pub Writes-more : (old new : SinkSeen) (e : TraceFault) (a b : List ℕ) → Writes old new (Err e) a → Writes old new (Err e) (a ++ b)
Writes-more old new (Refused _) a b w = record {
  part = w.part;
  short = let h = w.short in let l = length-append a b in omega (arith, h, l);
  front = subst (λ l. Appends old.taken new.taken l) (sym (take-append-le w.part a b (let h = w.short in omega (arith, h)))) w.front;
  fault = w.fault;
}
Writes-more old new Memory a b w = record {
  part = w.part;
  within = let h = w.within in let l = length-append a b in omega (arith, h, l);
  front = subst (λ l. Appends old.taken new.taken l) (sym (take-append-le w.part a b (let h = w.within in omega (arith, h)))) w.front;
  no_fault = w.no_fault;
}

module _ {S : Type 0} (seen : S → SinkSeen) where
  -- the sink's part of what was done in a file
  pub Writes-of : (old new : Writer S) (r : Result Unit TraceFault) (a : List ℕ) → WritesOn seen old new r a → Writes (seen old.sink) (seen new.sink) r a
  Writes-of old new (Ok _) a w = w.all
  Writes-of old new (Err (Refused _)) a w = w
  Writes-of old new (Err Memory) a w = w

  pub WritesOn-more : (old new : Writer S) (e : TraceFault) (a b : List ℕ) → WritesOn seen old new (Err e) a → WritesOn seen old new (Err e) (a ++ b)
  WritesOn-more old new (Refused r) a b w = Writes-more (seen old.sink) (seen new.sink) (Refused r) a b w
  WritesOn-more old new Memory a b w = Writes-more (seen old.sink) (seen new.sink) Memory a b w

  pub WritesOn-after : (old mid new : Writer S) (r : Result Unit TraceFault) (a b : List ℕ) → WroteOn seen old mid a → WritesOn seen mid new r b → WritesOn seen old new r (a ++ b)
  WritesOn-after old mid new (Ok _) a b v w = record {
    all = WroteAll-append (seen old.sink) (seen mid.sink) (seen new.sink) a b v.all w.all;
    sound = w.sound;
    same_form = w.same_form ∙ v.same_form;
  }
  WritesOn-after old mid new (Err (Refused _)) a b v w = WrotePrefix-after (seen old.sink) (seen mid.sink) (seen new.sink) a b v.all w
  WritesOn-after old mid new (Err Memory) a b v w = WrotePart-after (seen old.sink) (seen mid.sink) (seen new.sink) a b v.all w

  -- what the writer of trace files did
  put_on : (old new : Writer S) (r : Result Unit PcapFault) (a : List ℕ) → old.failed ≡ false → Adds seen old new r a → WritesOn seen old new (sink_outcome r) a
  put_on old new (Ok _) a sound w = record {
    all = record { whole = w.whole; no_fault = w.no_fault };
    sound = w.still_sound;
    same_form = w.same_form;
  }
  put_on old new (Err (File n)) a sound w = record { part = w.part; short = w.short; front = w.front; fault = w.fault }
  put_on old new (Err Failed) a sound w = absurd (let e : false ≡ true = sym sound ∙ w.over in cc)

  pub WritesOn-put : (old new : Writer S) (r : Result Unit PcapFault) (outcome : Result Unit TraceFault) (a : List ℕ) → outcome ≡ sink_outcome r → old.failed ≡ false → Adds seen old new r a → WritesOn seen old new outcome a
  WritesOn-put old new r outcome a is sound w = subst (λ o. WritesOn seen old new o a) (sym is) (put_on old new r a sound w)

  -- nothing written is nothing done
  pub WroteOn-nil : (w : Writer S) → w.failed ≡ false → WroteOn seen w w []
  WroteOn-nil w sound = record { all = WroteAll-nil (seen w.sink); sound = sound; same_form = refl }
