-- What a file holds after any calls.
use Rattle.std.proofs.Common.{◌≡◌, ℕ, List, [], ◌∷◌, ◌++◌, map, take, drop, true, false, Option, Some, None, Result, Ok, Err, refl, sym, ◌∙◌, ap, subst, append_assoc, append-nil}
use Rattle.std.specs.List.{flat_map}
use Rattle.std.specs.Io.KnownBytes.{Appends}
use Rattle.std.proofs.lemmas.Grind.{flat_map-append}
use Rattle.std.proofs.lemmas.List.{take-append-drop}
use Rattle.nm_base.specs.Sink.{SinkSeen}
use Rattle.nm_base.proofs.Sinks.{Appends-append}
use Rattle.nm_base.specs.declared.record.Record.{Record}
use Rattle.nm_pcap.specs.declared.writer.PcapFault.{PcapFault}
use Rattle.nm_pcap.specs.declared.writer.PcapFault.TheVariants.{File, Failed}
use Rattle.nm_pcap.specs.Format.{file_header, record_octets, pcap}
use Rattle.nm_pcap.specs.Writer.{Writer}
use Rattle.nm_pcap.specs.Writing.{written}
use Rattle.nm_pcap.specs.declared.form.Form.{Form}
use Rattle.nm_pcap.proofs.Forms.{written-append, written-nil}
use Rattle.nm_pcap.proofs.Outcomes.{Adds-form}
use Rattle.nm_pcap.specs.Outcome.{Adds, HoldsPrefix, Puts}

-- one more element adds its list at the end
pub flat_map-push : {X : Type 0} (h : List ℕ) (f : X → List ℕ) (xs : List X) (x : X) → h ++ flat_map f (xs ++ x ∷ []) ≡ (h ++ flat_map f xs) ++ f x
flat_map-push h f xs x =
    ap (λ l. h ++ l) (flat_map-append f xs (x ∷ []) ∙ ap (λ l. flat_map f xs ++ l) (append-nil (f x)))
    ∙ sym (append_assoc h (flat_map f xs) (f x))

module _ {W : Type 0} (seen : W → SinkSeen) where
  Keeps-nothing : (o : Option (List ℕ)) → Appends o o []
  Keeps-nothing None = tt
  Keeps-nothing (Some l) = sym (append-nil l)

  HoldsPrefix-none : (fresh : Writer W) → HoldsPrefix seen fresh fresh []
  HoldsPrefix-none fresh = record { front = []; rest = []; parts = refl; held = Keeps-nothing (seen fresh.sink).taken; all = λ _. refl }

  -- one more call
  HoldsPrefix-write : (fresh old new : Writer W) (r : Result Unit PcapFault) (a b : List ℕ) → HoldsPrefix seen fresh old a → Adds seen old new r b → HoldsPrefix seen fresh new (a ++ b)
  HoldsPrefix-write fresh old new (Ok _) a b h w =
      let whole : h.front ≡ a = sym (append-nil h.front) ∙ ap (λ l. h.front ++ l) (sym (h.all w.sound)) ∙ h.parts in
      record {
        front = a ++ b;
        rest = [];
        parts = append-nil (a ++ b);
        held = Appends-append (seen fresh.sink).taken (seen old.sink).taken (seen new.sink).taken a b (subst (Appends (seen fresh.sink).taken (seen old.sink).taken) whole h.held) w.whole;
        all = λ _. refl;
      }
  HoldsPrefix-write fresh old new (Err (File n)) a b h w =
      let whole : h.front ≡ a = sym (append-nil h.front) ∙ ap (λ l. h.front ++ l) (sym (h.all w.sound)) ∙ h.parts in
      record {
        front = a ++ take w.part b;
        rest = drop w.part b;
        parts = append_assoc a (take w.part b) (drop w.part b) ∙ ap (λ l. a ++ l) (take-append-drop w.part b);
        held = Appends-append (seen fresh.sink).taken (seen old.sink).taken (seen new.sink).taken a (take w.part b) (subst (Appends (seen fresh.sink).taken (seen old.sink).taken) whole h.held) w.front;
        all = λ sound. let e : true ≡ false = sym w.over ∙ sound in cc;
      }
  HoldsPrefix-write fresh old new (Err Failed) a b h w = record {
    front = h.front;
    rest = h.rest ++ b;
    parts = sym (append_assoc h.front h.rest b) ∙ ap (λ l. l ++ b) h.parts;
    held = subst (λ (x : Writer W). Appends (seen fresh.sink).taken (seen x.sink).taken h.front) (sym w.same) h.held;
    all = λ sound. let e : true ≡ false = sym w.over ∙ ap (λ (x : Writer W). x.failed) (sym w.same) ∙ sound in cc;
  }

  -- any calls
  HoldsPrefix-puts : (form : Form) (fresh old new : Writer W) (ps : List (Record (List ℕ) × Result Unit PcapFault)) (a : List ℕ) → old.form ≡ form → HoldsPrefix seen fresh old a → Puts seen old ps new → HoldsPrefix seen fresh new (a ++ written form (flat_map record_octets (map (λ p. p.0) ps)))
  HoldsPrefix-puts form fresh old new [] a same h put =
      subst (λ (x : Writer W). HoldsPrefix seen fresh x (a ++ written form [])) (sym put)
      (subst (λ l. HoldsPrefix seen fresh old l) (sym (ap (λ l. a ++ l) (written-nil form) ∙ append-nil a)) h)
  HoldsPrefix-puts form fresh old new (p ∷ ps) a same h put =
      let rest = flat_map record_octets (map (λ q. q.0) ps) in
      subst (λ l. HoldsPrefix seen fresh new l)
      (append_assoc a (written form (record_octets p.0)) (written form rest) ∙ ap (λ l. a ++ l) (sym (written-append form (record_octets p.0) rest)))
      (HoldsPrefix-puts form fresh put.0 new ps (a ++ written form (record_octets p.0)) (Adds-form seen old put.0 p.1 _ put.1 ∙ same)
      (HoldsPrefix-write fresh old put.0 p.1 a (written form (record_octets p.0)) h (subst (λ f. Adds seen old put.0 p.1 (written f (record_octets p.0))) same put.1)) put.2)

  pub file_front : (fresh started new : Writer W) (first : Result Unit PcapFault) (ps : List (Record (List ℕ) × Result Unit PcapFault)) → Adds seen fresh started first (written fresh.form file_header) → Puts seen started ps new → HoldsPrefix seen fresh new (written fresh.form (pcap (map (λ p. p.0) ps)))
  file_front fresh started new first ps begun put =
      subst (λ l. HoldsPrefix seen fresh new l) (sym (written-append fresh.form file_header (flat_map record_octets (map (λ q. q.0) ps))))
      (HoldsPrefix-puts fresh.form fresh started new ps (written fresh.form file_header) (Adds-form seen fresh started first _ begun) (HoldsPrefix-write fresh fresh started first [] (written fresh.form file_header) (HoldsPrefix-none fresh) begun) put)
