-- What is prepared where no error is withheld.
use Rattle.std.proofs.Common.{◌≡◌, ℕ, List, [], ◌∷◌, false, cond, None, sym, ap, ◌∙◌}
use Rattle.nm_packet.specs.declared.icmp.MessageKind.{MessageKind}
use Rattle.nm_packet.specs.Ipv4.{fields_of, quote_of}
use Rattle.nm_topology.specs.PartValues.{IfaceValue}
use Rattle.nm_forward.specs.declared.counter.Counter.TheVariants.{Quiet}
use Rattle.nm_forward.specs.State.{NodeConfiguration}
use Rattle.nm_forward.specs.Originate.{Consequence, Counts, Message, Draft, originate, is_quiet, error_about, error_of}

-- an error of these parts
abbrev error_from : MessageKind → ℕ → List ℕ → Draft
error_from kind source quoted = record {
  source = None;
  destination = source;
  time_to_live = 64;
  body = Message kind (0 ∷ 0 ∷ 0 ∷ 0 ∷ []) quoted;
}

module _ (ifaces : List IfaceValue) (table : NodeConfiguration) (identification : ℕ) (p : List ℕ)
    (kind : MessageKind) where
  -- an error that is not withheld, of parts that are those of the definition
  pub error_of-loud : (source : ℕ) (quoted : List ℕ) → is_quiet p ≡ false
      → source ≡ (fields_of p).source → quoted ≡ quote_of p
      → originate ifaces table identification (error_from kind source quoted)
      ≡ error_of ifaces table identification p kind
  unfolding error_of
  error_of-loud source quoted loud from q =
      let sent : Consequence =
      originate ifaces table identification (error_about p kind) in
      (λ i. originate ifaces table identification (error_from kind (from i) (q i)))
      ∙ sym (ap (λ b. cond b (Counts Quiet) sent) loud)
