-- Texts of format 1 say the same in format 2.
use Rattle.std.proofs.Common.{◌≡◌, ℕ, ◌≤◌, Bool, true, false, ◌&&◌, ◌||◌, if◌then◌else◌, List, []}
use Rattle.std.proofs.Common.{◌∷◌, map, length, pos, Option, Some, None, is_none, Result, Ok, Err}
use Rattle.std.proofs.Common.{refl, sym, ap, ◌∙◌, arith}
use Rattle.std.specs.Prelude.{codes, nat_le}
use Rattle.std.specs.Cmp.Lexicographic.{slice_cmp}
use Rattle.std.specs.Ordering.{nat_cmp, is_eq, match_ordering}
use Rattle.std.specs.Str.{bytes_eq}
use Rattle.std.specs.List.{list_any}
use Rattle.std.specs.declared.cmp.Ordering.{Ordering}
use Rattle.std.specs.declared.cmp.Ordering.TheVariants.{Less, Equal, Greater}
use Rattle.std.proofs.lemmas.Bool.Decides.{nat_tests}
use Rattle.std.proofs.lemmas.Map.Lookups.{exact_bytes}
use Rattle.std.proofs.lemmas.Map.Text.{is_eq-slice_cmp}
use Rattle.sha2.specs.Sha256.{sha256}
use Rattle.toml.specs.Data.{Data, integer, array, table, Items, no_items, item, Members, no_members}
use Rattle.toml.specs.Data.{member, get_member}
use Rattle.nm_base.specs.declared.limits.TheConstants.{MAX_TEXT_OCTETS}
use Rattle.nm_topology.specs.declared.fault.Refusal.{Refusal}
use Rattle.nm_topology.specs.declared.fault.Refusal.TheVariants.{Kind, Range, TooMany, UnknownKey}
use Rattle.nm_topology.specs.declared.keys.array.Array.TheVariants as array
use Rattle.nm_topology.specs.declared.keys.fields.TheConstants.{MTU, QUEUE, QUEUE_OCTETS, STOP}
use Rattle.nm_topology.specs.declared.keys.fields.TheConstants.{TOP_TABLE}
use Rattle.nm_topology.specs.declared.keys.key.TableKey.TheVariants as key
use Rattle.nm_topology.specs.declared.parse.head.Format.{Format}
use Rattle.nm_topology.specs.declared.parse.head.Format.TheVariants.{One, Two}
use Rattle.nm_topology.specs.declared.parse.head.Head.{Head}
use Rattle.nm_topology.specs.Fault.{◌>>=◌, demand}
use Rattle.nm_topology.specs.Build.{put_together}
use Rattle.nm_topology.specs.Formats.{IsFormatOne, LimitsNoOctets, is_without, with_digest}
use Rattle.nm_topology.specs.Formats.{with_format_two}
use Rattle.nm_topology.specs.Parse.{top_table_of}
use Rattle.nm_topology.specs.Parse.Arrays.{is_table, all_fit, count, each, in_table, array_of}
use Rattle.nm_topology.specs.Parse.Document.{document_of, format_of, with_tables}
use Rattle.nm_topology.specs.Parse.DocumentValue.{DocumentValue}
use Rattle.nm_topology.specs.Keys.{array_limit, keys_of}
use Rattle.nm_topology.specs.Parse.Fields.{all_among, number_at, number_in, optional, required}
use Rattle.nm_topology.specs.Parse.Fields.{some_number_at, text_at}
use Rattle.nm_topology.specs.Parse.Forms.{name_of, usable_address_of}
use Rattle.nm_topology.specs.Parse.Sources.{source_table_of}
use Rattle.nm_topology.specs.Parse.Tables.{iface_keys, iface_table_of, node_table_of, link_table_of}
use Rattle.nm_topology.specs.Parse.Tables.{route_table_of}
use Rattle.nm_topology.specs.Parse.TableValues.{IfaceTableValue}
use Rattle.nm_topology.specs.Resolve.{resolved}
use Rattle.nm_topology.specs.ResolvedValue.{ResolvedValue}
use Rattle.nm_topology.specs.Topology.{network_of, topology_of}
use Rattle.nm_topology.specs.Validate.{tested}

agree : {A B : Type 0} (r : Result A Refusal) (f g : A → Result B Refusal) → ((x : A) → f x ≡ g x) → (r >>= f) ≡ (r >>= g)
agree (Ok x) f g h = h x
agree (Err e) f g h = refl

-- the keys, and the values at other keys, stay
keys-stay : (ks : List (List ℕ)) (t : Members) → all_among ks (with_format_two t) ≡ all_among ks t
keys-stay ks no_members = refl
keys-stay ks (member k d ms) = ap (λ b. list_any (λ l. bytes_eq l k) ks && b) (keys-stay ks ms)

value-stays : (k l : List ℕ) (d : Data) → bytes_eq (codes "format") k ≡ false → k ≡ l
    → (if bytes_eq (codes "format") l then integer (pos 2) else d) ≡ d
value-stays k l d e same = ap (λ b. if b then integer (pos 2) else d) (ap (bytes_eq (codes "format")) (sym same) ∙ e)

other-stays : (k : List ℕ) → bytes_eq (codes "format") k ≡ false → (t : Members) → get_member k (with_format_two t) ≡ get_member k t
other-stays k e no_members = refl
other-stays k e (member l d ms) = go (other-stays k e ms) (slice_cmp nat_cmp k l) refl
  where
    go : get_member k (with_format_two ms) ≡ get_member k ms → (o : Ordering) → slice_cmp nat_cmp k l ≡ o → match_ordering o (get_member k (with_format_two ms)) (Some (if bytes_eq (codes "format") l then integer (pos 2) else d)) (get_member k (with_format_two ms)) ≡ match_ordering o (get_member k ms) (Some d) (get_member k ms)
    go rest Less h = rest
    go rest Equal h = ap Some (value-stays k l d e (exact_bytes k l h))
    go rest Greater h = rest

format-is : (d : Data) (t : Members) → get_member (codes "format") t ≡ Some d → get_member (codes "format") (with_format_two t) ≡ Some (integer (pos 2))
format-is d no_members e = cc
format-is d (member l c ms) e = go (format-is d ms) (slice_cmp nat_cmp (codes "format") l) refl e
  where
    go : (get_member (codes "format") ms ≡ Some d → get_member (codes "format") (with_format_two ms) ≡ Some (integer (pos 2))) → (o : Ordering) → slice_cmp nat_cmp (codes "format") l ≡ o → match_ordering o (get_member (codes "format") ms) (Some c) (get_member (codes "format") ms) ≡ Some d
        → match_ordering o (get_member (codes "format") (with_format_two ms)) (Some (if bytes_eq (codes "format") l then integer (pos 2) else c)) (get_member (codes "format") (with_format_two ms)) ≡ Some (integer (pos 2))
    go rest Less h f = rest f
    go rest Equal h f = ap (λ b. Some (if b then integer (pos 2) else c)) (sym (is_eq-slice_cmp (codes "format") l) ∙ ap is_eq h)
    go rest Greater h f = rest f

-- a table without the key `queue_octets` has the keys of both formats, or of neither
no_more : (a b c d e : Bool) → e ≡ false → (a || (b || (c || (d || false)))) ≡ (a || (b || (c || (d || (e || false)))))
no_more a b c d e h = ap (λ x. a || (b || (c || (d || (x || false))))) (sym h)

not_first : (k l : List ℕ) (d : Data) (ms : Members) → get_member k (member l d ms) ≡ None → (bytes_eq k l ≡ false) × (get_member k ms ≡ None)
not_first k l d ms e = go (slice_cmp nat_cmp k l) refl e
  where
    go : (o : Ordering) → slice_cmp nat_cmp k l ≡ o → match_ordering o (get_member k ms) (Some d) (get_member k ms) ≡ None → (bytes_eq k l ≡ false) × (get_member k ms ≡ None)
    go Less h f = (sym (is_eq-slice_cmp k l) ∙ ap is_eq h, f)
    go Equal h f = cc
    go Greater h f = (sym (is_eq-slice_cmp k l) ∙ ap is_eq h, f)

same_keys : (t : Members) → get_member (codes "queue_octets") t ≡ None → all_among (iface_keys One) t ≡ all_among (iface_keys Two) t
same_keys no_members e = refl
same_keys (member k d ms) e =
    let rest = not_first (codes "queue_octets") k d ms e in
    ap (λ b. b && all_among (iface_keys One) ms)
    (no_more (bytes_eq (codes "name") k) (bytes_eq (codes "node") k) (bytes_eq (codes "address") k) (bytes_eq (codes "queue") k) (bytes_eq (codes "queue_octets") k) rest.0)
    ∙ ap (λ b. list_any (λ l. bytes_eq l k) (iface_keys Two) && b) (same_keys ms rest.1)

none-is : {X : Type 0} (o : Option X) → is_none o ≡ true → o ≡ None
none-is None e = refl
none-is (Some x) e = cc

-- so it is read to the same in both formats, and so are all tables of `iface`
same_table : (t : Members) → get_member (codes "queue_octets") t ≡ None → iface_table_of Two t ≡ iface_table_of One t
unfolding iface_table_of
same_table t e =
    let rest : Bool → Result IfaceTableValue Refusal = λ b.
    (if b then Ok tt else Err UnknownKey) >>= λ known.
    text_at name_of key.Name t >>= λ name.
    text_at name_of key.Node t >>= λ node.
    text_at usable_address_of key.Address t >>= λ address.
    number_at key.Queue QUEUE t >>= λ queue.
    some_number_at key.QueueOctets QUEUE_OCTETS t >>= λ octets.
    Ok (record { name = name; node = node; address = address; queue = queue; queue_octets = octets }) in
    ap rest (sym (same_keys t e))

same_member : (d : Data) → is_without (codes "queue_octets") d ≡ true → in_table (iface_table_of Two) d ≡ in_table (iface_table_of One) d
same_member (table ms) e = same_table ms (none-is (get_member (codes "queue_octets") ms) e)
same_member _ e = refl

both : (a b : Bool) → (a && b) ≡ true → (a ≡ true) × (b ≡ true)
both true true e = (refl, refl)
both true false e = cc
both false b e = cc

same_each : (ds : Items) → all_fit (is_without (codes "queue_octets")) ds ≡ true → each (in_table (iface_table_of Two)) ds ≡ each (in_table (iface_table_of One)) ds
same_each no_items e = refl
same_each (item d ds) e =
    let h = both (is_without (codes "queue_octets") d) (all_fit (is_without (codes "queue_octets")) ds) e in
    ap (λ r. r >>= λ x. each (in_table (iface_table_of Two)) ds >>= λ xs. Ok (x ∷ xs)) (same_member d h.0)
    ∙ agree (in_table (iface_table_of One) d) (λ x. each (in_table (iface_table_of Two)) ds >>= λ xs. Ok (x ∷ xs)) (λ x. each (in_table (iface_table_of One)) ds >>= λ xs. Ok (x ∷ xs))
    (λ x. ap (λ r. r >>= λ xs. Ok (x ∷ xs)) (same_each ds h.1))

ifaces_in : Format → Option Data → Result (List IfaceTableValue) Refusal
ifaces_in format o = optional [] (array_of is_table (array_limit array.Iface) (in_table (iface_table_of format))) o

same_ifaces : (o : Option Data) → ((ds : Items) → o ≡ Some (array ds) → all_fit (is_without (codes "queue_octets")) ds ≡ true) → ifaces_in Two o ≡ ifaces_in One o
unfolding ifaces_in
same_ifaces None h = refl
same_ifaces (Some (array ds)) h =
    ap (λ r. if all_fit is_table ds then (if nat_le (count ds) (array_limit array.Iface) then r else Err TooMany) else Err Kind) (same_each ds (h ds refl))
same_ifaces (Some _) h = refl

-- a document, by the values at the keys of its top table
tables : Head → ℕ → Option Data → Result (List IfaceTableValue) Refusal → Option Data → Option Data → Option Data → Result DocumentValue Refusal
tables head stop n ifaces l r s =
    optional [] (array_of is_table (array_limit array.Node) (in_table node_table_of)) n >>= λ ns.
    ifaces >>= λ is.
    optional [] (array_of is_table (array_limit array.Link) (in_table link_table_of)) l >>= λ ls.
    optional [] (array_of is_table (array_limit array.Route) (in_table route_table_of)) r >>= λ rs.
    optional [] (array_of is_table (array_limit array.Source) (in_table (source_table_of head.mtu))) s >>= λ ss.
    Ok (record { stop = stop; mtu = head.mtu; nodes = ns; ifaces = is; links = ls; routes = rs; sources = ss })

module _ (t : Members) (one : IsFormatOne t) (none : LimitsNoOctets t) where
  same_tables : (stop mtu : ℕ) → with_tables (record { format = Two; mtu = mtu }) stop (with_format_two t) ≡ with_tables (record { format = One; mtu = mtu }) stop t
  unfolding with_tables tables ifaces_in
  same_tables stop mtu =
      let h : Head = record { format = One; mtu = mtu } in
      let u = with_format_two t in
      let n = get_member (codes "node") in
      let l = get_member (codes "link") in
      let r = get_member (codes "route") in
      let s = get_member (codes "source") in
      let is : ifaces_in Two (get_member (codes "iface") u) ≡ ifaces_in One (get_member (codes "iface") t) =
      ap (ifaces_in Two) (other-stays (codes "iface") refl t) ∙ same_ifaces (get_member (codes "iface") t) none in
      ap (λ o. tables h stop o (ifaces_in Two (get_member (codes "iface") u)) (l u) (r u) (s u)) (other-stays (codes "node") refl t)
      ∙ ap (λ o. tables h stop (n t) o (l u) (r u) (s u)) is
      ∙ ap (λ o. tables h stop (n t) (ifaces_in One (get_member (codes "iface") t)) o (r u) (s u)) (other-stays (codes "link") refl t)
      ∙ ap (λ o. tables h stop (n t) (ifaces_in One (get_member (codes "iface") t)) (l t) o (s u)) (other-stays (codes "route") refl t)
      ∙ ap (λ o. tables h stop (n t) (ifaces_in One (get_member (codes "iface") t)) (l t) (r t) o) (other-stays (codes "source") refl t)

  abbrev keys : List (List ℕ)
  keys = keys_of TOP_TABLE

  -- the document, from the values of these keys on
  abbrev from : Bool → Option Data → Option Data → Option Data → (Format → ℕ → ℕ → Result DocumentValue Refusal) → Result DocumentValue Refusal
  from known format stop mtu rest =
      demand known UnknownKey >>= λ k.
      required format_of format >>= λ f.
      required (number_in STOP.least STOP.greatest) stop >>= λ a.
      required (number_in MTU.least MTU.greatest) mtu >>= λ b.
      rest f a b

  -- the same, once the format and then the time to stop are read
  abbrev last : (ℕ → ℕ → Result DocumentValue Refusal) → ℕ → Result DocumentValue Refusal
  last rest a = required (number_in MTU.least MTU.greatest) (get_member (codes "mtu") t) >>= λ b. rest a b

  abbrev after : (ℕ → ℕ → Result DocumentValue Refusal) → Result DocumentValue Refusal
  after rest = required (number_in STOP.least STOP.greatest) (get_member (codes "stop") t) >>= λ a. last rest a

  pub same_document : document_of (with_format_two t) ≡ document_of t
  unfolding document_of
  same_document =
      let u = with_format_two t in
      let rest : Members → Format → ℕ → ℕ → Result DocumentValue Refusal = λ m f a b. with_tables (record { format = f; mtu = b }) a m in
      let stop = get_member (codes "stop") in
      let mtu = get_member (codes "mtu") in
      ap (λ b. from b (get_member (codes "format") u) (stop u) (mtu u) (rest u)) (keys-stay keys t)
      ∙ ap (λ o. from (all_among keys t) o (stop u) (mtu u) (rest u)) (format-is (integer (pos 1)) t one)
      ∙ ap (λ o. from (all_among keys t) (Some (integer (pos 2))) o (mtu u) (rest u)) (other-stays (codes "stop") refl t)
      ∙ ap (λ o. from (all_among keys t) (Some (integer (pos 2))) (stop t) o (rest u)) (other-stays (codes "mtu") refl t)
      ∙ agree (demand (all_among keys t) UnknownKey) (λ k. after (rest u Two)) (λ k. after (rest t One)) (λ k.
      agree (required (number_in STOP.least STOP.greatest) (stop t)) (last (rest u Two)) (last (rest t One)) (λ a.
      agree (required (number_in MTU.least MTU.greatest) (mtu t)) (rest u Two a) (rest t One a) (λ b. same_tables a b)))
      ∙ ap (λ o. from (all_among keys t) o (stop t) (mtu t) (rest t)) (sym one)

-- the digest is all of a network that the text alone decides
other_digest : (one two : List ℕ) (d : DocumentValue) (t : ResolvedValue) (r : Result Unit Refusal) → (r >>= λ good. Ok (put_together two d t)) ≡ with_digest two (r >>= λ good. Ok (put_together one d t))
other_digest one two d t (Ok good) = refl
other_digest one two d t (Err e) = refl

other_digests : (one two : List ℕ) (d : DocumentValue) (test : ResolvedValue → Result Unit Refusal) (r : Result ResolvedValue Refusal) → (r >>= λ t. test t >>= λ good. Ok (put_together two d t)) ≡ with_digest two (r >>= λ t. test t >>= λ good. Ok (put_together one d t))
other_digests one two d test (Ok t) = other_digest one two d t (test t)
other_digests one two d test (Err e) = refl

network-digest : (one two : List ℕ) (d : DocumentValue) → network_of two d ≡ with_digest two (network_of one d)
unfolding network_of
network-digest one two d =
    other_digests one two d (λ t. tested (map (λ n. n.partition) d.nodes) (map (λ i. i.address) d.ifaces) (length d.nodes) (length d.ifaces) t)
    (resolved d.nodes d.ifaces d.links d.routes d.sources)

short : (n : ℕ) → n ≤ MAX_TEXT_OCTETS → demand (nat_le n MAX_TEXT_OCTETS) Range ≡ Ok tt
short n h = ap (λ b. demand b Range) (let e : nat_le n MAX_TEXT_OCTETS ≡ true = grind (arith, nat_tests) in e)

pub same_network : (one two : List ℕ) (t : Members) → length one ≤ MAX_TEXT_OCTETS → length two ≤ MAX_TEXT_OCTETS → top_table_of one ≡ Ok t → top_table_of two ≡ Ok (with_format_two t)
    → IsFormatOne t → LimitsNoOctets t → topology_of two ≡ with_digest (sha256 two) (topology_of one)
unfolding topology_of
same_network one two t h k e f format none =
    read two (with_format_two t) k f ∙ ap (λ d. d >>= network_of (sha256 two)) (same_document t format none)
    ∙ go (document_of t) ∙ ap (with_digest (sha256 two)) (sym (read one t h e))
  where
    read : (text : List ℕ) (m : Members) → length text ≤ MAX_TEXT_OCTETS → top_table_of text ≡ Ok m → (demand (nat_le (length text) MAX_TEXT_OCTETS) Range >>= λ ok. top_table_of text >>= λ ms. document_of ms >>= λ d. network_of (sha256 text) d) ≡ (document_of m >>= network_of (sha256 text))
    read text m l is =
        ap (λ r. r >>= λ ok. top_table_of text >>= λ ms. document_of ms >>= λ d. network_of (sha256 text) d) (short (length text) l)
        ∙ ap (λ r. r >>= λ ms. document_of ms >>= λ d. network_of (sha256 text) d) is

    go : (r : Result DocumentValue Refusal) → (r >>= network_of (sha256 two)) ≡ with_digest (sha256 two) (r >>= network_of (sha256 one))
    go (Ok d) = network-digest (sha256 one) (sha256 two) d
    go (Err x) = refl
