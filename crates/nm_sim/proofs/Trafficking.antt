-- Traffic as records come, one after another, and the trace file of the records that it counts.
use Rattle.std.proofs.Common.{◌≡◌, ℕ, ◌+◌, ◌*◌, ◌==◌, ◌&&◌, Bool, true, false, not, cond, List, [], ◌∷◌, ◌++◌, flat_map, length, sum_by, refl, sym, ap, ◌∙◌, arith, length-append}
use Rattle.std.proofs.lemmas.Bool.Decides.{nat_tests}
use Rattle.std.proofs.lemmas.List.Sums.{sum_by-cons, sum_by_push}
use Rattle.nm_base.specs.Count.{saturated}
use Rattle.nm_base.specs.declared.record.Record.{Record}
use Rattle.nm_model.specs.Lists.{keep_where}
use Rattle.nm_model.proofs.ListLemmas.{kept-append}
use Rattle.nm_pcap.specs.declared.format.TheConstants.{FILE_HEADER_OCTETS, RECORD_HEADER_OCTETS}
use Rattle.nm_pcap.specs.Format.{file_header, pcap, record_header, record_octets}
use Rattle.nm_sim.specs.Totals.{totals_of}
use Rattle.nm_sim.specs.Traffic.{amount_after, amount_of, came_to, iface_traffic_of, is_in, totals_from, traffic_after, went_from}
use Rattle.nm_sim.specs.declared.traffic.Amount.{Amount}
use Rattle.nm_sim.specs.declared.traffic.IfaceTraffic.{IfaceTraffic}

twice : (n m : ℕ) → saturated (n + m) ≡ saturated (saturated n + m)
twice n m = omega arith

nothing_more : {X : Type 0} (l : List X) → l ++ [] ≡ l
nothing_more [] = refl
nothing_more (x ∷ l) = ap (λ k. x ∷ k) (nothing_more l)

-- the amount with one more record
amount_more : (f : Record (List ℕ) → Bool) (l : List (Record (List ℕ))) (r : Record (List ℕ)) (b : Bool) → f r ≡ b
    → amount_of f (l ++ r ∷ []) ≡ cond b (amount_after (amount_of f l) (length r.packet)) (amount_of f l)
amount_more f l r true h =
    let own = keep_where f l in
    let e : keep_where f (l ++ r ∷ []) ≡ own ++ r ∷ [] = kept-append f l (r ∷ []) ∙ ap (λ b. own ++ cond b (r ∷ []) []) h in
    let n = ap length e ∙ length-append own (r ∷ []) in
    let m = ap (sum_by (λ (x : Record (List ℕ)). length x.packet)) e ∙ sum_by_push (λ (x : Record (List ℕ)). length x.packet) own r in
    (λ k. record { packets = saturated (n k); octets = saturated (m k) })
    ∙ (λ k. record { packets = twice (length own) 1 k; octets = twice (sum_by (λ (x : Record (List ℕ)). length x.packet) own) (length r.packet) k })
amount_more f l r false h =
    let own = keep_where f l in
    let e : keep_where f (l ++ r ∷ []) ≡ own = kept-append f l (r ∷ []) ∙ ap (λ b. own ++ cond b (r ∷ []) []) h ∙ nothing_more own in
    ap (λ k. record { packets = saturated (length k); octets = saturated (sum_by (λ (x : Record (List ℕ)). length x.packet) k) }) e

-- of two amounts one is another
one_of_two : (b : Bool) (came in_after went out_after : Amount) → ◌≡◌ {A = IfaceTraffic} (record { came = cond b in_after came; went = cond (not b) out_after went })
    (cond b (record { came = in_after; went = went }) (record { came = came; went = out_after }))
one_of_two true came in_after went out_after = refl
one_of_two false came in_after went out_after = refl

-- the traffic of an interface with one more record
pub traffic_more : (i : ℕ) (l : List (Record (List ℕ))) (r : Record (List ℕ)) (b : Bool) → (i == r.iface) ≡ b
    → iface_traffic_of i (l ++ r ∷ []) ≡ cond b (traffic_after (iface_traffic_of i l) r) (iface_traffic_of i l)
traffic_more i l r b h = go b here (is_in r.dir) refl
  where
    here : (r.iface == i) ≡ b
    here = grind (arith, nat_tests, h)

    go : (b : Bool) → (r.iface == i) ≡ b → (d : Bool) → is_in r.dir ≡ d → iface_traffic_of i (l ++ r ∷ []) ≡ cond b (traffic_after (iface_traffic_of i l) r) (iface_traffic_of i l)
    go true e d f =
        let came = amount_more (came_to i) l r d (λ k. e k && f k) in
        let went = amount_more (went_from i) l r (not d) (λ k. e k && not (f k)) in
        (λ k. record { came = came k; went = went k })
        ∙ one_of_two d _ _ _ _
        ∙ sym (ap (λ z. cond z (record { came = amount_after (amount_of (came_to i) l) (length r.packet); went = amount_of (went_from i) l })
        (record { came = amount_of (came_to i) l; went = amount_after (amount_of (went_from i) l) (length r.packet) })) f)
    go false e d f =
        let came = amount_more (came_to i) l r false (λ k. e k && is_in r.dir) in
        let went = amount_more (went_from i) l r false (λ k. e k && not (is_in r.dir)) in
        (λ k. record { came = came k; went = went k })

abbrev octets_in : List (Record (List ℕ)) → ℕ
octets_in l = sum_by (λ (x : Record (List ℕ)). length x.packet) l

-- the length of a trace file, without its header
file_body : (l : List (Record (List ℕ))) → length (flat_map record_octets l) ≡ length l * RECORD_HEADER_OCTETS + octets_in l
file_body [] = refl
file_body (r ∷ l) =
    let more = file_body l in
    let a = length-append (record_octets r) (flat_map record_octets l) in
    let b = length-append (record_header r.time (length r.packet)) r.packet in
    let g : length (record_header r.time (length r.packet)) ≡ RECORD_HEADER_OCTETS = refl in
    let s = sum_by-cons (λ (x : Record (List ℕ)). length x.packet) r l in
    omega (arith, more, a, b, g, s)

file_length : (l : List (Record (List ℕ))) → length (pcap l) ≡ length l * RECORD_HEADER_OCTETS + octets_in l + FILE_HEADER_OCTETS
file_length l =
    let a = length-append file_header (flat_map record_octets l) in
    let b = file_body l in
    let g : length file_header ≡ FILE_HEADER_OCTETS = refl in
    omega (arith, a, b, g)

-- each record of an interface came or went
module _ (i : ℕ) where
  abbrev own : List (Record (List ℕ)) → List (Record (List ℕ))
  own l = keep_where (λ r. r.iface == i) l

  abbrev IsBoth : List (Record (List ℕ)) → List (Record (List ℕ)) → List (Record (List ℕ)) → Type 0
  IsBoth all came went = (length all ≡ length came + length went) × (octets_in all ≡ octets_in came + octets_in went)

  more : (r : Record (List ℕ)) (here came : Bool) (a b c : List (Record (List ℕ))) → IsBoth a b c
      → IsBoth (cond here (r ∷ a) a) (cond (here && came) (r ∷ b) b) (cond (here && not came) (r ∷ c) c)
  more r false came a b c h = h
  more r true true a b c h =
      let s = sum_by-cons (λ (x : Record (List ℕ)). length x.packet) r a in
      let u = sum_by-cons (λ (x : Record (List ℕ)). length x.packet) r b in
      let p = h.0 in
      let q = h.1 in
      (omega (arith, p), omega (arith, q, s, u))
  more r true false a b c h =
      let s = sum_by-cons (λ (x : Record (List ℕ)). length x.packet) r a in
      let u = sum_by-cons (λ (x : Record (List ℕ)). length x.packet) r c in
      let p = h.0 in
      let q = h.1 in
      (omega (arith, p), omega (arith, q, s, u))

  both : (l : List (Record (List ℕ))) → IsBoth (own l) (keep_where (came_to i) l) (keep_where (went_from i) l)
  both [] = (refl, refl)
  both (r ∷ l) = more r (r.iface == i) (is_in r.dir) (own l) (keep_where (came_to i) l) (keep_where (went_from i) l) (both l)

  pub totals_counted : (trace : List (Record (List ℕ))) → totals_from (iface_traffic_of i trace) ≡ totals_of i trace
  totals_counted trace =
      let came = keep_where (came_to i) trace in
      let went = keep_where (went_from i) trace in
      let n = (both trace).0 in
      let o = (both trace).1 in
      let f = file_length (own trace) in
      sums (length came) (length went) (octets_in came) (octets_in went) (length (own trace)) (octets_in (own trace)) (length (pcap (own trace))) n o f
    where
      sums : (a b c d n o f : ℕ) → n ≡ a + b → o ≡ c + d → f ≡ n * RECORD_HEADER_OCTETS + o + FILE_HEADER_OCTETS
          → ◌≡◌ {A = ℕ × ℕ} (saturated (saturated a + saturated b), saturated (saturated (saturated a + saturated b) * RECORD_HEADER_OCTETS + saturated (saturated c + saturated d) + FILE_HEADER_OCTETS)) (saturated n, saturated f)
      sums a b c d n o f p q r =
          let x : saturated (saturated a + saturated b) ≡ saturated n = omega (arith, p) in
          let y : saturated (saturated (saturated a + saturated b) * RECORD_HEADER_OCTETS + saturated (saturated c + saturated d) + FILE_HEADER_OCTETS) ≡ saturated f = omega (arith, p, q, r) in
          (λ k. (x k, y k))
