-- What the writers make of a packet.
use Rattle.std.proofs.Common.{◌≡◌, ℕ, ◌+◌, List, ◌++◌, length, min, take, drop, Result, sym, ap, ◌∙◌, arith}
use Rattle.std.proofs.lemmas.List.{take-take, drop-take, take-append-drop, take_at, take_min}
use Rattle.std.proofs.lemmas.Result.{IfOk-weaker}
use Rattle.std.specs.Result.{IfOk}
use Rattle.nm_packet.specs.Ipv4.{fields_of, header_length_of, lowered, packet_octets, payload_of, quote_of}

take-add : (n m : ℕ) (xs : List ℕ) → take (n + m) xs ≡ take n xs ++ take m (drop n xs)
take-add n m xs =
    let front : take n (take (n + m) xs) ≡ take n xs = take-take n (n + m) xs (omega arith) in
    let back : drop n (take (n + m) xs) ≡ take m (drop n xs) = drop-take n m xs in
    sym (take-append-drop n (take (n + m) xs)) ∙ ap (λ (l : List ℕ). l ++ drop n (take (n + m) xs)) front ∙ ap (λ (l : List ℕ). take n xs ++ l) back

pub quote_is : (octets xs : List ℕ) (n end : ℕ) → octets ≡ xs → n ≡ header_length_of octets → end ≡ min (n + 8) (length octets) → take end octets ≡ quote_of xs
quote_is octets xs n end same is e =
    ap (λ (k : ℕ). take k octets) e ∙ take_min (n + 8) octets ∙ take-add n 8 octets ∙ ap (λ (k : ℕ). take k octets ++ take 8 (drop k octets)) is ∙ ap quote_of same

-- what is written over all that was copied
written_back : (n : ℕ) (new items : List ℕ) → n ≡ length items → length new ≡ length items → take n (new ++ drop (length new) items) ≡ new
written_back n new items all same = take_at new (drop (length new) items) n (same ∙ sym all)

pub length-written_back : (n : ℕ) (new items xs : List ℕ) → n ≡ length items → length new ≡ length items → items ≡ xs → length (take n (new ++ drop (length new) items)) ≡ length xs
length-written_back n new items xs all same copied = ap length (written_back n new items all same) ∙ same ∙ ap length copied

-- the packet that is made of a copy over which the packet one hop on was written
pub lowered_copy : {E : Type 0} (r : Result (List ℕ) E) (n : ℕ) (new old items xs : List ℕ) → n ≡ length items → length new ≡ length items → old ≡ items → items ≡ xs
    → new ≡ packet_octets (lowered (fields_of old)) (payload_of old) → IfOk r (λ p. p ≡ take n (new ++ drop (length new) items))
    → IfOk r (λ p. p ≡ packet_octets (lowered (fields_of xs)) (payload_of xs))
lowered_copy r n new old items xs all same lent copied is made =
    let hop = λ (l : List ℕ). packet_octets (lowered (fields_of l)) (payload_of l) in
    let whole : take n (new ++ drop (length new) items) ≡ hop xs = written_back n new items all same ∙ is ∙ ap hop (lent ∙ copied) in
    IfOk-weaker r (λ p. p ≡ take n (new ++ drop (length new) items)) (λ p. p ≡ hop xs) (λ p e. e ∙ whole) made
