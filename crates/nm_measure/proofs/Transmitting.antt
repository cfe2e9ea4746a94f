-- How long an interface transmits, one start later.
use Rattle.std.proofs.Common.{◌≡◌, ℕ, ◌+◌, ◌-◌, ◌^◌, ◌<◌, ◌≤◌, inl, inr, min, ltb, cond, false, List, [], ◌∷◌, ◌++◌, sum_by, Option, Some, None, refl, sym, ap, ◌∙◌, arith}
use Rattle.std.proofs.lemmas.Bool.Decides.{nat_tests}
use Rattle.std.proofs.lemmas.List.Sums.{sum_by-cons, sum_by_push}
use Rattle.nm_model.specs.Network.{Net}
use Rattle.nm_measure.specs.Busy.{last_of, part_before, share_of, thousandths_of}
use Rattle.nm_measure.specs.Usage.{AreCounted, AreDone, IsUsed, all_take, first_start, share_at, span_after}

module _ {P N : Type 0} (net : Net P N) (i : ℕ) where
  pub done_later : (time later : ℕ) → time ≤ later → (l : List (ℕ × P)) → AreDone net i time l → AreDone net i later l
  done_later time later h [] d = tt
  done_later time later h (s ∷ l) d = (let e = d.0 in omega (arith, e, h), done_later time later h l d.1)

  pub done_push : (time : ℕ) (l : List (ℕ × P)) (s : ℕ × P) → AreDone net i time l → s.0 + net.tx i s.1 ≤ time → AreDone net i time (l ++ s ∷ [])
  done_push time [] s d h = (h, tt)
  done_push time (x ∷ l) s d h = (d.0, done_push time l s d.1 h)

  -- what is complete counts whole
  whole_part : (time : ℕ) (s : ℕ × P) → s.0 + net.tx i s.1 ≤ time → part_before net i time s ≡ net.tx i s.1
  whole_part time s h = omega arith

  pub all_whole : (time : ℕ) (l : List (ℕ × P)) → AreDone net i time l → sum_by (part_before net i time) l ≡ all_take net i l
  all_whole time [] d = refl
  all_whole time (s ∷ l) d =
      let a = whole_part time s d.0 in
      let b = all_whole time l d.1 in
      sum_by-cons (part_before net i time) s l ∙ (λ k. a k + b k) ∙ sym (sum_by-cons (λ (z : ℕ × P). net.tx i z.1) s l)

  -- all but the last
  pub parts_are : (time : ℕ) (front : List (ℕ × P)) (last : ℕ × P) → AreDone net i last.0 front → last.0 ≤ time
      → sum_by (part_before net i time) (front ++ last ∷ []) ≡ all_take net i front + part_before net i time last
  parts_are time front last d h =
      sum_by_push (part_before net i time) front last ∙ ap (λ n. n + part_before net i time last) (all_whole time front (done_later last.0 time h front d))

pub first_push : {P : Type 0} (front : List (ℕ × P)) (last next : ℕ × P) → first_start (front ++ last ∷ []) next ≡ first_start front last
first_push [] last next = refl
first_push (s ∷ l) last next = refl

module _ {P N : Type 0} (net : Net P N) (i stop : ℕ) where
  -- time passes
  pub used_later : (now later : ℕ) → now ≤ later → (starts : List (ℕ × P)) (busy last_busy : ℕ) (span : Option (ℕ × ℕ))
      → IsUsed net i stop now starts busy last_busy span → IsUsed net i stop later starts busy last_busy span
  used_later now later h starts busy last_busy span (inl none) = inl none
  used_later now later h starts busy last_busy span (inr (front, last, is, said)) =
      inr (front, last, is, record { all = said.all; ends = said.ends; spans = said.spans; within = said.within; done = said.done; past = let p = said.past in omega (arith, p, h) })

  -- one more starts, once the last one is complete
  pub used_more : (now busy last_busy more : ℕ) (span : Option (ℕ × ℕ)) (starts : List (ℕ × P)) (x : P) (before : ℕ)
      → IsUsed net i stop before starts busy last_busy span
      → ((front : List (ℕ × P)) (last : ℕ × P) → starts ≡ front ++ last ∷ [] → last.0 + net.tx i last.1 ≤ now)
      → now ≤ stop → stop < 2 ^ 64 → more ≡ part_before net i stop (now, x)
      → IsUsed net i stop now (starts ++ (now, x) ∷ []) (min (busy + more) (2 ^ 64 - 1)) more (span_after span now)
  used_more now busy last_busy more span starts x before (inl (none, idle, no_span)) apart early few part =
      inr (
        [],
        (now, x),
        ap (λ l. l ++ (now, x) ∷ []) none,
        record {
          all = omega (arith, part, idle, early, few);
          ends = part;
          spans = ap (λ o. span_after o now) no_span;
          within = omega arith;
          done = tt;
          past = omega arith;
        },
      )
  used_more now busy last_busy more span starts x before (inr (front, last, is, said)) apart early few part =
      let complete = apart front last is in
      let total = sum_by_push (λ (s : ℕ × P). net.tx i s.1) front last in
      let all = said.all in
      let within = said.within in
      inr (
        front ++ last ∷ [],
        (now, x),
        ap (λ l. l ++ (now, x) ∷ []) is,
        record {
          all = omega (arith, part, all, within, total, complete, early, few);
          ends = part;
          spans = ap (λ o. span_after o now) said.spans ∙ ap (λ n. Some (n, now)) (sym (first_push front last (now, x)));
          within = omega (arith, total, within, complete);
          done = done_push net i now front last (done_later net i last.0 now (omega (arith, complete)) front said.done) complete;
          past = omega arith;
        },
      )

  -- for how long before a time
  pub busy_until : (now busy last_busy time : ℕ) (span : Option (ℕ × ℕ)) (starts : List (ℕ × P)) (front : List (ℕ × P)) (last : ℕ × P)
      → starts ≡ front ++ last ∷ [] → AreCounted net i stop now front last busy last_busy span → now ≤ time → time ≤ stop → stop < 2 ^ 64
      → busy - (min (last.0 + last_busy) (2 ^ 64 - 1) - time) ≡ sum_by (part_before net i time) starts
  busy_until now busy last_busy time span starts front last is said late early few =
      let past = said.past in
      let parts = parts_are net i time front last said.done (omega (arith, past, late)) in
      let all = said.all in
      let ends = said.ends in
      sym (ap (sum_by (part_before net i time)) is ∙ parts ∙ rest (all_take net i front) (net.tx i last.1) last.0 all ends past)
    where
      rest : (total tx at : ℕ) → busy ≡ total + min tx (stop - at) → last_busy ≡ min tx (stop - at) → at ≤ now
          → total + min tx (time - at) ≡ busy - (min (at + last_busy) (2 ^ 64 - 1) - time)
      rest total tx at a b c = omega arith

  pub busy_to_stop : (now busy last_busy : ℕ) (span : Option (ℕ × ℕ)) (starts : List (ℕ × P)) → IsUsed net i stop now starts busy last_busy span → now ≤ stop
      → busy ≡ sum_by (part_before net i stop) starts
  busy_to_stop now busy last_busy span starts (inl (none, idle, no_span)) late = idle ∙ sym (ap (sum_by (part_before net i stop)) none)
  busy_to_stop now busy last_busy span starts (inr (front, last, is, said)) late =
      let past = said.past in
      said.all ∙ sym (parts_are net i stop front last said.done (omega (arith, past, late))) ∙ sym (ap (sum_by (part_before net i stop)) is)

  -- the share of the time from the first start to the last
  last_after : (x : ℕ × P) (l : List (ℕ × P)) (last : ℕ × P) → last_of x (l ++ last ∷ []) ≡ last
  last_after x [] last = refl
  last_after x (y ∷ l) last = last_after y l last

  share_from : (front : List (ℕ × P)) (last : ℕ × P) → AreDone net i last.0 front
      → share_of net i (front ++ last ∷ []) ≡ cond (ltb (first_start front last) last.0) (Some (thousandths_of (all_take net i front) (last.0 - first_start front last))) None
  share_from [] last done = let e : ltb last.0 last.0 ≡ false = grind (arith, nat_tests) in ap (λ b. cond b (Some (thousandths_of (sum_by (part_before net i last.0) (last ∷ [])) (last.0 - last.0))) None) e
      ∙ sym (ap (λ b. cond b (Some (thousandths_of 0 (last.0 - last.0))) None) e)
  share_from (s ∷ l) last done =
      let is = last_after s l last in
      let parts = parts_are net i last.0 (s ∷ l) last done (omega arith) in
      let none : part_before net i last.0 last ≡ 0 = omega arith in
      let all : sum_by (part_before net i last.0) (s ∷ (l ++ last ∷ [])) ≡ all_take net i (s ∷ l) = parts ∙ ap (λ n. all_take net i (s ∷ l) + n) none ∙ nothing_more (all_take net i (s ∷ l)) in
      (λ k. cond (ltb s.0 (is k).0) (Some (thousandths_of (sum_by (part_before net i (is k).0) (s ∷ (l ++ last ∷ []))) ((is k).0 - s.0))) None)
      ∙ ap (λ n. cond (ltb s.0 last.0) (Some (thousandths_of n (last.0 - s.0))) None) all
    where
      nothing_more : (n : ℕ) → n + 0 ≡ n
      nothing_more n = omega arith

  pub share_is : (now busy last_busy : ℕ) (span : Option (ℕ × ℕ)) (starts : List (ℕ × P)) → IsUsed net i stop now starts busy last_busy span
      → share_at span busy last_busy ≡ share_of net i starts
  share_is now busy last_busy span starts (inl (none, idle, no_span)) =
      ap (λ o. share_at o busy last_busy) no_span ∙ sym (ap (share_of net i) none)
  share_is now busy last_busy span starts (inr (front, last, is, said)) =
      let all = said.all in
      let ends = said.ends in
      let rest : busy - last_busy ≡ all_take net i front = omega (arith, all, ends) in
      ap (λ o. share_at o busy last_busy) said.spans
      ∙ ap (λ n. cond (ltb (first_start front last) last.0) (Some (thousandths_of n (last.0 - first_start front last))) None) rest
      ∙ sym (share_from front last said.done) ∙ sym (ap (share_of net i) is)
