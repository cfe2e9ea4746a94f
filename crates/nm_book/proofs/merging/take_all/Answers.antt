use Rattle.std.proofs.Common.{◌≡◌, ◌+◌, ◌<◌, ◌∷◌, suc, IfSome, drop, length, slice_index_or, slice_set, sym, ◌∙◌, ap, subst, arith, refl, rules}
use Rattle.std.proofs.lemmas.List.{length-set}
use Rattle.std.specs.Vec.Iter.{into_iter_items}
use Rattle.nm_model.specs.Knowledge.{nothing_known}
use Rattle.nm_knowledge.specs.Gain.{IsGain}
use Rattle.nm_book.specs.Merging.{is_incoming, joined_at, known, other, with_gain}
use Rattle.nm_book.proofs.Gatherings.{drop_first, gain_fits, with_gain_is}
use Rattle.nm_book.proofs.Safety.{next_case}
use Rattle.nm_book.proofs.Tellings.{read_known, set_elsewhere, set_here}
use Rattle.nm_book.proofs.merging.take_all.Goals as goal

pub take_gain-requires : goal.take_gain-requires
take_gain-requires c =
    let gains = c.requires in
    let n = c.loop-gain.number in
    let items : drop n c.args.gains.items ≡ c.in-Some.gain ∷ into_iter_items c.next.new.self = search rules in
    let found = drop_first c.args.gains.items n c.in-Some.gain (into_iter_items c.next.new.self) items in
    let inside : n < length c.loop-gain.knows.items = let m = gains.3.count in let low = found.2 in let count = c.loop-gain.invariant.count in omega (arith, m, low, count) in
    let at : slice_index_or c.loop-gain.knows.items n nothing_known ≡ c.index_mut.result.now = read_known c.loop-gain.knows.items n n c.index_mut.result.now refl inside c.index_mut.ensures.value in
    let same : c.index_mut.result.now ≡ slice_index_or c.args.knows.now.items n nothing_known = sym at ∙ c.loop-gain.invariant.above n (omega arith) in
    subst (λ a. IfSome c.in-Some.gain (IsGain a)) (sym same)
    (gain_fits (is_incoming gains.0 gains.1 c.args.knows.now.items gains.2 n) (known gains.0 gains.1 c.args.knows.now.items gains.2 n) (other gains.0 gains.1 c.args.knows.now.items gains.2 n) c.in-Some.gain
    (gains.3.each n c.in-Some.gain found.0))

pub loop-gain-preserved : goal.loop-gain-preserved
loop-gain-preserved c =
    let n = c.loop-gain.number in
    let knows = c.args.knows.now.items in
    let now = c.loop-gain.knows.items in
    let items : drop n c.args.gains.items ≡ c.in-Some.gain ∷ into_iter_items c.next.new.self = search rules in
    let found = drop_first c.args.gains.items n c.in-Some.gain (into_iter_items c.next.new.self) items in
    let inside : n < length now = let m = c.requires.3.count in let low = found.2 in let count = c.loop-gain.invariant.count in omega (arith, m, low, count) in
    let at : slice_index_or now n nothing_known ≡ c.index_mut.result.now = read_known now n n c.index_mut.result.now refl inside c.index_mut.ensures.value in
    let same : c.index_mut.result.now ≡ slice_index_or knows n nothing_known = sym at ∙ c.loop-gain.invariant.above n (omega arith) in
    let taken : c.take_gain.new.know ≡ with_gain (slice_index_or knows n nothing_known) c.in-Some.gain = c.take_gain.ensures ∙ ap (λ a. with_gain a c.in-Some.gain) same in
    let count = c.loop-gain.invariant.count in
    let low = found.2 in
    record {
      rest = let e : n + 1 ≡ suc n = omega arith in sym (ap (λ k. drop k c.args.gains.items) e ∙ found.1);
      most = omega (arith, low);
      count = length-set now n c.take_gain.new.know ∙ count;
      below = λ t p others gains d h. next_case (λ d. slice_index_or (slice_set now n c.take_gain.new.know) d nothing_known ≡ joined_at t p knows others d) d n h
          (λ lt. set_elsewhere now n d c.take_gain.new.know (λ e. absurd (omega (arith, lt, e))) ∙ c.loop-gain.invariant.below t p others gains d lt)
          (set_here now n c.take_gain.new.know (let m = gains.count in omega (arith, m, low, count)) ∙ taken
          ∙ with_gain_is (is_incoming t p knows others n) (known t p knows others n) (other t p knows others n) c.in-Some.gain (gains.each n c.in-Some.gain found.0));
      above = λ d h. set_elsewhere now n d c.take_gain.new.know (λ e. absurd (omega (arith, h, e))) ∙ c.loop-gain.invariant.above d (omega (arith, h));
    }
