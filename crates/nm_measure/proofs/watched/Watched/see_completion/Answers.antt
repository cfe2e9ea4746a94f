use Rattle.std.proofs.Common.{rules, ◌≡◌, ◌<◌, ◌≤◌, suc, ◌++◌, ◌∷◌, [], length, slice_set, sym, ap, ◌∙◌, subst, arith, ⊎_elim}
use Rattle.nm_model.proofs.ListLemmas.{not_some, some_inj}
use Rattle.nm_model.specs.Lists.{set_at}
use Rattle.nm_sim.specs.declared.told.Started.{Started}
use Rattle.nm_measure.specs.Lanes.{AreWatched, lanes_in}
use Rattle.nm_measure.specs.Ways.{ends_in, tagged_list}
use Rattle.std.specs.Option.{option_map}
use Rattle.nm_base.specs.declared.record.Dir.TheVariants.{Out}
use Rattle.nm_measure.specs.Followed.{gone_past}
use Rattle.nm_measure.proofs.Followings.{quiet_goes, start_goes}
use Rattle.nm_measure.proofs.Completions.{completion_step}
use Rattle.nm_measure.proofs.Laning.{first_waits, next_starts, watched_as}
use Rattle.nm_measure.proofs.Lists.{read_at}
use Rattle.nm_measure.proofs.watched.Watched.see_completion.Goals as goal

pub returns-in_default-clause-watches : goal.returns-in_default-clause-watches
returns-in_default-clause-watches c = λ n p next was.
    let t = c.args.topology.now in
    let laws = c.tags_change_no_run.ensures in
    let w = c.args.self.now in
    let step = completion_step t n (laws.same n) laws.network (laws.orderly n) c.args.now c.args.iface p c.args.happened.now next in
    ⊎_elim
    (λ none. subst (λ l. AreWatched (length t.ifaces) (lanes_in t (tagged_list t (suc n))) [] l w.lanes.items w.flows.counts.items w.flows.times.items) step.ends
    (watched_as (length t.ifaces) (lanes_in t (tagged_list t n)) (lanes_in t (tagged_list t (suc n))) [] (ends_in t n) w.lanes.items w.flows.counts.items w.flows.times.items none.1 was))
    (λ some. absurd (not_some some.0 (sym c.in_default.is ∙ some.1)))
    step.is

pub returns-in_default-get_mut-clause-watches : goal.returns-in_default-get_mut-clause-watches
returns-in_default-get_mut-clause-watches c = λ n p next was.
    let t = c.args.topology.now in
    let laws = c.tags_change_no_run.ensures in
    let w = c.args.self.now in
    let step = completion_step t n (laws.same n) laws.network (laws.orderly n) c.args.now c.args.iface p c.args.happened.now next in
    let past : length w.lanes.items ≤ c.index.result = search rules in
    let at = c.index.ensures in
    let there = c.requires.there in
    let long = was.all_there in
    absurd (⊎_elim
    (λ none. not_some c.in-Some.started (sym none.0 ∙ c.in-Some.is))
    (λ some. let same : some.0.iface ≡ c.in-Some.started.iface = ap (λ (z : Started). z.iface) (some_inj some.0 c.in-Some.started (sym some.1 ∙ c.in-Some.is)) in let i = some.2 in omega (arith, past, at, there, long, same, i))
    step.is)

pub returns-clause-watches : goal.returns-clause-watches
returns-clause-watches c =
    let t = c.args.topology.now in
    let laws = c.tags_change_no_run.ensures in
    let w = c.args.self.now in
    let x = c.in-Some-get_mut.lane.now in
    let y = c.send_next.new.self in
    let there : c.index.result < length w.lanes.items = search rules in
    λ n p next was.
    let step = completion_step t n (laws.same n) laws.network (laws.orderly n) c.args.now c.args.iface p c.args.happened.now next in
    let all = lanes_in t (tagged_list t n) in
    ⊎_elim
    (λ none. absurd (not_some c.in-Some.started (sym none.0 ∙ c.in-Some.is)))
    (λ some.
    let at : c.index.result ≡ c.args.iface = c.index.ensures ∙ ap (λ (z : Started). z.iface) (sym (some_inj some.0 c.in-Some.started (sym some.1 ∙ c.in-Some.is))) ∙ some.2 in
    let done = next_starts (length t.ifaces) all (ends_in t n) w.lanes.items w.flows.counts.items w.flows.times.items c.args.iface x y
    (read_at w.lanes.items c.args.iface c.index.result x at there c.in-Some-get_mut.ensures.value) some.3 some.4 was some.5 c.send_next.ensures.line c.send_next.ensures.waiting in
    subst (λ l. AreWatched (length t.ifaces) (lanes_in t (tagged_list t (suc n))) [] l (slice_set w.lanes.items c.index.result y) w.flows.counts.items w.flows.times.items) step.ends
    (watched_as (length t.ifaces) (set_at all c.args.iface ((all c.args.iface).0 ++ some.3 ∷ [], some.4)) (lanes_in t (tagged_list t (suc n))) [] (ends_in t n) (slice_set w.lanes.items c.index.result y) w.flows.counts.items w.flows.times.items some.6
    (subst (λ k. AreWatched (length t.ifaces) (set_at all c.args.iface ((all c.args.iface).0 ++ some.3 ∷ [], some.4)) [] (ends_in t n) (slice_set w.lanes.items k y) w.flows.counts.items w.flows.times.items) (sym at) done)))
    step.is

pub returns-in_default-clause-followed : goal.returns-in_default-clause-followed
returns-in_default-clause-followed c = λ n p j taken few made next was old.
    let t = c.args.topology.now in
    let laws = c.tags_change_no_run.ensures in
    let step = completion_step t n (laws.same n) laws.network (laws.orderly n) c.args.now c.args.iface p c.args.happened.now next in
    ⊎_elim
    (λ none. quiet_goes t j taken n c.args.now c.args.iface p c.args.happened.now next c.requires.there step.ends none.1 none.2 c.args.self.now.courses old)
    (λ some. absurd (not_some some.0 (sym c.in_default.is ∙ some.1)))
    step.is

pub returns-in_default-get_mut-clause-followed : goal.returns-in_default-get_mut-clause-followed
returns-in_default-get_mut-clause-followed c = λ n p j taken few made next was old.
    let t = c.args.topology.now in
    let laws = c.tags_change_no_run.ensures in
    let w = c.args.self.now in
    let step = completion_step t n (laws.same n) laws.network (laws.orderly n) c.args.now c.args.iface p c.args.happened.now next in
    let past : length w.lanes.items ≤ c.index.result = search rules in
    let at = c.index.ensures in
    let there = c.requires.there in
    let long = was.all_there in
    absurd (⊎_elim
    (λ none. not_some c.in-Some.started (sym none.0 ∙ c.in-Some.is))
    (λ some. let same : some.0.iface ≡ c.in-Some.started.iface = ap (λ (z : Started). z.iface) (some_inj some.0 c.in-Some.started (sym some.1 ∙ c.in-Some.is)) in let i = some.2 in omega (arith, past, at, there, long, same, i))
    step.is)

pub returns-clause-followed : goal.returns-clause-followed
returns-clause-followed c = λ n p j taken few made next was old.
    let t = c.args.topology.now in
    let laws = c.tags_change_no_run.ensures in
    let w = c.args.self.now in
    let x = c.in-Some-get_mut.lane.now in
    let there : c.index.result < length w.lanes.items = search rules in
    let step = completion_step t n (laws.same n) laws.network (laws.orderly n) c.args.now c.args.iface p c.args.happened.now next in
    ⊎_elim
    (λ none. absurd (not_some c.in-Some.started (sym none.0 ∙ c.in-Some.is)))
    (λ some.
    let is : c.in-Some.started.iface ≡ c.args.iface = ap (λ (z : Started). z.iface) (sym (some_inj some.0 c.in-Some.started (sym some.1 ∙ c.in-Some.is))) ∙ some.2 in
    let at : c.index.result ≡ c.args.iface = c.index.ensures ∙ is in
    let lane = was.each c.args.iface x (read_at w.lanes.items c.args.iface c.index.result x at there c.in-Some-get_mut.ensures.value) in
    start_goes t j taken n c.args.now c.args.iface p c.args.happened.now next c.requires.there step.ends some.3 some.4 some.5 some.6 some.7 w.courses c.pass_first.new.courses
    (λ rising. c.in_ok-pass_first.ensures some.3 (first_waits (lanes_in t (tagged_list t n) c.args.iface) x lane some.3 some.4 some.5) rising
    ∙ ap (λ i. option_map (gone_past some.3 (record { iface = i; dir = Out; time = c.args.now })) w.courses) is)
    old)
    step.is
