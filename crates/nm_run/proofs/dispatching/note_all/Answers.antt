use Rattle.std.proofs.Common.{◌≡◌, ◌+◌, ◌<◌, ◌≤◌, length, get_or, sym, ◌∙◌, ap, subst, rules, arith}
use Rattle.std.proofs.Math.Seq.{map-set_same}
use Rattle.std.proofs.lemmas.List.{length-set}
use Rattle.nm_run.specs.Watching.{AreOwns, names_of, owns_of}
use Rattle.nm_run.proofs.Noting.{counted_more, events_are}
use Rattle.nm_run.proofs.Watching.{own_there}
use Rattle.nm_run.proofs.dispatching.note_all.Goals as goal
use Rattle.nm_run.proofs.dispatching.note_all.Goals.{in-Some+in_ok-note, in_default}

pub note-requires : goal.note-requires
note-requires g c =
    let names = names_of c.args.threaded.now in
    let watched = c.loop-number.dispatcher.watched.items in
    let n = (get_or c.args.jobs.now c.loop-number.number (record { book = 0; limit = 0 })).book in
    let w = c.in-Some.watched.now in
    let low : n < length watched = search rules in
    let there : w ≡ get_or watched n w = search rules in
    own_there names watched n w (subst (AreOwns names) (sym c.loop-number.invariant.owns) c.requires.owns) low there

pub loop-number-preserved : goal.loop-number-preserved
loop-number-preserved g c =
    let watched = c.loop-number.dispatcher.watched.items in
    let number = c.loop-number.number in
    let n = (get_or c.args.jobs.now number (record { book = 0; limit = 0 })).book in
    let was = c.loop-number.invariant in
    let within : number + 1 ≤ length c.args.jobs.now = search rules in
    elim c.match-get_mut.branch [
      | in-Some+in_ok-note w ↦
          let own = w.in-Some.watched.now in
          let there : own ≡ get_or watched n own = search rules in
          let same = w.in_ok-note.ensures.own ∙ ap (λ x. x.own) there in
          let low : number < length c.args.answers.now = let all = c.requires.all in omega (arith, within, all) in
          record {
            within = within;
            seat = ap (λ d. d.seat) w.dispatcher-is ∙ was.seat;
            passes = ap (λ d. d.passes) w.dispatcher-is ∙ was.passes;
            many = ap (λ d. length d.watched.items) w.dispatcher-is ∙ length-set watched n w.note.new.watched ∙ was.many;
            events = w.events-is ∙ w.saturating_add-events.ensures
                ∙ counted_more c.args.answers.now number _ c.loop-number.events _ low was.events (events_are _ _ w.in_ok-note.ensures.answered);
            owns = ap (λ d. owns_of d.watched.items) w.dispatcher-is ∙ map-set_same (λ x. x.own) watched n w.note.new.watched own same ∙ was.owns;
          }
      | in_default w ↦
          let named = c.requires.named number (record { book = 0; limit = 0 }) (omega (arith, within)) in
          let none : length watched ≤ n = search rules in
          absurd (omega (arith, named, none, was.many))
    ]
