use Rattle.std.proofs.Common.{◌≡◌, ◌+◌, ◌*◌, ◌∷◌, [], ◌++◌, ap, ◌∙◌}
use Rattle.nm_run.proofs.Words.{of_more, words_more}
use Rattle.nm_run.proofs.jobs.words_of.Goals as goal

pub loop-replica-preserved : goal.loop-replica-preserved
loop-replica-preserved c =
    let words = c.loop-replica.words.items in
    let last : c.push.new.self.items ≡ words ++ c.word_of.result ∷ [] = c.in_ok-push.ensures.items in
    let word : c.word_of.result ≡ 2 * c.loop-number.number + c.loop-replica.replica =
    c.word_of.ensures ∙ ap (λ n. 2 * n + c.loop-replica.replica) c.channel_number-channel.ensures in
    record {
      before = words_more words c.push.new.self.items c.word_of.result last c.args.topology.now c.args.partition c.args.replicas c.loop-number.number c.loop-replica.invariant.before;
      here = of_more words c.push.new.self.items c.word_of.result last c.loop-number.number c.loop-replica.replica word c.loop-replica.invariant.here;
    }
