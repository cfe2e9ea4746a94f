use Rattle.std.proofs.Common.{◌≡◌, ◌++◌, [], Some, sym, subst, append-nil, ◌∙◌, ap}
use Rattle.nm_model.specs.Before.{IsBefore}
use Rattle.nm_sim.specs.Network.{net_of}
use Rattle.nm_measure.specs.Followed.{IsFollowed}
use Rattle.nm_series.specs.Packets.{packet_columns}
use Rattle.nm_series.proofs.PacketRows.{rows_are}
use Rattle.nm_series.proofs.packets.rows_text.Goals as goal

pub returns : goal.returns
returns c = λ j followed.
    let t = c.args.topology.now in
    let measured = c.push_run.new.measured in
    let m = c.in_ok-push_run.ensures.before in
    let head : c.push_text.new.text.items ≡ packet_columns ++ [] = c.in_ok-push_text.ensures ∙ ap (λ l. l ++ packet_columns) c.new-text.ensures.items ∙ sym (append-nil packet_columns) in
    let all = c.in_ok-push_run.ensures.rows j packet_columns ([], subst (λ k. IsFollowed t (Some j) k [] c.args.measured.now.courses) (sym c.requires.none) followed, head) in
    rows_are t j measured.part.steps c.push_run.new.text.items c.push_all_under_way.new.text.items measured.courses
    (subst (IsBefore (net_of t) t.stop) (sym m.steps) m.over) all c.in_ok-push_all_under_way.ensures
