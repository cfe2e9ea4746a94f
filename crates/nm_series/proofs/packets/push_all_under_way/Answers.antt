use Rattle.std.proofs.Common.{[], refl, sym, append-nil}
use Rattle.nm_series.proofs.PacketRows.{open_taken}
use Rattle.nm_series.proofs.packets.push_all_under_way.Goals as goal

pub loop-init : goal.loop-init
loop-init c = λ x is. ([], x, is, refl, sym (append-nil c.args.text.now.items))

pub loop-preserved : goal.loop-preserved
loop-preserved c = λ x is.
    open_taken c.args.topology.now c.args.text.now.items c.loop.text.items c.push_under_way.new.text.items x c.in-Some.course c.loop.measured.courses c.take_under_way.new.self.courses
    c.in-Some.ensures.first (c.loop.invariant x is) c.in_ok-push_under_way.ensures
