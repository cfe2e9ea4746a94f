use Rattle.std.proofs.Common.{ℕ, List, [], ◌∷◌, ◌++◌}
use Rattle.std.specs.Int.{w32, w64, to_be_bytes}
use Rattle.nm_frames.proofs.Writing.{put_first, put_both}
use Rattle.nm_frames.proofs.write.write_null.Goals as goal

pub returns-clause-ok : goal.returns-clause-ok
returns-clause-ok c =
    let o : List ℕ = c.args.out.now.items in
    let a1 : List ℕ = to_be_bytes w32 21 ++ 4 ∷ [] in
    let b2 : List ℕ = to_be_bytes w32 c.args.channel ++ to_be_bytes w64 c.args.count in
    let p1 = put_first o c.reserve.new.self.items c.put_head.new.out.items a1 c.reserve.ensures.items c.put_head.ensures.octets in
    let p2 = put_both o c.put_head.new.out.items c.put_count.new.out.items a1 b2 p1 c.put_count.ensures.octets in
    put_both o c.put_count.new.out.items c.put_time.new.out.items (a1 ++ b2) (to_be_bytes w64 c.args.clock) p2 c.put_time.ensures.octets
