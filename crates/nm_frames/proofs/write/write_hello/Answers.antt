use Rattle.std.proofs.Common.{◌≡◌, ℕ, List, [], ◌∷◌, ◌++◌, rules, length}
use Rattle.std.specs.Int.{w16, w32, to_be_bytes}
use Rattle.nm_frames.specs.declared.format.TheConstants.{MAGIC}
use Rattle.nm_frames.proofs.Writing.{put_first, put_both}
use Rattle.nm_frames.proofs.write.write_hello.Goals as goal

pub returns-clause-ok : goal.returns-clause-ok
returns-clause-ok c =
    let e : length c.args.digest.now ≡ 32 = search rules in
    let o : List ℕ = c.args.out.now.items in
    let a1 : List ℕ = to_be_bytes w32 44 ++ 1 ∷ [] in
    let b2 : List ℕ = MAGIC ++ to_be_bytes w16 c.args.version ++ to_be_bytes w32 c.args.partition ++ c.args.replica ∷ [] in
    let p1 = put_first o c.reserve.new.self.items c.put_head.new.out.items a1 c.reserve.ensures.items c.put_head.ensures.octets in
    let p2 = put_both o c.put_head.new.out.items c.put_speaker.new.out.items a1 b2 p1 c.put_speaker.ensures.octets in
    rw e (put_both o c.put_speaker.new.out.items c.put.new.out.items (a1 ++ b2) c.args.digest.now p2 c.put.ensures.octets)
