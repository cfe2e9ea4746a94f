use Rattle.std.proofs.Common.{◌≡◌, ℕ, ◌+◌, List, [], ◌∷◌, ◌++◌, ◌∙◌, ap, subst, length, arith}
use Rattle.std.specs.Int.{w32, w64, to_be_bytes}
use Rattle.nm_frames.specs.Frame.{data_frame, frame_body}
use Rattle.nm_frames.proofs.Writing.{put_first, put_both}
use Rattle.nm_frames.proofs.write.write_data.Goals as goal

pub returns-clause-ok : goal.returns-clause-ok
returns-clause-ok c =
    let o : List ℕ = c.args.out.now.items in
    let a1 : List ℕ = to_be_bytes w32 (21 + c.octet_count-size.result) ++ 3 ∷ [] in
    let b2 : List ℕ = to_be_bytes w32 c.args.channel ++ to_be_bytes w64 c.args.number in
    let b3 : List ℕ = to_be_bytes w64 c.args.time in
    let p1 = put_first o c.reserve.new.self.items c.put_head.new.out.items a1 c.reserve.ensures.items c.put_head.ensures.octets in
    let p2 = put_both o c.put_head.new.out.items c.put_count.new.out.items a1 b2 p1 c.put_count.ensures.octets in
    let p3 = put_both o c.put_count.new.out.items c.put_time.new.out.items (a1 ++ b2) b3 p2 c.put_time.ensures.octets in
    let last = c.put.ensures.octets ∙ ap (λ (l : List ℕ). c.put_time.new.out.items ++ l) c.octets.ensures.value in
    let p4 = put_both o c.put_time.new.out.items c.put.new.out.items ((a1 ++ b2) ++ b3) c.args.packet.now p3 last in
    let e : 21 + c.octet_count-size.result ≡ length (frame_body (data_frame c.args.channel c.args.number c.args.time c.args.packet.now)) = omega (arith, c.octet_count-size.ensures.count) in
    subst (λ (n : ℕ). c.put.new.out.items ≡ o ++ ((((to_be_bytes w32 n ++ 3 ∷ []) ++ b2) ++ b3) ++ c.args.packet.now)) e p4
