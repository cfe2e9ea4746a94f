use Rattle.std.proofs.Common.{◌≡◌, false, take, drop, rules, sym, ap, subst, arith}
use Rattle.std.proofs.lemmas.Result.{err_from_is_err_and}
use Rattle.hex.specs.Hex.{encode_lower}
use Rattle.nm_pcap.specs.Outcome.{AddedAll}
use Rattle.nm_pcap.proofs.Forms.{encode-append, encode-nil}
use Rattle.nm_pcap.proofs.Outcomes.{AddedAll-nil, last_piece, next_piece}
use Rattle.nm_pcap.proofs.writer.PcapOut.write_hexadecimal.Goals as goal

pub loop-at-init : goal.loop-at-init
loop-at-init g c =
    let sound : c.args.self.now.failed ≡ false = search rules in
    record {
      within = omega arith;
      front = subst (AddedAll g.W.Sink.seen c.args.self.now c.args.self.now) (sym encode-nil) (AddedAll-nil g.W.Sink.seen c.args.self.now sound c.check.ensures.few);
    }

pub returns-in_err-write_chunk : goal.returns-in_err-write_chunk
returns-in_err-write_chunk g c =
    let p = err_from_is_err_and c.from_residual-in_err-write_chunk.result c.from_residual-in_err-write_chunk.ensures.1 in
    rw (p.1, p.2) (last_piece g.W.Sink.seen encode_lower encode-append _ _ _ _ c.args.octets.now _ c.loop-at.at c.min-count.result
    (ap (λ k. take k (drop c.loop-at.at c.args.octets.now)) (omega arith))
    c.loop-at.invariant.front c.in_err-write_chunk.ensures)

pub loop-at-preserved : goal.loop-at-preserved
loop-at-preserved g c = record {
  within = let h = c.min-count.ensures in omega arith;
  front = next_piece g.W.Sink.seen encode_lower encode-append _ _ _ c.args.octets.now _ c.loop-at.at c.min-count.result
      (ap (λ k. take k (drop c.loop-at.at c.args.octets.now)) (omega arith))
      c.loop-at.invariant.front c.in_ok-write_chunk.ensures;
}
