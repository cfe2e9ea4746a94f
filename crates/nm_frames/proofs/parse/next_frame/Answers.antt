use Rattle.std.proofs.Common.{◌≡◌, ◌+◌, ◌-◌, ◌≤◌, ◌∙◌, Ok, take, drop, length, ap, subst, arith}
use Rattle.nm_frames.specs.Reader.{FindsWhole, IsWhole}
use Rattle.nm_frames.proofs.Parsing.{tail_is, body_stands, frame_stands}
use Rattle.nm_frames.proofs.parse.next_frame.Goals as goal

pub frame_of-requires-clause-place : goal.frame_of-requires-clause-place
frame_of-requires-clause-place c =
    let s = c.as_slice.result.now in
    let o = take (length s - c.args.at) (drop c.args.at s) in
    let n = c.in-Some.size in
    let is : o ≡ drop c.args.at c.args.block.now = tail_is s c.args.at ∙ ap (λ l. drop c.args.at l) c.as_slice.ensures in
    let whole : IsWhole o n × (1 ≤ n) = subst (λ z. FindsWhole o (Ok z)) c.in-Some.is c.in_ok-size.ensures.found in
    body_stands c.args.block.now o c.args.at n is whole.0.0 (4 + n - 4) c.requires (omega arith)

pub returns-clause-found : goal.returns-clause-found
returns-clause-found c =
    let s = c.as_slice.result.now in
    let o = take (length s - c.args.at) (drop c.args.at s) in
    let n = c.in-Some.size in
    let is : o ≡ drop c.args.at c.args.block.now = tail_is s c.args.at ∙ ap (λ l. drop c.args.at l) c.as_slice.ensures in
    let whole : IsWhole o n × (1 ≤ n) = subst (λ z. FindsWhole o (Ok z)) c.in-Some.is c.in_ok-size.ensures.found in
    (c.in_ok-frame_of.ensures.fits, frame_stands c.args.block.now o c.args.at n is whole.0.0 (4 + n - 4) c.in_ok-frame_of.field-0 c.in_ok-size.ensures.small whole.0.1 (omega arith) c.in_ok-frame_of.ensures.value)
