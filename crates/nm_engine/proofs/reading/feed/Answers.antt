use Rattle.nm_frames.specs.declared.fault.FrameFault.TheVariants.{BadLength, BadKind, BadBody}
use Rattle.nm_engine.proofs.Readings.{fed_bad}
use Rattle.nm_engine.proofs.reading.feed.Goals as goal

pub returns-in-Err-BadLength : goal.returns-in-Err-BadLength
returns-in-Err-BadLength c =
    let bad = fed_bad c.args.reader.now c.feed.new.self c.args.octets.now c.args.frames.now.items c.feed.new.frames.items c.requires.none BadLength (λ fault. fault) _ c.in-Err-BadLength.field-0-is c.in-Err-BadLength.ensures in
    record { feeds = bad.0; part = bad.1 }

pub returns-in-Err-BadKind : goal.returns-in-Err-BadKind
returns-in-Err-BadKind c =
    let bad = fed_bad c.args.reader.now c.feed.new.self c.args.octets.now c.args.frames.now.items c.feed.new.frames.items c.requires.none BadKind (λ fault. fault) _ c.in-Err-BadKind.field-0-is c.in-Err-BadKind.ensures in
    record { feeds = bad.0; part = bad.1 }

pub returns-in-Err-BadBody : goal.returns-in-Err-BadBody
returns-in-Err-BadBody c =
    let bad = fed_bad c.args.reader.now c.feed.new.self c.args.octets.now c.args.frames.now.items c.feed.new.frames.items c.requires.none BadBody (λ fault. fault) _ c.in-Err-BadBody.field-0-is c.in-Err-BadBody.ensures in
    record { feeds = bad.0; part = bad.1 }
