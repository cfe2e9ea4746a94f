use Rattle.std.proofs.Common.{Err, subst, sym}
use Rattle.std.specs.Io.BufRead.{FillKeeps}
use Rattle.nm_frames.specs.Reader.{FedWhole, Feeds}
use Rattle.nm_known.specs.Known.{ExplainsText}
use Rattle.nm_known.proofs.Read.{cut_off, frames_fault, taken_off}
use Rattle.nm_known.proofs.reading.read_piece.Goals as goal

pub returns-in-Err-feed-clause-why : goal.returns-in-Err-feed-clause-why
returns-in-Err-feed-clause-why g c = λ text b expected read.
    let piece = c.in-Ok.piece.now in
    let fault = c.in-Err-feed.fault in
    subst (ExplainsText b text) (sym c.frame_fault.ensures)
    (frames_fault text (g.B.Read.remaining c.args.file.now) b expected c.args.reader.now c.feed.new.self piece c.feed.new.frames.items fault c.requires.holds.sound c.in-Ok.ensures.front read
    (subst (λ l. Feeds c.args.reader.now c.feed.new.self piece l c.feed.new.frames.items (Err fault)) c.requires.none c.in-Err-feed.ensures))

pub returns-clause-cut : goal.returns-clause-cut
returns-clause-cut g c = λ _.
    let rested = c.fill_buf.follows.lender-at-none in
    let piece = c.in-Ok.piece.now in
    let kept = subst (FillKeeps (g.B.Read.remaining c.args.file.now) (g.B.Read.remaining rested) (g.B.BufRead.consumable_len rested)) c.in-Ok.is c.fill_buf.follows.holds-at-none in
    let came = c.feed.new.frames.items in
    cut_off (g.B.Read.remaining c.args.file.now) (g.B.Read.remaining c.consume.new.self) c.args.reader.now c.feed.new.self piece came
    (subst (λ l. FedWhole c.args.reader.now c.feed.new.self piece l came) c.requires.none c.in-Ok-feed.ensures)
    (taken_off (g.B.Read.remaining c.args.file.now) (g.B.Read.remaining rested) (g.B.Read.remaining c.consume.new.self) (g.B.BufRead.consumable_len rested) piece kept.0 kept.1 c.consume.ensures.bytes c.in-Ok.ensures.front)
