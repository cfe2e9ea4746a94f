use Rattle.std.proofs.Common.{refl}
use Rattle.nm_known.proofs.Refused.{other_amid}
use Rattle.nm_known.proofs.taking.take_of.Goals as goal

pub returns-in-Hello : goal.returns-in-Hello
returns-in-Hello c = record {
  heard = λ told heard. tt;
  same = refl;
  why = λ told heard. other_amid c.args.book.now told c.args.channel heard c.args.frame c.in-Hello.is;
}
