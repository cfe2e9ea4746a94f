use Rattle.std.proofs.Common.{rules, ◌≡◌, ◌≤◌, ◌++◌, IfSome, length, option_map, subst, take}
use Rattle.nm_offline.proofs.Texts.{whole_text}
use Rattle.nm_offline.proofs.input.read_to_end.Goals as goal

pub returns-in-Ok-clause-text : goal.returns-in-Ok-clause-text
returns-in-Ok-clause-text g c =
    let short : length c.read_to_end.new.buf.items ≤ 67108864 = search rules in
    whole_text (g.R.Read.remaining c.args.reader.now) c.take.result.limit 67108864 c.read_to_end.new.buf.items c.new-octets.result.items c.take.ensures.limit
    c.new-octets.ensures.items
    (subst (λ r. IfSome (option_map (take c.take.result.limit) (g.R.Read.remaining r.now)) (λ xs. c.read_to_end.new.buf.items ≡ c.new-octets.result.items ++ xs)) c.take.ensures.inner c.in-Ok.ensures.bytes)
    short
