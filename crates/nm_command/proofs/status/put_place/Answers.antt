use Rattle.std.proofs.Common.{◌≡◌, List, ℕ, ◌++◌, codes, decimal, sym, ◌∙◌, subst}
use Rattle.std.specs.Io.KnownBytes.{Appends}
use Rattle.std.proofs.lemmas.List.{append_assoc}
use Rattle.std.proofs.lemmas.Result.{on_ok_weaker}
use Rattle.nm_base.proofs.Sinks.{Appends-append}
use Rattle.nm_command.proofs.status.put_place.Goals as goal

grouped : (x a d e : List ℕ) → x ++ (a ++ (d ++ e)) ≡ ((x ++ a) ++ d) ++ e
grouped x a d e = sym (append_assoc (x ++ a) d e ∙ append_assoc x a (d ++ e))

pub returns-clause-said : goal.returns-clause-said
returns-clause-said g c =
    let seen = g.S.Sink.seen in
    let first = (seen c.args.sink.now).taken in
    let name = (seen c.write_all.new.sink).taken in
    let place = (seen c.write_all-2.new.sink).taken in
    let last = (seen c.put_number.new.sink).taken in
    let iface = c.args.iface.now in
    let number = decimal c.args.octet in
    on_ok_weaker c.put_number.result
    (λ said. subst (Appends first last) (grouped (codes "nullsim: differs " ++ iface) (codes " ") number (codes "\n"))
    (Appends-append first place last (codes "nullsim: differs " ++ iface) (codes " " ++ (number ++ codes "\n"))
    (Appends-append first name place (codes "nullsim: differs ") iface c.in_ok-write_all.ensures.ok.whole (subst (Appends name place) c.as_bytes.ensures.value c.in_ok-write_all-2.ensures.ok.whole)) said))
    c.put_number.ensures.said
