use Rattle.std.proofs.Common.{◌≡◌, Some, ap, ◌∙◌, arith}
use Rattle.std.specs.Net.Socket.{v4_ip, v4_port}
use Rattle.std.proofs.NetLemmas.Theorems.{IsIpv4Text_unique}
use Rattle.nm_peers.proofs.Words.{ip_is, same_socket, socket_cut, socket_has}
use Rattle.nm_peers.proofs.line.address_of.Goals as goal

pub returns-in_err-before-clause-only : goal.returns-in_err-before-clause-only
returns-in_err-before-clause-only c = λ s fits e. absurd (socket_has c.args.word.now s e c.in_err-before.ensures)

pub returns-in_default-clause-only : goal.returns-in_default-clause-only
returns-in_default-clause-only c = λ s fits e.
    let cut = socket_cut c.args.word.now c.in_ok-before.before.now c.in_ok-before.behind.now s fits e c.in_ok-before.ensures.0 c.in_ok-before.ensures.1 in
    absurd (c.in_default.ensures (v4_ip s) (ip_is c.in_ok-before.before.now s fits cut.0))

pub returns-in_err-port-clause-only : goal.returns-in_err-port-clause-only
returns-in_err-port-clause-only c = λ s fits e.
    let cut = socket_cut c.args.word.now c.in_ok-before.before.now c.in_ok-before.behind.now s fits e c.in_ok-before.ensures.0 c.in_ok-before.ensures.1 in
    let few = fits.1 in
    let not = c.in_err-port.ensures.only (v4_port s) (omega arith) cut.1 in
    absurd (cc)

pub returns-then-port-clause-only : goal.returns-then-port-clause-only
returns-then-port-clause-only c = λ s fits e.
    let cut = socket_cut c.args.word.now c.in_ok-before.before.now c.in_ok-before.behind.now s fits e c.in_ok-before.ensures.0 c.in_ok-before.ensures.1 in
    let few = fits.1 in
    let only = c.in_ok-port.ensures.only (v4_port s) (omega arith) cut.1 in
    let same : c.in_ok-port.port ≡ v4_port s = cc in
    absurd (omega arith)

pub returns-clause-only : goal.returns-clause-only
returns-clause-only c = λ s fits e.
    let cut = socket_cut c.args.word.now c.in_ok-before.before.now c.in_ok-before.behind.now s fits e c.in_ok-before.ensures.0 c.in_ok-before.ensures.1 in
    let few = fits.1 in
    let only = c.in_ok-port.ensures.only (v4_port s) (omega arith) cut.1 in
    let port : c.in_ok-port.port ≡ v4_port s = cc in
    let ip = IsIpv4Text_unique c.in_ok-before.before.now c.in-Ok.ip (v4_ip s) c.in-Ok.ensures (ip_is c.in_ok-before.before.now s fits cut.0) in
    ap Some (same_socket c.new.result s (c.new.ensures.ip ∙ ip) (c.new.ensures.port ∙ port))
