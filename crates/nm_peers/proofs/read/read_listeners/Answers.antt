use Rattle.std.proofs.Common.{arith, rules, subst, sym}
use Rattle.nm_peers.proofs.Lines.{IsReadTo, begins, goes_on, no_line, no_own, no_rest, no_second}
use Rattle.nm_peers.proofs.read.read_listeners.Goals as goal

pub loop-line-init : goal.loop-line-init
loop-line-init c = subst (IsReadTo c.args.partitions c.args.text.now c.args.text.now) (sym c.new-listeners.ensures.items) (begins c.args.partitions c.args.text.now)

pub returns-in_default-listener_of : goal.returns-in_default-listener_of
returns-in_default-listener_of c = λ listeners is.
    no_line c.args.partitions c.args.partition c.args.replica c.args.text.now c.loop-line.rest.now c.in-Some.line.now c.in-Some.after.now c.loop-line.listeners.items
    (omega arith) c.loop-line.invariant c.in-Some.ensures.0 c.in-Some.ensures.1
    (λ a fits says. let found = c.in_default-listener_of.ensures.only a fits says in absurd (cc)) listeners is

pub returns-then-has : goal.returns-then-has
returns-then-has c = λ listeners is.
    let found = c.in-Some-listener_of.ensures.found in
    no_second c.args.partitions c.args.partition c.args.replica c.args.text.now c.loop-line.rest.now c.in-Some.line.now c.in-Some.after.now c.loop-line.listeners.items c.in-Some-listener_of.listener
    (omega arith) c.loop-line.invariant c.in-Some.ensures.0 c.in-Some.ensures.1 found.0 found.1 (search rules) listeners is

pub loop-line-preserved : goal.loop-line-preserved
loop-line-preserved c =
    let found = c.in-Some-listener_of.ensures.found in
    goes_on c.args.partitions c.args.text.now c.loop-line.rest.now c.in-Some.line.now c.in-Some.after.now c.loop-line.listeners.items c.push.new.self.items c.in-Some-listener_of.listener
    c.loop-line.invariant c.in-Some.ensures.0 found.0 found.1 (search rules) (search rules)

pub returns-then-not-is_empty : goal.returns-then-not-is_empty
returns-then-not-is_empty c = λ listeners is.
    no_rest c.args.partitions c.args.partition c.args.replica c.args.text.now c.loop-line.rest.now c.loop-line.listeners.items
    (omega arith) c.loop-line.invariant c.in_default.ensures c.if-not-is_empty.ensures listeners is

pub returns-then-not-has : goal.returns-then-not-has
returns-then-not-has c = λ listeners is.
    no_own c.args.partitions c.args.partition c.args.replica c.args.text.now c.loop-line.rest.now c.loop-line.listeners.items
    (omega arith) c.loop-line.invariant c.in_default.ensures (search rules) listeners is
