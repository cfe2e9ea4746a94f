use Rattle.std.proofs.Common.{◌≡◌, length, arith, rules}
use Rattle.nm_knowledge.proofs.Blocks.{length_blocks}
use Rattle.nm_knowledge.proofs.messages.Messages.len.Goals as goal

pub overflow_mul-result : goal.overflow_mul-result
overflow_mul-result c =
    let count = length_blocks c.self.inside.full.items c.self.inside.last.items c.self.invariant.each in
    let most = c.self.invariant.most in
    let full : c.len.result ≡ length c.self.inside.full.items = search rules in
    omega (arith, count, most, full)

pub overflow_add-result : goal.overflow_add-result
overflow_add-result c =
    let count = length_blocks c.self.inside.full.items c.self.inside.last.items c.self.invariant.each in
    let most = c.self.invariant.most in
    let full : c.len.result ≡ length c.self.inside.full.items = search rules in
    let last : c.len-2.result ≡ length c.self.inside.last.items = search rules in
    omega (arith, count, most, full, last)

pub returns-clause-value : goal.returns-clause-value
returns-clause-value c =
    let full : c.len.result ≡ length c.self.inside.full.items = search rules in
    let last : c.len-2.result ≡ length c.self.inside.last.items = search rules in
    let count = length_blocks c.self.inside.full.items c.self.inside.last.items c.self.invariant.each in
    rw (← c.self.view_is) (omega (arith, count, full, last))

pub returns-clause-most : goal.returns-clause-most
returns-clause-most c =
    let count = length_blocks c.self.inside.full.items c.self.inside.last.items c.self.invariant.each in
    let most = c.self.invariant.most in
    let full : c.len.result ≡ length c.self.inside.full.items = search rules in
    let last : c.len-2.result ≡ length c.self.inside.last.items = search rules in
    omega (arith, count, most, full, last)
