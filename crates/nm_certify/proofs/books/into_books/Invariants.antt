use Rattle.std.proofs.Common.{◌≡◌, ◌++◌, map}
use Rattle.std.specs.Vec.Iter.{into_iter_items}
use Rattle.nm_certify.proofs.books.into_books.Given as goal

-- the books so far, and those to come
abbrev pub invariant-loop-end : goal.invariant-loop-end
invariant-loop-end l = l.books.items ++ map (λ end. end.book) (into_iter_items l.end-iterator) ≡ map (λ end. end.book) l.fn.ends.items
