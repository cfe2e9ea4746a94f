use Rattle.std.proofs.Common.{◌≡◌, ℕ, ◌+◌, ◌<◌, List, [], ◌∷◌, ◌++◌, length, map, take, get_or, sym, ap, ◌∙◌}
use Rattle.std.proofs.lemmas.List.{map-append, take_all, take_more}
use Rattle.nm_paths.proofs.tables.routes_of.Goals as goal

-- what is made of one element more
mapped-more : {X Y : Type 0} (f : X → Y) (front new : List Y) (xs : List X) (x : X) (i : ℕ) → i < length xs → x ≡ get_or xs i x
    → front ≡ map f (take i xs) → new ≡ front ++ f x ∷ [] → new ≡ map f (take (i + 1) xs)
mapped-more f front new xs x i h item so_far is =
    let taken = ap (map f) (take_more xs i x h) ∙ map-append f (take i xs) (get_or xs i x ∷ []) in
    is ∙ ap (λ l. l ++ f x ∷ []) so_far ∙ ap (λ z. map f (take i xs) ++ f z ∷ []) item ∙ sym taken

pub loop-node-preserved : goal.loop-node-preserved
loop-node-preserved c =
    mapped-more (λ n. n.routes) c.loop-node.all.items c.push.new.self.items c.args.nodes.now c.node-item.result c.loop-node.node-index
    c.loop-node-test.true c.node-item.is c.loop-node.invariant
    (c.in_ok-push.ensures.items ∙ ap (λ r. c.loop-node.all.items ++ r ∷ []) (c.in_ok-of.ensures ∙ c.routes.ensures))

pub returns : goal.returns
returns c = c.loop-node.invariant ∙ ap (map (λ n. n.routes)) (take_all c.loop-node.node-index c.args.nodes.now c.loop-node-test.false)
