use Rattle.std.proofs.Common.{◌≡◌, ℕ, ◌+◌, ◌<◌, List, [], ◌∷◌, ◌++◌, length, map, take, get_or, sym, ap, ◌∙◌}
use Rattle.std.proofs.lemmas.List.{length-append, map-append, take_all, take_more}
use Rattle.nm_topology.proofs.names.names_of.Goals as goal

-- what is made of one element more
mapped-more : {X Y Z : Type 0} (f : X → Z) (g : Y → Z) (front new : List X) (x : X) (ys : List Y) (y : Y) (i : ℕ) → i < length ys → y ≡ get_or ys i y → f x ≡ g y → map f front ≡ map g (take i ys) → new ≡ front ++ x ∷ [] → map f new ≡ map g (take (i + 1) ys)
mapped-more f g front new x ys y i h item same so_far is =
    let taken = ap (map g) (take_more ys i y h) ∙ map-append g (take i ys) (get_or ys i y ∷ []) in
    ap (map f) is ∙ map-append f front (x ∷ []) ∙ ap (λ l. l ++ f x ∷ []) so_far ∙ ap (λ z. map g (take i ys) ++ z ∷ []) (same ∙ ap g item) ∙ sym taken

pub loop-item-preserved : goal.loop-item-preserved
loop-item-preserved g c = record {
  len = ap length c.in_ok-push.ensures.items ∙ length-append c.loop-item.names.items (c.name.result ∷ []) ∙ ap (λ n. n + 1) c.loop-item.invariant.len;
  names = mapped-more (λ k. k.now) g.T.Named.name c.loop-item.names.items _ c.name.result c.args.items.now c.item-item.result c.loop-item.item-index c.loop-item-test.true c.item-item.is c.name.ensures c.loop-item.invariant.names c.in_ok-push.ensures.items;
}

pub returns-clause-names : goal.returns-clause-names
returns-clause-names g c =
    c.loop-item.invariant.names ∙ ap (map g.T.Named.name) (take_all c.loop-item.item-index c.args.items.now c.loop-item-test.false)
