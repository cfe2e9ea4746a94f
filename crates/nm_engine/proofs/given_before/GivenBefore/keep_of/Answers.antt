use Rattle.std.proofs.Common.{◌≡◌, ◌<◌, ◌+◌, length, Some, slice_get, slice_set, refl, sym, ap, ◌∙◌, subst}
use Rattle.std.proofs.lemmas.List.Quantifiers.{position-Some}
use Rattle.std.proofs.lemmas.Option.{slice_get_read}
use Rattle.nm_base.specs.Count.{saturated}
use Rattle.nm_engine.specs.GivenBefore.{NotesMore, is_replica_named}
use Rattle.nm_engine.proofs.given_before.GivenBefore.keep_of.Goals as goal

pub returns-in-Some : goal.returns-in-Some
returns-in-Some c =
    let all = c.args.self.now.all.items in
    let place = c.in-Some.place in
    let before = c.index_mut.result.now in
    let after = c.merge.new.self in
    let is = sym c.place_of.ensures ∙ c.in-Some.is in
    let low : place < length all = (position-Some (is_replica_named c.args.name) all place before is).0 in
    let at : slice_get all place ≡ Some before = slice_get_read all (length all) place before refl low c.index_mut.ensures.value in
    record {
      resent = c.saturating_add-self.ensures ∙ ap (λ n. saturated (c.args.self.now.resent + n)) c.resent_to.ensures;
      noted = subst (NotesMore all (slice_set all place (before.0, after)) c.args.name c.args.messages) (sym is)
          (before, after, at, c.merge.ensures, refl);
    }
