-- What holds of the certificate.
use Rattle.std.specs.Prelude.{◌≡◌, ◌⊎◌, ℕ, ◌≤◌, true, Bool, List, Some, None}
use Rattle.nm_model.specs.Lists.{nth}
use Rattle.nm_model.specs.Network.{Net, IsNet}
use Rattle.nm_model.specs.Accept.{last_from}
use Rattle.nm_model.specs.Partition.{comes_in, sender_of}
use Rattle.nm_model.specs.Replica.{IsWithin}
use Rattle.nm_model.specs.Promise.{Promising, promise}
use Rattle.nm_model.specs.WorldLaws.{HasWholeTrace}
use Rattle.nm_model.specs.Certificate.{Book, IsCertified, certify}

module _ {P N : Type 0} (net : Net P N) where
  module _ (books : List (Book P)) where
    -- each book has done no more than what is safe
    abbrev pub AreWithin : Type 0
    AreWithin = (i : ℕ) (b : Book P) → nth books i ≡ Some b
        → IsWithin net b.part b.replica.knowledge b.replica.ran

    -- each book has its whole trace
    abbrev pub HaveWholeTraces : Type 0
    HaveWholeTraces = (i : ℕ) (b : Book P) → nth books i ≡ Some b
        → HasWholeTrace net b.part b.replica

    -- no receiver's clock is past its sender's promise, unless its last message raised it
    abbrev pub ClocksArePromised : Promising → Type 0
    ClocksArePromised kind = (i j c : ℕ) (r s : Book P)
        → nth books i ≡ Some r → nth books j ≡ Some s
        → comes_in net r.part c ≡ true → s.part ≡ sender_of net c
        → ((r.replica.knowledge c).clock
        ≤ promise net kind s.part s.replica.knowledge s.replica.ran c)
        ⊎ (last_from (r.replica.knowledge c).clock (r.replica.knowledge c).list ≡ true)

    -- the certificate finds no fault exactly if the books are certified
    pub record CertifiesExactly (same : P → P → Bool) (kind : Promising) : Type 0 where
      pub sound : IsNet net → certify net same kind books ≡ None → IsCertified net kind books
      pub complete : IsCertified net kind books → certify net same kind books ≡ None
