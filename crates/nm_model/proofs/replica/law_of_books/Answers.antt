use Rattle.nm_model.proofs.Books.{books, within_more}
use Rattle.nm_model.proofs.replica.law_of_books.Goals as goal

pub returns : goal.returns
returns g c = λ net ok p K J under k w. record {
  same = books net ok p K J under k w;
  within = within_more net ok p K J under k w;
}
