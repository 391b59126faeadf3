use Rattle.games.proofs.Order.{≈_sym, ≈_trans}
use Rattle.games.proofs.Unique.{unique}
use Rattle.games.proofs.Exists.{found}
use Rattle.games.proofs.Tests.{canonical_is, is_canonical_lem}
use Rattle.games.proofs.Listing.{≺_irrefl, ≺_trans, place}
use Rattle.games.proofs.laws.canonical_form_is_one.Goals as goal

pub returns : goal.returns
returns c = record {
  one = λ g. ((found g).it, (found g).is_canonical, (found g).same_value, λ d p e. unique p (found g).is_canonical (≈_trans (≈_sym e) (found g).same_value));
  decided = λ g. (canonical_is g, is_canonical_lem g);
  listing = ((λ g. ≺_irrefl), (λ g h k p q. ≺_trans p q), place);
}
