use Rattle.std.proofs.Common.{length}
use Rattle.luo_finite.specs.Binomial.{choose}
use Rattle.luo_finite.specs.Places.{IsChoice, Lexical}
use Rattle.luo_finite.proofs.OrderedPlaces.{Place-one, one_at}
use Rattle.luo_finite.proofs.PlacesExist.{place_below, some_place}
use Rattle.luo_finite.proofs.Orders.{lists_ordered}
use Rattle.luo_finite.proofs.Choices.{choices_counted}
use Rattle.luo_binom.proofs.laws.places_are_inverse.Goals as goal

pub returns : goal.returns
returns c = λ L k. (
  (λ r s C m n. Place-one (IsChoice L k) Lexical r s C m n),
  (λ r C D m n. one_at (IsChoice L k) Lexical r C D (λ z h. lists_ordered.one_way z z h h) lists_ordered.through lists_ordered.either m n),
  (λ s r C m. place_below (IsChoice L k) Lexical lists_ordered (choose (length L) k) (choices_counted L k s) r C m),
  λ s r h. some_place (IsChoice L k) Lexical lists_ordered (choose (length L) k) (choices_counted L k s) r h,
)
