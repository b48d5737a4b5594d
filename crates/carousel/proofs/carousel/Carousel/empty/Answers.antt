use Rattle.std.proofs.Common.{◌≤◌, ℕ, None, Option, refl}
use Rattle.std.specs.Option.{ForSome}
use Rattle.std.proofs.lemmas.List.Elements.{All-replicate}
use Rattle.carousel.specs.Carousels.{empty, nothing_said}
use Rattle.carousel.proofs.Empty.{same_carousel}
use Rattle.carousel.proofs.carousel.Carousel.empty.Goals as goal

pub invariant_of-result : goal.invariant_of-result
invariant_of-result c = record { widths_in = All-replicate (λ (width : Option ℕ). ForSome width (λ grains. grains ≤ 12800)) 256 None nothing_said }

pub returns : goal.returns
unfolding empty
returns c = same_carousel _ empty refl refl
