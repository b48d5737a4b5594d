use Rattle.raster_requests.proofs.RequestLaws.{whole_values_are_kept_lem}
use Rattle.raster_requests.proofs.laws.whole_values_are_kept.Goals as goal

pub returns : goal.returns
returns c = whole_values_are_kept_lem
