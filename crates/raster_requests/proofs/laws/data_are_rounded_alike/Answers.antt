use Rattle.raster_requests.proofs.RequestLaws.{data_are_rounded_alike_lem}
use Rattle.raster_requests.proofs.laws.data_are_rounded_alike.Goals as goal

pub returns : goal.returns
returns c = data_are_rounded_alike_lem
