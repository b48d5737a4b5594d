use Rattle.raster_requests.proofs.RequestLaws.{requests_are_as_written_lem}
use Rattle.raster_requests.proofs.laws.requests_are_as_written.Goals as goal

pub returns : goal.returns
returns c = requests_are_as_written_lem
