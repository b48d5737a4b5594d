use Rattle.raster_graphics.proofs.RoomLaws.{planes_have_room_lem}
use Rattle.raster_graphics.proofs.laws.planes_have_room.Goals as goal

pub returns : goal.returns
returns c = planes_have_room_lem
