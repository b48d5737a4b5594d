use Rattle.conversion.proofs.Sheets.{areas_alike, drawn_alike, images_alike, placed_alike}
use Rattle.conversion.proofs.laws.sheets_are_drawn_alike.Goals as goal

pub returns : goal.returns
returns c = record { strokes = drawn_alike; areas = areas_alike; images = images_alike; place = placed_alike }
