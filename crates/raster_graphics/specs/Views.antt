-- What the code's types stand for.
use Rattle.raster_graphics.specs.declared.line.Sending as sendings
use Rattle.raster_graphics.specs.Rows.{Sending}

-- how data become planes
abbrev pub sending_of : sendings.Sending → Sending
sending_of sending = record { settings = sending.settings.now; compression = sending.compression; seeds = sending.seeds.now }
