-- What is set, where the pen is, and what is drawn in the profile full: what core has, and more.
use Rattle.std.specs.Prelude.{ℕ, pos, List, [], Option, Some, None}
use Rattle.exact.specs.declared.spot.Spot.{Spot}
use Rattle.line_types.specs.declared.run.Run.{Run}
use Rattle.areas.specs.declared.area.Area.{Area}
use Rattle.hpgl_plot.specs.Machine as core
use Rattle.character_sets.specs.declared.encoding.Encoding.{Encoding}
use Rattle.polygons.specs.Buffers.{Contents}
use Rattle.full_settings.specs.Characters.{Characters}
use Rattle.full_settings.specs.declared.tick_length.TickLength.{TickLength}
use Rattle.full_settings.specs.FillParameters.{usual_fill}
use Rattle.full_settings.specs.Letters.{LetterStyle, usual_letters}
use Rattle.full_settings.specs.LineStyles as styles
use Rattle.full_settings.specs.TickParameters.{usual_ticks}
use Rattle.full_notes.specs.Contexts.{Context}
use Rattle.page_images.specs.PageImages.{ImageShape}
use Rattle.raster_graphics.specs.declared.machine.Machine.{Machine}
use Rattle.raster_graphics.specs.Machines.{start}
use Rattle.full_plot.specs.declared.filling.Filling.{Filling}

-- what is set for labels: how letters are written, the symbol at the ends of moves (SM), the text that is kept (BL),
-- and the length of ticks (TL)
pub record Writing : Type 0 where
  pub letters : LetterStyle
  pub symbol : Option ℕ
  pub text : List ℕ
  pub ticks : TickLength

-- at the start, and after IN and DF
abbrev pub usual_writing : Writing
usual_writing = record { letters = usual_letters; symbol = None; text = []; ticks = usual_ticks }

-- the page's lower left corner
abbrev pub page_origin : Spot
page_origin = record { x = pos 0; y = pos 0 }

-- how polygons are filled at the start, and after IN and DF: a line of hatching goes through the page's lower left corner
abbrev pub usual_filling : Filling
usual_filling = record { fill = usual_fill; anchor = page_origin }

-- what escapes make: the machine of HP RTL, out of which images are taken when they are done; the images of the plot; and for
-- each sheet that has ended, how many of these there were then
pub record Graphics : Type 0 where
  pub machine : Machine
  pub images : List ImageShape
  pub ends : List ℕ

-- at the start; IN, BP and DF leave it as it is
abbrev pub no_graphics : Graphics
no_graphics = record { machine = start; images = []; ends = [] }

-- what core has: the page, the state and the strokes; what decides how the next item is read; the line style, and the run
-- of its pattern; the widths of pens in percent, which have an effect while widths are in percent; how the user reads
-- texts, and the sets of characters and the fonts that the plot has chosen; what is set for labels, and their left
-- margin, a place; how polygons are filled, and the polygon buffer; how much work besides strokes counts; for each sheet
-- that has ended, how many strokes were made until then; the areas, whose edges are strokes; and what escapes make
pub record FullWorld : Type 0 where
  pub core : core.World
  pub context : Context
  pub style : styles.Style
  pub run : Option Run
  pub percents : List (Option ℕ)
  pub encoding : Encoding
  pub characters : Characters
  pub writing : Writing
  pub margin : Spot
  pub filling : Filling
  pub buffer : Contents
  pub extra : ℕ
  pub ends : List ℕ
  pub areas : List Area
  pub graphics : Graphics

-- what core leaves, or None if it stops
abbrev pub with_core : FullWorld → Option core.World → Option FullWorld
with_core w None = None
with_core w (Some v) = Some (record w { core = v })

abbrev pub full_followed : Option FullWorld → (FullWorld → Option FullWorld) → Option FullWorld
full_followed None f = None
full_followed (Some w) f = f w
