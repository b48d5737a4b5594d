-- What has been set before an item that decides how it is read: in polygon mode some instructions may not be there, and
-- after CT 1 no chord is read (HP-GL/2 guide: PM and CT).
use Rattle.std.specs.Prelude.{ℤ, Bool, true, false, ◌&&◌, if◌then◌else◌, List, take}
use Rattle.hpgl_text.specs.Shapes.{BodyShape, Params, Further, Label, Bad}
use Rattle.hpgl_text.specs.declared.further.Further as further
use Rattle.hpgl_text.specs.declared.further.Further.TheVariants as of
use Rattle.hpgl_text.specs.declared.instruction.Instruction.{Instruction}
use Rattle.hpgl_text.specs.declared.instruction.Instruction.TheVariants.{EdgeAbsolute, EdgeRelative, Circle}
use Rattle.hpgl_text.specs.declared.instruction.Instruction.TheVariants.{ArcAbsolute, ArcRelative}
use Rattle.full_settings.specs.declared.colour_range.ColourRanges.{ColourRanges}
use Rattle.full_settings.specs.declared.polygon_setting.PolygonStep.TheVariants.{Close, End}
use Rattle.full_settings.specs.declared.requests.FurtherRequest.{FurtherRequest}
use Rattle.full_settings.specs.declared.requests.FurtherRequest.TheVariants.{Polygon, Wrong}
use Rattle.full_settings.specs.ColourRanges.{usual_ranges}
use Rattle.full_settings.specs.FurtherRequests.{further_request}
use Rattle.full_settings.specs.PolygonParameters as polygons

-- whether widths are in percent, the ranges of colours, whether polygon mode is on, and whether chords have the usual angle
pub record Context : Type 0 where
  pub in_percent : Bool
  pub ranges : ColourRanges
  pub in_polygon : Bool
  pub usual_chords : Bool

-- at the start, and after IN and BP
abbrev pub first_context : Context
first_context = record { in_percent = false; ranges = usual_ranges; in_polygon = false; usual_chords = false }

-- in polygon mode nothing is filled, no figure but a circle is drawn, and nothing is written
abbrev pub is_bad_further : further.Further → Bool
is_bad_further of.PrintBuffer = true
is_bad_further of.CharacterPlot = true
is_bad_further of.UserCharacter = true
is_bad_further of.XTick = true
is_bad_further of.YTick = true
is_bad_further of.EdgePolygon = true
is_bad_further of.FillPolygon = true
is_bad_further of.FillAbsolute = true
is_bad_further of.FillRelative = true
is_bad_further of.EdgeWedge = true
is_bad_further of.FillWedge = true
is_bad_further f = false

abbrev pub is_edge : Instruction → Bool
is_edge EdgeAbsolute = true
is_edge EdgeRelative = true
is_edge i = false

abbrev pub is_bad_in_polygons : BodyShape → Bool
is_bad_in_polygons (Params i ns) = is_edge i
is_bad_in_polygons (Further f ns) = is_bad_further f
is_bad_in_polygons (Label bytes) = true
is_bad_in_polygons _ = false

abbrev pub is_misplaced : Bool → BodyShape → Bool
is_misplaced in_polygon body = in_polygon && is_bad_in_polygons body

-- PM 1 and PM 2 are for polygon mode only
abbrev pub asked_in : Bool → FurtherRequest → FurtherRequest
asked_in false (Polygon Close) = Wrong
asked_in false (Polygon End) = Wrong
asked_in _ request = request

-- the numbers that are read after CT 1
abbrev pub without_chord : Instruction → List ℤ → List ℤ
without_chord Circle ns = take 1 ns
without_chord ArcAbsolute ns = take 3 ns
without_chord ArcRelative ns = take 3 ns
without_chord i ns = ns

abbrev pub numbers_read : Bool → further.Further → List ℤ → List ℤ
numbers_read usual_chords f ns = if usual_chords then polygons.without_polygon_chord f ns else ns

-- what a further instruction asks for
abbrev pub request_in : Context → further.Further → List ℤ → FurtherRequest
request_in c f ns = asked_in c.in_polygon (further_request f (numbers_read c.usual_chords f ns))

abbrev pub params_read : Bool → Instruction → List ℤ → List ℤ
params_read usual_chords i ns = if usual_chords then without_chord i ns else ns

abbrev pub body_read : Bool → BodyShape → BodyShape
body_read usual_chords (Params i ns) = Params i (params_read usual_chords i ns)
body_read usual_chords body = body

-- how an item is read
abbrev pub read_in : Context → BodyShape → BodyShape
read_in c body = if is_misplaced c.in_polygon body then Bad else body_read c.usual_chords body
