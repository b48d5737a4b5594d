-- What is written for each stroke that is drawn, as the strokes are taken one at a time.
use Rattle.std.specs.Prelude.{ℕ, List, [], ◌∷◌, ◌++◌, if◌then◌else◌, Option, Some, None}
use Rattle.plot_page.specs.Segments.{Segment}
use Rattle.plot_page.specs.declared.page.Page.{Page}
use Rattle.polygons.specs.declared.lines.Rule.{Rule}
use Rattle.stroke_runs.specs.declared.role.Role.{Role}
use Rattle.stroke_runs.specs.declared.runs.Link.{Link}
use Rattle.stroke_runs.specs.declared.runs.Link.TheVariants.{Begins, Apart, Joined}
use Rattle.stroke_runs.specs.Links.{at_start, has_begun, link_as, runs_as}
use Rattle.stroke_runs.specs.Roles.{Member}
use Rattle.pdf.specs.declared.path.Path.{Path}
use Rattle.pdf.specs.RunTexts.{begin_text, chain_end_text, end_text, line_text, stroke_text}

-- before the first stroke
abbrev pub no_path : Path
no_path = record { runs = at_start; first = None }

-- the first stroke of the chain, after a stroke that follows in this way
abbrev pub first_after : Link → Option Segment → Segment → Option Segment
first_after Begins first s = Some s
first_after Apart first s = Some s
first_after Joined first s = first

abbrev pub path_after : Path → Segment → Role → Path
path_after path s role =
    record { runs = runs_as path.runs s role; first = first_after (link_as path.runs s role) path.first s }

-- the end of a chain, if one has begun
abbrev pub open_chain : Option Rule → Option Segment → Option Segment → List ℕ
open_chain rule (Some first) (Some last) = chain_end_text rule first last
open_chain rule _ _ = []

-- the end of the chain of a path
abbrev pub path_chain : Path → List ℕ
path_chain path = open_chain path.runs.rule path.first path.runs.last

-- the end of the run that has begun, if there is one
abbrev pub open_end : Path → List ℕ
open_end path = if has_begun path.runs then path_chain path ++ end_text path.runs.rule else []

-- what is written for a stroke, by how it follows the one before it; the rule is that of a run that begins
abbrev pub link_text : Page → Path → Option Rule → Link → Segment → List ℕ
link_text page path rule Begins s = open_end path ++ begin_text page rule s
link_text page path rule Apart s = path_chain path ++ stroke_text s
link_text page path rule Joined s = line_text s

-- what is written for a stroke, by what it is
abbrev pub drawn_text : Page → Path → Segment → Role → List ℕ
drawn_text page path s role =
    link_text page path (runs_as path.runs s role).rule (link_as path.runs s role) s

-- what is written for a stroke, if it is drawn
abbrev pub step_text : Page → Path → Option Role → Segment → List ℕ
step_text page path None s = []
step_text page path (Some role) s = drawn_text page path s role

abbrev pub after_step : Path → Option Role → Segment → Path
after_step path None s = path
after_step path (Some role) s = path_after path s role

-- what is still to be written for these strokes, and after them
abbrev pub steps_text : Page → Path → List Member → List ℕ
steps_text page path [] = open_end path
steps_text page path (m ∷ ms) =
    drawn_text page path m.stroke m.role ++ steps_text page (path_after path m.stroke m.role) ms
