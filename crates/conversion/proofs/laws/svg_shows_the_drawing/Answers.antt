use Rattle.std.proofs.Common.{All, List, ap, subst}
use Rattle.areas.specs.Shapes.{AreApart, ShapeList}
use Rattle.areas.specs.declared.area.Area.{Area}
use Rattle.areas.proofs.Apart.{apart_in}
use Rattle.plot_page.specs.Segments.{Segment}
use Rattle.stroke_runs.specs.Ranges.{IsInRange}
use Rattle.conversion.specs.Rules.{ends_of}
use Rattle.conversion.specs.Sheets.{areas_on, images_on, labels_on, strokes_on}
use Rattle.conversion.specs.declared.place.Drawing.{Drawing}
use Rattle.conversion.proofs.SvgLaw.{svg_read}
use Rattle.conversion.proofs.WholeDrawings.{of_drawing, of_sheets}
use Rattle.conversion.proofs.laws.svg_shows_the_drawing.Goals as goal

pub returns : goal.returns
returns c =
    let drawing : Drawing = c.args.drawing.now in
    let sheet = c.args.sheet in
    let d = c.requires.drawn in
    let whole = of_sheets drawing (of_drawing d.reading d.carousel d.choice d.picture d.before d.after d.turn drawing d.drawn) sheet in
    let same = c.shapes_on.ensures.shapes in
    svg_read drawing.page c.args.pens.now (strokes_on drawing sheet) (areas_on drawing sheet) (images_on drawing sheet) (ends_of sheet drawing.lines.ends.items)
    (ends_of sheet drawing.lines.image_ends.items) (labels_on drawing sheet) c.requires.plain
    (subst (λ (list : ShapeList). All IsInRange list.strokes) same c.strokes_are_in_range.ensures)
    (subst (λ (list : ShapeList). AreApart 0 list.areas) same (apart_in c.shapes_on.result.areas))
    whole.ends_beside whole.labels_beside
