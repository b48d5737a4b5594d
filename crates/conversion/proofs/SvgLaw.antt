-- The SVG of strokes, areas and labels among which sheets end, read back.
use Rattle.std.proofs.Common.{◌≡◌, ◌∙◌, ℕ, Bool, false, List, [], ◌∷◌, All, Some, ap, arith, length, map, nat_eq}
use Rattle.std.proofs.lemmas.Bool.Decides.{nat_tests}
use Rattle.std.specs.Prelude.{if◌then◌else◌}
use Rattle.areas.specs.Shapes.{AreApart, NoneGoesOn, shapes}
use Rattle.areas.specs.declared.area.Area.{Area}
use Rattle.labels.specs.Labels.{AreBeside, LabelShape}
use Rattle.page_images.specs.PageImages.{ImageShape}
use Rattle.plot_page.specs.Segments.{Segment}
use Rattle.plot_page.specs.declared.page.Page.{Page}
use Rattle.plot_page.specs.declared.pens.PenSet.{PenSet}
use Rattle.stroke_runs.specs.Drawn.{drawn_shapes}
use Rattle.stroke_runs.specs.Ranges.{IsInRange}
use Rattle.stroke_runs.specs.Shown.{shown_shape}
use Rattle.svg.specs.Documents.{sheets_bytes, svg_bytes}
use Rattle.svg.specs.Reader.{read_svg}
use Rattle.svg.proofs.BytesLaw.{bytes_read, sheet_bytes_read}
use Rattle.conversion.specs.Vectors.{svg_of}

plain_read : (page : Page) (pens : PenSet) (strokes : List Segment) (areas : List Area) (ends image_ends : List ℕ) (labels : List LabelShape)
    → All IsInRange strokes → AreApart 0 areas → All (λ end. NoneGoesOn end areas) ends → AreBeside areas labels
    → read_svg (svg_of page pens (record { shapes = record { strokes = strokes; areas = areas }; images = [] }) ends image_ends labels)
    ≡ Some (map shown_shape (drawn_shapes pens (shapes strokes areas)))
plain_read page pens strokes areas [] image_ends labels near apart beside among = bytes_read page pens strokes areas labels near apart among
plain_read page pens strokes areas (end ∷ ends) image_ends labels near apart beside among =
    let some : nat_eq (length (end ∷ ends)) 0 ≡ false = grind (arith, nat_tests) in
    ap (λ (b : Bool). read_svg (if b then svg_bytes page pens strokes areas labels else sheets_bytes page pens strokes areas (end ∷ ends) labels)) some
    ∙ sheet_bytes_read page pens strokes areas (end ∷ ends) labels near apart beside among

pub svg_read : (page : Page) (pens : PenSet) (strokes : List Segment) (areas : List Area) (images : List ImageShape) (ends image_ends : List ℕ) (labels : List LabelShape) → images ≡ []
    → All IsInRange strokes → AreApart 0 areas → All (λ end. NoneGoesOn end areas) ends → AreBeside areas labels
    → read_svg (svg_of page pens (record { shapes = record { strokes = strokes; areas = areas }; images = images }) ends image_ends labels) ≡ Some (map shown_shape (drawn_shapes pens (shapes strokes areas)))
svg_read page pens strokes areas images ends image_ends labels none near apart beside among =
    let document : List ImageShape → List ℕ =
    λ is. svg_of page pens (record { shapes = record { strokes = strokes; areas = areas }; images = is }) ends image_ends labels in
    ap (λ (is : List ImageShape). read_svg (document is)) none ∙ plain_read page pens strokes areas ends image_ends labels near apart beside among
