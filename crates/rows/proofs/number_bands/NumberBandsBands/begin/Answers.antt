use Rattle.std.proofs.Common.{◌<◌, ◌^◌, ℕ, List, All, length, sym, ap, ap₂, subst, ◌∙◌}
use Rattle.plot_page.specs.Resolutions.{columns_of}
use Rattle.plot_page.specs.declared.page.Page.{Page}
use Rattle.plot_page.specs.declared.dots.Dots.{Dots}
use Rattle.plot_page.specs.declared.pens.PenSet.{PenSet}
use Rattle.png.specs.declared.header.Depth.{Depth}
use Rattle.png.specs.Headers.{bits_of_depth}
use Rattle.areas.specs.Shapes.{ShapeList}
use Rattle.areas.specs.Views.{shapes_in}
use Rattle.stroke_raster.specs.Painting.{Painting}
use Rattle.rows.specs.Progress.{painting_shapes}
use Rattle.rows.specs.Pictures.{Reach}
use Rattle.rows.specs.Palettes.{numbers_row}
use Rattle.rows.proofs.Potentials.{list_is, shapes_same, stopped_tests}
use Rattle.rows.proofs.number_bands.NumberBandsBands.begin.Goals as goal

pub invariant_of-result : goal.invariant_of-result
invariant_of-result c =
    let made = c.in_ok-painter.ensures in
    let is = c.stop_at.ensures in (
      c.requires.ask.0 ∙ ap length (sym (ap (λ (p : Painting). p.strokes) is ∙ made.strokes)),
      subst (λ (d : Depth). All (λ (number : ℕ). number < 2 ^ bits_of_depth d) c.args.ask.numbers.now) (sym c.in-Ok.ensures.depth) c.requires.ask.1,
      c.in-Ok.ensures.columns ∙ c.columns-columns.ensures.count ∙ ap₂ (λ (p : Page) (d : Dots). columns_of p d) (sym (ap (λ (p : Painting). p.page) is ∙ made.page)) (sym (ap (λ (p : Painting). p.dots) is ∙ made.dots)),
    )

pub returns-clause-text : goal.returns-clause-text
returns-clause-text c =
    let made = c.in_ok-painter.ensures in
    let p = c.in_ok-painter.painter in
    let is = c.stop_at.ensures in
    let q : Painting = record p { end = c.args.end_row } in
    let numbers = c.args.ask.numbers.now in
    let F : PenSet → ShapeList → Page → Dots → Reach → ℕ → List ℕ = λ l ss p d reaches row. numbers_row c.args.ask.depth numbers l ss p d reaches row in
    let G : Depth → Painting → Reach → ℕ → List ℕ = λ d z reaches row. numbers_row d numbers z.pens (painting_shapes z) z.page z.dots reaches row in
    ap₂ G c.in-Ok.ensures.depth is
    ∙ shapes_same F q.pens c.args.scene.pens (painting_shapes q) (shapes_in c.args.scene.shapes) q.page c.args.scene.page q.dots c.args.scene.dots made.pens (list_is q (shapes_in c.args.scene.shapes) made.strokes made.areas) made.page made.dots

pub returns-clause-tests : goal.returns-clause-tests
returns-clause-tests c =
    let made = c.in_ok-painter.ensures in
    stopped_tests c.in_ok-painter.painter c.stop_at.new.self c.args.scene.pens c.args.scene.shapes.strokes.now c.args.scene.page c.args.scene.dots c.args.first_row c.args.end_row c.stop_at.ensures made.strokes made.page made.dots made.pens made.first
