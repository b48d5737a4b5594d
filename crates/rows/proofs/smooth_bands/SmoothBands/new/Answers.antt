use Rattle.std.proofs.Common.{◌≡◌, ◌≤◌, ◌*◌, ℕ, List, cond, map, min, nat_lt, refl, ap, ap₂, sym, subst, ◌∙◌, arith}
use Rattle.std.specs.List.{range_with_len}
use Rattle.std.proofs.Math.Nat.{mul-le-mul_left}
use Rattle.smoothing.specs.Smoothings.{smoothed}
use Rattle.smoothing.specs.Rows.{width_of}
use Rattle.plot_page.specs.Resolutions.{columns_of, rows_of}
use Rattle.plot_page.specs.declared.page.Page.{Page}
use Rattle.plot_page.specs.declared.dots.Dots.{Dots}
use Rattle.plot_page.specs.declared.pens.PenSet.{PenSet}
use Rattle.png.specs.Headers.{HasColours}
use Rattle.areas.specs.Shapes.{ShapeList}
use Rattle.areas.specs.Views.{shapes_in}
use Rattle.stroke_raster.specs.Painting.{Painting}
use Rattle.rows.specs.Boxes.{finer_end}
use Rattle.rows.specs.Progress.{IsSmoothing, painting_shapes, tests_left}
use Rattle.rows.specs.Pictures.{Reach, colours_at, finer, inks_of}
use Rattle.rows.proofs.Potentials.{list_is, shapes_same, tests_are}
use Rattle.rows.proofs.Smoothed.{finer_is, finer_row, finer_rows}
use Rattle.rows.proofs.SmoothedRows.{smoothing_begins}
use Rattle.rows.proofs.smooth_bands.SmoothBands.new.Goals as goal

-- the finer picture has the finer rows of each row
pub stop_before-requires-clause-from : goal.stop_before-requires-clause-from
stop_before-requires-clause-from c = λ left.
    let made = c.in-Ok.ensures in
    let n = c.args.ask.times in
    let from : c.args.first_row ≤ c.args.end_row = c.requires.order (omega (arith, c.if-first_row-rows.false, c.rows-rows.ensures.count)) in
    let more : n * c.args.first_row ≤ n * c.args.end_row = mul-le-mul_left n from in
    omega (arith, made.first, c.min-first.ensures, more)

pub stop_before-requires-clause-to : goal.stop_before-requires-clause-to
stop_before-requires-clause-to c = λ left.
    let made = c.in-Ok.ensures in
    let n = c.args.ask.times in
    let least = c.requires.ask.least in
    let fine = finer n c.args.scene.dots in
    let dots : c.in-Ok.painter.dots ≡ fine = made.dots ∙ finer_is n c.args.scene.dots _ (ap (λ (k : ℕ). n * k) c.per_inch.ensures) least c.requires.ask.fine in
    let all : c.in-Ok.painter.end ≡ rows_of c.args.scene.page fine = made.end ∙ ap (rows_of c.args.scene.page) (sym made.dots ∙ dots) in
    omega (arith, all, finer_rows n c.args.scene.page c.args.scene.dots least c.requires.ask.fine, finer_row n c.args.scene.page.height c.args.scene.dots.resolution c.args.end_row least (omega (arith, left, c.rows-rows.ensures.count)))

pub invariant_of-result : goal.invariant_of-result
invariant_of-result c =
    let made = c.in-Ok.ensures in
    let p : Painting = c.in-Ok.painter in
    let n = c.args.ask.times in
    let least = c.requires.ask.least in
    let scene = c.args.scene in
    let end = c.args.end_row in
    let fine = finer n scene.dots in
    let dots : p.dots ≡ fine = made.dots ∙ finer_is n scene.dots _ (ap (λ (k : ℕ). n * k) c.per_inch.ensures) least c.requires.ask.fine in
    let all : p.end ≡ rows_of scene.page fine = made.end ∙ ap (rows_of scene.page) (sym made.dots ∙ dots) in
    let tall : c.rows.result ≡ rows_of scene.page fine = c.rows.ensures.count ∙ ap (rows_of scene.page) (sym made.dots ∙ dots) in
    let first : p.next ≡ min (n * c.args.first_row) (rows_of scene.page fine) = made.first ∙ c.min-first.ensures ∙ ap (λ (k : ℕ). min (n * c.args.first_row) k) tall in
    let from : c.args.first_row ≤ end = c.requires.order (omega (arith, c.if-first_row-rows.false, c.rows-rows.ensures.count)) in
    let height = c.max-height.result in
    let low : 1 ≤ height = omega (arith, c.max-height.ensures) in
    let high : height ≤ 4096 = omega (arith, c.max-height.ensures, c.min.ensures, c.height_within.ensures.most, c.if-band_rows-gt4096.false) in
    let begun = smoothing_begins p n c.args.first_row end height scene.page scene.dots least c.requires.ask.most c.requires.ask.fine low high (omega (arith, c.rows-rows.ensures.most, c.rows-rows.ensures.count)) made.page dots all first made.height from c.requires.within in
    let counted = ap (λ (rows : ℕ). record p { end = cond (nat_lt end rows) (n * end) p.end }) c.rows-rows.ensures.count in
    let is = c.stop_before.ensures ∙ counted in (
      c.in-Ok-new.ensures.inks ∙ c.new-inks.ensures.inks ∙ ap inks_of (sym (ap (λ (z : Painting). z.strokes) is ∙ made.strokes)),
      c.in-Ok-new.ensures.times,
      subst HasColours (sym c.in-Ok-new.ensures.layout) c.requires.ask.colours,
      subst (λ (z : Painting). IsSmoothing z n end c.args.first_row height) (sym is) begun,
      omega (arith, c.requires.within, c.rows-rows.ensures.count),
      c.rows-rows.ensures.most,
      omega (arith, c.in-Ok-new.ensures.width, c.columns-columns.ensures.most),
    )

pub returns-clause-pixels : goal.returns-clause-pixels
returns-clause-pixels c =
    let made = c.in-Ok.ensures in
    let n = c.args.ask.times in
    let p : Painting = c.in-Ok.painter in
    let fine = finer n c.args.scene.dots in
    let dots : p.dots ≡ fine = made.dots ∙ finer_is n c.args.scene.dots _ (ap (λ (k : ℕ). n * k) c.per_inch.ensures) c.requires.ask.least c.requires.ask.fine in
    let F : PenSet → ShapeList → Page → Dots → ℕ → Reach → ℕ → List (List ℕ) = λ l ss p d columns reaches row. map (smoothed n (colours_at reaches l ss p d) row) (range_with_len 0 columns) in
    let H : Painting → ℕ → Reach → ℕ → List (List ℕ) = λ z. F z.pens (painting_shapes z) z.page z.dots in
    let width : width_of c.in-Ok-new.smoother.pixels ≡ columns_of c.args.scene.page c.args.scene.dots = c.in-Ok-new.ensures.width ∙ c.columns-columns.ensures.count in
    ap₂ H c.stop_before.ensures width
    ∙ shapes_same {A = Reach → ℕ → List (List ℕ)} (λ l ss p d. F l ss p d (columns_of c.args.scene.page c.args.scene.dots)) p.pens c.args.scene.pens (painting_shapes p) (shapes_in c.args.scene.shapes) p.page c.args.scene.page p.dots fine made.pens (list_is p (shapes_in c.args.scene.shapes) made.strokes made.areas) made.page dots

pub returns-clause-tests : goal.returns-clause-tests
returns-clause-tests c =
    let made = c.in-Ok.ensures in
    let n = c.args.ask.times in
    let p : Painting = c.in-Ok.painter in
    let scene = c.args.scene in
    let end = c.args.end_row in
    let fine = finer n scene.dots in
    let dots : p.dots ≡ fine = made.dots ∙ finer_is n scene.dots _ (ap (λ (k : ℕ). n * k) c.per_inch.ensures) c.requires.ask.least c.requires.ask.fine in
    let tall : c.rows.result ≡ rows_of scene.page fine = c.rows.ensures.count ∙ ap (rows_of scene.page) (sym made.dots ∙ dots) in
    let first : p.next ≡ min (n * c.args.first_row) (rows_of scene.page fine) = made.first ∙ c.min-first.ensures ∙ ap (λ (k : ℕ). min (n * c.args.first_row) k) tall in
    let all : p.end ≡ rows_of scene.page fine = made.end ∙ ap (rows_of scene.page) (sym made.dots ∙ dots) in
    let stops : cond (nat_lt end c.rows-rows.result) (n * end) p.end ≡ finer_end n scene.page scene.dots end = ap₂ (λ (rows finer_rows : ℕ). cond (nat_lt end rows) (n * end) finer_rows) c.rows-rows.ensures.count all in
    ap tests_left c.stop_before.ensures
    ∙ tests_are (record p { end = cond (nat_lt end c.rows-rows.result) (n * end) p.end }) scene.pens scene.shapes.strokes.now scene.page fine _ (finer_end n scene.page scene.dots end) made.strokes made.page dots made.pens first stops

pub returns-clause-made : goal.returns-clause-made
returns-clause-made c =
    let made = c.in-Ok.ensures in
    let n = c.args.ask.times in
    let p : Painting = c.in-Ok.painter in
    let fine = finer n c.args.scene.dots in
    let dots : p.dots ≡ fine = made.dots ∙ finer_is n c.args.scene.dots _ (ap (λ (k : ℕ). n * k) c.per_inch.ensures) c.requires.ask.least c.requires.ask.fine in
    let is = c.stop_before.ensures in
    record {
      shapes = ap painting_shapes is ∙ list_is p (shapes_in c.args.scene.shapes) made.strokes made.areas;
      pens = ap (λ (z : Painting). z.pens) is ∙ made.pens;
      page = ap (λ (z : Painting). z.page) is ∙ made.page;
      dots = ap (λ (z : Painting). z.dots) is ∙ dots;
      times = refl;
      columns = c.in-Ok-new.ensures.width ∙ c.columns-columns.ensures.count;
    }
