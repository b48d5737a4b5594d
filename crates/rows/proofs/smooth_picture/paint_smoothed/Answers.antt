use Rattle.std.proofs.Common.{◌≡◌, ℕ, List, [], ◌∷◌, All, true, sym, subst, ap, ◌∙◌, arith, rules}
use Rattle.std.specs.List.{flat_map, list_any, range_with_len}
use Rattle.std.specs.Str.{bytes_eq}
use Rattle.plot_page.specs.Resolutions.{rows_of}
use Rattle.picture_out.specs.Inks.{colour_bytes, paper}
use Rattle.areas.specs.Views.{shapes_in}
use Rattle.rows.specs.Layouts.{scene_pixels, smooth_boxes}
use Rattle.rows.specs.Palettes.{colours_smoothed}
use Rattle.rows.specs.Pictures.{Reach}
use Rattle.rows.proofs.PixelLayouts.{grey_pixels, palette_has}
use Rattle.rows.proofs.SmoothedRows.{all_of_row}
use Rattle.rows.proofs.smooth_picture.paint_smoothed.Goals as goal

pub paint_pixels-requires-clause-pixels : goal.paint_pixels-requires-clause-pixels
paint_pixels-requires-clause-pixels g c = λ row lt. grey_pixels c.times-times.result (g.G.Gauge.reaches c.args.gauge.now) c.args.scene.pens (shapes_in c.args.scene.shapes) c.args.scene.page c.args.scene.dots row (c.are_grey.ensures (search rules))

pub paint_pixels-requires-in-Ok-Some-clause-pixels : goal.paint_pixels-requires-in-Ok-Some-clause-pixels
paint_pixels-requires-in-Ok-Some-clause-pixels g c = λ row lt.
    let scene = c.args.scene in
    let n = c.times-times.result in
    let reaches : Reach = g.G.Gauge.reaches c.args.gauge.now in
    let rows = rows_of scene.page scene.dots in
    let pixels : Reach → ℕ → List (List ℕ) = scene_pixels n scene in
    let all : List (List ℕ) = colours_smoothed n reaches scene.pens (shapes_in scene.shapes) scene.page scene.dots in
    let used : c.as_slice.result.now ≡ all = c.as_slice.ensures.value ∙ (rw c.in-Ok-Some.field-0-is at c.in-Ok-Some.ensures.colours) in
    let has = palette_has (colour_bytes paper ∷ []) (flat_map (pixels reaches) (range_with_len 0 rows)) in
    let named = all_of_row (λ (colour : List ℕ). list_any (bytes_eq colour) all ≡ true) (pixels reaches) 0 rows row has (omega arith) (omega (arith, lt)) in
    subst (λ (r : Reach). All (λ colour. list_any (bytes_eq colour) c.as_slice.result.now ≡ true) (pixels r row)) (sym c.palette_of.ensures.same)
    (subst (λ (z : List (List ℕ)). All (λ colour. list_any (bytes_eq colour) z ≡ true) (pixels reaches row)) (sym used) named)

pub returns-then-are_grey-clause-tests : goal.returns-then-are_grey-clause-tests
returns-then-are_grey-clause-tests g c =
    let times = ap (λ (t : ℕ). smooth_boxes t c.args.scene) c.times-times.ensures in
    omega (arith, c.paint_pixels.ensures.tests, times)

pub returns-in-Ok-Some-clause-tests : goal.returns-in-Ok-Some-clause-tests
returns-in-Ok-Some-clause-tests g c =
    let times = ap (λ (t : ℕ). smooth_boxes t c.args.scene) c.times-times.ensures in
    omega (arith, c.paint_pixels-in-Ok-Some.ensures.tests, c.palette_of.ensures.tests, times)

pub returns-in-Ok-None-clause-tests : goal.returns-in-Ok-None-clause-tests
returns-in-Ok-None-clause-tests g c =
    let times = ap (λ (t : ℕ). smooth_boxes t c.args.scene) c.times-times.ensures in
    omega (arith, c.paint_pixels-in-Ok-None.ensures.tests, c.palette_of.ensures.tests, times)

pub returns-in-Err-clause-tests : goal.returns-in-Err-clause-tests
returns-in-Err-clause-tests g c =
    let times = ap (λ (t : ℕ). smooth_boxes t c.args.scene) c.times-times.ensures in
    omega (arith, c.palette_of.ensures.tests, times)
