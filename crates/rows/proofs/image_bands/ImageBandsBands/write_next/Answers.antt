use Rattle.std.proofs.Common.{◌≡◌, ◌<◌, ◌≤◌, ◌+◌, ℕ, List, [], length, get_or, sym, ap, ap₂, subst, ◌∙◌, arith}
use Rattle.std.proofs.lemmas.List.FromFn.{get_or-map-range_with_len}
use Rattle.plot_page.specs.declared.page.Page.{Page}
use Rattle.plot_page.specs.declared.dots.Dots.{Dots}
use Rattle.page_images.specs.Views.{images_in}
use Rattle.picture_out.specs.declared.inks.Ink.{Ink}
use Rattle.picture_out.specs.Forms.{row_bytes}
use Rattle.stroke_raster.specs.Bands.{first_of, rows_of_band}
use Rattle.stroke_raster.specs.ShownShapes.{row_of_shapes}
use Rattle.stroke_raster.specs.Painting.{rows_next}
use Rattle.rows.specs.ImageCells.{inked, with_images}
use Rattle.rows.specs.Inks.{image_inks_held}
use Rattle.rows.specs.Progress.{ImagePainting, image_painting_row, tests_left, WritesRows}
use Rattle.rows.proofs.Potentials.{tests_after}
use Rattle.rows.proofs.image_bands.ImageBandsBands.write_next.Goals as goal

pub returns-in-Some-clause-writes : goal.returns-in-Some-clause-writes
returns-in-Some-clause-writes g c =
    let inside = c.self.inside in
    let p = inside.painter in
    let w = inside.row in
    let images = images_in w.row.images in
    let it : ImagePainting = record { painting = p; images = images; form = w.form } in
    let v : it ≡ c.args.self.now = c.self.view_is in
    let reaches = g.G.Gauge.reaches c.args.gauge.now in
    let old = g.K.Sink.state c.args.sink.now in
    let new = g.K.Sink.state c.write_with_images.new.sink in
    let end = (c.next_band.follows.lender-at-none).next in
    let rows = rows_of_band c.in-Some.band in
    let at = first_of c.in-Some.band in
    let n = rows_next p in
    let inv = c.self.invariant in
    let pens : ℕ → List ℕ = λ r. row_of_shapes reaches p.pens p.strokes p.areas p.page p.dots r in
    let text : ℕ → List ℕ = image_painting_row it reaches in
    let begins : at ≡ p.next = c.in-Some.ensures.first in
    let bytes : ℕ → Page → Dots → List Ink → List ℕ → List ℕ = λ r page dots inks cells. row_bytes w.form r inks (inked w.form (with_images images page dots r cells)) in
    let made : (k : ℕ) → k < length rows → text (at + k) ≡ bytes (at + k) w.row.page w.row.dots (image_inks_held w.inks) (get_or rows k []) =
    λ k lt.
    let within : k < n = omega (arith, lt, c.in-Some.ensures.height) in
    let shown : get_or rows k [] ≡ pens (at + k) = ap (λ (z : List (List ℕ)). get_or z k []) c.in-Some.ensures.rows ∙ get_or-map-range_with_len pens p.next n k (at + k) [] within (omega (arith, begins)) in
    sym
    (ap₂ (λ (page : Page) (dots : Dots). bytes (at + k) page dots (image_inks_held w.inks) (get_or rows k [])) inv.1 inv.2
    ∙ ap₂ (λ (inks : List Ink) (cells : List ℕ). bytes (at + k) p.page p.dots inks cells) inv.0 shown) in
    let wrote = c.write_with_images.ensures.rows text made in
    let W : ℕ → ℕ → Type 0 = λ a e. WritesRows text c.args.first a e c.args.done old new c.write_with_images.result in
    let ends : at + length rows ≡ end = omega (arith, begins, c.in-Some.ensures.height, (c.next_band.follows.holds-at-none).next) in
    let R : ImagePainting → Type 0 = λ z. WritesRows (image_painting_row z reaches) c.args.first z.painting.next end c.args.done old new c.write_with_images.result in
    subst R v (subst (λ (e : ℕ). W p.next e) ends (subst (λ (a : ℕ). W a (at + length rows)) begins wrote))

pub returns-in-Some-clause-tests : goal.returns-in-Some-clause-tests
returns-in-Some-clause-tests g c =
    let q = c.next_band.follows.lender-at-none in
    let p = c.self.inside.painter in
    subst (λ (z : ImagePainting). g.G.Gauge.count c.next_band.new.gauge + tests_left q ≤ g.G.Gauge.count c.args.gauge.now + tests_left z.painting) c.self.view_is
    (tests_after p q _ _ c.next_band.follows.holds-at-none c.in-Some.ensures.most)
