use Rattle.std.proofs.Common.{◌≡◌, ◌<◌, ◌≤◌, ◌+◌, ℕ, List, [], length, map, get_or, sym, ap, subst, ◌∙◌, arith}
use Rattle.std.proofs.lemmas.List.FromFn.{get_or-map-range_with_len}
use Rattle.stroke_raster.specs.Bands.{first_of, rows_of_band}
use Rattle.stroke_raster.specs.ShownShapes.{row_of_shapes}
use Rattle.stroke_raster.specs.Painting.{rows_next}
use Rattle.png.specs.Packing.{packed_samples}
use Rattle.rows.specs.Palettes.{number_of, numbers_bytes, numbers_row}
use Rattle.rows.specs.Progress.{NumberPainting, painting_shapes, tests_left, WritesRows}
use Rattle.rows.proofs.Potentials.{tests_after}
use Rattle.rows.proofs.number_bands.NumberBandsBands.write_next.Goals as goal

pub returns-in-Some-clause-writes : goal.returns-in-Some-clause-writes
returns-in-Some-clause-writes g c =
    let inside = c.self.inside in
    let p = inside.painter in
    let depth = inside.row.depth in
    let numbers = inside.numbers.now in
    let v : (record { painting = p; depth = depth; numbers = numbers }) ≡ c.args.self.now = c.self.view_is in
    let reaches = g.G.Gauge.reaches c.args.gauge.now in
    let old = g.K.Sink.state c.args.sink.now in
    let new = g.K.Sink.state c.write_numbers.new.sink in
    let end = (c.next_band.follows.lender-at-none).next in
    let rows = rows_of_band c.in-Some.band in
    let at = first_of c.in-Some.band in
    let n = rows_next p in
    let pens : ℕ → List ℕ = λ r. row_of_shapes reaches p.pens p.strokes p.areas p.page p.dots r in
    let row : ℕ → List ℕ = numbers_row depth numbers p.pens (painting_shapes p) p.page p.dots reaches in
    let begins : at ≡ p.next = c.in-Some.ensures.first in
    let made : (k : ℕ) → k < length rows → row (at + k) ≡ packed_samples depth (numbers_bytes depth inside.row.columns) (map (number_of numbers) (get_or rows k [])) =
    λ k lt.
    let within : k < n = omega (arith, lt, c.in-Some.ensures.height) in
    let shown : get_or rows k [] ≡ pens (at + k) = ap (λ (z : List (List ℕ)). get_or z k []) c.in-Some.ensures.rows ∙ get_or-map-range_with_len pens p.next n k (at + k) [] within (omega (arith, begins)) in
    ap (λ (w : ℕ). packed_samples depth (numbers_bytes depth w) (map (number_of numbers) (pens (at + k)))) (sym c.self.invariant.2)
    ∙ ap (λ (z : List ℕ). packed_samples depth (numbers_bytes depth inside.row.columns) (map (number_of numbers) z)) (sym shown) in
    let wrote = c.write_numbers.ensures.rows row made in
    let W : ℕ → ℕ → Type 0 = λ a e. WritesRows row c.args.first a e c.args.done old new c.write_numbers.result in
    let ends : at + length rows ≡ end = omega (arith, begins, c.in-Some.ensures.height, (c.next_band.follows.holds-at-none).next) in
    let R : NumberPainting → Type 0 = λ z. WritesRows (numbers_row z.depth z.numbers z.painting.pens (painting_shapes z.painting) z.painting.page z.painting.dots reaches) c.args.first z.painting.next end c.args.done old new c.write_numbers.result in
    subst R v (subst (λ (e : ℕ). W p.next e) ends (subst (λ (a : ℕ). W a (at + length rows)) begins wrote))

pub returns-in-Some-clause-tests : goal.returns-in-Some-clause-tests
returns-in-Some-clause-tests g c =
    let q = c.next_band.follows.lender-at-none in
    let p = c.self.inside.painter in
    subst (λ (z : NumberPainting). g.G.Gauge.count c.next_band.new.gauge + tests_left q ≤ g.G.Gauge.count c.args.gauge.now + tests_left z.painting) c.self.view_is
    (tests_after p q _ _ c.next_band.follows.holds-at-none c.in-Some.ensures.most)
