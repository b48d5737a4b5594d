use Rattle.std.proofs.Common.{◌≡◌, ◌≤◌, ◌+◌, ℕ, List, refl, subst}
use Rattle.stroke_raster.specs.Bands.{first_of, rows_of_band}
use Rattle.stroke_raster.specs.ShownShapes.{row_of_shapes}
use Rattle.stroke_raster.specs.Painting.{rows_next}
use Rattle.picture_out.specs.declared.inks.Ink.{Ink}
use Rattle.rows.specs.Pictures.{inks_of}
use Rattle.rows.specs.Progress.{CellPainting, painting_row, tests_left, WritesCells, WritesRows}
use Rattle.rows.proofs.Potentials.{tests_after}
use Rattle.rows.proofs.WrittenRows.{cells_written}
use Rattle.rows.proofs.cell_bands.CellBandsBands.write_next.Goals as goal

pub returns-in-Some-clause-writes : goal.returns-in-Some-clause-writes
returns-in-Some-clause-writes g c =
    let v : (record { painting = c.self.inside.painter; form = c.self.inside.form }) ≡ c.args.self.now = c.self.view_is in
    let reaches = g.G.Gauge.reaches c.args.gauge.now in
    let old = g.K.Sink.state c.args.sink.now in
    let new = g.K.Sink.state c.write_band.new.sink in
    let p = c.self.inside.painter in
    let form = c.self.inside.form in
    let end = (c.next_band.follows.lender-at-none).next in
    let rows = rows_of_band c.in-Some.band in
    let inks = inks_of p.strokes in
    let W : List Ink → ℕ → List (List ℕ) → Type 0 = λ i k z. WritesCells form i c.args.first k z c.args.done old new c.write_band.result in
    let by_inks = subst (λ (i : List Ink). W i (first_of c.in-Some.band) rows) c.self.invariant.0 c.write_band.ensures.rows in
    let from_next = subst (λ (k : ℕ). W inks k rows) c.in-Some.ensures.first by_inks in
    let painted = subst (W inks p.next) c.in-Some.ensures.rows from_next in
    let pens = λ (r : ℕ). row_of_shapes reaches p.pens p.strokes p.areas p.page p.dots r in
    let wrote = cells_written form inks (painting_row form p reaches) pens (λ r. refl) c.args.first p.next (rows_next p) end c.args.done old new c.write_band.result
    (c.next_band.follows.holds-at-none).next painted in
    let R : CellPainting → Type 0 = λ z. WritesRows (painting_row z.form z.painting reaches) c.args.first z.painting.next end c.args.done old new c.write_band.result in
    subst R v wrote

pub returns-in-Some-clause-tests : goal.returns-in-Some-clause-tests
returns-in-Some-clause-tests g c =
    let v : (record { painting = c.self.inside.painter; form = c.self.inside.form }) ≡ c.args.self.now = c.self.view_is in
    let q = c.next_band.follows.lender-at-none in
    subst (λ (z : CellPainting). g.G.Gauge.count c.next_band.new.gauge + tests_left q ≤ g.G.Gauge.count c.args.gauge.now + tests_left z.painting) v
    (tests_after c.self.inside.painter q _ _ c.next_band.follows.holds-at-none c.in-Some.ensures.most)
