use Rattle.std.proofs.Common.{◌≡◌, ◌≤◌, ◌<◌, ◌+◌, ℕ, List, map, sym, ap, ap₂, subst, ◌∙◌, arith}
use Rattle.std.specs.List.{range_with_len}
use Rattle.stroke_raster.specs.Bands.{rows_of_band}
use Rattle.smoothing.specs.Cells.{colours_of_cells}
use Rattle.smoothing.specs.Rows.{times_of, width_of}
use Rattle.smoothing.specs.Smoothings.{smoothed}
use Rattle.picture_out.specs.declared.inks.Ink.{Ink}
use Rattle.rows.specs.Inks.{inks_held}
use Rattle.rows.specs.PixelRows.{layout_bytes}
use Rattle.rows.specs.Progress.{SmoothPainting, smoothed_text, tests_left, WritesRows}
use Rattle.rows.proofs.Potentials.{tests_after}
use Rattle.rows.proofs.SmoothedRows.{band_pixels}
use Rattle.rows.proofs.smooth_bands.SmoothBandsBands.write_next.Goals as goal

pub returns-in-Some-clause-writes : goal.returns-in-Some-clause-writes
returns-in-Some-clause-writes g c =
    let inside = c.self.inside in
    let p = inside.painter in
    let s = inside.smoother in
    let at = inside.next in
    let count = c.min-count.result in
    let columns = width_of s.pixels in
    let it : SmoothPainting = record { painting = p; times = inside.times; layout = s.layout; columns = columns; rows = inside.rows; next = at; end = inside.end; height = inside.height } in
    let v : it ≡ c.args.self.now = c.self.view_is in
    let left : at < inside.end = subst (λ (z : SmoothPainting). z.next < z.end) (sym v) c.requires.left in
    let reaches = g.G.Gauge.reaches c.args.gauge.now in
    let inv = c.self.invariant in
    let cells = rows_of_band c.in-Some.band in
    let f : ℕ → List Ink → List (List ℕ) → ℕ → List ℕ = λ n inks rows k. layout_bytes s.layout (map (smoothed n (colours_of_cells inks rows) k) (range_with_len 0 columns)) in
    let made : (k : ℕ) → k < count → smoothed_text it reaches (at + k) ≡ f (times_of s.pixels) (inks_held s.inks) cells k =
    λ k lt. sym
    (ap (λ (m : ℕ). f m (inks_held s.inks) cells k) inv.1
    ∙ ap₂ (λ (i : List Ink) (z : List (List ℕ)). f inside.times i z k) inv.0 c.in-Some.ensures.rows
    ∙ ap (layout_bytes s.layout) (band_pixels reaches p inside.times inside.end at inside.height k columns inv.3 left (omega (arith, lt, c.min-count.ensures)))) in
    let wrote = c.write_smoothed.ensures.rows (smoothed_text it reaches) made in
    subst (λ (z : SmoothPainting). WritesRows (smoothed_text z reaches) c.args.first z.next (at + count) c.args.done (g.K.Sink.state c.args.sink.now) (g.K.Sink.state c.write_smoothed.new.sink) c.write_smoothed.result) v wrote

pub returns-in-Some-clause-tests : goal.returns-in-Some-clause-tests
returns-in-Some-clause-tests g c =
    let q = c.next_band.follows.lender-at-none in
    let p = c.self.inside.painter in
    subst (λ (z : SmoothPainting). g.G.Gauge.count c.next_band.new.gauge + tests_left q ≤ g.G.Gauge.count c.args.gauge.now + tests_left z.painting) c.self.view_is
    (tests_after p q _ _ c.next_band.follows.holds-at-none c.in-Some.ensures.most)
