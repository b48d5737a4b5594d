use Rattle.std.proofs.Common.{◌≡◌, ◌+◌, ◌-◌, ◌<◌, ◌≤◌, fold, sym, subst}
use Rattle.std.specs.List.{flat_map, range_with_len}
use Rattle.stroke_raster.specs.Bands.{rows_of_band}
use Rattle.smoothing.specs.Rows.{times_of, width_of}
use Rattle.rows.specs.Inks.{inks_held}
use Rattle.rows.specs.Palettes.{with_colour}
use Rattle.rows.specs.Progress.{SmoothPainting, row_pixels, tests_left}
use Rattle.rows.proofs.BitRows.{if_ok}
use Rattle.rows.proofs.Potentials.{tests_after}
use Rattle.rows.proofs.SmoothedRows.{colours_of_band}
use Rattle.rows.proofs.smooth_palette.add_next.Goals as goal

pub returns-in-Some-clause-colours : goal.returns-in-Some-clause-colours
returns-in-Some-clause-colours g c =
    let inside = c.bands.inside in
    let s = inside.smoother in
    let b : SmoothPainting = record { painting = inside.painter; times = inside.times; layout = s.layout; columns = width_of s.pixels; rows = inside.rows; next = inside.next; end = inside.end; height = inside.height } in
    let v : b ≡ c.args.bands.now = c.bands.view_is in
    let are = c.bands.invariant in
    let reaches = g.G.Gauge.reaches c.args.gauge.now in
    let start = c.args.colours.now.items in
    let new = c.add_rows.new.colours.items in
    let count = c.min-count.result in
    let left = subst (λ (z : SmoothPainting). z.next < z.end) (sym v) c.requires.left in
    let Added : SmoothPainting → Type 0 = λ z. new ≡ fold with_colour start (flat_map (row_pixels z reaches) (range_with_len z.next (inside.next + count - z.next))) in
    if_ok c.add_rows.result _ _ c.add_rows.ensures.colours (λ all h is.
    subst Added v (colours_of_band b reaches (times_of s.pixels) count (inks_held s.inks) (rows_of_band c.in-Some.band) start new are.3 left are.1 are.0 c.in-Some.ensures.rows c.min-count.ensures (h is)))

pub returns-in-Some-clause-tests : goal.returns-in-Some-clause-tests
returns-in-Some-clause-tests g c =
    let q = c.next_band.follows.lender-at-none in
    let p = c.bands.inside.painter in
    subst (λ (z : SmoothPainting). g.G.Gauge.count c.next_band.new.gauge + tests_left q ≤ g.G.Gauge.count c.args.gauge.now + tests_left z.painting) c.bands.view_is
    (tests_after p q _ _ c.next_band.follows.holds-at-none c.in-Some.ensures.most)
