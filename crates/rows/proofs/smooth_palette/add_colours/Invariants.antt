use Rattle.std.proofs.Common.{◌≡◌, ◌<◌, ◌≤◌, ◌+◌, ◌-◌, length, fold}
use Rattle.std.specs.List.{flat_map, range_with_len}
use Rattle.rows.specs.Palettes.{with_colour}
use Rattle.rows.specs.Progress.{row_pixels, tests_left}
use Rattle.rows.proofs.smooth_palette.add_colours.Given as goal

-- the colours of the rows up to the next one were added, and the bands are those of the same picture
abbrev pub invariant-each : goal.invariant-each
invariant-each g l =
    let first = l.fn.bands.next in
    record {
      some : 0 < length l.colours.items;
      few : length l.colours.items ≤ 256;
      end : l.bands.end ≡ l.fn.bands.end;
      pixels : row_pixels l.bands ≡ row_pixels l.fn.bands;
      from : first ≤ l.bands.next;
      to : l.bands.next - first ≤ l.bands.end - first;
      colours : l.colours.items ≡ fold with_colour l.fn.colours.items (flat_map (row_pixels l.fn.bands (g.G.Gauge.reaches l.fn.gauge)) (range_with_len first (l.bands.next - first)));
      same : g.G.Gauge.reaches l.gauge ≡ g.G.Gauge.reaches l.fn.gauge;
      tests : g.G.Gauge.count l.gauge + tests_left l.bands.painting ≤ g.G.Gauge.count l.fn.gauge + tests_left l.fn.bands.painting;
    }

abbrev pub decreases-each : goal.decreases-each
decreases-each g l = l.bands.end - l.bands.next
