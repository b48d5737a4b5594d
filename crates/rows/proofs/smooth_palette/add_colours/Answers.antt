use Rattle.std.proofs.Common.{◌≡◌, ◌-◌, ℕ, List, true, fold, ap, subst, ◌∙◌, arith}
use Rattle.std.specs.List.{flat_map, range_with_len}
use Rattle.rows.specs.Palettes.{with_colour}
use Rattle.rows.specs.Pictures.{Reach}
use Rattle.rows.specs.Progress.{row_pixels}
use Rattle.rows.proofs.SmoothedRows.{colours_join}
use Rattle.rows.proofs.smooth_palette.add_colours.Goals as goal

pub each-preserved : goal.each-preserved
each-preserved g c =
    let inv = c.each.invariant in
    let made = c.in_ok-add_next.ensures in
    let first = c.args.bands.now.next in
    let at = c.each.bands.next in
    let end = c.add_next.new.bands.next in
    let row : ℕ → List (List ℕ) = row_pixels c.args.bands.now (g.G.Gauge.reaches c.args.gauge.now) in
    let same : row_pixels c.each.bands (g.G.Gauge.reaches c.each.gauge) ≡ row =
    ap (λ (f : Reach → ℕ → List (List ℕ)). f (g.G.Gauge.reaches c.each.gauge)) inv.pixels ∙ ap (row_pixels c.args.bands.now) inv.same in
    let all : c.in_ok-add_next.field-0 ≡ true = cc in
    let added = subst (λ (f : ℕ → List (List ℕ)). c.add_next.new.colours.items ≡ fold with_colour c.each.colours.items (flat_map f (range_with_len at (end - at)))) same (made.colours all) in
    record {
      some = made.more;
      few = made.few;
      end = made.end ∙ inv.end;
      pixels = made.pixels ∙ inv.pixels;
      from = omega (arith, inv.from, made.some);
      to = omega (arith, made.within, made.end);
      colours = colours_join c.args.colours.now.items c.each.colours.items c.add_next.new.colours.items row first at end inv.from (omega (arith, made.some)) inv.colours added;
      same = made.same ∙ inv.same;
      tests = omega (arith, made.tests, inv.tests);
    }
