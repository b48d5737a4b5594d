use Rattle.std.proofs.Common.{rules, FitsSigned, ◌≡◌, ◌∙◌, ap, ap₂, subst, sym, [], ◌∷◌, Option, true}
use mir.Syntax.{w64, w128}
use Rattle.std.proofs.lemmas.Int.{to_z-of_z}
use Rattle.std.specs.Prelude.{neg_ℤ}
use Rattle.exact.specs.declared.spot.Spot.{Spot}
use Rattle.hpgl_plot.specs.Machine as core
use Rattle.hpgl_plot.proofs.Polylines.{one_line}
use Rattle.full_settings.specs.Letters.{grains_of_share}
use Rattle.full_settings.specs.declared.tick_length.TickLength.{TickLength}
use Rattle.full_plot.specs.Machine.{seen}
use Rattle.full_plot.specs.Texts.{inked_at_pen, line_at, tick_distance, tick_end}
use Rattle.full_plot.proofs.LinesAlong.{with_runs}
use Rattle.full_plot.proofs.plotter.FullPlotter.tick.Goals as goal

pub returns : goal.returns
returns c =
    let w = seen c.args.self.now in
    let v = core.seen c.ink_stroke.new.plotter in
    let ticks = w.writing.ticks in
    let part = grains_of_share (tick_distance w c.args.is_upright) in
    let end = tick_end w.core.state.frame.rotation c.args.is_upright in
    let distance = c.tick_distance-distance.ensures.value in
    let fits : FitsSigned w64 c.tick_distance-distance.result = search rules in
    let fits_up : FitsSigned w64 c.ticks-ticks.result.up = search rules in
    let fits_down : FitsSigned w64 c.ticks-ticks.result.down = search rules in
    let fits_part : FitsSigned w64 c.grains_of_share.result = search rules in
    let fits_part_up : FitsSigned w64 c.grains_of_share-2.result = search rules in
    let down : c.opposite-down.result ≡ neg_ℤ (part ticks.down) =
    (simp to_z-of_z at c.opposite-down.ensures.value)
    ∙ ap neg_ℤ ((simp to_z-of_z at c.grains_of_share.ensures.value) ∙ ap₂ grains_of_share distance (ap (λ (t : TickLength). t.down) c.ticks-ticks.ensures.value)) in
    let up : c.grains_of_share-2.result ≡ part ticks.up =
    (simp to_z-of_z at c.grains_of_share-2.ensures.value) ∙ ap₂ grains_of_share distance (ap (λ (t : TickLength). t.up) c.ticks-ticks.ensures.value) in
    let fits_below : FitsSigned w128 c.opposite-down.result = search rules in
    let fits_above : FitsSigned w128 c.grains_of_share-2.result = search rules in
    let from : c.tick_end-from.result ≡ end (neg_ℤ (part ticks.down)) = (simp to_z-of_z at c.tick_end-from.ensures.value) ∙ ap end down in
    let to : c.tick_end-to.result ≡ end (part ticks.up) = (simp (to_z-of_z, c.from-up.ensures) at c.tick_end-to.ensures.value) ∙ ap end up in
    let stroke : Spot × Spot = (c.tick_end-from.result, c.tick_end-to.result) in
    let same : stroke ≡ (end (neg_ℤ (part ticks.down)), end (part ticks.up)) = ap₂ (λ (a b : Spot). (a, b)) from to in
    let one = one_line w.core true (line_at w.core.state.place stroke) in
    let k = subst (λ (o : Option core.World). core.Runs o v c.ink_stroke.result) (sym one) c.ink_stroke.ensures in
    with_runs w _ v c.ink_stroke.result (subst (λ (s : Spot × Spot). core.Runs (inked_at_pen w.core (s ∷ [])) v c.ink_stroke.result) same k)
