use Rattle.std.proofs.Common.{◌≡◌, ◌+◌, ◌<◌, ℕ, arith, ap₂, ◌∙◌, pos}
use Rattle.stroke_raster.specs.Gap.{way, scaled}
use Rattle.stroke_raster.specs.Covers.{centre, covers, first_end}
use Rattle.stroke_raster.specs.Traces.{is_met}
use Rattle.stroke_raster.proofs.RunLemmas.{covered_is_met}
use Rattle.stroke_raster.proofs.run.run.Goals as goal

-- each pixel is covered if and only if it is met
same : (c : goal.After-run_from) → (i : ℕ) → i < c.args.length → covers c.args.trace.now.stroke.now c.args.page.now c.args.trace.now.dots c.args.row (c.args.from + i) ≡ is_met c.args.trace.now c.way_between-start.result i
same c i u =
    let e : c.way_between-start.result ≡ way (scaled (pos c.args.trace.now.dots.resolution) (first_end c.args.trace.now.stroke.now)) (centre c.args.page.now.height c.args.trace.now.dots.resolution c.args.row c.args.from) =
    c.way_between-start.ensures ∙ ap₂ way c.args.trace.now.sound.first_is c.centre_of.ensures.value in
    covered_is_met c.args.trace.now c.args.page.now c.args.row c.args.from i c.way_between-start.result e (c.requires.boxed i u)

pub returns-clause-inside : goal.returns-clause-inside
returns-clause-inside c = λ i u v. same c i (omega (arith, v, c.run_from.ensures.high)) ∙ c.run_from.ensures.inside i u v

pub returns-clause-before : goal.returns-clause-before
returns-clause-before c = λ i u. same c i (omega (arith, u, c.run_from.ensures.order, c.run_from.ensures.high)) ∙ c.run_from.ensures.before i u

pub returns-clause-after : goal.returns-clause-after
returns-clause-after c = λ i u v. same c i v ∙ c.run_from.ensures.after i u v
