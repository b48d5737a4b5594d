use Rattle.std.proofs.Common.{◌≡◌, ◌∙◌, ◌+◌, ◌++◌, ◌∷◌, [], ap, arith, rules, ℕ, ℤ, map, FitsSigned}
use mir.Syntax.{w32, w64}
use Rattle.std.proofs.lemmas.Int.{to_z-of_z}
use Rattle.std.specs.List.{range_with_len}
use Rattle.exact.specs.declared.spot.Spot.{Spot}
use Rattle.plot_arc.specs.Arcs.{chord_point_of, chords_of}
use Rattle.hpgl_plot.specs.Frames.{place}
use Rattle.hpgl_plot.specs.Paths.{right_of}
use Rattle.full_plot.specs.Wedges.{wedge_place}
use Rattle.full_plot.proofs.Curved.{one_round}
use Rattle.full_plot.proofs.plotter.FullPlotter.go_round.Goals as goal

pub loop-k-preserved : goal.loop-k-preserved
loop-k-preserved c =
    let page = c.args.self.now.plotter.page in
    let s = c.args.self.now.plotter.state in
    let f : FitsSigned w64 c.args.wedge.radius = search rules in
    let g : FitsSigned w64 c.wedge_angle.result = search rules in
    let here : c.place_about-place.result ≡ wedge_place page s c.args.wedge c.loop-k.k =
    (simp to_z-of_z at c.place_about-place.ensures)
    ∙ ap (λ (t : ℤ). place page s.frame (chord_point_of s.coordinates (right_of s.coordinates c.args.wedge.radius) t)) c.wedge_angle.ensures in
    c.in_ok-push.ensures.places ∙ ap (λ (q : Spot). c.loop-k.places.items ++ (q ∷ [])) here
    ∙ one_round page s c.args.wedge c.loop-k.k c.args.places.now.items c.loop-k.places.items c.loop-k.invariant

pub returns-clause-places : goal.returns-clause-places
returns-clause-places c =
    let page = c.args.self.now.plotter.page in
    let s = c.args.self.now.plotter.state in
    let f : FitsSigned w32 c.args.wedge.sweep = search rules in
    let count : c.turn_count-k-end.result ≡ chords_of c.args.wedge.chord c.args.wedge.sweep = simp to_z-of_z at c.turn_count-k-end.ensures in
    let n : ℕ = c.turn_count-k-end.result in
    let end : c.loop-k.k ≡ 1 + n = omega (arith, c.loop-k-test.false, c.loop-k.auto.k-end) in
    let all : c.loop-k.k ≡ 1 + chords_of c.args.wedge.chord c.args.wedge.sweep = end ∙ ap (λ (m : ℕ). 1 + m) count in
    c.loop-k.invariant ∙ ap (λ (n : ℕ). c.args.places.now.items ++ map (wedge_place page s c.args.wedge) (range_with_len 0 n)) all
