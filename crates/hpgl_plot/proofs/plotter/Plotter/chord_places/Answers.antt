use Rattle.std.proofs.Common.{◌∙◌, ◌+◌, ◌++◌, ◌∷◌, [], ap, sym, arith, ℕ, List}
use Rattle.std.proofs.lemmas.List.FromFn.{map-range_with_len_more}
use Rattle.exact.specs.declared.spot.Spot.{Spot}
use Rattle.hpgl_plot.specs.declared.state.Position.{Position}
use Rattle.hpgl_plot.specs.Frames.{place}
use Rattle.hpgl_plot.specs.Paths.{curve_point}
use Rattle.hpgl_plot.proofs.plotter.Plotter.chord_places.Goals as goal

pub loop-k-preserved : goal.loop-k-preserved
loop-k-preserved c =
    let p = c.args.self.now in
    let f = λ (k : ℕ). place p.page p.state.frame (curve_point c.args.curve k) in
    let k : ℕ = c.loop-k.k in
    c.in_ok-push.ensures.places ∙ ap (λ (e : Position). c.loop-k.places.items ++ (e.place ∷ [])) c.chord_end-end.ensures
    ∙ ap (λ (qs : List Spot). qs ++ (f (k + 1) ∷ [])) c.loop-k.invariant
    ∙ sym (map-range_with_len_more f 1 k (k + 1) (omega arith))
