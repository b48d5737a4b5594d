use Rattle.std.proofs.Common.{subst, sym, List}
use Rattle.std.specs.List.{All}
use Rattle.exact.specs.declared.spot.Spot.{Spot}
use Rattle.line_types.specs.LineTypes.{line_shape}
use Rattle.full_plot.specs.Dashing.{IsDash}
use Rattle.full_plot.proofs.DrawnLines.{dashes_are_places}
use Rattle.full_plot.proofs.plotter.FullPlotter.dash_line.Goals as goal

pub keep_dashes-requires : goal.keep_dashes-requires
keep_dashes-requires c =
    let m = c.measured-measured.result in
    subst (λ (ds : List (Spot × Spot)). All IsDash ds) (sym c.dashes.ensures)
    (dashes_are_places (line_shape c.args.line_type.now) c.args.self.now.run m.from m.to c.measured-measured.ensures.from_in c.measured-measured.ensures.to_in)
