-- The laws of frames, for proofs that rest on them.
use Rattle.plot_frame.specs.Frame.{axis_units}
use Rattle.plot_frame.specs.Line.{axis_line}
use Rattle.plot_frame.specs.Laws.{LineIsFrame, BackSolves, SolvedIsSolution}
use Rattle.plot_frame.proofs.OnLine.{place_is, coordinate_is, solution_is, only_solution_is}
use Rattle.plot_frame.proofs.OfScaling.{on_line}

pub line_is_frame_lem : LineIsFrame
line_is_frame_lem n p s u margin h k = place_is (axis_units n p s) (axis_line n p s margin) margin (on_line n p s margin h k) u

pub back_solves_lem : BackSolves
back_solves_lem n p s q margin h k = coordinate_is (axis_units n p s) (axis_line n p s margin) margin (on_line n p s margin h k) q

pub solved_is_solution_lem : SolvedIsSolution
solved_is_solution_lem n p s x h k u =
    let l = on_line n p s 0 h k in
    (solution_is (axis_units n p s) (axis_line n p s 0) 0 l x u, only_solution_is (axis_units n p s) (axis_line n p s 0) 0 l x u)
