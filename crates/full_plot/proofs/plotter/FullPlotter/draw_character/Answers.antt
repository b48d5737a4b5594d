use Rattle.std.proofs.Common.{◌≡◌, ◌∙◌, ◌≤◌, ap, subst, sym, arith, map, length, List, [], ◌∷◌, Option, None}
use Rattle.std.specs.Prelude.{⊤}
use Rattle.full_settings.specs.UserMoves.{user_moves}
use Rattle.full_plot.specs.Items.{character_steps}
use Rattle.full_plot.specs.Machine.{FullStep, Runs, UserEnd, UserMoveBy, run, seen}
use Rattle.full_plot.specs.Worlds.{FullWorld}
use Rattle.full_plot.proofs.FullRuns.{no_more, stopped}
use Rattle.full_plot.proofs.UserSteps.{moved_then, steps_are}
use Rattle.full_plot.proofs.plotter.FullPlotter.draw_character.Goals as goal

pub returns-in_err-draw_user_moves : goal.returns-in_err-draw_user_moves
returns-in_err-draw_user_moves c =
    let w = seen c.args.self.now in
    let v = seen c.draw_user_moves.new.self in
    let ns = c.args.numbers.now in
    let some : 1 ≤ length ns = omega (arith, c.len.ensures, c.if-len-eq0.false) in
    let moves = map UserMoveBy (user_moves ns) in
    stopped ⊤ (run w moves) (run w (character_steps ns)) v v c.in_err-draw_user_moves.field-0.0 c.from_residual.result
    (λ (h : run w moves ≡ None). ap (λ (ss : List FullStep). run w ss) (steps_are ns some) ∙ no_more w moves (UserEnd ∷ []) h)
    c.in_err-draw_user_moves.ensures c.from_residual.ensures.1

pub returns : goal.returns
returns c =
    let w = seen c.args.self.now in
    let v = seen c.draw_user_moves.new.self in
    let ns = c.args.numbers.now in
    let some : 1 ≤ length ns = omega (arith, c.len.ensures, c.if-len-eq0.false) in
    let moves = map UserMoveBy (user_moves ns) in
    subst (λ (o : Option FullWorld). Runs o (seen c.leave_character.new.self) c.leave_character.result)
    (sym (ap (λ (ss : List FullStep). run w ss) (steps_are ns some) ∙ moved_then w v moves c.in_ok-draw_user_moves.ensures))
    c.leave_character.ensures
