use Rattle.std.proofs.Common.{◌≡◌, ◌∙◌, ap, sym, map, ℤ, true, false, Bool, List, ◌∷◌}
use Rattle.full_settings.specs.UserMoves.{is_of_pen, moves_from, user_move}
use Rattle.full_settings.specs.declared.user_moves.UserMove.{UserMove}
use Rattle.full_settings.proofs.UserMoves.{by_pair, by_pen}
use Rattle.full_plot.specs.Machine.{UserMoveBy, run, seen}
use Rattle.full_plot.specs.Worlds.{FullWorld, full_followed}
use Rattle.full_plot.specs.UserCharacters.{user_moved}
use Rattle.full_plot.proofs.plotter.FullPlotter.draw_user_moves.Goals as goal

-- the pen of the character
pub moves-preserved-then-is_of_pen : goal.moves-preserved-then-is_of_pen
moves-preserved-then-is_of_pen c =
    let w = seen c.moves.self in
    let at = c.moves.at in
    let x = c.in-Some.x in
    let left = c.next.new.self in
    let i = c.moves.invariant in
    let pen : is_of_pen x ≡ true = sym c.is_of_pen.ensures ∙ c.if-is_of_pen.true in
    let taken : moves_from c.moves.is_down at c.moves.rest ≡ moves_from c.lowers-is_down.result at left =
    ap (λ (ns : List ℤ). moves_from c.moves.is_down at ns) c.in-Some.ensures.steps
    ∙ by_pen c.moves.is_down at x left pen
    ∙ ap (λ (is_down : Bool). moves_from is_down at left) (sym c.lowers-is_down.ensures) in
    record { near = i.near; same = sym (ap (λ (ms : List UserMove). run w (map UserMoveBy ms)) taken) ∙ i.same }

-- a move
pub moves-preserved : goal.moves-preserved
moves-preserved c =
    let w = seen c.moves.self in
    let v = seen c.draw_user_move.new.self in
    let is_down = c.moves.is_down in
    let at = c.moves.at in
    let x = c.in-Some.x in
    let y = c.in-Some-next.y in
    let left = c.next-else-is_of_pen.new.self in
    let i = c.moves.invariant in
    let step = user_move is_down at x y in
    let own : c.user_move-step.result ≡ step = c.user_move-step.ensures in
    let pair : is_of_pen x ≡ false = sym c.is_of_pen.ensures ∙ c.if-is_of_pen.false in
    let rest = map UserMoveBy (moves_from is_down c.user_move-step.result.to left) in
    let taken : moves_from is_down at c.moves.rest ≡ step ∷ moves_from is_down c.user_move-step.result.to left =
    ap (λ (ns : List ℤ). moves_from is_down at ns) (c.in-Some.ensures.steps ∙ ap (λ (ns : List ℤ). x ∷ ns) c.in-Some-next.ensures.steps)
    ∙ by_pair is_down at x y left pair
    ∙ ap (λ (m : UserMove). step ∷ moves_from is_down m.to left) (sym own) in
    let moved : run w (UserMoveBy step ∷ rest) ≡ run v rest =
    ap (λ o. full_followed o (λ (u : FullWorld). run u rest)) (ap (λ (m : UserMove). user_moved w m) (sym own) ∙ c.in_ok-draw_user_move.ensures.runs) in
    record {
      near = c.in_ok-draw_user_move.ensures.near;
      same = sym (ap (λ (ms : List UserMove). run w (map UserMoveBy ms)) taken ∙ moved) ∙ i.same;
    }
