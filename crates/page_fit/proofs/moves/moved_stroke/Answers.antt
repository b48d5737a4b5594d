use Rattle.std.proofs.Common.{◌≡◌, ◌∙◌, ap, true, rules}
use mir.Syntax.{w32, w64}
use mir.Val.{SFits}
use Rattle.std.proofs.lemmas.Int.{to_z-of_z}
use Rattle.plot_page.specs.Segments.{Segment}
use Rattle.plot_page.specs.contracts.stroke.Stroke.{the_view}
use Rattle.page_fit.specs.Moves.{is_movable, moved, moved_stroke}
use Rattle.page_fit.proofs.Moved.{four, made}
use Rattle.page_fit.proofs.moves.moved_stroke.Goals as goal

pub moved_place-requires-clause-near : goal.moved_place-requires-clause-near
moved_place-requires-clause-near c =
    let s : Segment = the_view c.stroke.inside in
    let movable : is_movable c.args.corner s ≡ true = ap (is_movable c.args.corner) c.stroke.view_is ∙ c.requires.movable in
    let fc : SFits w64 c.args.corner.x = search rules in
    let fp : SFits w32 c.stroke.inside.ax = search rules in
    simp to_z-of_z (four (moved c.args.corner.x s.ax) (moved c.args.corner.y s.ay) (moved c.args.corner.x s.bx) (moved c.args.corner.y s.by) movable).0

pub moved_place-requires-2-clause-near : goal.moved_place-requires-2-clause-near
moved_place-requires-2-clause-near c =
    let s : Segment = the_view c.stroke.inside in
    let movable : is_movable c.args.corner s ≡ true = ap (is_movable c.args.corner) c.stroke.view_is ∙ c.requires.movable in
    let fc : SFits w64 c.args.corner.y = search rules in
    let fp : SFits w32 c.stroke.inside.ay = search rules in
    simp to_z-of_z (four (moved c.args.corner.x s.ax) (moved c.args.corner.y s.ay) (moved c.args.corner.x s.bx) (moved c.args.corner.y s.by) movable).1

pub moved_place-requires-3-clause-near : goal.moved_place-requires-3-clause-near
moved_place-requires-3-clause-near c =
    let s : Segment = the_view c.stroke.inside in
    let movable : is_movable c.args.corner s ≡ true = ap (is_movable c.args.corner) c.stroke.view_is ∙ c.requires.movable in
    let fc : SFits w64 c.args.corner.x = search rules in
    let fp : SFits w32 c.stroke.inside.bx = search rules in
    simp to_z-of_z (four (moved c.args.corner.x s.ax) (moved c.args.corner.y s.ay) (moved c.args.corner.x s.bx) (moved c.args.corner.y s.by) movable).2

pub moved_place-requires-4-clause-near : goal.moved_place-requires-4-clause-near
moved_place-requires-4-clause-near c =
    let s : Segment = the_view c.stroke.inside in
    let movable : is_movable c.args.corner s ≡ true = ap (is_movable c.args.corner) c.stroke.view_is ∙ c.requires.movable in
    let fc : SFits w64 c.args.corner.y = search rules in
    let fp : SFits w32 c.stroke.inside.by = search rules in
    simp to_z-of_z (four (moved c.args.corner.x s.ax) (moved c.args.corner.y s.ay) (moved c.args.corner.x s.bx) (moved c.args.corner.y s.by) movable).3

pub invariant_of-result : goal.invariant_of-result
invariant_of-result c =
    let s : Segment = the_view c.stroke.inside in
    let r0 : SFits w32 c.moved_place.result = search rules in
    let r1 : SFits w32 c.moved_place-2.result = search rules in
    let r2 : SFits w32 c.moved_place-3.result = search rules in
    let r3 : SFits w32 c.moved_place-4.result = search rules in
    simp to_z-of_z (made s c.moved_window.result c.moved_place.result c.moved_place-2.result c.moved_place-3.result c.moved_place-4.result
    c.stroke.invariant c.moved_window.ensures.sound c.moved_place.ensures.near c.moved_place-2.ensures.near c.moved_place-3.ensures.near c.moved_place-4.ensures.near)

pub returns : goal.returns
returns c =
    let s : Segment = the_view c.stroke.inside in
    let fx : SFits w64 c.args.corner.x = search rules in
    let fy : SFits w64 c.args.corner.y = search rules in
    let p0 : SFits w32 c.stroke.inside.ax = search rules in
    let p1 : SFits w32 c.stroke.inside.ay = search rules in
    let p2 : SFits w32 c.stroke.inside.bx = search rules in
    let p3 : SFits w32 c.stroke.inside.by = search rules in
    let r0 : SFits w32 c.moved_place.result = search rules in
    let r1 : SFits w32 c.moved_place-2.result = search rules in
    let r2 : SFits w32 c.moved_place-3.result = search rules in
    let r3 : SFits w32 c.moved_place-4.result = search rules in
    let e0 = simp to_z-of_z at c.moved_place.ensures.value in
    let e1 = simp to_z-of_z at c.moved_place-2.ensures.value in
    let e2 = simp to_z-of_z at c.moved_place-3.ensures.value in
    let e3 = simp to_z-of_z at c.moved_place-4.ensures.value in
    let w = c.moved_window.ensures.value in
    let made : Segment = record { pen = s.pen; colour = s.colour; width = s.width; window = c.moved_window.result; ax = c.moved_place.result; ay = c.moved_place-2.result; bx = c.moved_place-3.result; by = c.moved_place-4.result } in
    let e : made ≡ moved_stroke c.args.page.now c.args.corner c.args.around.now s = cc (e0, e1, e2, e3, w) in
    simp to_z-of_z (e ∙ ap (moved_stroke c.args.page.now c.args.corner c.args.around.now) c.stroke.view_is)
