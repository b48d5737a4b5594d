use Rattle.std.proofs.Common.{◌≡◌, ◌∙◌, ap, true, sym, rules}
use mir.Syntax.{w32}
use mir.Val.{SFits}
use Rattle.std.proofs.lemmas.Int.{to_z-of_z}
use Rattle.plot_page.specs.Segments.{Segment}
use Rattle.plot_page.specs.contracts.stroke.Stroke.{the_view}
use Rattle.turning.specs.Turns.{is_turnable, turned_segment}
use Rattle.turning.proofs.Turned.{AreTurned, made, made_is, made_of}
use Rattle.turning.proofs.strokes.turned_stroke.Goals as goal

pub invariant_of-result : goal.invariant_of-result
invariant_of-result c =
    let s : Segment = the_view c.stroke.inside in
    let turnable : is_turnable c.args.turn c.args.page.now s ≡ true =
    ap (is_turnable c.args.turn c.args.page.now) c.stroke.view_is ∙ c.requires in
    let w0 : SFits w32 c.stroke.inside.window.x0 = search rules in
    let w1 : SFits w32 c.stroke.inside.window.y0 = search rules in
    let w2 : SFits w32 c.stroke.inside.window.x1 = search rules in
    let w3 : SFits w32 c.stroke.inside.window.y1 = search rules in
    let p0 : SFits w32 c.stroke.inside.ax = search rules in
    let p1 : SFits w32 c.stroke.inside.ay = search rules in
    let p2 : SFits w32 c.stroke.inside.bx = search rules in
    let p3 : SFits w32 c.stroke.inside.by = search rules in
    let r0 : SFits w32 c.of-first.result.x = search rules in
    let r1 : SFits w32 c.of-first.result.y = search rules in
    let r2 : SFits w32 c.of-last.result.x = search rules in
    let r3 : SFits w32 c.of-last.result.y = search rules in
    let low = simp to_z-of_z at c.turned_place.ensures in
    let high = simp to_z-of_z at c.turned_place-2.ensures in
    let first = simp to_z-of_z at c.turned_place-3.ensures in
    let last = simp to_z-of_z at c.turned_place-4.ensures in
    let are : AreTurned c.args.turn c.args.page.now s c.of-low.result c.of-high.result c.of-first.result c.of-last.result c.window_between.result =
    record {
      low_is = rw (sym low) c.of-low.ensures.value;
      high_is = rw (sym high) c.of-high.ensures.value;
      first_is = rw (sym first) c.of-first.ensures.value;
      last_is = rw (sym last) c.of-last.ensures.value;
      window_is = c.window_between.ensures;
    } in
    simp to_z-of_z (made c.args.turn c.args.page.now s c.of-low.result c.of-high.result c.of-first.result c.of-last.result c.window_between.result
    c.stroke.invariant turnable are)

pub returns : goal.returns
returns c =
    let s : Segment = the_view c.stroke.inside in
    let turnable : is_turnable c.args.turn c.args.page.now s ≡ true =
    ap (is_turnable c.args.turn c.args.page.now) c.stroke.view_is ∙ c.requires in
    let w0 : SFits w32 c.stroke.inside.window.x0 = search rules in
    let w1 : SFits w32 c.stroke.inside.window.y0 = search rules in
    let w2 : SFits w32 c.stroke.inside.window.x1 = search rules in
    let w3 : SFits w32 c.stroke.inside.window.y1 = search rules in
    let p0 : SFits w32 c.stroke.inside.ax = search rules in
    let p1 : SFits w32 c.stroke.inside.ay = search rules in
    let p2 : SFits w32 c.stroke.inside.bx = search rules in
    let p3 : SFits w32 c.stroke.inside.by = search rules in
    let r0 : SFits w32 c.of-first.result.x = search rules in
    let r1 : SFits w32 c.of-first.result.y = search rules in
    let r2 : SFits w32 c.of-last.result.x = search rules in
    let r3 : SFits w32 c.of-last.result.y = search rules in
    let low = simp to_z-of_z at c.turned_place.ensures in
    let high = simp to_z-of_z at c.turned_place-2.ensures in
    let first = simp to_z-of_z at c.turned_place-3.ensures in
    let last = simp to_z-of_z at c.turned_place-4.ensures in
    let are : AreTurned c.args.turn c.args.page.now s c.of-low.result c.of-high.result c.of-first.result c.of-last.result c.window_between.result =
    record {
      low_is = rw (sym low) c.of-low.ensures.value;
      high_is = rw (sym high) c.of-high.ensures.value;
      first_is = rw (sym first) c.of-first.ensures.value;
      last_is = rw (sym last) c.of-last.ensures.value;
      window_is = c.window_between.ensures;
    } in
    let e : made_of s c.of-first.result c.of-last.result c.window_between.result ≡ turned_segment c.args.turn c.args.page.now s =
    made_is c.args.turn c.args.page.now s c.of-low.result c.of-high.result c.of-first.result c.of-last.result c.window_between.result turnable are in
    simp to_z-of_z (e ∙ ap (turned_segment c.args.turn c.args.page.now) c.stroke.view_is)
