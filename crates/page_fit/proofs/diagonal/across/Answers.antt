use Rattle.std.proofs.Common.{◌≡◌, ◌∙◌, ap₂, rules}
use mir.Syntax.{w32}
use mir.Val.{SFits}
use Rattle.std.proofs.lemmas.Int.{to_z-of_z}
use Rattle.plot_page.specs.Segments.{Segment}
use Rattle.plot_page.specs.contracts.stroke.Stroke.{the_view}
use Rattle.page_fit.specs.Shapes.{across}
use Rattle.page_fit.proofs.diagonal.across.Goals as goal

pub returns : goal.returns
returns c =
    let s : Segment = the_view c.one.inside in
    let t : Segment = the_view c.other.inside in
    let a0 : SFits w32 c.one.inside.ax = search rules in
    let a1 : SFits w32 c.one.inside.ay = search rules in
    let a2 : SFits w32 c.one.inside.bx = search rules in
    let a3 : SFits w32 c.one.inside.by = search rules in
    let b0 : SFits w32 c.other.inside.ax = search rules in
    let b1 : SFits w32 c.other.inside.ay = search rules in
    let b2 : SFits w32 c.other.inside.bx = search rules in
    let b3 : SFits w32 c.other.inside.by = search rules in
    let r0 : SFits w32 c.least.result = search rules in
    let r1 : SFits w32 c.least-2.result = search rules in
    let r2 : SFits w32 c.greatest.result = search rules in
    let r3 : SFits w32 c.greatest-2.result = search rules in
    let e0 = simp to_z-of_z at c.least.ensures.value in
    let e1 = simp to_z-of_z at c.least-2.ensures.value in
    let e2 = simp to_z-of_z at c.greatest.ensures.value in
    let e3 = simp to_z-of_z at c.greatest-2.ensures.value in
    let made : Segment = record { pen = s.pen; colour = s.colour; width = s.width; window = s.window; ax = c.least.result; ay = c.least-2.result; bx = c.greatest.result; by = c.greatest-2.result } in
    let e : made ≡ across s t = cc (e0, e1, e2, e3) in
    simp to_z-of_z (e ∙ ap₂ across c.one.view_is c.other.view_is)
