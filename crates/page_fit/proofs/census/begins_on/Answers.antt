use Rattle.std.proofs.Common.{◌≡◌, ◌*◌, false, int_lt, pos, rules, FitsSigned, subst}
use mir.Syntax.{w32}
use Rattle.std.proofs.lemmas.Int.{to_z-of_z}
use Rattle.plot_page.specs.declared.page.Page.{Page}
use Rattle.plot_page.specs.Segments.{Segment}
use Rattle.plot_page.specs.contracts.stroke.Stroke.{the_view}
use Rattle.page_fit.specs.Census.{is_beside}
use Rattle.page_fit.specs.Extents.{half_width, reach}
use Rattle.page_fit.specs.declared.extent.Extent.{Extent}
use Rattle.page_fit.proofs.Beside.{neither}
use Rattle.page_fit.proofs.census.begins_on.Goals as goal

-- neither side lies beside the page
pub returns-then-is_within-clause-not_beside : goal.returns-then-is_within-clause-not_beside
returns-then-is_within-clause-not_beside c h =
    let s : Segment = the_view c.stroke.inside in
    let page : Page = c.args.page.now in
    let e : Extent = reach s in
    let fx : FitsSigned w32 c.stroke.inside.ax = search rules in
    let fy : FitsSigned w32 c.stroke.inside.ay = search rules in
    let x = simp to_z-of_z at (c.if-is_within.ensures.not_beside (search rules) s.bx (half_width s)) in
    let y = simp to_z-of_z at (c.is_within-then-is_within.ensures.not_beside h s.by (half_width s)) in
    subst (λ (v : Segment). is_beside page (reach v) ≡ false) c.stroke.view_is (neither (int_lt e.greatest_x (pos 0)) (int_lt (pos (16 * page.width)) e.least_x)
    (int_lt e.greatest_y (pos 0)) (int_lt (pos (16 * page.height)) e.least_y) x y)
