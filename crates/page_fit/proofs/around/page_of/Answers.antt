use Rattle.std.proofs.Common.{◌≡◌, ◌∙◌, ◌&&◌, sym, true, refl}
use Rattle.plot_page.specs.Pages.{has_page_corner}
use Rattle.page_fit.specs.Around.{is_side}
use Rattle.page_fit.proofs.Pages.{made}
use Rattle.page_fit.proofs.around.page_of.Goals as goal

pub returns : goal.returns
returns c =
    let longest = c.args.longest in
    let size : (is_side longest c.args.width && is_side longest c.args.height) ≡ true = sym c.are_sides.ensures ∙ c.if-not-are_sides.false in
    let corner : has_page_corner 0 0 ≡ true = refl in
    let new = c.roll.ensures in
    made c.roll.result longest c.args.width c.args.height 0 0 c.requires size corner new.given new.width new.height new.left new.below
