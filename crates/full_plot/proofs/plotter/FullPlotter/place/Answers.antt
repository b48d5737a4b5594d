use Rattle.std.proofs.Common.{rules, FitsSigned, ◌≡◌, ◌∙◌, ap, ap₂, subst, ℤ, pos}
use mir.Syntax.{w64}
use Rattle.std.proofs.lemmas.Int.{to_z-of_z}
use Rattle.std.specs.Prelude.{neg_ℤ}
use Rattle.exact.specs.declared.spot.Spot.{Spot}
use Rattle.lettering.specs.Cells.{cell_offset}
use Rattle.lettering.specs.declared.style.Style.{Style}
use Rattle.full_plot.specs.Machine.{seen, Runs}
use Rattle.full_plot.specs.Texts.{style_of, margin_by, moved_by, with_margin, put}
use Rattle.full_plot.specs.Worlds.{with_core}
use Rattle.full_plot.proofs.plotter.FullPlotter.place.Goals as goal

pub returns-in-By : goal.returns-in-By
returns-in-By c =
    let w = seen c.args.self.now in
    let v = seen c.put_with_margin-in-By.new.self in
    let r = c.put_with_margin-in-By.result in
    let n = c.in-By.steps in
    let pen = w.core.state.place in
    let fits_x : FitsSigned w64 n.x = search rules in
    let fits_y : FitsSigned w64 n.y = search rules in
    let fits_down : FitsSigned w64 c.downward-down.result = search rules in
    let down : c.downward-down.result ≡ neg_ℤ n.y = simp to_z-of_z at c.downward-down.ensures.value in
    let offset_down = simp to_z-of_z at c.offset-in-By.ensures.value in
    let offset = simp to_z-of_z at c.offset-offset.ensures.value in
    let margin : c.margin_by-margin.result ≡ margin_by w.margin (cell_offset (style_of w) (pos 0) (neg_ℤ n.y)) =
    c.margin_by-margin.ensures.value
    ∙ ap (margin_by w.margin) (offset_down ∙ ap₂ (λ (s : Style) (d : ℤ). cell_offset s (pos 0) d) c.lettering-lettering.ensures down) in
    let place : c.moved_by.result ≡ moved_by pen (cell_offset (style_of w) n.x (neg_ℤ n.y)) =
    c.moved_by.ensures.value
    ∙ ap (moved_by pen) (offset ∙ ap₂ (λ (s : Style) (d : ℤ). cell_offset s n.x d) c.lettering-lettering.ensures down) in
    rw c.in-By.is
    (subst (λ (m : Spot). Runs (with_margin m (with_core w (put w.core (moved_by pen (cell_offset (style_of w) n.x (neg_ℤ n.y)))))) v r) margin
    (subst (λ (q : Spot). Runs (with_margin c.margin_by-margin.result (with_core w (put w.core q))) v r) place c.put_with_margin-in-By.ensures))
