use Rattle.std.proofs.Common.{◌≡◌, ◌+◌, ℕ, List, [], ◌∷◌, ◌++◌, take, sym, ap, subst, ◌∙◌, arith, cond}
use Rattle.rows.specs.Palettes.{AreNumbers, IsNumbered, stroke_colour, with_colour}
use Rattle.plot_page.specs.Pens.{has_pen}
use Rattle.rows.proofs.Colours.{grows, numbers_more, palette_more}
use Rattle.rows.proofs.palette.palette_of.Goals as goal

pub loop-stroke-preserved : goal.loop-stroke-preserved
loop-stroke-preserved c =
    let inv = c.loop-stroke.invariant in
    let pens = c.args.pens in
    let ss = c.args.strokes.now in
    let i = c.loop-stroke.stroke-index in
    let s = c.stroke-item.result in
    let old = c.loop-stroke.colours.items in
    let new = c.number_of.new.colours.items in
    let number = c.in-Some.number in
    let one : IsNumbered pens s old new number = rw c.in-Some.is at c.in_ok-number.ensures.number in
    let more = grows pens s old new number one in
    let pushed : c.push.new.self.items ≡ c.loop-stroke.numbers.items ++ number ∷ [] = c.in_ok-push-in-Some.ensures.items in
    record {
      some = omega (arith, more.longer, inv.some);
      few = c.in_ok-number.ensures.few;
      colours = one.colours ∙ ap (λ (p : List (List ℕ)). cond (has_pen pens s.pen) (with_colour p (stroke_colour s)) p) inv.colours ∙ sym (palette_more pens ss i s (omega arith) c.stroke-item.is);
      numbers = subst (AreNumbers pens (take (i + 1) ss) new) (sym pushed) (numbers_more pens ss i s old new c.loop-stroke.numbers.items number (omega arith) c.stroke-item.is inv.numbers one);
    }
