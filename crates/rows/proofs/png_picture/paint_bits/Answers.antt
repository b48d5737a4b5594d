use Rattle.std.proofs.Common.{◌≡◌, ◌≤◌, ℕ, List, length, sym, ap, subst, ◌∙◌, arith}
use Rattle.png.specs.declared.header.Depth.TheVariants.{One}
use Rattle.png.specs.Headers.{head}
use Rattle.areas.specs.Views.{shapes_in}
use Rattle.rows.specs.Layouts.{IsRowOf, plain_row}
use Rattle.rows.specs.Palettes.{AreNumbers, colours_used}
use Rattle.rows.proofs.BitNumbers.{row_of_bits}
use Rattle.rows.proofs.Numbered.{row_numbered}
use Rattle.rows.proofs.png_picture.paint_bits.Goals as goal

pub returns-clause-paints : goal.returns-clause-paints
returns-clause-paints g c =
    let scene = c.args.scene in
    let ss = scene.shapes.strokes.now in
    let reaches = g.G.Gauge.reaches c.args.gauge.now in
    let header = c.header_of-header.result in
    let made = c.header_of-header.ensures in
    let palette = c.as_slice.result in
    let numbers = c.args.palette.now.numbers.items in
    let used : palette.now ≡ colours_used scene.pens ss = c.as_slice.ensures.value ∙ c.requires.colours in
    let are = subst (λ (z : List (List ℕ)). AreNumbers scene.pens ss z numbers) (sym c.as_slice.ensures.value) c.requires.numbers in
    let few : length palette.now ≤ 2 = omega (arith, ap length c.as_slice.ensures.value, c.requires.two) in
    let shown = λ (row : ℕ). subst (λ (z : List ℕ). IsRowOf (head header) z (plain_row scene reaches row)) (row_of_bits scene.pens (shapes_in scene.shapes) scene.page scene.dots numbers reaches row c.requires.bits)
    (row_numbered header One palette scene.pens (shapes_in scene.shapes) scene.page scene.dots numbers reaches row made.layout made.header.columns used are few) in
    c.encode.ensures.paints (plain_row scene reaches) (λ row lt. shown row)
