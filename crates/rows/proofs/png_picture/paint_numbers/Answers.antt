use Rattle.std.proofs.Common.{◌≡◌, ◌<◌, ◌≤◌, ◌^◌, ℕ, List, All, length, refl, sym, subst, ◌∙◌, arith}
use Rattle.png.specs.Headers.{bits_of_depth}
use Rattle.areas.specs.Views.{shapes_in}
use Rattle.rows.specs.Layouts.{plain_row}
use Rattle.rows.specs.Palettes.{AreNumbers, colours_used}
use Rattle.rows.proofs.Numbered.{row_numbered}
use Rattle.rows.proofs.png_picture.paint_numbers.Goals as goal

pub encode-requires : goal.encode-requires
encode-requires g c = λ k.
    let scene = c.args.scene in
    let ss = scene.shapes.strokes.now in
    let reaches = g.G.Gauge.reaches c.args.gauge.now in
    let made = c.header_of-header.ensures in
    let depth = c.depth_for-depth.result in
    let palette = c.as_slice-colours.result in
    let numbers = c.as_slice-numbers.result.now in
    let used : palette.now ≡ colours_used scene.pens ss = c.as_slice-colours.ensures.value ∙ c.requires.colours in
    let by_palette = subst (λ (z : List (List ℕ)). AreNumbers scene.pens ss z c.args.palette.now.numbers.items) (sym c.as_slice-colours.ensures.value) c.requires.numbers in
    let are = subst (λ (z : List ℕ). AreNumbers scene.pens ss palette.now z) (sym c.as_slice-numbers.ensures.value) by_palette in
    let few : length palette.now ≤ 2 ^ bits_of_depth depth = c.depth_for-depth.ensures.enough in
    let small : All (λ (n : ℕ). n < 2 ^ bits_of_depth depth) numbers = λ j d lt. (let within = are.within j d lt in omega (arith, within, few)) in
    ((refl, tt), ((c.requires.sinking, ((are.size, small), made.header))))

pub returns-clause-paints : goal.returns-clause-paints
returns-clause-paints g c =
    let scene = c.args.scene in
    let ss = scene.shapes.strokes.now in
    let reaches = g.G.Gauge.reaches c.args.gauge.now in
    let made = c.header_of-header.ensures in
    let depth = c.depth_for-depth.result in
    let palette = c.as_slice-colours.result in
    let numbers = c.as_slice-numbers.result.now in
    let used : palette.now ≡ colours_used scene.pens ss = c.as_slice-colours.ensures.value ∙ c.requires.colours in
    let by_palette = subst (λ (z : List (List ℕ)). AreNumbers scene.pens ss z c.args.palette.now.numbers.items) (sym c.as_slice-colours.ensures.value) c.requires.numbers in
    let are = subst (λ (z : List ℕ). AreNumbers scene.pens ss palette.now z) (sym c.as_slice-numbers.ensures.value) by_palette in
    let few : length palette.now ≤ 2 ^ bits_of_depth depth = c.depth_for-depth.ensures.enough in
    c.encode.ensures.paints (plain_row scene reaches) (λ row lt. row_numbered c.header_of-header.result depth palette scene.pens (shapes_in scene.shapes) scene.page scene.dots numbers reaches row made.layout made.header.columns used are few)
