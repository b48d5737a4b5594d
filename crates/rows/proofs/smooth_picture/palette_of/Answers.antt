use Rattle.std.proofs.Common.{◌≡◌, ◌-◌, ◌<◌, ℕ, List, [], ◌∷◌, fold, length, ap, sym, subst, ◌∙◌, arith}
use Rattle.std.specs.List.{flat_map, range_with_len}
use Rattle.plot_page.specs.Resolutions.{rows_of}
use Rattle.picture_out.specs.Inks.{colour_bytes, paper}
use Rattle.rows.specs.Boxes.{finer_between}
use Rattle.rows.specs.Layouts.{scene_pixels}
use Rattle.rows.specs.Palettes.{with_colour}
use Rattle.rows.specs.Pictures.{Reach}
use Rattle.rows.specs.Progress.{row_pixels}
use Rattle.rows.proofs.Joined.{whole_finer}
use Rattle.rows.proofs.Numbered.{first_kept}
use Rattle.rows.proofs.smooth_picture.palette_of.Goals as goal

pub returns-then-branch-clause-colours : goal.returns-then-branch-clause-colours
returns-then-branch-clause-colours g c =
    let scene = c.args.scene in
    let reaches : Reach = g.G.Gauge.reaches c.args.gauge.now in
    let bands = c.in-Ok.bands in
    let made = c.in-Ok.ensures in
    let rows = rows_of scene.page scene.dots in
    let ends : bands.end ≡ rows = made.end ∙ c.rows-rows.ensures.count in
    let white : List (List ℕ) = colour_bytes paper ∷ [] in
    let F : (ℕ → List (List ℕ)) → ℕ → ℕ → List (List ℕ) = λ f first n. fold with_colour white (flat_map f (range_with_len first n)) in
    let pixels : ℕ → List (List ℕ) = scene_pixels c.args.times scene reaches in
    let all : rows - 0 ≡ rows = omega arith in
    let first : c.in_ok-colours.colours.items ≡ white = c.in_ok-colours.ensures in
    c.in_ok-add_colours.ensures.colours c.if-branch.true
    ∙ ap (λ (start : List (List ℕ)). fold with_colour start (flat_map (row_pixels bands reaches) (range_with_len bands.next (bands.end - bands.next)))) first
    ∙ ap (λ (f : Reach → ℕ → List (List ℕ)). F (f reaches) bands.next (bands.end - bands.next)) made.pixels
    ∙ ap (λ (first : ℕ). F pixels first (bands.end - first)) made.next
    ∙ ap (λ (n : ℕ). F pixels 0 (n - 0)) ends
    ∙ ap (F pixels 0) all

pub returns-then-branch-clause-some : goal.returns-then-branch-clause-some
returns-then-branch-clause-some g c =
    let bands = c.in-Ok.bands in
    let reaches : Reach = g.G.Gauge.reaches c.args.gauge.now in
    let pixels = flat_map (row_pixels bands reaches) (range_with_len bands.next (bands.end - bands.next)) in
    let first : c.in_ok-colours.colours.items ≡ colour_bytes paper ∷ [] = c.in_ok-colours.ensures in
    let is = c.in_ok-add_colours.ensures.colours c.if-branch.true ∙ ap (λ (start : List (List ℕ)). fold with_colour start pixels) first in
    subst (λ (z : List (List ℕ)). 0 < length z) (sym is) (first_kept (colour_bytes paper) [] pixels).1

pub returns-then-branch-clause-tests : goal.returns-then-branch-clause-tests
returns-then-branch-clause-tests g c =
    let scene = c.args.scene in
    let n = c.args.times in
    let few = c.in-Ok.ensures.tests ∙ ap (finer_between n scene.pens scene.shapes.strokes.now scene.page scene.dots 0) c.rows-rows.ensures.count ∙ whole_finer n scene.pens scene.shapes.strokes.now scene.page scene.dots 0 in
    omega (arith, c.add_colours.ensures.tests, few)

pub returns-clause-tests : goal.returns-clause-tests
returns-clause-tests g c =
    let scene = c.args.scene in
    let n = c.args.times in
    let few = c.in-Ok.ensures.tests ∙ ap (finer_between n scene.pens scene.shapes.strokes.now scene.page scene.dots 0) c.rows-rows.ensures.count ∙ whole_finer n scene.pens scene.shapes.strokes.now scene.page scene.dots 0 in
    omega (arith, c.add_colours.ensures.tests, few)

pub returns-in_err-add_colours-clause-tests : goal.returns-in_err-add_colours-clause-tests
returns-in_err-add_colours-clause-tests g c =
    let scene = c.args.scene in
    let n = c.args.times in
    let few = c.in-Ok.ensures.tests ∙ ap (finer_between n scene.pens scene.shapes.strokes.now scene.page scene.dots 0) c.rows-rows.ensures.count ∙ whole_finer n scene.pens scene.shapes.strokes.now scene.page scene.dots 0 in
    omega (arith, c.add_colours.ensures.tests, few)
