use Rattle.std.proofs.Common.{◌≡◌, ◌≤◌, ◌*◌, ℕ, sym, ap, ◌∙◌, length, arith}
use Rattle.std.proofs.Math.Nat.{mul-le-mul_right}
use Rattle.areas.specs.Shapes.{ShapeList}
use Rattle.page_images.specs.Views.{images_in}
use Rattle.rows.specs.ImageCells.{inks_with}
use Rattle.rows.specs.Inks.{image_inks_held}
use Rattle.rows.specs.declared.image_smoother.Sheet.{Sheet}
use Rattle.rows.proofs.ImageSmoothed.{made_text}
use Rattle.rows.proofs.Smoothed.{finer_is}
use Rattle.rows.proofs.image_smooth_bands.ImageSmoothBandsBands.begin.Goals as goal

pub invariant_of-sheet : goal.invariant_of-sheet
invariant_of-sheet c =
    let n = c.args.ask.times in
    let dots = c.args.scene.dots in
    let is : n * c.per_inch.result ≡ n * dots.resolution = ap (λ (k : ℕ). n * k) c.per_inch.ensures in
    let least : 1 * dots.resolution ≤ n * dots.resolution = mul-le-mul_right dots.resolution c.requires.ask.least in
    record { at_least = omega (arith, is, least, dots.at_least); at_most = omega (arith, is, c.requires.ask.fine) }

pub invariant_of-result : goal.invariant_of-result
invariant_of-result c =
    let scene = c.args.scene in
    let made = c.in-Ok.ensures.made in
    let smoother = c.in-Ok-new.ensures in
    let strokes = ap (λ (ss : ShapeList). ss.strokes) made.shapes in
    record {
      inks = ap image_inks_held smoother.inks ∙ c.new-inks.ensures.inks ∙ sym (ap inks_with strokes);
      times = smoother.times ∙ sym made.times;
      width = smoother.width ∙ c.columns-columns.ensures.count ∙ sym made.columns;
      page = ap (λ (s : Sheet). s.page) smoother.sheet ∙ sym made.page;
      dots = ap (λ (s : Sheet). s.dots) smoother.sheet ∙ finer_is c.args.ask.times scene.dots _ (ap (λ (k : ℕ). c.args.ask.times * k) c.per_inch.ensures) c.requires.ask.least c.requires.ask.fine ∙ sym made.dots;
      few = omega (arith, scene.few, ap length strokes);
    }

pub returns-clause-text : goal.returns-clause-text
returns-clause-text c =
    made_text c.in-Ok.bands c.args.ask.times c.args.scene _ (images_in c.args.ask.images) c.in-Ok.ensures.made (ap (λ (s : Sheet). images_in s.images) c.in-Ok-new.ensures.sheet)
