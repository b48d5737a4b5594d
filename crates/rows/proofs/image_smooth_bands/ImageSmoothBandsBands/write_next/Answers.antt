use Rattle.std.proofs.Common.{◌≤◌, ◌+◌, ap, subst, ◌∙◌}
use Rattle.page_images.specs.Views.{images_in}
use Rattle.rows.specs.Progress.{SmoothImagePainting, smoothed_image_text, tests_left}
use Rattle.rows.specs.declared.image_smoother.Sheet.{Sheet}
use Rattle.rows.proofs.image_smooth_bands.ImageSmoothBandsBands.write_next.Goals as goal

pub returns-clause-text : goal.returns-clause-text
returns-clause-text g c =
    ap (λ (s : Sheet). smoothed_image_text (record { smooth = c.write_next_of.new.bands; images = images_in s.images })) c.write_next_of.ensures.sheet
    ∙ c.write_next_of.ensures.text (images_in c.self.inside.smoother.sheet.images)
    ∙ ap smoothed_image_text c.self.view_is

pub returns-clause-tests : goal.returns-clause-tests
returns-clause-tests g c =
    subst (λ (z : SmoothImagePainting). g.G.Gauge.count c.write_next_of.new.gauge + tests_left c.write_next_of.new.bands.painting ≤ g.G.Gauge.count c.args.gauge.now + tests_left z.smooth.painting)
    c.self.view_is c.write_next_of.ensures.tests
