-- The job of a bitmap.
use Rattle.plot_page.specs.declared.page.Page.{Page}
use Rattle.plot_page.specs.declared.dots.Dots.{Dots}
use Rattle.plot_page.specs.declared.pens.PenSet.{PenSet}
use Rattle.picture_out.specs.declared.form.Form.TheVariants.{Pbm}
use Rattle.picture_job.specs.declared.job.Job.{Job}

-- the whole page, of these pens
abbrev pub bitmap_job : Page → Dots → PenSet → Job
bitmap_job page dots pens = record { page = page; dots = dots; pens = pens; band = 64; first_row = 0; form = Pbm }
