-- Pictures of drawings, on the page that is shown.
use Rattle.std.proofs.Common.{◌≡◌, ◌≤◌, ℕ, Bool, true, false, not, ◌&&◌, ◌||◌, Option, Some, None, refl, min, max, ◌*◌, ◌/◌, nat_le, arith}
use Rattle.std.proofs.lemmas.Bool.{le-leb}
use Rattle.std.proofs.Math.Nat.{div-mul-le_self, le-div_iff_mul-le, max-le, min-le_right, mul-le-mul_right}
use Rattle.plot_page.specs.declared.page.Page.{Page}
use Rattle.plot_page.specs.declared.dots.Dots.{Dots}
use Rattle.picture_out.specs.declared.form.Form.{Form}
use Rattle.picture_out.specs.declared.form.Form.TheVariants.{Marks, Pbm, Ppm, Pcl}
use Rattle.picture_out.specs.Forms.{takes_resolution}
use Rattle.picture_job.specs.declared.job.Job.{Job}
use Rattle.picture_job.specs.declared.png_job.PngJob.{PngJob}
use Rattle.picture_job.specs.declared.page_choice.PageChoice.{PageChoice}
use Rattle.picture_job.specs.declared.smoothing.Smoothing.{Smoothing}
use Rattle.picture_job.specs.Sizes.{dots_in, smoothing_at, smoothing_in}
use Rattle.conversion.specs.PageJobs.{is_possible_in, on_page, times_on}
use Rattle.rows.specs.Documents.{is_png_possible}
use Rattle.conversion.specs.PageJobs.{is_png_possible_in, png_on_page}
use Rattle.rows.specs.Pictures.{has_any_resolution, is_fine, is_possible, is_smoothed}

-- a picture of so many pixels is not too fine
sized_fine : (r s : ℕ) → 1 ≤ r → r ≤ 1200 → nat_le (max 1 (min s (1200 / r)) * r) 1200 ≡ true
sized_fine r s some most =
    let q = 1200 / r in
    let whole : q * r ≤ 1200 = div-mul-le_self 1200 r in
    let least : 1 ≤ q = (le-div_iff_mul-le some).1 (omega (arith, most)) in
    let fits : max 1 (min s q) ≤ q = max-le least (min-le_right s q) in
    let more = mul-le-mul_right r fits in
    le-leb _ _ (omega (arith, whole, more))

any_resolution : (form : Form) (r : ℕ) → has_any_resolution form ≡ true → takes_resolution form r ≡ true
any_resolution Marks r any = refl
any_resolution Pbm r any = refl
any_resolution Ppm r any = refl
any_resolution Pcl r any = absurd (cc)

fine_or_plain : (a b c : Bool) → b ≡ true → c ≡ true → ((not a || b) && c) ≡ true
fine_or_plain true b c is so = rw (is, so) refl
fine_or_plain false b c is so = rw so refl

possible_by : (pixels : Option ℕ) (sm : Smoothing) (job : Job) (page : Page) → is_possible_in pixels sm.times job ≡ true
    → is_possible (smoothing_in pixels (dots_in pixels page job.dots) sm).times (record job { page = page; dots = dots_in pixels page job.dots }) ≡ true
possible_by None sm job page h = h
possible_by (Some pixels) sm job page h =
    let dots : Dots = dots_in (Some pixels) page job.dots in
    let n = (smoothing_at dots sm).times in
    fine_or_plain (is_smoothed n job.form) (is_fine n dots) (takes_resolution job.form dots.resolution) (sized_fine dots.resolution sm.times dots.at_least dots.at_most) (any_resolution job.form dots.resolution h)

-- what is possible is possible on the page that the picture shows
pub possible_on : (c : PageChoice) (sm : Smoothing) (job : Job) (page : Page) → is_possible_in c.pixels sm.times job ≡ true → is_possible (times_on c page job sm) (on_page c page job) ≡ true
possible_on c sm job page h = possible_by c.pixels sm job page h

plain_or_fine : (a b : Bool) → b ≡ true → (not a || b) ≡ true
plain_or_fine true b is = is
plain_or_fine false b is = refl

png_possible_by : (pixels : Option ℕ) (job : PngJob) (page : Page) → is_png_possible_in pixels job ≡ true
    → is_png_possible (record job { page = page; dots = dots_in pixels page job.dots; smoothing = smoothing_in pixels (dots_in pixels page job.dots) job.smoothing }) ≡ true
png_possible_by None job page h = h
png_possible_by (Some pixels) job page h =
    let dots : Dots = dots_in (Some pixels) page job.dots in
    let n = (smoothing_at dots job.smoothing).times in
    plain_or_fine (is_smoothed n Ppm) (is_fine n dots) (sized_fine dots.resolution job.smoothing.times dots.at_least dots.at_most)

-- the same of a PNG
pub png_possible_on : (c : PageChoice) (job : PngJob) (page : Page) → is_png_possible_in c.pixels job ≡ true → is_png_possible (png_on_page c page job) ≡ true
png_possible_on c job page h = png_possible_by c.pixels job page h
