-- The job of a picture on the page that it shows, and whether it can have its resolution there, and so many pixels.
use Rattle.std.specs.Prelude.{ℕ, ◌-◌, Bool, ◌||◌, nat_lt, true, Option, Some, None}
use Rattle.plot_page.specs.Resolutions.{columns_of, rows_of}
use Rattle.plot_page.specs.declared.dots.Dots.{Dots}
use Rattle.plot_page.specs.declared.page.Page.{Page}
use Rattle.picture_job.specs.declared.job.Job.{Job}
use Rattle.picture_job.specs.declared.page_choice.PageChoice.{PageChoice}
use Rattle.picture_job.specs.declared.picture.Picture.{Picture}
use Rattle.picture_job.specs.declared.picture.Picture.TheVariants.{Rows, Png, Vector}
use Rattle.picture_job.specs.declared.png_job.PngJob.{PngJob}
use Rattle.picture_job.specs.declared.smoothing.Smoothing.{Smoothing}
use Rattle.picture_job.specs.Sizes.{dots_in, smoothing_in}
use Rattle.rows.specs.Documents.{is_png_possible}
use Rattle.rows.specs.Pictures.{end_of, has_any_resolution, is_possible}
use Rattle.conversion.specs.declared.page_job.TheConstants.{MOST_COLUMNS_AND_ROWS}

-- a picture of this page at this resolution has more columns or rows than a picture may have
abbrev pub has_too_many_pixels : Page → Dots → Bool
has_too_many_pixels page dots =
    nat_lt MOST_COLUMNS_AND_ROWS (columns_of page dots) || nat_lt MOST_COLUMNS_AND_ROWS (rows_of page dots)

-- the job on another page, whose picture has the resolution of the job, or as many pixels as are chosen
abbrev pub on_page : PageChoice → Page → Job → Job
on_page choice page job = record job { page = page; dots = dots_in choice.pixels page job.dots }

-- how many rows of this picture are written: those from the job's first row on, at most so many
abbrev pub rows_on : PageChoice → Page → Job → Option ℕ → ℕ
rows_on choice page job most = end_of most job.first_row (rows_of page (on_page choice page job).dots) - job.first_row

-- how this picture is smoothed, and so how many times finer it is painted
abbrev pub smoothing_on : PageChoice → Page → Job → Smoothing → Smoothing
smoothing_on choice page job smoothing = smoothing_in choice.pixels (on_page choice page job).dots smoothing

abbrev pub times_on : PageChoice → Page → Job → Smoothing → ℕ
times_on choice page job smoothing = (smoothing_on choice page job smoothing).times

-- the same of the job of a PNG
abbrev pub png_on_page : PageChoice → Page → PngJob → PngJob
png_on_page choice page job =
    let dots = dots_in choice.pixels page job.dots in
    record job { page = page; dots = dots; smoothing = smoothing_in choice.pixels dots job.smoothing }

-- how many rows this picture has
abbrev pub png_rows_on : PageChoice → Page → PngJob → ℕ
png_rows_on choice page job = rows_of page (png_on_page choice page job).dots

-- without pixels that are chosen, the form has the resolution, and the picture is not too fine to be smoothed; with them, the
-- form takes every resolution. If not, nothing is read
abbrev pub is_possible_in : Option ℕ → ℕ → Job → Bool
is_possible_in None n job = is_possible n job
is_possible_in (Some pixels) n job = has_any_resolution job.form

-- the same of a PNG
abbrev pub is_png_possible_in : Option ℕ → PngJob → Bool
is_png_possible_in None job = is_png_possible job
is_png_possible_in (Some pixels) job = true

-- the form of a picture has its resolution, or has any if pixels are chosen, and a picture that is smoothed is not too fine
abbrev pub is_picture_possible : PageChoice → Picture → Bool
is_picture_possible choice (Rows job rows) = is_possible_in choice.pixels rows.smoothing.times job
is_picture_possible choice (Png job) = is_png_possible_in choice.pixels job
is_picture_possible choice (Vector job) = true
