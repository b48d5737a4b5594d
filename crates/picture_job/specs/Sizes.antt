-- The resolution and the smoothing of a picture that is to have so many pixels.
use Rattle.std.specs.Prelude.{ℕ, ◌/◌, ◌*◌, ◌+◌, max, min, Option, Some, None}
use Rattle.std.proofs.Math.Nat.{le-max_left, le_trans, max-le, min-le_left}
use Rattle.plot_page.specs.declared.dots.Dots.{Dots}
use Rattle.plot_page.specs.declared.page.Page.{Page}
use Rattle.plot_page.specs.Resolutions.{dots_within, longer_side}
use Rattle.picture_job.specs.declared.page_choice.TheConstants.{MOST_PIXELS_CHOSEN}
use Rattle.picture_job.specs.declared.smoothing.Smoothing.{Smoothing}

-- the resolution at which the longer side of a page has at most so many pixels
abbrev pub dots_for : Page → ℕ → Dots
dots_for page pixels = record {
  resolution = dots_within page pixels;
  at_least = le-max_left 1 (min 1200 ((1016 * pixels + 507) / longer_side page));
  at_most = max-le (le-max_left 1 1200) (min-le_left 1200 ((1016 * pixels + 507) / longer_side page));
}

-- the resolution of the picture of a page: the given one, or the one of so many pixels
abbrev pub dots_in : Option ℕ → Page → Dots → Dots
dots_in None page given = given
dots_in (Some pixels) page given = dots_for page (min pixels MOST_PIXELS_CHOSEN)

-- as much finer as is given, but no more than 1200 dots per inch allow
abbrev pub smoothing_at : Dots → Smoothing → Smoothing
smoothing_at dots given = record {
  times = max 1 (min given.times (1200 / dots.resolution));
  at_least = le-max_left 1 (min given.times (1200 / dots.resolution));
  at_most = max-le (le-max_left 1 8) (le_trans (min-le_left given.times (1200 / dots.resolution)) given.at_most);
}

-- how much finer a picture of this resolution is painted
abbrev pub smoothing_in : Option ℕ → Dots → Smoothing → Smoothing
smoothing_in None dots given = given
smoothing_in (Some pixels) dots given = smoothing_at dots given
