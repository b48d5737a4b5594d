-- The unit of a page: a point, or the least whole number of points with which no side of the page is over 14,400 units, the
-- most that a viewer shows. ISO 32000-1, 7.7.3.3 (UserUnit) and C.2.
use Rattle.std.specs.Prelude.{ℕ, ◌*◌, max, nat_le, if◌then◌else◌}
use Rattle.plot_page.specs.declared.page.Page.{Page}
use Rattle.pdf.specs.declared.units.PageUnit.{PageUnit}
use Rattle.pdf.specs.declared.units.PageUnit.TheVariants.{One, Two, Three}
use Rattle.pdf.specs.declared.units.TheConstants.{LONGEST_IN_POINTS}

-- how many points a unit has
abbrev pub count_of : PageUnit → ℕ
count_of One = 1
count_of Two = 2
count_of Three = 3

-- the unit of a page whose longer side is so long
abbrev pub unit_by : ℕ → PageUnit
unit_by side =
    if nat_le side LONGEST_IN_POINTS then One else if nat_le side (2 * LONGEST_IN_POINTS) then Two else Three

abbrev pub unit_of : Page → PageUnit
unit_of page = unit_by (max page.width page.height)
