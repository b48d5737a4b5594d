-- How many pixels a page has whose sides are whole numbers of them.
use Rattle.std.proofs.Common.{◌≡◌, ℕ, ◌*◌, ◌≤◌, arith}
use Rattle.plot_page.specs.declared.dots.Dots.{Dots}
use Rattle.plot_page.specs.declared.page.Page.{Page}
use Rattle.plot_page.specs.Resolutions.{cell_count, columns_of, rows_of}
use Rattle.turning.specs.Pictures.{HasWholePixels}

some : (units r n : ℕ) → 64 ≤ units → 1 ≤ r → units * r ≡ 1016 * n → 1 ≤ n
some units r n h k e = grind (arith)

counted : (units r n : ℕ) → 64 ≤ units → 1 ≤ r → units * r ≡ 1016 * n → cell_count units r ≡ n
counted units r n h k e =
    let one = some units r n h k e in
    omega (arith, e, one)

pub grids : (page : Page) (dots : Dots) (rows columns : ℕ) → HasWholePixels page dots.resolution rows columns
    → (rows_of page dots ≡ rows) × (columns_of page dots ≡ columns)
grids page dots rows columns whole = (
  counted page.height dots.resolution rows page.height_in.0 dots.at_least whole.height,
  counted page.width dots.resolution columns page.width_in.0 dots.at_least whole.width,
)
