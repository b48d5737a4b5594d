-- Pictures of pages of the profile core have few enough pixels.
use Rattle.std.proofs.Common.{◌≡◌, ◌≤◌, ◌<◌, ℕ, ◌+◌, ◌*◌, ◌/◌, ◌&&◌, ◌||◌, Bool, false, true, nat_lt, nat_le, ap₂, arith, leb-true, le-ltb, refl}
use Rattle.std.proofs.lemmas.Nat.{mul-le}
use Rattle.std.proofs.Math.Nat.{div-lt_iff_lt-mul}
use Rattle.plot_page.specs.Pages.{has_page_size, is_page_side}
use Rattle.plot_page.specs.Resolutions.{cell_count}
use Rattle.plot_page.specs.declared.dots.Dots.{Dots}
use Rattle.plot_page.specs.declared.page.Page.{Page}
use Rattle.conversion.specs.PageJobs.{has_too_many_pixels}
use Rattle.conversion.specs.declared.page_job.TheConstants.{MOST_COLUMNS_AND_ROWS}

both : (a b : Bool) → (a && b) ≡ true → (a ≡ true) × (b ≡ true)
both true true is = (refl, refl)
both true false is = absurd (cc)
both false b is = absurd (cc)

-- how many pixels a side has
few : (units r : ℕ) → is_page_side units ≡ true → r ≤ 1200 → nat_lt MOST_COLUMNS_AND_ROWS (cell_count units r) ≡ false
few units r side most =
    let short : units ≤ 65536 = leb-true units 65536 (both (nat_le 64 units) (nat_le units 65536) side).1 in
    let product : units * r ≤ 65536 * 1200 = mul-le units r 65536 1200 short most in
    let cells : (units * r + 508) / 1016 < 77406 = (div-lt_iff_lt-mul {k = 1016} {x = units * r + 508} {y = 77406} (omega arith)).1 (omega (arith, product)) in
    le-ltb 400000 (cell_count units r) (omega (arith, cells))

pub core_is_small : (page : Page) (dots : Dots) → has_page_size page.width page.height ≡ true → has_too_many_pixels page dots ≡ false
core_is_small page dots size =
    let sides = both (is_page_side page.width) (is_page_side page.height) size in
    ap₂ ◌||◌ (few page.width dots.resolution sides.0 dots.at_most) (few page.height dots.resolution sides.1 dots.at_most)
