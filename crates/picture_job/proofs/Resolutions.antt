-- The resolution for so many pixels.
use Rattle.std.proofs.Common.{◌≡◌, ◌≤◌, ◌<◌, ℕ, ◌+◌, ◌*◌, ◌/◌, max, min, arith}
use Rattle.std.proofs.Math.Nat.{div-mul-le_self, lt-div-mul-add, mul-le-mul_right, div-lt_iff_lt-mul, le-div_iff_mul-le}
use Rattle.plot_page.specs.declared.page.Page.{Page}
use Rattle.plot_page.specs.Resolutions.{cell_count, dots_within, longer_side}
use Rattle.picture_job.specs.Laws.{SuitsPixels}

-- the rounded quotient for a side
abbrev quotient : ℕ → ℕ → ℕ
quotient longer pixels = (1016 * pixels + 507) / longer

within : (longer pixels : ℕ) → 1 ≤ pixels → 1 < max 1 (min 1200 (quotient longer pixels))
    → cell_count longer (max 1 (min 1200 (quotient longer pixels))) ≤ pixels
within longer pixels least more =
    let q : ℕ = quotient longer pixels in
    let r : ℕ = max 1 (min 1200 q) in
    let low : r ≤ q = omega (arith, more) in
    let part : q * longer ≤ 1016 * pixels + 507 = div-mul-le_self (1016 * pixels + 507) longer in
    let grown : r * longer ≤ q * longer = mul-le-mul_right longer low in
    let turned : longer * r ≡ r * longer = grind arith in
    let few : (longer * r + 508) / 1016 < pixels + 1 =
    (div-lt_iff_lt-mul {k = 1016} {x = longer * r + 508} {y = pixels + 1} (omega arith)).1 (omega (arith, part, grown, turned)) in
    omega (arith, few, least)

greatest : (longer pixels r : ℕ) → 1 ≤ longer → max 1 (min 1200 (quotient longer pixels)) < r → r ≤ 1200 → pixels < cell_count longer r
greatest longer pixels r some more most =
    let q : ℕ = quotient longer pixels in
    let above : q + 1 ≤ r = omega (arith, more, most) in
    let part : 1016 * pixels + 507 < q * longer + longer = lt-div-mul-add some in
    let grown : (q + 1) * longer ≤ r * longer = mul-le-mul_right longer above in
    let turned : longer * r ≡ r * longer = grind arith in
    let parts : (q + 1) * longer ≡ q * longer + longer = grind arith in
    let many : pixels + 1 ≤ (longer * r + 508) / 1016 =
    (le-div_iff_mul-le {k = 1016} {x = pixels + 1} {y = longer * r + 508} (omega arith)).1 (omega (arith, part, grown, turned, parts)) in
    omega (arith, many)

pub suits_pixels : (page : Page) (pixels : ℕ) → 1 ≤ pixels → SuitsPixels page pixels
suits_pixels page pixels least =
    let some : 1 ≤ longer_side page = omega (arith, page.width_in.0) in
    record {
      within = within (longer_side page) pixels least;
      greatest = λ r. greatest (longer_side page) pixels r some;
    }
