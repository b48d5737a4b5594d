-- The page that has given numbers.
use Rattle.std.proofs.Common.{◌≡◌, ◌≤◌, ◌&&◌, ℕ, Bool, Option, None, Some, true, false, nat_le, refl, sym, ap, ◌∙◌, arith}
use Rattle.std.proofs.lemmas.Bool.{and_parts}
use Rattle.std.proofs.lemmas.Bool.Decides.{nat_tests}
use Rattle.std.specs.Prelude.{IfSome, is_some, option_map}
use Rattle.plot_page.specs.Pages.{has_page_corner, is_roll, is_roll_side}
use Rattle.plot_page.specs.declared.page.Page.{Page}
use Rattle.page_fit.specs.Around.{checked, is_side, sides_of}

never : false ≡ true → (r : Option Page) → (w h l b longest : ℕ) → option_map sides_of r ≡ checked longest (record { width = w; height = h; left = l; below = b })
never e r w h l b longest = absurd (cc e)

-- a side is a side of a roll
roll_side : (longest units : ℕ) → longest ≤ 524288 → is_side longest units ≡ true → is_roll_side units ≡ true
roll_side longest units few h =
    let p = and_parts (nat_le 64 units) (nat_le units longest) h in
    let a : nat_le units 524288 ≡ true = grind (arith, nat_tests) in
    rw (p.0, a) refl

pub made : (r : Option Page) (longest w h l b : ℕ) → longest ≤ 524288 → (is_side longest w && is_side longest h) ≡ true → has_page_corner l b ≡ true
    → is_some r ≡ is_roll w h l b
    → IfSome r (λ p. p.width ≡ w) → IfSome r (λ p. p.height ≡ h) → IfSome r (λ p. p.left ≡ l) → IfSome r (λ p. p.below ≡ b)
    → option_map sides_of r ≡ checked longest (record { width = w; height = h; left = l; below = b })
made (Some p) longest w h l b few size corner given is_w is_h is_l is_b = rw (size, corner) (cc (is_w, is_h, is_l, is_b))
made None longest w h l b few size corner given is_w is_h is_l is_b =
    let p = and_parts (is_side longest w) (is_side longest h) size in
    let a = roll_side longest w few p.0 in
    let b' = roll_side longest h few p.1 in
    let yes : is_roll w h l b ≡ true = rw (a, b', corner) refl in
    never (given ∙ yes) None w h l b longest
