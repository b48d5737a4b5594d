use Rattle.std.proofs.Common.{◌≡◌, ◌∙◌, ◌≤◌, ◌&&◌, ℕ, Option, Some, None, Result, true, is_some, refl, arith}
use Rattle.std.specs.Option.{ok_or}
use Rattle.std.specs.Result.{result_err}
use Rattle.std.proofs.lemmas.Bool.Decides.{nat_tests}
use Rattle.plot_page.specs.Pages.{has_page_corner, is_roll, is_roll_side}
use Rattle.command_line.proofs.pages.page_of.Goals as goal

pub returns-in_err-left-clause-refused : goal.returns-in_err-left-clause-refused
returns-in_err-left-clause-refused c = λ has. absurd (c.in_err-left.ensures.understood 0 65536 (omega arith) has.left)

pub returns-in_err-below-clause-refused : goal.returns-in_err-below-clause-refused
returns-in_err-below-clause-refused c = λ has. absurd (c.in_err-below.ensures.understood 0 65536 (omega arith) has.below)

page_corner : (left below : ℕ) → left ≤ 65536 → below ≤ 65536 → has_page_corner left below ≡ true
page_corner left below l b = grind (arith, nat_tests)

page_made : (width height left below : ℕ) → (is_roll_side width && is_roll_side height) ≡ true
    → has_page_corner left below ≡ true → is_roll width height left below ≡ true
page_made width height left below has_size has_corner = rw (has_size, has_corner) refl

no_fault : {X E : Type 0} (o : Option X) (e : E) (r : Result X E) → is_some o ≡ true → r ≡ ok_or o e → result_err r ≡ None
no_fault (Some x) e r is value = rw value refl
no_fault None e r is value = absurd (cc is)

pub returns-clause-refused : goal.returns-clause-refused
returns-clause-refused c = λ has.
    let left = c.in_ok-left.ensures.understood 0 65536 (omega arith) has.left in
    let below = c.in_ok-below.ensures.understood 0 65536 (omega arith) has.below in
    let made = page_made c.in_ok-width.width c.in_ok-width.height c.in_ok-left.left c.in_ok-below.below (c.in_ok-width.ensures.within has) (page_corner _ _ left.1 below.1) in
    no_fault c.roll.result _ c.ok_or.result (c.roll.ensures.given ∙ made) c.ok_or.ensures.value ∙ c.in_ok-width.ensures.refused has
