use Rattle.std.proofs.Common.{◌&&◌, ◌≡◌, ◌≢◌, ◌∙◌, ◌||◌, ◌≤◌, ℕ, Bool, List, Option, Some, None, Result, Err, IfOk, true, false, is_some, refl, sym, subst, codes, arith}
use Rattle.std.specs.Prelude.{IfSome}
use Rattle.std.specs.Option.{unwrap_or}
use Rattle.std.specs.Result.{result_err}
use Rattle.std.proofs.lemmas.Bool.Decides.{nat_tests}
use Rattle.clap.specs.Words.{Row, Text, found_of, rows_of}
use Rattle.clap.proofs.WalkLemmas.{first_value-rows}
use Rattle.plot_page.specs.Pages.{is_roll_side}
use Rattle.command_line.specs.declared.fault.LineFault.{LineFault}
use Rattle.command_line.specs.declared.fault.LineFault.TheVariants.{Pens}
use Rattle.command_line.specs.Lines.{has_paper_and_side, number_in, page_fault, page_size, paper_text}
use Rattle.command_line.specs.Papers.{size_named}
use Rattle.command_line.specs.Readings.{paper_or_fault, size_or_fault}
use Rattle.command_line.proofs.PaperSizes.{named_fits}
use Rattle.command_line.proofs.pages.size_of.Goals as goal

-- what the size of a page is to be if no paper is given
record WithoutPaper (rows : List Row) (width height : Option ℕ) : Type 0 where
  size : page_size rows ≡ Some (unwrap_or width 11880, unwrap_or height 8400)
  one_way : has_paper_and_side rows ≡ false
  fault : page_fault rows ≡ None

without_paper : (rows : List Row) (width height : Option ℕ) → paper_text rows ≡ None → number_in rows (codes "width") ≡ width → number_in rows (codes "height") ≡ height
    → WithoutPaper rows width height
without_paper rows width height none w h = record { size = rw (none, w, h) refl; one_way = rw none refl; fault = rw none refl }

-- what it is to be if one is given
record WithPaper (rows : List Row) (r : Result (ℕ × ℕ) LineFault) : Type 0 where
  size : IfOk r (λ size. page_size rows ≡ Some size)
  one_way : IfOk r (λ _. has_paper_and_side rows ≡ false)
  pens : r ≢ Err Pens
  fits : IfOk r (λ size. (is_roll_side size.0 && is_roll_side size.1) ≡ true)
  fault : result_err r ≡ page_fault rows

with_paper : (rows : List Row) (name : Text) (width height : Option ℕ) → paper_text rows ≡ Some name → number_in rows (codes "width") ≡ width
    → number_in rows (codes "height") ≡ height → WithPaper rows (paper_or_fault name (is_some width || is_some height))
with_paper rows name width height some w h = branch (size_named name) (is_some width || is_some height) refl refl (named_fits name)
  where
    branch : (o : Option (ℕ × ℕ)) (b : Bool) → size_named name ≡ o → (is_some width || is_some height) ≡ b
        → IfSome (size_named name) (λ size. (is_roll_side size.0 && is_roll_side size.1) ≡ true) → WithPaper rows (size_or_fault o b)
    branch None b is side fit = record { size = tt; one_way = tt; pens = λ e. absurd (cc); fits = tt; fault = rw (some, is) refl }
    branch (Some size) true is side fit = record { size = tt; one_way = tt; pens = λ e. absurd (cc); fits = tt; fault = rw (some, is, w, h, side) refl }
    branch (Some size) false is side fit = record {
      size = rw (some, is) refl;
      one_way = rw (some, w, h, side) refl;
      pens = λ e. absurd (cc);
      fits = rw is at fit;
      fault = rw (some, is, w, h, side) refl;
    }

pub returns-in-None-clause-size : goal.returns-in-None-clause-size
returns-in-None-clause-size c =
    let F = found_of c.args.options.now in
    let none = sym (c.in-None.ensures ∙ first_value-rows F (codes "page")) in
    let without = without_paper (rows_of F) _ _ none c.in_ok-width.ensures.number c.in_ok-height.ensures.number in
    rw (c.unwrap_or.ensures, c.unwrap_or-in-None.ensures) without.size

pub returns-in-None-clause-one_way : goal.returns-in-None-clause-one_way
returns-in-None-clause-one_way c =
    let F = found_of c.args.options.now in
    let none = sym (c.in-None.ensures ∙ first_value-rows F (codes "page")) in
    (without_paper (rows_of F) _ _ none c.in_ok-width.ensures.number c.in_ok-height.ensures.number).one_way

pub returns-in-None-clause-refused : goal.returns-in-None-clause-refused
returns-in-None-clause-refused c = λ has.
    let F = found_of c.args.options.now in
    let none = sym (c.in-None.ensures ∙ first_value-rows F (codes "page")) in
    sym (without_paper (rows_of F) _ _ none c.in_ok-width.ensures.number c.in_ok-height.ensures.number).fault

pub returns-in-Some-clause-size : goal.returns-in-Some-clause-size
returns-in-Some-clause-size c =
    let F = found_of c.args.options.now in
    let some = sym (c.in-Some.ensures ∙ first_value-rows F (codes "page")) in
    let with = with_paper (rows_of F) _ _ _ some c.in_ok-width.ensures.number c.in_ok-height.ensures.number in
    (subst (WithPaper (rows_of F)) (sym c.paper_size.ensures) with).size

pub returns-in-Some-clause-one_way : goal.returns-in-Some-clause-one_way
returns-in-Some-clause-one_way c =
    let F = found_of c.args.options.now in
    let some = sym (c.in-Some.ensures ∙ first_value-rows F (codes "page")) in
    let with = with_paper (rows_of F) _ _ _ some c.in_ok-width.ensures.number c.in_ok-height.ensures.number in
    (subst (WithPaper (rows_of F)) (sym c.paper_size.ensures) with).one_way

pub returns-in-Some-clause-pens : goal.returns-in-Some-clause-pens
returns-in-Some-clause-pens c =
    let F = found_of c.args.options.now in
    let some = sym (c.in-Some.ensures ∙ first_value-rows F (codes "page")) in
    let with = with_paper (rows_of F) _ _ _ some c.in_ok-width.ensures.number c.in_ok-height.ensures.number in
    (subst (WithPaper (rows_of F)) (sym c.paper_size.ensures) with).pens

pub returns-in-Some-clause-within : goal.returns-in-Some-clause-within
returns-in-Some-clause-within c = λ has.
    let F = found_of c.args.options.now in
    let some = sym (c.in-Some.ensures ∙ first_value-rows F (codes "page")) in
    let with = with_paper (rows_of F) _ _ _ some c.in_ok-width.ensures.number c.in_ok-height.ensures.number in
    (subst (WithPaper (rows_of F)) (sym c.paper_size.ensures) with).fits

pub returns-in-Some-clause-refused : goal.returns-in-Some-clause-refused
returns-in-Some-clause-refused c = λ has.
    let F = found_of c.args.options.now in
    let some = sym (c.in-Some.ensures ∙ first_value-rows F (codes "page")) in
    let with = with_paper (rows_of F) _ _ _ some c.in_ok-width.ensures.number c.in_ok-height.ensures.number in
    (subst (WithPaper (rows_of F)) (sym c.paper_size.ensures) with).fault

pub returns-in_err-width-clause-refused : goal.returns-in_err-width-clause-refused
returns-in_err-width-clause-refused c = λ has. absurd (c.in_err-width.ensures.understood 64 524288 (omega arith) (has.within (codes "width")))

pub returns-in_err-height-clause-refused : goal.returns-in_err-height-clause-refused
returns-in_err-height-clause-refused c = λ has. absurd (c.in_err-height.ensures.understood 64 524288 (omega arith) (has.within (codes "height")))

-- the sides that are given, or those of A4, are those of a page
sides : (width height : Option ℕ) → IfSome width (λ n. (64 ≤ n) × (n ≤ 524288)) → IfSome height (λ n. (64 ≤ n) × (n ≤ 524288))
    → (is_roll_side (unwrap_or width 11880) && is_roll_side (unwrap_or height 8400)) ≡ true
sides None None wide high = refl
sides None (Some h) wide high = grind (arith, nat_tests)
sides (Some w) None wide high = grind (arith, nat_tests)
sides (Some w) (Some h) wide high = grind (arith, nat_tests)

pub returns-in-None-clause-within : goal.returns-in-None-clause-within
returns-in-None-clause-within c = λ has.
    let wide = c.in_ok-width.ensures.understood 64 524288 (omega arith) (has.within (codes "width")) in
    let high = c.in_ok-height.ensures.understood 64 524288 (omega arith) (has.within (codes "height")) in
    rw (c.unwrap_or.ensures, c.unwrap_or-in-None.ensures) (sides _ _ wide high)
