use Rattle.std.proofs.Common.{◌≡◌, ◌∙◌, [], ℕ, Bool, true, ap, arith, cond, nat_eq, sym}
use Rattle.std.proofs.lemmas.Bool.Decides.{nat_tests}
use Rattle.pieces.proofs.Texts.{none_put, puts_as}
use Rattle.plot_page.specs.declared.colour.Colour.{Colour}
use Rattle.stroke_runs.specs.Drawn.{is_same_colour}
use Rattle.dxf.specs.Colours.{colour_number}
use Rattle.dxf.specs.Groups.{count_group}
use Rattle.dxf.proofs.layers.put_other.Goals as goal

same : (a b : Colour) → is_same_colour a b ≡ true → a ≡ b
same a b h =
    let red : a.red ≡ b.red = grind (arith, nat_tests, h) in
    let green : a.green ≡ b.green = grind (arith, nat_tests, h) in
    let blue : a.blue ≡ b.blue = grind (arith, nat_tests, h) in
    λ i. record { red = red i; green = green i; blue = blue i }

itself : (n : ℕ) → nat_eq n n ≡ true
itself n = grind (arith, nat_tests)

-- one colour has one number
same_number : (f : Colour → ℕ) (a b : Colour) → is_same_colour a b ≡ true → nat_eq (f a) (f b) ≡ true
same_number f a b h = ap (λ (c : Colour). nat_eq (f a) (f c)) (sym (same a b h)) ∙ itself (f a)

pub returns-then-is_same_colour : goal.returns-then-is_same_colour
returns-then-is_same_colour g c =
    let own = c.args.own in
    let one = same_number colour_number own c.args.of_layer (sym c.is_same_colour.ensures ∙ c.if-is_same_colour.true) in
    record {
      puts = puts_as (none_put c.requires.sound) (ap (λ (b : Bool). cond b [] (count_group 62 (colour_number own))) (sym one));
    }

pub returns : goal.returns
returns g c =
    record {
      puts = puts_as c.put_number_of.ensures.puts
          (λ i. cond (nat_eq (c.colour_number.ensures i) (c.colour_number-2.ensures i)) [] (count_group 62 (c.colour_number.ensures i)));
    }
