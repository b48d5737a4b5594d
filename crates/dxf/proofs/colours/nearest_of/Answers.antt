use Rattle.std.proofs.Common.{◌≡◌, ◌+◌, ◌∙◌, ◌∷◌, ℕ, List, ap, drop, get_or, sym}
use Rattle.std.proofs.lemmas.List.{drop_all, drop_more}
use Rattle.plot_page.specs.declared.colour.Colour.{Colour}
use Rattle.dxf.specs.Colours.{distance, nearer, nearest_after}
use Rattle.dxf.specs.declared.colours.Nearest.{Nearest}
use Rattle.dxf.proofs.colours.nearest_of.Goals as goal

-- the next colour
next_colour : (colour : Colour) (best after : Nearest) (number far x : ℕ) (left others : List ℕ) → left ≡ x ∷ others → far ≡ distance colour x
    → after ≡ nearer best (record { number = number; distance = far })
    → nearest_after colour after (number + 1) others ≡ nearest_after colour best number left
next_colour colour best after number far x left others next apart is =
    ap (λ (n : Nearest). nearest_after colour n (number + 1) others) is
    ∙ ap (λ (d : ℕ). nearest_after colour (nearer best (record { number = number; distance = d })) (number + 1) others) apart
    ∙ ap (λ (ns : List ℕ). nearest_after colour best number ns) (sym next)

pub loop-entry-preserved : goal.loop-entry-preserved
loop-entry-preserved c =
    let l = c.loop-entry in
    let colours = c.args.colours.now in
    let i = l.entry-index in
    record {
      best = next_colour c.args.colour l.best c.nearer-best.result l.number c.distance.result (get_or colours i 0) (drop i colours) (drop (i + 1) colours)
          (drop_more colours i 0 c.loop-entry-test.true) c.distance.ensures c.nearer-best.ensures
          ∙ l.invariant.best;
      number = ap (λ (n : ℕ). n + 1) l.invariant.number;
    }

pub returns : goal.returns
returns c =
    let l = c.loop-entry in
    sym (ap (λ (ns : List ℕ). nearest_after c.args.colour l.best l.number ns) (drop_all l.entry-index c.args.colours.now c.loop-entry-test.false))
    ∙ l.invariant.best
