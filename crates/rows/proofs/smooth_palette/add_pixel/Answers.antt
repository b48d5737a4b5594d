use Rattle.std.proofs.Common.{◌≡◌, ℕ, List, sym, subst}
use Rattle.rows.specs.Known.{AreKnown, HasNumber}
use Rattle.rows.specs.Palettes.{with_colour}
use Rattle.rows.proofs.KnownNumbers.{known_after}
use Rattle.rows.proofs.smooth_palette.add_pixel.Goals as goal

pub returns-in-Some-clause-known : goal.returns-in-Some-clause-known
returns-in-Some-clause-known c = λ _.
    let old = c.args.colours.now.items in
    let new = c.add_colour.new.colours.items in
    let added : new ≡ with_colour old c.args.pixel = rw c.in-Some.is at c.in_ok-number.ensures.added in
    let has : HasNumber new c.args.pixel c.in-Some.number = rw c.in-Some.is at c.in_ok-number.ensures.placed in
    let known = known_after old c.args.pixel c.args.known.now c.requires.known in
    let kept = subst (λ (palette : List (List ℕ)). AreKnown palette c.args.known.now) (sym added) known in
    c.keep.ensures new (c.number_of.ensures.known new kept) has
