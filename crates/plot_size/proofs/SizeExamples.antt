-- Worked examples: what plots ask for.
use Rattle.std.proofs.Common.{◌≡◌, ◌∷◌, [], ℕ, pos, negsuc, Option, Some, None, refl, codes, lit≤, List, map}
use Rattle.hpgl_text.specs.declared.profile.Profile.TheVariants.{Core, Full}
use Rattle.page_fit.specs.Around.{Sides}
use Rattle.plot_page.specs.declared.page.Page.{Page}
use Rattle.plot_size.specs.Sizes.{sides_asked, units}

-- a table of examples: each input has its output
abbrev Table : {X Y : Type 0} → (X → Y) → List (X × Y) → Type 0
Table f rows = map (λ it. f it.0) rows ≡ map (λ it. it.1) rows

-- the page that is given
abbrev given : Page
given = record { width = 800; height = 600; left = 10; below = 20; width_in = (lit≤ tt, lit≤ tt); height_in = (lit≤ tt, lit≤ tt); left_in = lit≤ tt; below_in = lit≤ tt }

-- that page with another size
abbrev sized : ℕ → ℕ → Option Sides
sized width height = Some (record { width = width; height = height; left = 10; below = 20 })

-- in the core
sizes_in_core : Table (sides_asked Core given) (
    (codes "IN;PS400,300;SP1;", sized 400 300)  -- two numbers
    ∷ (codes "PS400;", sized 400 600)  -- one number is the width of the page, whose height is the given one
    ∷ (codes "PS;SP1;", None)  -- no number
    ∷ (codes "IN;SP1;", None)  -- no instruction
    ∷ (codes "PS400,300;PS100,100;", sized 400 300)  -- the first that asks for a page counts
    ∷ (codes "PS;PS63,64;PS400:;PS64,65;", sized 64 65)  -- the first that is valid
    ∷ (codes "ps 400 ,\n300", sized 400 300)  -- in small letters, with blanks, at the plot's end
    ∷ (codes "PS400,300,200;", sized 400 300)  -- further numbers change nothing
    ∷ (codes "PS400,300:;", None)  -- a byte that belongs to no number spoils all
    ∷ (codes "LBPS400,300;", None)  -- letters of a label are no instruction
    ∷ (codes "CO PS400,300;", sized 400 300)  -- an unknown instruction, not a comment
    ∷ (codes "PS65536,64", sized 65536 64)  -- longest
    ∷ (codes "PS65537,64", None)  -- too long
    ∷ [])
sizes_in_core = refl

-- pages of the profile full are longer
sizes_in_full : Table (sides_asked Full given) (
    (codes "PS65537,64", sized 65537 64)
    ∷ (codes "PS524288,524288", sized 524288 524288)  -- longest
    ∷ (codes "PS524289,64", None)  -- too long
    ∷ [])
sizes_in_full = refl

-- the profile full reads a comment up to its semicolon
in_a_comment : sides_asked Full given (codes "CO PS400,300;") ≡ None
in_a_comment = refl

-- to the nearest unit, halves upward
whole_units : Table units (
    (pos 64500000, 65)  -- halves upward
    ∷ (pos 64499999, 64)  -- less than half
    ∷ (negsuc 63999999, 0)  -- below zero
    ∷ [])
whole_units = refl
