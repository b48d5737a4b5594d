-- The empty carousel has nothing of any pen.
use Rattle.std.proofs.Common.{◌≡◌, refl, ◌≤◌, suc, zero, ℕ, Option, None, List, replicate, get_or}
use Rattle.std.proofs.Props.{props}
use Rattle.std.specs.List.{All}
use Rattle.std.specs.Option.{ForSome}
use mathlib.Core.HLevel.{is_prop→PathP}
use Rattle.carousel.specs.declared.carousel.Carousel.{Carousel}
use Rattle.carousel.specs.Carousels.{empty, width_of, colour_of}

none_in : {T : Type 0} (n p : ℕ) → get_or {A = Option T} (replicate n None) p None ≡ None
none_in zero p = refl
none_in (suc n) zero = refl
none_in (suc n) (suc p) = none_in n p

pub empty_width : (pen : ℕ) → width_of empty pen ≡ None
unfolding empty
empty_width pen = none_in 256 pen

pub empty_colour : (pen : ℕ) → colour_of empty pen ≡ None
unfolding empty
empty_colour pen = none_in 256 pen

abbrev Widths : List (Option ℕ) → Type 0
Widths ws = All (λ width. ForSome width (λ grains. grains ≤ 12800)) ws

widths_prop : (ws : List (Option ℕ)) → IsProp (Widths ws)
widths_prop ws = Prim.hlevel props

-- a carousel has one proof at most that its widths are in their range
pub same_carousel : (a b : Carousel) → a.widths ≡ b.widths → a.colours ≡ b.colours → a ≡ b
same_carousel a b p q = λ i. record {
  widths = p i;
  colours = q i;
  widths_in = is_prop→PathP (λ j. Widths (p j)) (λ j. widths_prop (p j)) a.widths_in b.widths_in i;
}
