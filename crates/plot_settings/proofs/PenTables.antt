-- The lists of widths and of colours have the width and the colour of each pen, and widths keep to their range.
use Rattle.std.proofs.Common.{◌≡◌, ◌≢◌, inl, inr, ℕ, zero, suc, ◌<◌, ◌≤◌, List, [], ◌∷◌, length, get_or, get_or-set_same, get_or-set_other, set, refl, ◌∙◌, arith, nat_eq}
use Rattle.std.proofs.lemmas.Bool.{cases_Bool}
use Rattle.std.specs.Prelude.{if◌then◌else◌, Some, None}
use Rattle.std.proofs.Math.ListN.{length-set}
use Rattle.std.proofs.lemmas.List.{get_or-replicate}
use Rattle.std.proofs.lemmas.List.Elements.{All-head, All-tail, All-replicate}
use Rattle.std.proofs.lemmas.Bool.Decides.{nat_tests}
use Rattle.plot_settings.specs.declared.setting.Setting.TheVariants.{Start, Defaults, PageCorners, FirstPoint, BothPoints, Scale, Rotate, PageWindow, CornerWindow, Pen, Width, WidthOfAll, PenColour, DefaultColours, Size, Direction}
use Rattle.plot_settings.specs.Meanings.{Step, Set, Touch, Lower, Relate, Move, Go, Edge, DrawCircle, DrawArc, Write, Load}
use Rattle.plot_settings.specs.Settings.{widths, all_pens, newer, colours}
use Rattle.plot_settings.specs.Bounds.{AreWidths}
use Rattle.plot_settings.specs.Laws.{WidthsAreLookedBackFor, width, ColoursAreLookedBackFor, colour}
use Rattle.plot_page.specs.declared.colour.Colour.{Colour}
use Rattle.plot_settings.specs.Colours.{black, default_colour, default_colours}

length_all : (w : ℕ) → length (all_pens w) ≡ 256
unfolding all_pens
length_all w = refl

widths_length : (before : List Step) → length (widths before) ≡ 256
widths_length [] = length_all 224
widths_length (Set Start ∷ before) = length_all 224
widths_length (Set (WidthOfAll w) ∷ before) = length_all w
widths_length (Set (Width q w) ∷ before) = length-set (widths before) q w ∙ widths_length before
widths_length (Set Defaults ∷ before) = widths_length before
widths_length (Set PageCorners ∷ before) = widths_length before
widths_length (Set (FirstPoint x y) ∷ before) = widths_length before
widths_length (Set (BothPoints p) ∷ before) = widths_length before
widths_length (Set (Scale c) ∷ before) = widths_length before
widths_length (Set (Rotate r) ∷ before) = widths_length before
widths_length (Set PageWindow ∷ before) = widths_length before
widths_length (Set (CornerWindow c) ∷ before) = widths_length before
widths_length (Set (Pen n) ∷ before) = widths_length before
widths_length (Set (PenColour q c) ∷ before) = widths_length before
widths_length (Set DefaultColours ∷ before) = widths_length before
widths_length (Set (Size c) ∷ before) = widths_length before
widths_length (Set (Direction r) ∷ before) = widths_length before
widths_length (Touch ∷ before) = widths_length before
widths_length (Lower b ∷ before) = widths_length before
widths_length (Relate b ∷ before) = widths_length before
widths_length (Move x y ∷ before) = widths_length before
widths_length (Go r x y ∷ before) = widths_length before
widths_length (Edge r x y ∷ before) = widths_length before
widths_length (DrawCircle c ∷ before) = widths_length before
widths_length (DrawArc r a ∷ before) = widths_length before
widths_length (Write bytes ∷ before) = widths_length before
widths_length (Load c ∷ before) = widths_length before

all_tell : (w p : ℕ) → p < 256 → get_or (all_pens w) p 0 ≡ w
unfolding all_pens
all_tell w p h = get_or-replicate 256 p w 0 h

one_width_tells : (ws : List ℕ) (p q w v : ℕ) → length ws ≡ 256 → p < 256 → get_or ws p 0 ≡ v → get_or (set ws q w) p 0 ≡ newer (if nat_eq p q then Some w else None) v
one_width_tells ws p q w v l h e = elim (cases_Bool (nat_eq p q)) [
  | inl t ↦ (let m : p ≡ q = grind (arith, nat_tests) in rw t (let k : q < length ws = omega arith in rw m (get_or-set_same ws q w 0 k)))
  | inr t ↦ (let m : p ≢ q = grind (arith, nat_tests) in rw t (get_or-set_other ws q p w 0 m ∙ e))
]

-- each pen's width is the one that is looked back for
pub widths_tell : WidthsAreLookedBackFor
widths_tell [] p h = all_tell 224 p h
widths_tell (Set Start ∷ before) p h = all_tell 224 p h
widths_tell (Set (WidthOfAll w) ∷ before) p h = all_tell w p h
widths_tell (Set (Width q w) ∷ before) p h = one_width_tells (widths before) p q w (width p before) (widths_length before) h (widths_tell before p h)
widths_tell (Set Defaults ∷ before) p h = widths_tell before p h
widths_tell (Set PageCorners ∷ before) p h = widths_tell before p h
widths_tell (Set (FirstPoint x y) ∷ before) p h = widths_tell before p h
widths_tell (Set (BothPoints q) ∷ before) p h = widths_tell before p h
widths_tell (Set (Scale c) ∷ before) p h = widths_tell before p h
widths_tell (Set (Rotate r) ∷ before) p h = widths_tell before p h
widths_tell (Set PageWindow ∷ before) p h = widths_tell before p h
widths_tell (Set (CornerWindow c) ∷ before) p h = widths_tell before p h
widths_tell (Set (Pen n) ∷ before) p h = widths_tell before p h
widths_tell (Set (PenColour q c) ∷ before) p h = widths_tell before p h
widths_tell (Set DefaultColours ∷ before) p h = widths_tell before p h
widths_tell (Set (Size c) ∷ before) p h = widths_tell before p h
widths_tell (Set (Direction r) ∷ before) p h = widths_tell before p h
widths_tell (Touch ∷ before) p h = widths_tell before p h
widths_tell (Lower b ∷ before) p h = widths_tell before p h
widths_tell (Relate b ∷ before) p h = widths_tell before p h
widths_tell (Move x y ∷ before) p h = widths_tell before p h
widths_tell (Go r x y ∷ before) p h = widths_tell before p h
widths_tell (Edge r x y ∷ before) p h = widths_tell before p h
widths_tell (DrawCircle c ∷ before) p h = widths_tell before p h
widths_tell (DrawArc r a ∷ before) p h = widths_tell before p h
widths_tell (Write bytes ∷ before) p h = widths_tell before p h
widths_tell (Load c ∷ before) p h = widths_tell before p h

-- widths within the range
pub all_within : (w : ℕ) → w ≤ 12800 → AreWidths (all_pens w)
unfolding all_pens
all_within w h = All-replicate (λ (v : ℕ). v ≤ 12800) 256 w h

pub width_within : (ws : List ℕ) (i : ℕ) → AreWidths ws → get_or ws i 0 ≤ 12800
width_within [] i h = omega arith
width_within (w ∷ ws) zero h = All-head (λ (v : ℕ). v ≤ 12800) w ws h
width_within (w ∷ ws) (suc i) h = width_within ws i (All-tail (λ (v : ℕ). v ≤ 12800) w ws h)

length_default : length default_colours ≡ 256
unfolding default_colours
length_default = refl

colours_length : (before : List Step) → length (colours before) ≡ 256
colours_length [] = length_default
colours_length (Set Start ∷ before) = length_default
colours_length (Set DefaultColours ∷ before) = length_default
colours_length (Set (Size c) ∷ before) = colours_length before
colours_length (Set (Direction r) ∷ before) = colours_length before
colours_length (Set (PenColour q c) ∷ before) = length-set (colours before) q c ∙ colours_length before
colours_length (Set Defaults ∷ before) = colours_length before
colours_length (Set PageCorners ∷ before) = colours_length before
colours_length (Set (FirstPoint x y) ∷ before) = colours_length before
colours_length (Set (BothPoints q) ∷ before) = colours_length before
colours_length (Set (Scale c) ∷ before) = colours_length before
colours_length (Set (Rotate r) ∷ before) = colours_length before
colours_length (Set PageWindow ∷ before) = colours_length before
colours_length (Set (CornerWindow c) ∷ before) = colours_length before
colours_length (Set (Pen n) ∷ before) = colours_length before
colours_length (Set (Width q w) ∷ before) = colours_length before
colours_length (Set (WidthOfAll w) ∷ before) = colours_length before
colours_length (Touch ∷ before) = colours_length before
colours_length (Lower b ∷ before) = colours_length before
colours_length (Relate b ∷ before) = colours_length before
colours_length (Move x y ∷ before) = colours_length before
colours_length (Go r x y ∷ before) = colours_length before
colours_length (Edge r x y ∷ before) = colours_length before
colours_length (DrawCircle c ∷ before) = colours_length before
colours_length (DrawArc r a ∷ before) = colours_length before
colours_length (Write bytes ∷ before) = colours_length before
colours_length (Load c ∷ before) = colours_length before

-- the list of the default colours has each pen's
default_tells : (p : ℕ) → p < 256 → get_or default_colours p black ≡ default_colour p
unfolding default_colours
default_tells zero h = refl
default_tells (suc zero) h = refl
default_tells (suc (suc zero)) h = refl
default_tells (suc (suc (suc zero))) h = refl
default_tells (suc (suc (suc (suc zero)))) h = refl
default_tells (suc (suc (suc (suc (suc zero))))) h = refl
default_tells (suc (suc (suc (suc (suc (suc zero)))))) h = refl
default_tells (suc (suc (suc (suc (suc (suc (suc zero))))))) h = refl
default_tells (suc (suc (suc (suc (suc (suc (suc (suc p)))))))) h = get_or-replicate 248 p black black (omega arith)

one_colour_tells : (cs : List Colour) (p q : ℕ) (c d : Colour) → length cs ≡ 256 → p < 256 → get_or cs p black ≡ d → get_or (set cs q c) p black ≡ newer (if nat_eq p q then Some c else None) d
one_colour_tells cs p q c d l h e = elim (cases_Bool (nat_eq p q)) [
  | inl t ↦ (let m : p ≡ q = grind (arith, nat_tests) in rw t (let k : q < length cs = omega arith in rw m (get_or-set_same cs q c black k)))
  | inr t ↦ (let m : p ≢ q = grind (arith, nat_tests) in rw t (get_or-set_other cs q p c black m ∙ e))
]

-- each pen's colour is the one that is looked back for
pub colours_tell : ColoursAreLookedBackFor
colours_tell [] p h = default_tells p h
colours_tell (Set Start ∷ before) p h = default_tells p h
colours_tell (Set DefaultColours ∷ before) p h = default_tells p h
colours_tell (Set (Size c) ∷ before) p h = colours_tell before p h
colours_tell (Set (Direction r) ∷ before) p h = colours_tell before p h
colours_tell (Set (PenColour q c) ∷ before) p h = one_colour_tells (colours before) p q c (colour p before) (colours_length before) h (colours_tell before p h)
colours_tell (Set Defaults ∷ before) p h = colours_tell before p h
colours_tell (Set PageCorners ∷ before) p h = colours_tell before p h
colours_tell (Set (FirstPoint x y) ∷ before) p h = colours_tell before p h
colours_tell (Set (BothPoints q) ∷ before) p h = colours_tell before p h
colours_tell (Set (Scale c) ∷ before) p h = colours_tell before p h
colours_tell (Set (Rotate r) ∷ before) p h = colours_tell before p h
colours_tell (Set PageWindow ∷ before) p h = colours_tell before p h
colours_tell (Set (CornerWindow c) ∷ before) p h = colours_tell before p h
colours_tell (Set (Pen n) ∷ before) p h = colours_tell before p h
colours_tell (Set (Width q w) ∷ before) p h = colours_tell before p h
colours_tell (Set (WidthOfAll w) ∷ before) p h = colours_tell before p h
colours_tell (Touch ∷ before) p h = colours_tell before p h
colours_tell (Lower b ∷ before) p h = colours_tell before p h
colours_tell (Relate b ∷ before) p h = colours_tell before p h
colours_tell (Move x y ∷ before) p h = colours_tell before p h
colours_tell (Go r x y ∷ before) p h = colours_tell before p h
colours_tell (Edge r x y ∷ before) p h = colours_tell before p h
colours_tell (DrawCircle c ∷ before) p h = colours_tell before p h
colours_tell (DrawArc r a ∷ before) p h = colours_tell before p h
colours_tell (Write bytes ∷ before) p h = colours_tell before p h
colours_tell (Load c ∷ before) p h = colours_tell before p h
