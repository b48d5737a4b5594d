-- Inks of cells with images, and what forms without colours show of images.
use Rattle.std.proofs.Common.{◌≡◌, ℕ, List, [], ◌∷◌, map, refl}
use Rattle.picture_out.specs.declared.form.Form.{Form}
use Rattle.picture_out.specs.declared.form.Form.TheVariants.{Marks, Pbm, Ppm, Pcl}
use Rattle.picture_out.specs.declared.inks.Ink.{Ink}
use Rattle.image_raster.specs.Cells.{mark_of}
use Rattle.rows.specs.ImageCells.{ink_of_mark, ink_with, inked, luminance}

-- the mark of a colour by its red, green and blue
abbrev mark : ℕ → ℕ → ℕ → ℕ
mark red green blue = mark_of (record { red = red; green = green; blue = blue })

abbrev ink : ℕ → ℕ → ℕ → Ink
ink red green blue = record { pen = 0; red = red; green = green; blue = blue }

-- a mark is that of its colour
marks : map ink_of_mark (mark 0 0 0 ∷ mark 0 255 1 ∷ mark 200 100 50 ∷ mark 255 255 255 ∷ [])
    ≡ ink 0 0 0 ∷ ink 0 255 1 ∷ ink 200 100 50 ∷ ink 255 255 255 ∷ []
marks = refl

-- a position past the last stroke is paper, and a mark a colour
no_strokes : map (ink_with []) (1 ∷ mark 1 2 3 ∷ []) ≡ ink 255 255 255 ∷ ink 1 2 3 ∷ []
no_strokes = refl

luminances : map luminance (ink 0 0 0 ∷ ink 255 255 255 ∷ ink 0 255 255 ∷ ink 255 0 255 ∷ ink 255 255 0 ∷ [])
    ≡ 0 ∷ 255000 ∷ 178755 ∷ 105315 ∷ 225930 ∷ []
luminances = refl

-- paper, a stroke, and dots of images: black, white, the least grey that is light, one that is darker, and one a little less blue
abbrev cells : List ℕ
cells = 0 ∷ 5 ∷ mark 0 0 0 ∷ mark 255 255 255 ∷ mark 128 128 128 ∷ mark 127 127 127 ∷ mark 128 128 127 ∷ []

-- in a bitmap and for a printer light dots are paper
without_colours : map (λ (form : Form). inked form cells) (Pbm ∷ Pcl ∷ [])
    ≡ (0 ∷ 5 ∷ mark 0 0 0 ∷ 0 ∷ 0 ∷ mark 127 127 127 ∷ mark 128 128 127 ∷ []) ∷ (0 ∷ 5 ∷ mark 0 0 0 ∷ 0 ∷ 0 ∷ mark 127 127 127 ∷ mark 128 128 127 ∷ []) ∷ []
without_colours = refl

-- in forms with colours they stay
with_colours : map (λ (form : Form). inked form cells) (Marks ∷ Ppm ∷ []) ≡ cells ∷ cells ∷ []
with_colours = refl
