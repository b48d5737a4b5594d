-- The bits of a row name the colours of its dots.
use Rattle.std.proofs.Common.{◌≡◌, ℕ, ◌+◌, ◌*◌, ◌∙◌, List, [], ◌∷◌, true, ap, sym, arith, get_or, drop, take}
use Rattle.std.proofs.lemmas.List.{get_or-drop}
use Rattle.std.specs.List.{slice_index_or}
use Rattle.image_colours.specs.declared.coding.Coding.{Coding}
use Rattle.image_colours.specs.declared.coding.Coding.TheVariants.{Black, BlackAndCmy, DirectPlanes, IndexPlanes, IndexPixels, DirectPixels}
use Rattle.image_colours.specs.Counts.{plane_count}
use Rattle.image_colours.specs.Dots as dots
use Rattle.image_colours.specs.Dots.{bits_at, colour_of}
use Rattle.image_colours.specs.Palettes.{black}
use Rattle.plot_page.specs.declared.colour.Colour.{Colour}
use Rattle.raster_graphics.specs.declared.image.Image.{Image}
use Rattle.raster_graphics.specs.Dots.{colour_in}
use Rattle.image_data.specs.Pngs.{entry, is_black}

no_plane : (column : ℕ) → bits_at 1 [] column ≡ 0
no_plane column = omega arith

one_plane : (planes : List (List ℕ)) (column : ℕ) → dots.index_of_planes (take 1 planes) column ≡ bits_at 1 (slice_index_or planes 0 []) column
unfolding dots.index_of_planes
one_plane [] column = sym (no_plane column)
one_plane (plane ∷ planes) column = omega arith

by_bits : (palette : List Colour) (planes : List (List ℕ)) (position column : ℕ)
    → colour_of Black palette (drop (position * 1) planes) column ≡ slice_index_or palette (bits_at 1 (slice_index_or planes position []) column) black
by_bits palette planes position column =
    let there : position * 1 + 0 ≡ position = omega arith in
    ap (λ (n : ℕ). slice_index_or palette n black) (one_plane (drop (position * 1) planes) column)
    ∙ ap (λ (p : List ℕ). slice_index_or palette (bits_at 1 p column) black) (get_or-drop (position * 1) planes 0 [] ∙ ap (λ (n : ℕ). get_or planes n []) there)

by_coding : (coding : Coding) (palette : List Colour) (planes : List (List ℕ)) (position column : ℕ) → is_black coding ≡ true
    → colour_of coding palette (drop (position * plane_count coding) planes) column ≡ slice_index_or palette (bits_at 1 (slice_index_or planes position []) column) black
by_coding Black palette planes position column h = by_bits palette planes position column
by_coding BlackAndCmy palette planes position column h = cc
by_coding (DirectPlanes space) palette planes position column h = cc
by_coding (IndexPlanes bits entries) palette planes position column h = cc
by_coding (IndexPixels bits entries) palette planes position column h = cc
by_coding (DirectPixels space) palette planes position column h = cc

pub bits_named : (image : Image) (position column : ℕ) → is_black image.settings.coding ≡ true → entry image (bits_at 1 (slice_index_or image.planes position []) column) ≡ colour_in image position column
bits_named image position column h = sym (by_coding image.settings.coding image.settings.palette image.planes position column h)
