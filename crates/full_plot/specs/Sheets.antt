-- The ends of sheets.
use Rattle.std.specs.Prelude.{ℕ, nat_lt, Bool, ◌||◌, if◌then◌else◌, List, [], ◌∷◌, ◌++◌, length}
use Rattle.full_plot.specs.Worlds.{FullWorld, Graphics}

-- how many there were when the last sheet ended
abbrev pub last_end : List ℕ → ℕ
last_end [] = 0
last_end (end ∷ []) = end
last_end (end ∷ (next ∷ ends)) = last_end (next ∷ ends)

-- there are strokes or images after the last sheet, where sheets end after so many of each
abbrev pub has_more : List ℕ → ℕ → List ℕ → ℕ → Bool
has_more ends count image_ends images = nat_lt (last_end ends) count || nat_lt (last_end image_ends) images

-- one more end, if a sheet ends
abbrev pub ends_with : Bool → List ℕ → ℕ → List ℕ
ends_with more ends count = if more then ends ++ count ∷ [] else ends

-- something was drawn since the last sheet ended
abbrev pub is_begun : FullWorld → Bool
is_begun w = has_more w.ends (length w.core.kept) w.graphics.ends (length w.graphics.images)

-- a sheet ends if it has a stroke or an image; no strokes and no images are taken from one sheet to the next
abbrev pub graphics_ended : Bool → Graphics → Graphics
graphics_ended more g = record g { ends = ends_with more g.ends (length g.images) }

abbrev pub sheet_ended : FullWorld → FullWorld
sheet_ended w = record w {
  ends = ends_with (is_begun w) w.ends (length w.core.kept);
  graphics = graphics_ended (is_begun w) w.graphics;
}
