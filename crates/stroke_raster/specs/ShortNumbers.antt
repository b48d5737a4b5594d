-- Short strokes, and the numbers of their test.
use Rattle.std.specs.Prelude.{◌≡◌, ℕ, ℤ, ◌+◌, ◌-◌, ◌*◌, ◌<◌, ◌≤◌, pos, nat_abs, ◌*ℤ◌}
use Rattle.plot_page.specs.Segments.{Segment}
use Rattle.plot_page.specs.declared.dots.Dots.{Dots}
use Rattle.stroke_raster.specs.declared.vector.Vector.{Vector}
use Rattle.stroke_raster.specs.Covers.{drawn_width, first_end, last_end}
use Rattle.stroke_raster.specs.Gap.{way, scaled, dot}

-- the sum of a way's sides
abbrev pub sides : Vector → ℕ
sides v = nat_abs v.x + nat_abs v.y

-- a course, in grains, whose sides add up to at most 128 plotter units and 16 pixels, drawn at most 16 pixels wide
pub record IsShortCourse (v : Vector) (r d : ℕ) : Type 0 where
  pub course : sides v ≤ 2048
  pub pixels : r * sides v ≤ 262144
  pub width : d ≤ 262144

abbrev pub IsShort : Segment → Dots → Type 0
IsShort s dots =
    IsShortCourse (way (first_end s) (last_end s)) dots.resolution (drawn_width s.width dots.resolution)

-- the numbers of the test of a course at a resolution r, drawn with width d
pub record AreShort (v : Vector) (r d : ℕ) (last : Vector) (past : ℕ) (reach limit : ℤ) : Type 0 where
  pub some : 0 < r
  pub short : IsShortCourse v r d
  pub last_is : last ≡ scaled (pos 2) (scaled (pos r) v)
  pub past_is : past ≡ 2 * (r * nat_abs (dot v v)) - 1
  pub reach_is : reach ≡ pos (d * d)
  pub limit_is : limit ≡ pos (d * d) *ℤ dot v v
