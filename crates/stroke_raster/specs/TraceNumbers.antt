-- The numbers of a trace: what they are for a stroke at a resolution.
use Rattle.std.specs.Prelude.{◌≡◌, ℕ, ℤ, Bool, true, false, ◌*◌, ◌^◌, ◌<◌, ◌≤◌, pos, nat_abs, ◌*ℤ◌, ◌≤ℤ◌}
use Rattle.plot_page.specs.Segments.{Segment}
use Rattle.plot_page.specs.declared.dots.Dots.{Dots}
use Rattle.stroke_raster.specs.declared.vector.Vector.{Vector}
use Rattle.stroke_raster.specs.declared.slope.Slope.{Slope}
use Rattle.stroke_raster.specs.declared.slope.Inverse.{Inverse}
use Rattle.stroke_raster.specs.Bounds.{Within}
use Rattle.stroke_raster.specs.Gap.{way, scaled, dot}
use Rattle.stroke_raster.specs.Covers.{first_end, last_end, drawn_width}

-- 2^64 divided by a number lies between both
pub record IsInverse (step : ℕ) (inverse : Inverse) : Type 0 where
  pub under : inverse.under * step ≤ 2 ^ 64
  pub over : 0 < step → 2 ^ 64 ≤ inverse.over * step

-- the slope of a course, for a drawn width d
pub record IsSlope (course : Vector) (d : ℕ) (slope : Slope) : Type 0 where
  pub enough : dot course course ≤ℤ pos (slope.length * slope.length)
  pub most : slope.most ≡ pos (d * slope.length)
  pub most_in : nat_abs slope.most ≤ 2 ^ 54
  pub step : slope.step ≡ 32512 * nat_abs course.y
  pub inverse : IsInverse slope.step slope.inverse

-- the numbers of a stroke's trace; those of a far stroke need not say how far along its course its end is
pub record IsTrace (s : Segment) (dots : Dots) (first course scaled_course : Vector) (along reach limit : ℤ)
    (slope : Slope) (is_small is_far : Bool) : Type 0 where
  pub first_is : first ≡ scaled (pos dots.resolution) (first_end s)
  pub first_in : Within (3 * 2 ^ 36) first
  pub course_is : course ≡ way (first_end s) (last_end s)
  pub course_in : Within (2 ^ 28) course
  pub near_in : is_far ≡ false → Within (2 ^ 21) course
  pub scaled_is : scaled_course ≡ scaled (pos dots.resolution) course
  pub scaled_in : Within (2 ^ 39) scaled_course
  pub along_is : is_far ≡ false → along ≡ pos dots.resolution *ℤ dot course course
  pub reach_is : reach ≡ pos (drawn_width s.width dots.resolution * drawn_width s.width dots.resolution)
  pub limit_is : limit ≡ reach *ℤ dot course course
  pub limit_in : nat_abs limit ≤ 2 ^ 105
  pub slope_is : IsSlope course (drawn_width s.width dots.resolution) slope
  pub small_is_near : is_small ≡ true → is_far ≡ false
