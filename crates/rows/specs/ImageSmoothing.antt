-- Images over bands that are smoothed, as contracts of private functions say it.
use Rattle.std.specs.Prelude.{◌≡◌, ℕ, ◌≤◌, length}
use Rattle.plot_page.specs.declared.stroke.TheConstants.{MOST_STROKES}
use Rattle.plot_page.specs.Resolutions.{columns_of}
use Rattle.areas.specs.Views.{shapes_in}
use Rattle.smoothing.specs.Rows.{times_of, width_of}
use Rattle.rows.specs.ImageCells.{inks_with}
use Rattle.rows.specs.Inks.{image_inks_held}
use Rattle.rows.specs.Pictures.{finer}
use Rattle.rows.specs.Progress.{SmoothPainting, painting_shapes}
use Rattle.rows.specs.declared.scene.Scene.{Scene}
use Rattle.rows.specs.declared.image_smoother.ImageSmoother.{ImageSmoother}

-- what is painted is the finer picture of a scene
pub record IsMadeOf (b : SmoothPainting) (n : ℕ) (scene : Scene) : Type 0 where
  pub shapes : painting_shapes b.painting ≡ shapes_in scene.shapes
  pub pens : b.painting.pens ≡ scene.pens
  pub page : b.painting.page ≡ scene.page
  pub dots : b.painting.dots ≡ finer n scene.dots
  pub times : b.times ≡ n
  pub columns : b.columns ≡ columns_of scene.page scene.dots

-- what makes smoothed rows is that of the finer picture which is painted
pub record IsOver (b : SmoothPainting) (s : ImageSmoother) : Type 0 where
  pub inks : image_inks_held s.inks ≡ inks_with b.painting.strokes
  pub times : times_of s.pixels ≡ b.times
  pub width : width_of s.pixels ≡ b.columns
  pub page : s.sheet.page ≡ b.painting.page
  pub dots : s.sheet.dots ≡ b.painting.dots
  pub few : length b.painting.strokes ≤ MOST_STROKES
