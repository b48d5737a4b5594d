-- That a plot has a drawing on a page, and why it has none, or no bitmap.
use Rattle.std.specs.Prelude.{◌≡◌, ℕ, ◌<◌, ◌≤◌, List, length, Some, None, true, ⊤}
use Rattle.hpgl_text.specs.declared.program.TheConstants.{LONGEST_PLOT}
use Rattle.plot_page.specs.declared.page.Page.{Page}
use Rattle.plot_page.specs.declared.dots.Dots.{Dots}
use Rattle.conversion.specs.PageJobs.{has_too_many_pixels}
use Rattle.conversion.specs.Pictures.{plot_refusal}
use Rattle.conversion.specs.declared.fault.Fault.{Fault}
use Rattle.conversion.specs.declared.fault.Fault.TheVariants.{TooLong, Memory, Pixels, Plot}

-- it is not too long, and the definitions do not refuse it
pub record HasDrawing (page : Page) (text : List ℕ) : Type 0 where
  pub within : length text ≤ LONGEST_PLOT
  pub accepted : plot_refusal page text ≡ None

-- it is too long, or the definitions refuse it for this reason; memory may run out at any time; there is no other fault
abbrev pub HasNoDrawing : Page → List ℕ → Fault → Type 0
HasNoDrawing page text TooLong = LONGEST_PLOT < length text
HasNoDrawing page text Memory = ⊤
HasNoDrawing page text (Plot reason) = plot_refusal page text ≡ Some reason
HasNoDrawing page text _ = ⊥

-- nor has a plot a bitmap that has no drawing, or whose bitmap would have too many pixels, as only one on a roll can
abbrev pub HasNoBitmap : Page → Dots → List ℕ → Fault → Type 0
HasNoBitmap page dots text Pixels = has_too_many_pixels page dots ≡ true
HasNoBitmap page dots text fault = HasNoDrawing page text fault
