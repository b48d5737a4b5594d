-- What is set of the letters of labels besides the numbers of SI, and the style in which they are written.
use Rattle.std.specs.Prelude.{ℕ, ◌*◌, ◌^◌, ◌≤◌, nat_abs, ℤ, pos, ◌+ℤ◌, ◌*ℤ◌, if◌then◌else◌, ⊤}
use Rattle.exact.specs.Fraction.{round}
use Rattle.exact.specs.declared.spot.Spot.{Spot}
use Rattle.directions.specs.Directions.{unit, vector_turned}
use Rattle.directions.specs.declared.turn.Turn.{Turn}
use Rattle.stick_font.specs.declared.size.CharacterSize.{CharacterSize}
use Rattle.lettering.specs.declared.style.LineFeed.{LineFeed}
use Rattle.lettering.specs.declared.style.LineFeed.TheVariants.{Normal}
use Rattle.lettering.specs.declared.style.Path.{Path}
use Rattle.lettering.specs.declared.style.Path.TheVariants.{Right}
use Rattle.lettering.specs.declared.style.Style.{Style}
use Rattle.plot_frame.specs.declared.pair.Pair.{Pair}
use Rattle.plot_frame.specs.declared.scaling.Ends.{Ends}
use Rattle.full_settings.specs.LetterParameters.{pair_of, IsPairWithin, IsHeading, IsOrigin}
use Rattle.full_settings.specs.LineStyles.{distance}
use Rattle.full_settings.specs.declared.heading.Heading.{Heading}
use Rattle.full_settings.specs.declared.heading.Heading.TheVariants.{Absolute, Relative}
use Rattle.full_settings.specs.Characters.{font_size}
use Rattle.full_settings.specs.declared.font.Font.{Font}
use Rattle.full_settings.specs.declared.letter_setting.LetterSetting.{LetterSetting}
use Rattle.full_settings.specs.declared.letter_size.LetterSize.{LetterSize}
use Rattle.full_settings.specs.declared.letter_size.LetterSize.TheVariants.{ByFont}
use Rattle.full_settings.specs.declared.letter_size.LetterSize.TheVariants as of
use Rattle.full_settings.specs.declared.letter_setting.LetterSetting.TheVariants as setting

-- what is set: where the size comes from, the font, SI or SR; where labels lead, by DI or DR; the tangent of the slant
-- in millionths; the steps to the next letter and line in millionths; LO's number; and DV's path and line feed
pub record LetterStyle : Type 0 where
  pub size : LetterSize
  pub heading : Heading
  pub slant : ℤ
  pub step : Pair ℤ
  pub origin : ℕ
  pub path : Path
  pub line_feed : LineFeed

-- at the start, and after IN and DF
abbrev pub usual_letters : LetterStyle
usual_letters = record {
  size = ByFont;
  heading = Absolute (pair_of (pos 1000000) (pos 0));
  slant = pos 0;
  step = pair_of (pos 1000000) (pos 1000000);
  origin = 1;
  path = Right;
  line_feed = Normal;
}

-- after an instruction that sets letters
abbrev pub letters_with : LetterSetting → LetterStyle → LetterStyle
letters_with setting.FontSize l = record l { size = ByFont }
letters_with setting.AbsoluteSize l = record l { size = of.Absolute }
letters_with (setting.RelativeSize percents) l = record l { size = of.Relative percents }
letters_with (setting.Direction heading) l = record l { heading = Absolute heading }
letters_with (setting.RelativeDirection heading) l = record l { heading = Relative heading }
letters_with (setting.Slant tangent) l = record l { slant = tangent }
letters_with (setting.Step step) l = record l { step = step }
letters_with (setting.Origin n) l = record l { origin = n }
letters_with (setting.Path path line) l = record l { path = path; line_feed = line }

-- millionths of a percent of a distance in plotter units, as a length in grains
abbrev pub grains_of_share : ℤ → ℤ → ℤ
grains_of_share distance percent = round (record { over = pos 16 *ℤ distance *ℤ percent; under = 100 * 10 ^ 6 })

-- the size in grains: that of the font, that of SI, or by SR parts of the distances from P1 to P2
abbrev pub letter_size_in : LetterSize → Font → CharacterSize → Pair Ends → Pair ℤ
letter_size_in ByFont font size points = font_size font
letter_size_in of.Absolute font size points = pair_of size.width size.height
letter_size_in (of.Relative percents) font size points =
    pair_of (grains_of_share (distance points.x) percents.x) (grains_of_share (distance points.y) percents.y)

-- where labels lead, before RO turns them
abbrev pub direction_in : Heading → Pair Ends → Spot
direction_in (Absolute h) points = unit h.x h.y
direction_in (Relative h) points = unit (distance points.x *ℤ h.x) (distance points.y *ℤ h.y)

-- the tangent of the slant in millionths: an italic font is slanted by 0.2 more than SL says
abbrev pub slant_in_font : ℤ → Font → ℤ
slant_in_font slant font = if font.is_italic then slant +ℤ pos 200000 else slant

-- the style in which letters are written, by the font that is selected, SI's size, and P1 and P2, and turned by RO
abbrev pub style_in : LetterStyle → Font → CharacterSize → Pair Ends → Turn → Style
style_in l font size points turn = record {
  width = (letter_size_in l.size font size points).x;
  height = (letter_size_in l.size font size points).y;
  direction = vector_turned turn (direction_in l.heading points);
  slant = slant_in_font l.slant font;
  step_x = l.step.x;
  step_y = l.step.y;
  path = l.path;
  line_feed = l.line_feed;
  origin = l.origin;
}

-- what is set is in its range
abbrev pub IsLed : Heading → Type 0
IsLed (Absolute h) = IsHeading h
IsLed (Relative h) = IsHeading h

abbrev pub IsLetterSize : LetterSize → Type 0
IsLetterSize (of.Relative percents) = IsPairWithin (10 ^ 9) percents
IsLetterSize _ = ⊤

pub record IsLetters (l : LetterStyle) : Type 0 where
  pub size_in : IsLetterSize l.size
  pub heading_in : IsLed l.heading
  pub slant_in : nat_abs l.slant ≤ 10 ^ 9
  pub step_in : IsPairWithin (101 * 10 ^ 6) l.step
  pub origin_in : IsOrigin l.origin
