-- The settings that hold before a step, by the most recent step that sets each: `before` has the steps, the newest
-- first. What IN (Initialize) and DF (Default Values) set is the guide's; that pen 1 is selected at the start is our
-- choice.
use Rattle.std.specs.Prelude.{ℕ, Bool, false, List, [], ◌∷◌, Option, Some, None, replicate, set}
use Rattle.carousel.specs.Carousels.{empty}
use Rattle.carousel.specs.declared.carousel.Carousel.{Carousel}
use Rattle.stick_font.specs.declared.size.CharacterSize.{CharacterSize}
use Rattle.plot_frame.specs.declared.scaling.Scaling.{Scaling}
use Rattle.plot_frame.specs.declared.scaling.Scaling.TheVariants.{Off}
use Rattle.plot_page.specs.declared.colour.Colour.{Colour}
use Rattle.plot_settings.specs.declared.setting.Rotation.{Rotation}
use Rattle.plot_settings.specs.declared.setting.Rotation.TheVariants as rotation
use Rattle.plot_settings.specs.declared.setting.Setting.{Setting}
use Rattle.plot_settings.specs.declared.setting.Setting.TheVariants.{Start, Defaults, Scale, Rotate, Pen, Width}
use Rattle.plot_settings.specs.declared.setting.Setting.TheVariants.{WidthOfAll, PenColour, DefaultColours, Size}
use Rattle.plot_settings.specs.declared.setting.Setting.TheVariants.{Direction}
use Rattle.plot_settings.specs.Colours.{default_colours}
use Rattle.plot_settings.specs.Parameters.{usual_size}
use Rattle.plot_settings.specs.Meanings.{Step, Set, Lower, Relate, Load}

-- the newer value, if there is one
abbrev pub newer : {A : Type 0} → Option A → A → A
newer (Some a) b = a
newer None b = b

-- the value of the newest step that sets it, or the one at the start
abbrev pub newest : {A : Type 0} → (Step → Option A) → A → List Step → A
newest sets start [] = start
newest sets start (s ∷ before) = newer (sets s) (newest sets start before)

-- the same where what a step sets depends on the steps before it
abbrev pub newest_by : {A : Type 0} → (List Step → Step → Option A) → A → List Step → A
newest_by sets start [] = start
newest_by sets start (s ∷ before) = newer (sets before s) (newest_by sets start before)

-- only settings set it
abbrev pub by_setting : {A : Type 0} → (Setting → Option A) → Step → Option A
by_setting sets (Set s) = sets s
by_setting sets _ = None

-- the pen: 1 at the start
abbrev pub sets_pen : Setting → Option ℕ
sets_pen Start = Some 1
sets_pen (Pen n) = Some n
sets_pen _ = None

abbrev pub pen : List Step → ℕ
pen before = newest (by_setting sets_pen) 1 before

-- the scaling: off at the start and after DF
abbrev pub sets_scaling : Setting → Option Scaling
sets_scaling Start = Some Off
sets_scaling Defaults = Some Off
sets_scaling (Scale s) = Some s
sets_scaling _ = None

abbrev pub scaling : List Step → Scaling
scaling before = newest (by_setting sets_scaling) Off before

-- the rotation: none at the start; DF leaves it
abbrev pub sets_rotation : Setting → Option Rotation
sets_rotation Start = Some rotation.None
sets_rotation (Rotate r) = Some r
sets_rotation _ = None

abbrev pub rotation_before : List Step → Rotation
rotation_before before = newest (by_setting sets_rotation) rotation.None before

-- the size of characters: the usual one at the start and after DF
abbrev pub sets_size : Setting → Option CharacterSize
sets_size Start = Some usual_size
sets_size Defaults = Some usual_size
sets_size (Size s) = Some s
sets_size _ = None

abbrev pub size : List Step → CharacterSize
size before = newest (by_setting sets_size) usual_size before

-- how labels are turned: not at all at the start and after DF
abbrev pub sets_direction : Setting → Option Rotation
sets_direction Start = Some rotation.None
sets_direction Defaults = Some rotation.None
sets_direction (Direction r) = Some r
sets_direction _ = None

abbrev pub direction : List Step → Rotation
direction before = newest (by_setting sets_direction) rotation.None before

-- whether the pen is down: up at the start
abbrev pub sets_down : Step → Option Bool
sets_down (Set Start) = Some false
sets_down (Lower b) = Some b
sets_down _ = None

abbrev pub is_down : List Step → Bool
is_down before = newest sets_down false before

-- whether coordinates are relative: absolute at the start and after DF
abbrev pub sets_relative : Step → Option Bool
sets_relative (Set Start) = Some false
sets_relative (Set Defaults) = Some false
sets_relative (Relate b) = Some b
sets_relative _ = None

abbrev pub is_relative : List Step → Bool
is_relative before = newest sets_relative false before

-- the carousel: empty until one is loaded, and no instruction changes it
abbrev pub sets_carousel : Step → Option Carousel
sets_carousel (Load c) = Some c
sets_carousel _ = None

abbrev pub carousel : List Step → Carousel
carousel before = newest sets_carousel empty before

-- one width for all pens; not opened in proofs, where 256 places would be written out
unfoldable pub all_pens : ℕ → List ℕ
all_pens w = replicate 256 w

-- the widths of all pens in a list: the law `widths_are_looked_back_for` says that it has each pen's
abbrev pub widths : List Step → List ℕ
widths [] = all_pens 224
widths (Set Start ∷ before) = all_pens 224
widths (Set (Width q w) ∷ before) = set (widths before) q w
widths (Set (WidthOfAll w) ∷ before) = all_pens w
widths (s ∷ before) = widths before

-- the colours of all pens in a list: the law `colours_are_looked_back_for` says that it has each pen's
abbrev pub colours : List Step → List Colour
colours [] = default_colours
colours (Set Start ∷ before) = default_colours
colours (Set (PenColour q c) ∷ before) = set (colours before) q c
colours (Set DefaultColours ∷ before) = default_colours
colours (s ∷ before) = colours before
