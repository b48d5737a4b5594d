-- What each instruction means with its numbers: the steps that it asks for, one thing at a time, and whether the
-- numbers are wrong.
use Rattle.std.specs.List.{flat_map}
use Rattle.std.specs.Prelude.{ℕ, ℤ, Bool, true, not, List, [], ◌∷◌, ◌%◌, ◌==◌, false, Option, Some, None, length}
use Rattle.carousel.specs.declared.carousel.Carousel.{Carousel}
use Rattle.hpgl_text.specs.EntryShapes.{PartShape, EntryShape}
use Rattle.hpgl_text.specs.EntryShapes as part
use Rattle.plot_settings.specs.declared.figure.Arc.{Arc}
use Rattle.plot_settings.specs.declared.setting.Setting.{Setting}
use Rattle.plot_settings.specs.declared.setting.Setting.TheVariants.{Pen, Start, Defaults}
use Rattle.hpgl_text.specs.Shapes.{ItemShape, BodyShape, Params, Coded, Label}
use Rattle.hpgl_text.specs.declared.instruction.Instruction.{Instruction}
use Rattle.hpgl_text.specs.declared.instruction.Instruction.TheVariants.{Initialize, DefaultValues, InputPoints, Scale}
use Rattle.hpgl_text.specs.declared.instruction.Instruction.TheVariants.{Rotate, InputWindow, SelectPen, PenWidth}
use Rattle.hpgl_text.specs.declared.instruction.Instruction.TheVariants.{PenColour, PenUp, PenDown, PlotAbsolute}
use Rattle.hpgl_text.specs.declared.instruction.Instruction.TheVariants.{PlotRelative, EdgeAbsolute, EdgeRelative}
use Rattle.hpgl_text.specs.declared.instruction.Instruction.TheVariants.{Circle, ArcAbsolute, ArcRelative}
use Rattle.hpgl_text.specs.declared.instruction.Instruction.TheVariants.{CharacterSize, Direction}
use Rattle.plot_settings.specs.Parameters.{circled, arced, scaling_points, user_scaling, rotated, window_corners}
use Rattle.plot_settings.specs.Parameters.{selected_pen, pen_width_setting, pen_colour_setting, character_size, label_direction}
use Rattle.plot_settings.specs.declared.figure.Circle as circle

-- something is set; the pen touches the paper where it is, goes down or up, or moves to coordinates in millionths,
-- which are relative or absolute as PA or PR said last, or as is said with them; the edge of a rectangle is drawn, by
-- the coordinates of the corner that lies opposite; a circle is drawn, or an arc, whose centre is relative or absolute;
-- the bytes of a label are written; a carousel is loaded with the pens that the user says, before the first item
pub data Step : Type 0 where
  Set : Setting → Step
  Touch : Step
  Lower : Bool → Step
  Relate : Bool → Step
  Move : ℤ → ℤ → Step
  Go : Bool → ℤ → ℤ → Step
  Edge : Bool → ℤ → ℤ → Step
  DrawCircle : circle.Circle → Step
  DrawArc : Bool → Arc → Step
  Write : List ℕ → Step
  Load : Carousel → Step

-- a move to each pair; an unpaired last coordinate makes none
abbrev pub moves : List ℤ → List Step
moves [] = []
moves (x ∷ []) = []
moves (x ∷ (y ∷ ns)) = Move x y ∷ moves ns

-- a pen that is lowered without a move makes a dot, if it was up, which is our choice where one coordinate follows
abbrev pub lowered_then : List Step → List Step
lowered_then [] = Touch ∷ (Lower true ∷ [])
lowered_then (s ∷ ss) = Lower true ∷ (s ∷ ss)

-- the steps of an entry of a PE: a pair lowers the pen or raises it, and is relative or absolute by its own flag
abbrev pub part_steps : PartShape → List Step
part_steps (part.Pen n) = Set (Pen n) ∷ []
part_steps (part.Pair up absolute x y) = Lower (not up) ∷ (Go (not absolute) x y ∷ [])
part_steps part.Bad = []
part_steps (part.Stray byte) = []

abbrev pub entry_steps : List EntryShape → List Step
entry_steps entries = flat_map (λ (e : EntryShape). part_steps e.what) entries

pub record Meaning : Type 0 where
  pub steps : List Step
  pub is_wrong : Bool

abbrev pub wrong : Meaning
wrong = record { steps = []; is_wrong = true }

-- one step with what the numbers ask for, or wrong numbers
abbrev pub asks : {A : Type 0} → (A → Step) → Option A → Meaning
asks step (Some a) = record { steps = step a ∷ []; is_wrong = false }
asks step None = wrong

abbrev pub sets : Option Setting → Meaning
sets s = asks Set s

-- steps with a move to each pair of coordinates: an unpaired one is wrong, and the rest holds
abbrev pub plots : List Step → List ℤ → Meaning
plots steps ns = record { steps = steps; is_wrong = length ns % 2 == 1 }

-- EA (Edge Rectangle Absolute) and ER (Edge Rectangle Relative)
abbrev pub edges : Bool → List ℤ → Meaning
edges relative (x ∷ (y ∷ ns)) = record { steps = Edge relative x y ∷ []; is_wrong = false }
edges relative _ = wrong

-- what each instruction means with its numbers
abbrev pub meaning : Instruction → List ℤ → Meaning
meaning Initialize ns = sets (Some Start)
meaning DefaultValues ns = sets (Some Defaults)
meaning InputPoints ns = sets (scaling_points ns)
meaning Scale ns = sets (user_scaling ns)
meaning Rotate ns = sets (rotated ns)
meaning InputWindow ns = sets (window_corners ns)
meaning SelectPen ns = sets (selected_pen ns)
meaning PenWidth ns = sets (pen_width_setting ns)
meaning PenColour ns = sets (pen_colour_setting ns)
meaning PenUp ns = plots (Lower false ∷ moves ns) ns
meaning PenDown ns = plots (lowered_then (moves ns)) ns
meaning PlotAbsolute ns = plots (Relate false ∷ moves ns) ns
meaning PlotRelative ns = plots (Relate true ∷ moves ns) ns
meaning EdgeAbsolute ns = edges false ns
meaning EdgeRelative ns = edges true ns
meaning Circle ns = asks DrawCircle (circled ns)
meaning ArcAbsolute ns = asks (DrawArc false) (arced ns)
meaning ArcRelative ns = asks (DrawArc true) (arced ns)
meaning CharacterSize ns = sets (character_size ns)
meaning Direction ns = sets (label_direction ns)

abbrev pub body_steps : BodyShape → List Step
body_steps (Params instruction ns) = (meaning instruction ns).steps
body_steps (Coded entries) = entry_steps entries
body_steps (Label bytes) = Write bytes ∷ []
body_steps _ = []

-- the steps of an item
abbrev pub steps_of : ItemShape → List Step
steps_of item = body_steps item.body
