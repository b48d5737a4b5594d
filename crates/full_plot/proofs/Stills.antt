-- The steps of core's instructions: all but those of IN, DF, DI and SI leave the direction and the size of labels as they
-- are, and none but EA and ER draws the edge of a rectangle.
use Rattle.std.proofs.Common.{◌≡◌, ◌∙◌, Bool, true, false, true≢false, sym, refl, ℤ, pos, List, [], ◌∷◌, Option, Some, None}
use Rattle.std.specs.List.{list_all}
use Rattle.std.specs.Ordering.{int_eq}
use Rattle.std.proofs.lemmas.Bool.{and_from, and_parts}
use Rattle.std.proofs.lemmas.List.Folds.{list_all-append}
use Rattle.hpgl_text.specs.EntryShapes.{PartShape, EntryShape}
use Rattle.hpgl_text.specs.EntryShapes as part
use Rattle.hpgl_text.specs.declared.instruction.Instruction.{Instruction}
use Rattle.hpgl_text.specs.declared.instruction.Instruction.TheVariants.{Initialize, DefaultValues, InputPoints, Scale, Rotate, InputWindow, SelectPen, PenWidth, PenColour, PenDown, EdgeAbsolute, EdgeRelative, Circle, ArcAbsolute, ArcRelative, CharacterSize, Direction}
use Rattle.plot_frame.specs.declared.pair.Pair.{Pair}
use Rattle.plot_frame.specs.declared.scaling.Range.{Range}
use Rattle.plot_settings.specs.Meanings.{Step, Set, Edge, Write, DrawCircle, DrawArc, asks, edges, entry_steps, lowered_then, meaning, moves, part_steps, sets}
use Rattle.plot_settings.specs.Parameters.{anisotropic, arced, circled, isotropic_by, pen_colour_setting, pen_width_setting, point_factor, ranges_of, rotated, scaling_of_type, scaling_points, selected_pen, user_scaling, when, whole_of, window_corners}
use Rattle.plot_settings.specs.declared.setting.Setting.{Setting}
use Rattle.plot_settings.specs.declared.setting.Setting.TheVariants as setting
use Rattle.full_notes.specs.Contexts.{is_edge}
use Rattle.full_plot.proofs.Changes.{either}
use Rattle.full_plot.proofs.CoreSteps.{AllStill, IsStill}

-- settings that leave them as they are
abbrev is_plain_setting : Setting → Bool
is_plain_setting setting.Start = false
is_plain_setting setting.Defaults = false
is_plain_setting (setting.Size z) = false
is_plain_setting (setting.Direction r) = false
is_plain_setting s = true

abbrev are_plain_in : Option Setting → Bool
are_plain_in None = true
are_plain_in (Some s) = is_plain_setting s

abbrev IsPlainIn : Option Setting → Type 0
IsPlainIn o = are_plain_in o ≡ true

-- steps that neither set them nor draw a label or an edge
abbrev pub is_plain : Step → Bool
is_plain (Set s) = is_plain_setting s
is_plain (Write text) = false
is_plain (Edge relative x y) = false
is_plain t = true

abbrev pub ArePlain : List Step → Type 0
ArePlain ts = list_all is_plain ts ≡ true

when_plain : (test : Bool) (s : Setting) → is_plain_setting s ≡ true → IsPlainIn (when test s)
when_plain true s h = h
when_plain false s h = refl

-- the settings of core
points_plain : (ns : List ℤ) → IsPlainIn (scaling_points ns)
points_plain (a ∷ (b ∷ (c ∷ (d ∷ ns)))) = refl
points_plain ns = refl

isotropic_plain : (r : Pair Range) (ns : List ℤ) → IsPlainIn (isotropic_by r ns)
isotropic_plain r (l ∷ (b ∷ ns)) = when_plain _ _ refl
isotropic_plain r ns = when_plain _ _ refl

anisotropic_plain : (r : Pair Range) → IsPlainIn (anisotropic r)
anisotropic_plain r = when_plain _ _ refl

factor_plain : (r : Pair Range) → IsPlainIn (point_factor r)
factor_plain r = when_plain _ _ refl

type_plain : (kind : ℤ) (r : Pair Range) (ns : List ℤ) → IsPlainIn (scaling_of_type kind r ns)
type_plain kind r ns =
    either IsPlainIn (int_eq kind (pos 0)) _ _ (anisotropic_plain r)
    (either IsPlainIn (int_eq kind (pos 1)) _ _ (isotropic_plain r ns) (either IsPlainIn (int_eq kind (pos 2)) _ None (factor_plain r) refl))

scaling_plain : (ns : List ℤ) → IsPlainIn (user_scaling ns)
scaling_plain (a ∷ (b ∷ (c ∷ (d ∷ (t ∷ ns))))) = type_plain (whole_of t) (ranges_of a b c d) ns
scaling_plain (a ∷ (b ∷ (c ∷ (d ∷ [])))) = anisotropic_plain (ranges_of a b c d)
scaling_plain ns = refl

rotated_plain : (ns : List ℤ) → IsPlainIn (rotated ns)
rotated_plain [] = refl
rotated_plain (n ∷ ns) =
    either IsPlainIn (int_eq (whole_of n) (pos 0)) _ _ refl
    (either IsPlainIn (int_eq (whole_of n) (pos 90)) _ _ refl
    (either IsPlainIn (int_eq (whole_of n) (pos 180)) _ _ refl (either IsPlainIn (int_eq (whole_of n) (pos 270)) _ None refl refl)))

window_plain : (ns : List ℤ) → IsPlainIn (window_corners ns)
window_plain (a ∷ (b ∷ (c ∷ (d ∷ ns)))) = refl
window_plain ns = refl

pen_plain : (ns : List ℤ) → IsPlainIn (selected_pen ns)
pen_plain [] = refl
pen_plain (n ∷ ns) = when_plain _ _ refl

width_plain : (ns : List ℤ) → IsPlainIn (pen_width_setting ns)
width_plain [] = refl
width_plain (n ∷ []) = when_plain _ _ refl
width_plain (n ∷ (p ∷ ns)) = when_plain _ _ refl

colour_plain : (ns : List ℤ) → IsPlainIn (pen_colour_setting ns)
colour_plain (p ∷ (r ∷ (g ∷ (b ∷ ns)))) = when_plain _ _ refl
colour_plain (p ∷ []) = when_plain _ _ refl
colour_plain ns = refl

-- steps
sets_plain : (o : Option Setting) → IsPlainIn o → ArePlain (sets o).steps
sets_plain None h = refl
sets_plain (Some s) h = rw h refl

asks_plain : {A : Type 0} (step : A → Step) (o : Option A) → ((a : A) → is_plain (step a) ≡ true) → ArePlain (asks step o).steps
asks_plain step None h = refl
asks_plain step (Some a) h = rw (h a) refl

moves_plain : (ns : List ℤ) → ArePlain (moves ns)
moves_plain (x ∷ (y ∷ ns)) = moves_plain ns
moves_plain ns = refl

lowered_plain : (ts : List Step) → ArePlain ts → ArePlain (lowered_then ts)
lowered_plain [] h = refl
lowered_plain (t ∷ ts) h = h

-- IN, DF, DI and SI have other rules
abbrev pub sets_labels : Instruction → Bool
sets_labels Initialize = true
sets_labels DefaultValues = true
sets_labels CharacterSize = true
sets_labels Direction = true
sets_labels _ = false

pub params_plain : (i : Instruction) (ns : List ℤ) → sets_labels i ≡ false → is_edge i ≡ false → ArePlain (meaning i ns).steps
params_plain Initialize ns h e = absurd (true≢false h)
params_plain DefaultValues ns h e = absurd (true≢false h)
params_plain InputPoints ns h e = sets_plain (scaling_points ns) (points_plain ns)
params_plain Scale ns h e = sets_plain (user_scaling ns) (scaling_plain ns)
params_plain Rotate ns h e = sets_plain (rotated ns) (rotated_plain ns)
params_plain InputWindow ns h e = sets_plain (window_corners ns) (window_plain ns)
params_plain SelectPen ns h e = sets_plain (selected_pen ns) (pen_plain ns)
params_plain PenWidth ns h e = sets_plain (pen_width_setting ns) (width_plain ns)
params_plain PenColour ns h e = sets_plain (pen_colour_setting ns) (colour_plain ns)
params_plain PenDown ns h e = lowered_plain (moves ns) (moves_plain ns)
params_plain EdgeAbsolute ns h e = absurd (true≢false e)
params_plain EdgeRelative ns h e = absurd (true≢false e)
params_plain Circle ns h e = asks_plain DrawCircle (circled ns) (λ a. refl)
params_plain ArcAbsolute ns h e = asks_plain (DrawArc false) (arced ns) (λ a. refl)
params_plain ArcRelative ns h e = asks_plain (DrawArc true) (arced ns) (λ a. refl)
params_plain CharacterSize ns h e = absurd (true≢false h)
params_plain Direction ns h e = absurd (true≢false h)
params_plain i ns h e = moves_plain ns

-- a PE
part_plain : (p : PartShape) → ArePlain (part_steps p)
part_plain (part.Pen n) = refl
part_plain p = refl

pub entries_plain : (entries : List EntryShape) → ArePlain (entry_steps entries)
entries_plain [] = refl
entries_plain (e ∷ rest) =
    list_all-append is_plain (part_steps e.what) (entry_steps rest) ∙ and_from _ _ (part_plain e.what) (entries_plain rest)

-- they leave the direction and the size as they are
plain_still : (t : Step) → is_plain t ≡ true → IsStill t
plain_still (Set setting.Start) h = absurd (true≢false (sym h))
plain_still (Set setting.Defaults) h = absurd (true≢false (sym h))
plain_still (Set (setting.Size z)) h = absurd (true≢false (sym h))
plain_still (Set (setting.Direction r)) h = absurd (true≢false (sym h))
plain_still (Write text) h = absurd (true≢false (sym h))
plain_still t h = (λ d page s k. k, tt)

all_still : (ts : List Step) → ArePlain ts → AllStill ts
all_still [] h = tt
all_still (t ∷ ts) h = let both = and_parts (is_plain t) (list_all is_plain ts) h in (plain_still t both.0, all_still ts both.1)

edges_still : (relative : Bool) (ns : List ℤ) → AllStill (edges relative ns).steps
edges_still relative (x ∷ (y ∷ ns)) = ((λ d page s h. h, tt), tt)
edges_still relative ns = tt

pub params_still : (i : Instruction) (ns : List ℤ) → sets_labels i ≡ false → AllStill (meaning i ns).steps
params_still EdgeAbsolute ns h = edges_still false ns
params_still EdgeRelative ns h = edges_still true ns
params_still i ns h = all_still (meaning i ns).steps (params_plain i ns h refl)

pub entries_still : (entries : List EntryShape) → AllStill (entry_steps entries)
entries_still entries = all_still (entry_steps entries) (entries_plain entries)
