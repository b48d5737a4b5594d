-- What the numbers of LT and UL ask for, in millionths, and the line types that they make. P1 and P2 of the rectangle
-- (0,0) to (300,400) have a diagonal of 500 plotter units, and ten percent of it are 204,800 ticks.
use Rattle.std.proofs.Common.{◌≡◌, List, [], ◌∷◌, ◌++◌, refl, pos, negsuc, Some, None}
use Rattle.std.specs.Prelude.{replicate}
use Rattle.exact.specs.Roots.{root_by}
use Rattle.exact.proofs.Tables.{Agree, Table}
use Rattle.plot_frame.specs.declared.pair.Pair.{Pair}
use Rattle.plot_frame.specs.declared.scaling.Ends.{Ends}
use Rattle.line_types.specs.LineTypes.{LineShape, Solid, EndDot, Fixed, Adaptive}
use Rattle.full_settings.specs.declared.line_setting.LineKind.TheVariants as kind
use Rattle.full_settings.specs.declared.line_setting.LineSetting.{LineSetting}
use Rattle.full_settings.specs.declared.line_setting.LineSetting.TheVariants as setting
use Rattle.full_settings.specs.declared.line_setting.PatternLength.TheVariants.{Percent, Millimetres}
use Rattle.full_settings.specs.LineParameters.{line_type, user_line_type}
use Rattle.full_settings.specs.LineStyles.{Style, usual_style, style_with, shape_of}

-- LT
types : Table line_type (
    ([], Some setting.Solid)  -- no type
    ∷ (pos 99000000 ∷ pos 0 ∷ [], Some setting.Again)  -- 99: the type before
    ∷ (pos 2000000 ∷ [], Some (setting.Type (pos 2)))  -- type only
    ∷ (negsuc 8499999 ∷ [], Some (setting.Type (negsuc 7)))  -- a type is rounded
    ∷ (pos 9000000 ∷ [], None)  -- no type 9
    ∷ (negsuc 8999999 ∷ [], None)  -- no type below -8
    ∷ (pos 2000000 ∷ pos 10000000 ∷ [], Some (setting.TypeAndLength (pos 2) (Percent 10000000)))  -- ten percent
    ∷ (pos 2000000 ∷ pos 10000000 ∷ pos 1000000 ∷ [], Some (setting.TypeAndLength (pos 2) (Millimetres 10000000)))  -- ten millimetres
    ∷ (pos 2000000 ∷ pos 0 ∷ [], None)  -- no length 0
    ∷ (pos 2000000 ∷ negsuc 0 ∷ [], None)  -- no length below 0
    ∷ (pos 2000000 ∷ pos 1000000 ∷ pos 2000000 ∷ [], None)  -- no mode 2
    ∷ [])
types = refl

-- UL
user_types : Table user_line_type (
    ([], Some setting.UsualPatterns)  -- no index
    ∷ (pos 3000000 ∷ [], Some (setting.UsualPattern 3))  -- no gaps
    ∷ (negsuc 999999 ∷ pos 50000000 ∷ pos 20000000 ∷ pos 30000000 ∷ [], Some (setting.OwnPattern 1 (50000000 ∷ 20000000 ∷ 30000000 ∷ [])))  -- an index below 0 names the same type
    ∷ (pos 8000000 ∷ replicate 20 (pos 5) ++ negsuc 0 ∷ [], Some (setting.OwnPattern 8 (replicate 20 5)))  -- gaps after the twentieth are not read
    ∷ (pos 0 ∷ pos 1000000 ∷ [], None)  -- no index 0
    ∷ (pos 9000000 ∷ [], None)  -- no index 9
    ∷ (pos 1000000 ∷ pos 0 ∷ pos 0 ∷ [], None)  -- gaps of 0
    ∷ (pos 1000000 ∷ pos 1000000 ∷ negsuc 999999 ∷ [], None)  -- gap below 0
    ∷ [])
user_types = refl

-- after these LT and UL, one after another
abbrev after : List LineSetting → Style → Style
after [] s = s
after (x ∷ xs) s = after xs (style_with x s)

abbrev kinds_after : List LineSetting → Style
kinds_after xs = after xs usual_style

nothing_before : kinds_after (setting.Again ∷ []) ≡ usual_style
nothing_before = refl

-- types after LT 99
kinds : Agree (
    ((kinds_after (setting.Type (pos 2) ∷ setting.Solid ∷ setting.Again ∷ [])).kind, kind.Patterned (pos 2))  -- the type before solid lines
    ∷ ((kinds_after (setting.Type (pos 2) ∷ setting.Solid ∷ setting.Solid ∷ setting.Again ∷ [])).kind, kind.Patterned (pos 2))  -- solid lines twice: the type before them is remembered
    ∷ ((kinds_after (setting.Type (pos 2) ∷ setting.Solid ∷ setting.Type (pos 3) ∷ setting.Again ∷ [])).kind, kind.Patterned (pos 3))  -- a type that is drawn stays
    ∷ [])
kinds = refl

-- a length stays until another is set
length_stays : (kinds_after (setting.TypeAndLength (pos 2) (Millimetres 5) ∷ setting.Solid ∷ setting.Type (pos 3) ∷ [])).size ≡ Millimetres 5
length_stays = refl

abbrev points : Pair Ends
points = record { x = record { first = pos 0; last = pos 300 }; y = record { first = pos 0; last = pos 400 } }

abbrev shape_after : List LineSetting → LineShape
shape_after xs = shape_of (kinds_after xs) points

-- line types
shapes : Table shape_after (
    ([], Solid)  -- solid at the start
    ∷ (setting.Type (pos 0) ∷ [], EndDot)  -- dots at ends
    ∷ (setting.TypeAndLength (pos 2) (Percent 10000000) ∷ [], Fixed (50 ∷ 50 ∷ []) 204800)  -- fixed type
    ∷ (setting.Type (pos 2) ∷ [], Fixed (50 ∷ 50 ∷ []) 81920)  -- 4 percent
    ∷ (setting.TypeAndLength (negsuc 1) (Percent 10000000) ∷ [], Adaptive (25 ∷ 50 ∷ 25 ∷ []) 204800)  -- adaptive type
    ∷ (setting.TypeAndLength (pos 8) (Millimetres 10000000) ∷ [], Fixed (50 ∷ 10 ∷ 0 ∷ 10 ∷ 10 ∷ 10 ∷ 0 ∷ 10 ∷ []) 1638400)  -- 10 millimetres, whatever P1 and P2 are
    ∷ [])
unfolding root_by
shapes = refl

abbrev own_pattern : LineSetting
own_pattern = setting.OwnPattern 2 (50 ∷ 20 ∷ 30 ∷ [])

-- UL sets the pattern of a type above 0 and of its opposite
own_shapes : Table shape_after (
    (own_pattern ∷ setting.TypeAndLength (pos 2) (Millimetres 10000000) ∷ [], Fixed (50 ∷ 20 ∷ 30 ∷ []) 1638400)  -- above 0
    ∷ (own_pattern ∷ setting.TypeAndLength (negsuc 1) (Millimetres 10000000) ∷ [], Adaptive (50 ∷ 20 ∷ 30 ∷ []) 1638400)  -- its opposite
    ∷ (own_pattern ∷ setting.TypeAndLength (pos 3) (Millimetres 10000000) ∷ [], Fixed (70 ∷ 30 ∷ []) 1638400)  -- another type
    ∷ (own_pattern ∷ setting.UsualPattern 2 ∷ setting.TypeAndLength (pos 2) (Millimetres 10000000) ∷ [], Fixed (50 ∷ 50 ∷ []) 1638400)  -- after UL with a type
    ∷ (own_pattern ∷ setting.UsualPatterns ∷ setting.TypeAndLength (negsuc 1) (Millimetres 10000000) ∷ [], Adaptive (25 ∷ 50 ∷ 25 ∷ []) 1638400)  -- after UL
    ∷ [])
own_shapes = refl
