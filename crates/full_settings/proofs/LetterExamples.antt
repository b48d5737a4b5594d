-- What the numbers of SR, SL, DI, DR, ES, LO and DV ask for, in millionths, and the styles of letters that they make.
-- From P1 to P2 it is 300 plotter units in x, and -400 in y.
use Rattle.std.proofs.Common.{◌≡◌, List, [], ◌∷◌, refl, pos, negsuc, Some, None, true}
use Rattle.exact.specs.Roots.{root_by}
use Rattle.exact.proofs.Tables.{Agree}
use Rattle.directions.specs.Directions.{surplus}
use Rattle.directions.specs.declared.turn.Turn.TheVariants as turn
use Rattle.lettering.specs.Styles.{usual}
use Rattle.lettering.specs.declared.style.LineFeed.TheVariants.{Normal, Reverse}
use Rattle.lettering.specs.declared.style.Path.TheVariants.{Down, Up}
use Rattle.lettering.specs.declared.style.Style.{Style}
use Rattle.plot_frame.specs.declared.pair.Pair.{Pair}
use Rattle.plot_frame.specs.declared.scaling.Ends.{Ends}
use Rattle.plot_settings.specs.Parameters.{usual_size}
use Rattle.full_settings.specs.declared.letter_setting.LetterSetting.{LetterSetting}
use Rattle.full_settings.specs.declared.letter_setting.LetterSetting.TheVariants as setting
use Rattle.full_settings.specs.LetterParameters.{pair_of, relative_size, slant, letter_direction, relative_direction, space, letter_origin, text_path}
use Rattle.full_settings.specs.Characters.{usual_font}
use Rattle.full_settings.specs.Letters.{LetterStyle, usual_letters, letters_with, style_in}

-- SR and SL
sizes : Agree (
    (relative_size [], Some (setting.RelativeSize (pair_of (pos 750000) (pos 1500000))))  -- no size
    ∷ (relative_size (pos 1000000 ∷ []), None)  -- no height
    ∷ (relative_size (negsuc 999999999 ∷ pos 1000000000 ∷ []), Some (setting.RelativeSize (pair_of (negsuc 999999999) (pos 1000000000))))  -- greatest size
    ∷ (relative_size (negsuc 1000000000 ∷ pos 1 ∷ []), None)  -- too wide
    ∷ (relative_size (pos 0 ∷ pos 1 ∷ []), None)  -- a width of 0
    ∷ (slant [], Some (setting.Slant (pos 0)))  -- no slant
    ∷ (slant (pos 1000000000 ∷ []), Some (setting.Slant (pos 1000000000)))  -- greatest slant
    ∷ (slant (pos 1000000001 ∷ []), None)  -- too slanted
    ∷ [])
sizes = refl

-- DI, DR and ES
directions : Agree (
    (letter_direction [], Some (setting.Direction (pair_of (pos 1000000) (pos 0))))  -- no direction
    ∷ (letter_direction (pos 3000000 ∷ pos 4000000 ∷ pos 0 ∷ []), Some (setting.Direction (pair_of (pos 3000000) (pos 4000000))))  -- 3 to 4
    ∷ (letter_direction (pos 0 ∷ pos 0 ∷ []), None)  -- 0 to 0
    ∷ (relative_direction (pos 0 ∷ negsuc 0 ∷ []), Some (setting.RelativeDirection (pair_of (pos 0) (negsuc 0))))  -- relative up
    ∷ (space [], Some (setting.Step (pair_of (pos 1000000) (pos 1000000))))  -- a step is 1 and what is added
    ∷ (space (negsuc 99999999 ∷ []), Some (setting.Step (pair_of (negsuc 98999999) (pos 1000000))))  -- minus 100 percent
    ∷ (space (pos 0 ∷ pos 100000001 ∷ []), None)  -- too many lines
    ∷ [])
directions = refl

-- LO and DV
origins : Agree (
    (letter_origin (pos 500000 ∷ []), Some (setting.Origin 1))  -- rounded
    ∷ (letter_origin (pos 10000000 ∷ []), None)
    ∷ (letter_origin (pos 19000000 ∷ []), Some (setting.Origin 19))
    ∷ (letter_origin (pos 20000000 ∷ []), None)
    ∷ (letter_origin (pos 21000000 ∷ []), Some (setting.Origin 1))
    ∷ (text_path (pos 1000000 ∷ []), Some (setting.Path Down Normal))  -- without a way of line feeds
    ∷ (text_path (pos 3000000 ∷ pos 1000000 ∷ []), Some (setting.Path Up Reverse))
    ∷ (text_path (pos 4000000 ∷ []), None)
    ∷ (text_path (pos 0 ∷ pos 2000000 ∷ []), None)
    ∷ [])
origins = refl

abbrev after : List LetterSetting → LetterStyle → LetterStyle
after [] l = l
after (x ∷ xs) l = after xs (letters_with x l)

abbrev points : Pair Ends
points = record { x = record { first = pos 10; last = pos 310 }; y = record { first = pos 20; last = negsuc 379 } }

abbrev style_after : List LetterSetting → Style
style_after xs = style_in (after xs usual_letters) (record usual_font { height = 23000000 }) usual_size points turn.None

usual_style : style_in usual_letters usual_font usual_size points turn.None ≡ usual
unfolding root_by surplus
usual_style = refl

-- the heights and widths of letters
numbers : Agree (
    ((style_after []).height, pos 3456)  -- a font of 23 points
    ∷ ((style_after (setting.AbsoluteSize ∷ [])).height, pos 1728)  -- SI wins until an SI without numbers
    ∷ ((style_after (setting.AbsoluteSize ∷ setting.FontSize ∷ [])).height, pos 3456)  -- size of font again
    ∷ ((style_after (setting.RelativeSize (pair_of (pos 10000000) (pos 10000000)) ∷ [])).width, pos 480)  -- 10 percent of the distance in x, in grains
    ∷ ((style_after (setting.RelativeSize (pair_of (pos 10000000) (pos 10000000)) ∷ [])).height, negsuc 639)  -- 10 percent of the distance in y, in grains
    ∷ ((style_after (setting.RelativeSize (pair_of (pos 10000000) (pos 10000000)) ∷ setting.AbsoluteSize ∷ [])).width, pos 1216)  -- SI wins
    ∷ [])
numbers = refl

-- slants: upright, as SL says, and 0.2 more of an italic font, whatever SI says
abbrev italic_after : List LetterSetting → Style
italic_after xs = style_in (after xs usual_letters) (record usual_font { is_italic = true }) usual_size points turn.None

slants : Agree (
    ((style_after []).slant, pos 0)  -- upright
    ∷ ((style_after (setting.Slant (pos 300000) ∷ [])).slant, pos 300000)  -- as SL says
    ∷ ((italic_after []).slant, pos 200000)  -- italic
    ∷ ((italic_after (setting.AbsoluteSize ∷ [])).slant, pos 200000)  -- italic, of SI's size
    ∷ ((italic_after (setting.Slant (negsuc 499999) ∷ [])).slant, negsuc 299999)  -- SL to the left
    ∷ ((italic_after (setting.Slant (pos 1000000000) ∷ [])).slant, pos 1000200000)  -- the greatest
    ∷ [])
slants = refl

-- 4 percent of 300, and -3 percent of -400
relative_diagonal : (style_after (setting.RelativeDirection (pair_of (pos 4000000) (negsuc 2999999)) ∷ [])).direction
    ≡ record { x = pos 759250125; y = pos 759250125 }
unfolding root_by surplus
relative_diagonal = refl
