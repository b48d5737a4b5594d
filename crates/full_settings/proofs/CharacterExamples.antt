-- What the numbers of CS, CA, SD and AD ask for, in millionths, the sets and fonts that they choose, and the size of a
-- font's letters in grains.
use Rattle.std.proofs.Common.{◌≡◌, List, [], ◌∷◌, refl, pos, negsuc, Some, None, true, false}
use Rattle.exact.proofs.Tables.{Agree, Table}
use Rattle.character_sets.specs.Signs.{selected}
use Rattle.character_sets.specs.declared.set.CharacterSet.TheVariants.{Roman8, Latin1, Ascii, German}
use Rattle.character_sets.specs.declared.sets.Selection.TheVariants.{Standard, Alternate}
use Rattle.full_settings.specs.LetterParameters.{pair_of}
use Rattle.full_settings.specs.CharacterParameters.{set_choice, no_font, usual_font_setting, font_setting, font_choice, names_unknown_set}
use Rattle.full_settings.specs.Characters.{Characters, usual_font, usual_characters, characters_with, characters_after, selected_font, font_size}
use Rattle.full_settings.specs.declared.character_setting.CharacterSetting.{CharacterSetting}
use Rattle.full_settings.specs.declared.character_setting.CharacterSetting.TheVariants as setting

-- the sets of CS and CA
sets : Agree (
    (set_choice Standard [], setting.Set Standard (Some Ascii))  -- no number
    ∷ (set_choice Alternate (pos 33400000 ∷ pos 0 ∷ []), setting.Set Alternate (Some German))  -- rounded number
    ∷ (set_choice Standard (pos 5000000 ∷ []), setting.Set Standard None)  -- number without a set
    ∷ (set_choice Standard (negsuc 999999 ∷ []), setting.Set Standard None)  -- negative number
    ∷ [])
sets = refl

-- the fonts of SD and AD
fonts : Table font_setting (
    ([], Some usual_font_setting)  -- no pairs
    -- a set, a spacing, a pitch and a height
    ∷ (pos 1000000 ∷ pos 14000000 ∷ pos 2000000 ∷ pos 1000000 ∷ pos 3000000 ∷ pos 12500000 ∷ pos 4000000 ∷ pos 23000000 ∷ [], Some (record no_font { set = Some Latin1; is_proportional = Some true; pitch = Some 12500000; height = Some 23000000 }))
    ∷ (pos 3000000 ∷ pos 9000000 ∷ pos 3000000 ∷ pos 18000000 ∷ [], Some (record no_font { pitch = Some 18000000 }))  -- the last of a kind counts
    ∷ (pos 7000000 ∷ pos 48000000 ∷ [], Some no_font)  -- a kind that is not read: a typeface
    ∷ (pos 1000000 ∷ pos 14000000 ∷ pos 1000000 ∷ pos 9999000000 ∷ [], Some (record no_font { set = Some Latin1; has_unknown_set = true }))  -- a known set counts, and the other one is noted
    ∷ (pos 4000000 ∷ [], None)  -- kind without value
    ∷ (pos 2000000 ∷ pos 1500000 ∷ [], None)  -- no spacing 2
    ∷ (pos 1600000 ∷ pos 1499999 ∷ [], Some (record no_font { is_proportional = Some true }))  -- spacing rounded
    ∷ (pos 4000000 ∷ pos 100000 ∷ [], Some (record no_font { height = Some 100000 }))  -- least height
    ∷ (pos 4000000 ∷ pos 99999 ∷ [], None)  -- height too small
    ∷ (pos 3000000 ∷ pos 1500000000 ∷ [], Some (record no_font { pitch = Some 1500000000 }))  -- greatest pitch
    ∷ (pos 3000000 ∷ pos 1500000001 ∷ [], None)  -- pitch too great
    ∷ (pos 5000000 ∷ pos 1000000 ∷ [], Some (record no_font { is_italic = Some true }))  -- italic
    ∷ (pos 5000000 ∷ pos 2499999 ∷ [], Some (record no_font { is_italic = Some true }))  -- the other italic, rounded
    ∷ (pos 5000000 ∷ pos 3000000 ∷ [], Some (record no_font { is_italic = Some false }))  -- a posture that is not slanted
    ∷ (pos 5000000 ∷ pos 0 ∷ pos 6000000 ∷ pos 0 ∷ [], Some (record no_font { is_italic = Some false; is_bold = Some false }))  -- upright, and medium
    ∷ (pos 6000000 ∷ pos 2000000 ∷ [], Some (record no_font { is_bold = Some false }))  -- not quite bold
    ∷ (pos 6000000 ∷ pos 3000000 ∷ [], Some (record no_font { is_bold = Some true }))  -- the least bold weight
    ∷ (pos 6000000 ∷ pos 7000000 ∷ [], Some (record no_font { is_bold = Some true }))  -- the greatest weight
    ∷ (pos 6000000 ∷ pos 8000000 ∷ [], Some (record no_font { is_bold = Some false }))  -- a weight that there is not
    ∷ (pos 6000000 ∷ negsuc 2999999 ∷ [], Some (record no_font { is_bold = Some false }))  -- a light weight
    ∷ [])
fonts = refl

alternate_font : font_choice Alternate (pos 4000000 ∷ pos 23000000 ∷ []) ≡ Some (setting.Font Alternate (record no_font { height = Some 23000000 }))
alternate_font = refl

abbrev after : List CharacterSetting → Characters → Characters
after [] c = c
after (x ∷ xs) c = after xs (characters_with x c)

-- the set that is selected after some settings
selected_sets : Table selected (
    (usual_characters.sets, Roman8)  -- at the start
    ∷ ((after (setting.Set Standard (Some German) ∷ []) usual_characters).sets, German)  -- by number
    ∷ ((after (setting.Set Alternate (Some German) ∷ []) usual_characters).sets, Roman8)  -- not selected
    ∷ ((after (setting.Set Alternate (Some German) ∷ setting.Select Alternate ∷ []) usual_characters).sets, German)  -- by SA
    ∷ ((characters_after (after (setting.Set Alternate (Some German) ∷ []) usual_characters) (65 ∷ 14 ∷ 66 ∷ [])).sets, German)  -- by shift out
    ∷ [])
selected_sets = refl

left_by_unknown : after (setting.Set Standard None ∷ []) usual_characters ≡ usual_characters
left_by_unknown = refl

abbrev high : CharacterSetting
high = setting.Font Alternate (record no_font { set = Some Latin1; height = Some 23000000 })

font_of_the_other_set : selected_font (after (high ∷ []) usual_characters) ≡ usual_font
font_of_the_other_set = refl

font_of_the_set : selected_font (after (high ∷ setting.Select Alternate ∷ []) usual_characters) ≡ record usual_font { height = 23000000 }
font_of_the_set = refl

-- what is not named stays
weight_of_the_set : selected_font (after (setting.Font Standard (record no_font { is_italic = Some true }) ∷ setting.Font Standard (record no_font { is_bold = Some true }) ∷ []) usual_characters)
    ≡ record usual_font { is_italic = true; is_bold = true }
weight_of_the_set = refl

-- which settings name an unknown set
unknown_sets : Table names_unknown_set (
    (setting.Set Standard None, true)  -- by a number
    ∷ (setting.Font Standard (record no_font { has_unknown_set = true }), true)  -- by a font
    ∷ (setting.Set Standard (Some Ascii), false)  -- a known set
    ∷ [])
unknown_sets = refl

-- the sizes of letters in grains
sizes : Table font_size (
    (usual_font, pair_of (pos 1216) (pos 1728))  -- usual
    ∷ (record usual_font { height = 23000000 }, pair_of (pos 1216) (pos 3456))  -- high
    ∷ (record usual_font { pitch = 18000000 }, pair_of (pos 608) (pos 1728))  -- narrow
    ∷ (record usual_font { is_proportional = true; pitch = 18000000; height = 23000000 }, pair_of (pos 1980) (pos 3456))  -- proportional
    ∷ (record usual_font { pitch = 100000; height = 1500000000 }, pair_of (pos 109440) (pos 225391))  -- the greatest
    ∷ [])
sizes = refl
