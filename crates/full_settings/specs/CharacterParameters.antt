-- What the numbers of CS and CA (Designate Standard and Alternate Character Set) and of SD and AD (Standard and
-- Alternate Font Definition) ask for, or None if they are wrong. Numbers are in millionths. That a pitch and a height
-- are 0.1 to 1500 is our choice.
use Rattle.std.specs.Prelude.{ℕ, ◌≤◌, ℤ, pos, nat_abs, Bool, false, true, ⊤, if◌then◌else◌}
use Rattle.std.specs.Prelude.{List, [], ◌∷◌, Option, Some, None, IfSome, option_map, option_and_then}
use Rattle.std.specs.Ordering.{int_eq}
use Rattle.exact.specs.Ranges.{is_between}
use Rattle.character_sets.specs.Numbers.{set_of_hp_number, set_of_symbol_set}
use Rattle.character_sets.specs.declared.set.CharacterSet.{CharacterSet}
use Rattle.character_sets.specs.declared.set.CharacterSet.TheVariants.{Roman8}
use Rattle.character_sets.specs.declared.sets.Selection.{Selection}
use Rattle.plot_settings.specs.Parameters.{whole_of, when}
use Rattle.full_settings.specs.declared.character_setting.CharacterSetting.{CharacterSetting}
use Rattle.full_settings.specs.declared.character_setting.CharacterSetting.TheVariants as setting
use Rattle.full_settings.specs.declared.character_setting.FontSetting.{FontSetting}

-- the set with a whole number in a table: a number below 0 or over 9999 has none
abbrev pub set_with : (ℕ → Option CharacterSet) → ℤ → Option CharacterSet
set_with table n = if is_between (pos 0) (pos 9999) n then table (nat_abs n) else None

-- CS and CA number: the set with this number of HP-GL, if there is one; 0 if none is named
abbrev pub set_choice : Selection → List ℤ → CharacterSetting
set_choice selection [] = setting.Set selection (set_of_hp_number 0)
set_choice selection (n ∷ ns) = setting.Set selection (set_with set_of_hp_number (whole_of n))

-- nothing is named
abbrev pub no_font : FontSetting
no_font =
    record {
      set = None;
      is_proportional = None;
      pitch = None;
      height = None;
      is_italic = None;
      is_bold = None;
      has_unknown_set = false;
    }

-- all are those of the start: Roman-8, fixed spacing, 9 characters an inch, 11.5 points, upright, not bold
abbrev pub usual_font_setting : FontSetting
usual_font_setting = record {
  set = Some Roman8;
  is_proportional = Some false;
  pitch = Some 9000000;
  height = Some 11500000;
  is_italic = Some false;
  is_bold = Some false;
  has_unknown_set = false;
}

-- with a set, or with one that is not known
abbrev pub with_set : Option CharacterSet → FontSetting → FontSetting
with_set (Some set) f = record f { set = Some set }
with_set None f = record f { has_unknown_set = true }

-- a spacing is 0, or 1 for proportional
abbrev pub spacing : ℤ → Option Bool
spacing n = if int_eq n (pos 0) then Some false else if int_eq n (pos 1) then Some true else None

-- a pitch in characters an inch, or a height in points
abbrev pub size_of_font : ℤ → Option ℕ
size_of_font n = when (is_between (pos 100000) (pos 1500000000) n) (nat_abs n)

-- a posture is italic if it is 1 or 2, and a weight bold if it is 3 to 7
abbrev pub is_italic_posture : ℤ → Bool
is_italic_posture n = is_between (pos 1) (pos 2) n

abbrev pub is_bold_weight : ℤ → Bool
is_bold_weight n = is_between (pos 3) (pos 7) n

-- one more pair: kind 1 is a set, by its number of HP-GL/2, 2 the spacing, 3 the pitch, 4 the height, 5 the posture,
-- 6 the weight of strokes; any other kind has no effect
abbrev pub with_kind : ℤ → ℤ → FontSetting → Option FontSetting
with_kind kind value f =
    if int_eq kind (pos 1) then Some (with_set (set_with set_of_symbol_set (whole_of value)) f) else
    if int_eq kind (pos 2) then
    option_map (λ s. record f { is_proportional = Some s }) (spacing (whole_of value)) else
    if int_eq kind (pos 3) then option_map (λ p. record f { pitch = Some p }) (size_of_font value) else
    if int_eq kind (pos 4) then option_map (λ h. record f { height = Some h }) (size_of_font value) else
    if int_eq kind (pos 5) then Some (record f { is_italic = Some (is_italic_posture (whole_of value)) }) else
    if int_eq kind (pos 6) then Some (record f { is_bold = Some (is_bold_weight (whole_of value)) }) else
    Some f

-- the pairs of a kind and a value, one after another
abbrev pub with_pairs : FontSetting → List ℤ → Option FontSetting
with_pairs f [] = Some f
with_pairs f (kind ∷ []) = None
with_pairs f (kind ∷ (value ∷ ns)) = option_and_then (λ g. with_pairs g ns) (with_kind (whole_of kind) value f)

-- SD and AD kind, value, kind, value, ..: what is named, or all if nothing is
abbrev pub font_setting : List ℤ → Option FontSetting
font_setting [] = Some usual_font_setting
font_setting (n ∷ ns) = with_pairs no_font (n ∷ ns)

abbrev pub font_choice : Selection → List ℤ → Option CharacterSetting
font_choice selection ns = option_map (λ f. setting.Font selection f) (font_setting ns)

-- a set is named that is not known
abbrev pub names_unknown_set : CharacterSetting → Bool
names_unknown_set (setting.Set selection None) = true
names_unknown_set (setting.Font selection f) = f.has_unknown_set
names_unknown_set _ = false

-- what is set is in its range
abbrev pub IsFontSize : ℕ → Type 0
IsFontSize n = (100000 ≤ n) × (n ≤ 1500000000)

pub record IsFontSetting (f : FontSetting) : Type 0 where
  pub pitch_in : IfSome f.pitch IsFontSize
  pub height_in : IfSome f.height IsFontSize

abbrev pub IsCharacterSetting : CharacterSetting → Type 0
IsCharacterSetting (setting.Font selection f) = IsFontSetting f
IsCharacterSetting _ = ⊤
