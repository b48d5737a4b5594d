-- What a faultless parse of this command leaves for `settle` to read.
use Rattle.std.specs.Prelude.{◌≡◌, ℕ, Bool, true, false, List, Option, Some, None, Result, Ok, Err, is_some, codes, pos, ⊤, if◌then◌else◌}
use Rattle.clap.specs.Lexer.{without_minus}
use Rattle.clap.specs.Values.{IsSignedIn}
use Rattle.clap.specs.Words.{Row, Text, one_of}
use Rattle.command_line.specs.declared.subcommands.Kind.{Kind}
use Rattle.command_line.specs.declared.table.Value.{Value}
use Rattle.command_line.specs.declared.table.Value.TheVariants.{Number}
use Rattle.command_line.specs.declared.fault.LineFault.{LineFault}
use Rattle.command_line.specs.declared.fault.LineFault.TheVariants.{Paper, Shades, Size}
use Rattle.command_line.specs.Options.{value_named}
use Rattle.command_line.specs.Papers.{size_named}
use Rattle.command_line.specs.Lines.{has_stray_smooth, is_picture, number_in, pens_text, profile_text, written}
use Rattle.std.specs.Option.{option_map_or}

-- the option has a text that is a whole number from low to high
pub record HasNumber (rows : List Row) (name : Text) (low high : ℕ) : Type 0 where
  pub text : Text
  pub given : one_of name rows ≡ Some (without_minus text)
  pub within : IsSignedIn (pos low) (pos high) text

-- the same of an option, if it has a number
abbrev pub MayHaveNumber : List Row → Text → ℕ → ℕ → Type 0
MayHaveNumber rows name low high = is_some (number_in rows name) ≡ true → HasNumber rows name low high

-- what is known of the value of an option: its number, if it has one, is in range
abbrev pub IsInRange : Option Value → Text → List Row → Type 0
IsInRange (Some (Number low high)) name rows = MayHaveNumber rows name low high
IsInRange _ name rows = ⊤

-- each number of an option is in range, and those with a default are there
pub record HasNumbers (rows : List Row) : Type 0 where
  pub within : (name : Text) → IsInRange (value_named name) name rows
  pub left : HasNumber rows (codes "left") 0 65536
  pub below : HasNumber rows (codes "below") 0 65536

-- the size that a name gives, unless it names nothing, or a side is given too
abbrev pub size_or_fault : Option (ℕ × ℕ) → Bool → Result (ℕ × ℕ) LineFault
size_or_fault None _ = Err Paper
size_or_fault (Some size) true = Err Size
size_or_fault (Some size) false = Ok size

-- the same of this name
abbrev pub paper_or_fault : Text → Bool → Result (ℕ × ℕ) LineFault
paper_or_fault name has_side = size_or_fault (size_named name) has_side

-- what is wrong with a smoothing: it is given, and the picture may not be smoothed
abbrev pub stray_smooth_fault : Bool → List Row → Option LineFault
stray_smooth_fault is_smoothed rows = if has_stray_smooth is_smoothed rows then Some Shades else None

-- the option for the list of pens has a text, if a picture is written
abbrev pub HasPens : Kind → List Row → Type 0
HasPens kind rows = option_map_or is_picture (written kind rows) false ≡ true → is_some (pens_text rows) ≡ true

-- the profile has a name
abbrev pub HasProfile : List Row → Type 0
HasProfile rows = is_some (profile_text rows) ≡ true

-- each option that a subcommand needs has a value
pub record HasValues (kind : Kind) (rows : List Row) : Type 0 where
  pub pens : HasPens kind rows
  pub numbers : HasNumbers rows
  pub profile : HasProfile rows
