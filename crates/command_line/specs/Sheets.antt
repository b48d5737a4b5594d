-- The sheets that the text after `--sheet` asks for.
use Rattle.std.specs.Prelude.{ℕ, Bool, Option, Some, None, codes, nat_abs, pos, if◌then◌else◌}
use Rattle.std.specs.Str.{bytes_eq}
use Rattle.std.specs.Str.Parse.{signed_digits_value}
use Rattle.clap.specs.ValueTests.{is_signed_in}
use Rattle.clap.specs.Words.{Text}

-- each sheet by itself
abbrev pub is_each : Text → Bool
is_each text = bytes_eq text (codes "each")

-- the number of a sheet, 0 to 4194304, or None if the text is none: whole and in decimal, as `clap` reads numbers
abbrev pub sheet_number : Text → Option ℕ
sheet_number text = if is_signed_in (pos 0) (pos 4194304) text then Some (nat_abs (signed_digits_value 10 text)) else None

-- the sheet that a text asks for, 0 for all of them; None if it asks for nothing
abbrev pub sheet_named : Text → Option ℕ
sheet_named text = if is_each text then Some 0 else sheet_number text
