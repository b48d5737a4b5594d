-- How texts of ASCII are read.
use Rattle.std.specs.Prelude.{ℕ, ◌==◌, nat_lt, Bool, true, false, not, ◌&&◌, ◌||◌}
use Rattle.character_sets.specs.Signs.{selected}
use Rattle.character_sets.specs.declared.encoding.Encoding.{Encoding}
use Rattle.character_sets.specs.declared.encoding.Encoding.TheVariants.{ByPlot, Always, Utf8}
use Rattle.character_sets.specs.declared.set.CharacterSet.{CharacterSet}
use Rattle.character_sets.specs.declared.set.CharacterSet.TheVariants.{Roman8, Latin1, Windows1252, Pc8, Ascii}
use Rattle.character_sets.specs.declared.sets.Sets.{Sets}

-- the sets that have all characters of ASCII, of seven and of eight bits
abbrev pub has_ascii : CharacterSet → Bool
has_ascii Roman8 = true
has_ascii Latin1 = true
has_ascii Windows1252 = true
has_ascii Pc8 = true
has_ascii Ascii = true
has_ascii _ = false

-- whatever the plot chooses, a text is read by one of these sets, or as UTF-8
abbrev pub always_reads_ascii : Encoding → Bool
always_reads_ascii ByPlot = false
always_reads_ascii (Always set) = has_ascii set
always_reads_ascii Utf8 = true

-- the bytes of ASCII are its characters, if the plot has chosen these sets
abbrev pub reads_ascii : Encoding → Sets → Bool
reads_ascii ByPlot sets = has_ascii (selected sets)
reads_ascii encoding sets = always_reads_ascii encoding

-- a byte of ASCII that selects no set: neither SO nor SI
abbrev pub is_unshifted : ℕ → Bool
is_unshifted byte = nat_lt byte 128 && not (byte == 14 || byte == 15)
