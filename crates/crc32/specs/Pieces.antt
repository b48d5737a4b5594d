-- A checksum of bytes that come in pieces.
use Rattle.std.specs.Prelude.{◌≡◌, ℕ, List}
use Rattle.crc32.specs.Crc.{ones, remainder}
use Rattle.crc32.specs.declared.crc.Crc.{Crc}

-- it has the remainder of these bytes
abbrev pub IsCrcOf : Crc → List ℕ → Type 0
IsCrcOf crc bytes = crc.remainder ≡ remainder ones bytes
