-- The flags that a number follows, as the code has them.
use Rattle.std.specs.Prelude.{ℕ}
use Rattle.hpgl_text.specs.declared.polyline.kind.Flag.{Flag}
use Rattle.hpgl_text.specs.declared.polyline.kind.Flag.TheVariants as flag
use Rattle.hpgl_text.specs.declared.polyline.kind.PieceKind.{PieceKind}
use Rattle.hpgl_text.specs.declared.polyline.kind.PieceKind.TheVariants.{FractionBits, Pen}

-- the greatest number that may follow a flag
abbrev pub most_after : Flag → ℕ
most_after flag.Pen = 255
most_after flag.FractionBits = 26

abbrev pub flag_kind : Flag → (ℕ → PieceKind)
flag_kind flag.Pen = Pen
flag_kind flag.FractionBits = FractionBits
