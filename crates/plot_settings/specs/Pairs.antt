-- PU (Pen Up), PD (Pen Down), PA (Plot Absolute) and PR (Plot Relative) make a move to each pair of their numbers; each
-- other instruction looks at its first numbers.
use Rattle.std.specs.Prelude.{Bool, true, false}
use Rattle.hpgl_text.specs.declared.instruction.Instruction.{Instruction}
use Rattle.hpgl_text.specs.declared.instruction.Instruction.TheVariants.{PenUp, PenDown, PlotAbsolute, PlotRelative}

abbrev pub plots_pairs : Instruction → Bool
plots_pairs PenUp = true
plots_pairs PenDown = true
plots_pairs PlotAbsolute = true
plots_pairs PlotRelative = true
plots_pairs _ = false
