use Rattle.std.proofs.Common.{map, take}
use Rattle.output_files.specs.Claims.{is_plot}
use Rattle.delivery.specs.Looks.{LooksForPlots}
use Rattle.delivery.proofs.plots.claims_of.Given as goal

-- the plots so far
abbrev pub invariant-loop-file : goal.invariant-loop-file
invariant-loop-file g l =
    LooksForPlots g.D.Voice.does l.initial.desk (is_plot l.claims) (map (λ file. file.now) (take l.file-index l.files)) l.desk
