use Rattle.std.proofs.Common.{None, Bool, Option, map, take}
use Rattle.output_files.specs.declared.file_id.FileId.{FileId}
use Rattle.delivery.specs.Deliveries.{Anything, Delivers}
use Rattle.delivery.specs.Folders.{ArePlotsPut, AreThePlots}
use Rattle.delivery.proofs.folder.deliver_each.Given as goal

-- the plots so far
abbrev pub invariant-loop-file : goal.invariant-loop-file
invariant-loop-file g l = (plots : Option FileId → Bool) → AreThePlots l.initial.claims plots →
    AreThePlots l.claims plots × Delivers g.D.Voice.does plots None l.initial.desk l.desk l.status Anything Anything
    (ArePlotsPut l.order.folder.now l.order.extension.now (map (λ file. file.now) (take l.file-index l.order.files.now)))
