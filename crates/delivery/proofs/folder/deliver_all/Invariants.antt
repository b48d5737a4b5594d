use Rattle.std.proofs.Common.{None, Bool, Option}
use Rattle.output_files.specs.declared.file_id.FileId.{FileId}
use Rattle.delivery.specs.Deliveries.{Anything, Delivers}
use Rattle.delivery.specs.Folders.{AreSheetsPut, AreThePlots}
use Rattle.delivery.proofs.folder.deliver_all.Given as goal

-- the sheets so far
abbrev pub invariant-loop-index : goal.invariant-loop-index
invariant-loop-index g l = (plots : Option FileId → Bool) → AreThePlots l.initial.claims plots →
    AreThePlots l.claims plots × Delivers g.D.Voice.does plots None l.initial.desk l.desk l.status Anything Anything
    (AreSheetsPut l.target.folder.now l.target.file.now l.target.extension.now l.index l.count)
