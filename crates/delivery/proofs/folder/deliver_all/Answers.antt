use Rattle.std.proofs.Common.{None, ◌+◌, ℕ, refl, subst, sym, arith}
use Rattle.delivery.specs.Deliveries.{Anything, Delivers}
use Rattle.delivery.specs.Folders.{AreSheetsPut, IsSheetPut}
use Rattle.delivery.proofs.Delivered.{both, nothing_yet}
use Rattle.delivery.proofs.Folders.{one_more}
use Rattle.delivery.proofs.folder.deliver_all.Goals as goal

pub loop-index-init : goal.loop-index-init
loop-index-init g c = λ plots are. (
  are,
  nothing_yet g.D.Voice.does plots None (AreSheetsPut c.args.target.folder.now c.args.target.file.now c.args.target.extension.now 0 c.args.count)
      c.args.desk.now c.args.desk.now refl (λ deeds n none. absurd (omega (arith, none))),
)

pub loop-index-preserved : goal.loop-index-preserved
loop-index-preserved g c = λ plots are.
    let folder = c.args.target.folder.now in
    let file = c.args.target.file.now in
    let extension = c.args.target.extension.now in
    let before = c.loop-index.invariant plots are in
    let to = c.loop-index.index in (
      c.deliver_sheet-next.ensures.plots plots before.0,
      subst (λ (s : ℕ). Delivers g.D.Voice.does plots None c.args.desk.now c.deliver_sheet-next.new.desk s Anything Anything (AreSheetsPut folder file extension (to + 1) c.args.count))
          (sym c.greater_status-status.ensures)
          (both g.D.Voice.does plots None (AreSheetsPut folder file extension to c.args.count) (IsSheetPut folder file extension (to + 1) c.args.count)
          (AreSheetsPut folder file extension (to + 1) c.args.count) c.args.desk.now c.loop-index.desk c.deliver_sheet-next.new.desk
          c.loop-index.status c.deliver_sheet-next.result before.1 (c.deliver_sheet-next.ensures.delivers plots before.0)
          (λ xs ys first next. one_more folder file extension to c.args.count xs ys first next)),
    )

pub returns-clause-plots : goal.returns-clause-plots
returns-clause-plots g c = λ plots are. (c.loop-index.invariant plots are).0
