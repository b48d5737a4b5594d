use Rattle.std.proofs.Common.{None, arith, inl, refl}
use Rattle.delivery.specs.Deeds.{Item}
use Rattle.delivery.specs.Deliveries.{Anything, IsPut}
use Rattle.delivery.specs.Folders.{AreSheetsPut, IsClear, IsOutputPut}
use Rattle.delivery.proofs.Delivered.{adapted, only_refused}
use Rattle.delivery.proofs.Folders.{only_sheet}
use Rattle.delivery.proofs.folder.deliver_sheets.Goals as goal

pub returns-in-Err-clause-delivers : goal.returns-in-Err-clause-delivers
returns-in-Err-clause-delivers g c = λ plots _.
    only_refused g.D.Voice.does plots None (IsClear plots c.args.only.claim c.args.only.path.now) (IsOutputPut c.args.target.folder.now c.args.target.file.now c.args.target.extension.now) c.args.desk.now
    c.refuse_drawing.new.desk c.refuse_drawing.result c.refuse_drawing.ensures.says.0 c.refuse_drawing.ensures.says.1 c.refuse_drawing.ensures.status

pub returns-then-count-lt2-clause-delivers : goal.returns-then-count-lt2-clause-delivers
returns-then-count-lt2-clause-delivers g c = λ plots are.
    let output = IsOutputPut c.args.target.folder.now c.args.target.file.now c.args.target.extension.now in
    let item : Item = record { file = c.args.target.file.now; sheet = 1 } in
    adapted g.D.Voice.does plots None (IsClear plots c.args.only.claim c.args.only.path.now) (IsClear plots c.args.only.claim c.args.only.path.now) (IsPut item c.args.only.path.now) output c.args.desk.now c.deliver_claimed.new.desk c.deliver_claimed.result
    (c.deliver_claimed.ensures plots are) (λ _ clear. clear)
    (λ deeds put. only_sheet c.args.target.folder.now c.args.target.file.now c.args.target.extension.now c.args.only.path.now item deeds (inl refl) c.requires put)

pub returns-clause-delivers : goal.returns-clause-delivers
returns-clause-delivers g c = λ plots are.
    let folder = c.args.target.folder.now in
    let file = c.args.target.file.now in
    let extension = c.args.target.extension.now in
    let count = c.count-count.result in
    adapted g.D.Voice.does plots None (IsClear plots c.args.only.claim c.args.only.path.now) Anything (AreSheetsPut folder file extension count count) (IsOutputPut folder file extension) c.args.desk.now
    c.deliver_all.new.desk c.deliver_all.result (c.deliver_all.ensures.delivers plots are) (λ _ _. tt)
    (λ deeds put. (count, omega (arith, c.if-count-lt2.false), put))
