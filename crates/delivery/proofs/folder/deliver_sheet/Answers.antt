use Rattle.std.proofs.Common.{None, ℕ, List, Option, inl, refl, subst}
use Rattle.delivery.specs.Deeds.{Item}
use Rattle.delivery.specs.Deliveries.{Anything, IsPut}
use Rattle.delivery.specs.Folders.{IsPutAt, IsSheetPut}
use Rattle.delivery.proofs.Delivered.{adapted, only_refused}
use Rattle.delivery.proofs.folder.deliver_sheet.Goals as goal

pub returns-in-Err-clause-delivers : goal.returns-in-Err-clause-delivers
returns-in-Err-clause-delivers g c = λ plots _.
    only_refused g.D.Voice.does plots None Anything
    (IsSheetPut c.args.target.folder.now c.args.target.file.now c.args.target.extension.now c.args.number c.args.count)
    c.args.desk.now c.refuse_path.new.desk c.refuse_path.result c.refuse_path.ensures.says.0 c.refuse_path.ensures.says.1 c.refuse_path.ensures.status

pub returns-clause-delivers : goal.returns-clause-delivers
returns-clause-delivers g c = λ plots are.
    let sheet = IsSheetPut c.args.target.folder.now c.args.target.file.now c.args.target.extension.now c.args.number c.args.count in
    let item : Item = record { file = c.args.target.file.now; sheet = c.args.number } in
    adapted g.D.Voice.does plots None Anything Anything (IsPut item c.as_str.result.now) sheet c.args.desk.now c.deliver_at.new.desk c.deliver_at.result
    (c.deliver_at.ensures.delivers plots are) (λ _ _. tt)
    (λ deeds put. (item, inl refl, subst (λ (path : Option (List ℕ)). IsPutAt item path deeds) c.in-Ok.ensures.path (subst (λ (path : List ℕ). IsPut item path deeds) c.as_str.ensures.value put)))
