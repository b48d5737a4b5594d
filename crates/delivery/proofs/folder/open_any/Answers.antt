use Rattle.delivery.proofs.Delivered.{not_opened, opened}
use Rattle.delivery.proofs.folder.open_any.Goals as goal

pub returns-in-Ok-clause-opens : goal.returns-in-Ok-clause-opens
returns-in-Ok-clause-opens g c = λ plots own. opened g.D.Voice.does plots own c.args.desk.now c.open.new.self c.args.path.now (rw c.in-Ok.is at c.open.ensures)

pub returns-in-Err-clause-opens : goal.returns-in-Err-clause-opens
returns-in-Err-clause-opens g c = λ plots own.
    not_opened g.D.Voice.does plots own c.args.desk.now c.open.new.self c.refuse_open.new.desk c.args.path.now c.refuse_open.result
    (rw c.in-Err.is at c.open.ensures) c.refuse_open.ensures.says c.refuse_open.ensures.status
