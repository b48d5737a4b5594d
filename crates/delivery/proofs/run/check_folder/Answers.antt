use Rattle.std.proofs.Common.{arith, refl}
use Rattle.std.specs.Result.{result_ok}
use Rattle.delivery.specs.Deliveries.{Anything}
use Rattle.delivery.proofs.Delivered.{after_look, nothing_yet, only_refused}
use Rattle.delivery.proofs.run.check_folder.Goals as goal

pub returns-in-Some-clause-checks : goal.returns-in-Some-clause-checks
returns-in-Some-clause-checks g c = λ plots own.
    after_look g.D.Voice.does plots own Anything Anything Anything c.args.desk.now c.look.new.self c.cannot_write.new.desk c.args.order.folder.now
    (result_ok c.look.result) c.cannot_write.result c.look.ensures
    (only_refused g.D.Voice.does plots own Anything Anything c.look.new.self c.cannot_write.new.desk c.cannot_write.result
    c.cannot_write.ensures.says.0 c.cannot_write.ensures.says.1 (omega (arith, c.cannot_write.ensures.status)))
    (λ _ _. tt) (λ _ _. tt)

pub returns-in-None-clause-checks : goal.returns-in-None-clause-checks
returns-in-None-clause-checks g c = λ plots own.
    after_look g.D.Voice.does plots own Anything Anything Anything c.args.desk.now c.look.new.self c.look.new.self c.args.order.folder.now
    (result_ok c.look.result) 0 c.look.ensures (nothing_yet g.D.Voice.does plots own Anything c.look.new.self c.look.new.self refl (λ _. tt))
    (λ _ _. tt) (λ _ _. tt)

pub returns-in-Err-clause-checks : goal.returns-in-Err-clause-checks
returns-in-Err-clause-checks g c = λ plots own.
    after_look g.D.Voice.does plots own Anything Anything Anything c.args.desk.now c.look.new.self c.refuse_write.new.desk c.args.order.folder.now
    (result_ok c.look.result) c.refuse_write.result c.look.ensures
    (only_refused g.D.Voice.does plots own Anything Anything c.look.new.self c.refuse_write.new.desk c.refuse_write.result
    c.refuse_write.ensures.says.0 c.refuse_write.ensures.says.1 (omega (arith, c.refuse_write.ensures.status)))
    (λ _ _. tt) (λ _ _. tt)
