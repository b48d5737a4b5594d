use Rattle.std.proofs.Common.{arith, inr}
use Rattle.delivery.specs.Deliveries.{Anything}
use Rattle.delivery.specs.Folders.{IsOpened, refused_status}
use Rattle.delivery.proofs.Delivered.{after_look, only_refused}
use Rattle.delivery.proofs.folder.open_file.Goals as goal

pub returns-then-has_folder-clause-opens : goal.returns-then-has_folder-clause-opens
returns-then-has_folder-clause-opens g c = λ plots own.
    let path = c.args.path.now in
    after_look g.D.Voice.does plots own Anything Anything (IsOpened path) c.args.desk.now c.has_folder.new.desk c.refuse_folder.new.desk path c.has_folder.ensures.0
    c.refuse_folder.result c.has_folder.ensures.1
    (only_refused g.D.Voice.does plots own Anything (IsOpened path) c.has_folder.new.desk c.refuse_folder.new.desk c.refuse_folder.result
    c.refuse_folder.ensures.says.0 c.refuse_folder.ensures.says.1 (omega (arith, c.refuse_folder.ensures.status)))
    (λ _ _. tt) (λ _ has. inr has)

pub returns-clause-opens : goal.returns-clause-opens
returns-clause-opens g c = λ plots own.
    let path = c.args.path.now in
    after_look g.D.Voice.does plots own Anything Anything (IsOpened path) c.args.desk.now c.has_folder.new.desk c.open_any.new.desk path c.has_folder.ensures.0
    (refused_status c.open_any.result) c.has_folder.ensures.1 (c.open_any.ensures.opens plots own) (λ _ _. tt) (λ _ has. inr has)
