use Rattle.std.proofs.Common.{None, arith}
use Rattle.delivery.specs.Deliveries.{IsPut}
use Rattle.delivery.specs.Folders.{IsClear}
use Rattle.delivery.proofs.Delivered.{only_refused}
use Rattle.delivery.proofs.Folders.{by_claims}
use Rattle.delivery.proofs.folder.deliver_claimed.Goals as goal

pub returns-in-Taken : goal.returns-in-Taken
returns-in-Taken g c = λ plots _.
    only_refused g.D.Voice.does plots None (IsClear plots c.args.claimed.claim c.args.claimed.path.now) (IsPut (g.C.Content.item c.args.content) c.args.claimed.path.now) c.args.desk.now c.cannot_write.new.desk c.cannot_write.result
    c.cannot_write.ensures.says.0 c.cannot_write.ensures.says.1 (omega (arith, c.cannot_write.ensures.status))

pub returns-in-Plot : goal.returns-in-Plot
returns-in-Plot g c = λ plots _.
    only_refused g.D.Voice.does plots None (IsClear plots c.args.claimed.claim c.args.claimed.path.now) (IsPut (g.C.Content.item c.args.content) c.args.claimed.path.now) c.args.desk.now c.refuse_plot.new.desk c.refuse_plot.result
    c.refuse_plot.ensures.says.0 c.refuse_plot.ensures.says.1 (omega (arith, c.refuse_plot.ensures.status))

pub returns-in-Free : goal.returns-in-Free
returns-in-Free g c = λ plots are.
    by_claims g.D.Voice.does c.args.claims.now plots c.args.claimed.claim c.args.desk.now c.deliver_to.new.desk (g.C.Content.item c.args.content) c.args.claimed.path.now c.deliver_to.result are
    c.in-Free.is (c.deliver_to.ensures None)
