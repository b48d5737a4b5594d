use Rattle.std.proofs.Common.{None, arith}
use Rattle.output_files.specs.Claims.{is_claimed}
use Rattle.delivery.specs.Deeds.{Deed}
use Rattle.delivery.specs.Deliveries.{Anything, IsPut}
use Rattle.delivery.specs.Folders.{IsClear}
use Rattle.delivery.proofs.Delivered.{after_look, only_refused, put_later}
use Rattle.delivery.proofs.Folders.{clear_after, kept_plots}
use Rattle.delivery.proofs.folder.deliver_at.Goals as goal

pub returns-in_default-clause-delivers : goal.returns-in_default-clause-delivers
returns-in_default-clause-delivers g c = λ plots _.
    let path = c.args.path.now in
    let found = c.id_at-found.ensures.0 in
    after_look g.D.Voice.does plots None Anything Anything (IsPut (g.C.Content.item c.args.content) path) c.args.desk.now c.id_at-found.new.desk c.refuse_memory.new.desk path found
    c.refuse_memory.result c.id_at-found.ensures.1
    (only_refused g.D.Voice.does plots None Anything (IsPut (g.C.Content.item c.args.content) path) c.id_at-found.new.desk c.refuse_memory.new.desk c.refuse_memory.result
    c.refuse_memory.ensures.says.0 c.refuse_memory.ensures.says.1 (omega (arith, c.refuse_memory.ensures.status)))
    (λ _ _. tt) (λ deeds put. put_later (g.C.Content.item c.args.content) path (Deed.looked path found) deeds put)

pub returns-clause-delivers : goal.returns-clause-delivers
returns-clause-delivers g c = λ plots are.
    let path = c.args.path.now in
    let found = c.id_at-found.ensures.0 in
    after_look g.D.Voice.does plots None Anything (IsClear plots c.in-Ok.claim path) (IsPut (g.C.Content.item c.args.content) path) c.args.desk.now c.id_at-found.new.desk c.deliver_claimed.new.desk path found
    c.deliver_claimed.result c.id_at-found.ensures.1
    (c.deliver_claimed.ensures plots (kept_plots c.args.claims.now c.claim.new.self plots c.claim.ensures.plots are))
    (λ earlier _. clear_after c.args.claims.now plots (is_claimed c.args.claims.now path) c.in-Ok.claim path found c.id_at-found.result earlier are
    c.id_at-found.ensures.2 c.in-Ok.ensures.answer)
    (λ deeds put. put_later (g.C.Content.item c.args.content) path (Deed.looked path found) deeds put)
