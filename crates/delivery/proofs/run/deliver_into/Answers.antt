use Rattle.std.proofs.Common.{Bor, List, None, map, refl, ℕ}
use Rattle.output_files.specs.Claims.{is_plot}
use Rattle.delivery.specs.Deliveries.{Anything}
use Rattle.delivery.specs.Folders.{ArePlotsPut}
use Rattle.delivery.proofs.Delivered.{after_success, gone_wrong}
use Rattle.delivery.proofs.Folders.{plots_right}
use Rattle.delivery.proofs.run.deliver_into.Goals as goal

abbrev texts : List (Bor (List ℕ)) → List (List ℕ)
texts files = map (λ (file : Bor (List ℕ)). file.now) files

pub returns-in-Ok : goal.returns-in-Ok
returns-in-Ok g c =
    let plots = is_plot c.args.claims.now in
    let folder = c.args.order.folder.now in
    let extension = c.args.order.extension.now in
    let files = texts c.args.order.files.now in
    after_success g.D.Voice.does plots None Anything (ArePlotsPut folder extension files) (ArePlotsPut folder extension files) c.args.desk.now
    c.check_folder.new.desk c.deliver_each.new.desk c.deliver_each.result (rw c.in-Ok.is at (c.check_folder.ensures.checks plots None))
    (c.deliver_each.ensures plots (λ _. refl)) (λ xs ys _ put. plots_right folder extension files xs ys put)

pub returns-in-Err : goal.returns-in-Err
returns-in-Err g c =
    let plots = is_plot c.args.claims.now in
    gone_wrong g.D.Voice.does plots None Anything (ArePlotsPut c.args.order.folder.now c.args.order.extension.now (texts c.args.order.files.now))
    c.args.desk.now c.check_folder.new.desk c.in-Err.status (rw c.in-Err.is at (c.check_folder.ensures.checks plots None))
    (rw c.in-Err.is at c.check_folder.ensures.failed)
