use Rattle.std.specs.Option.{option_map}
use Rattle.output_files.specs.Claims.{is_plot}
use Rattle.delivery.specs.Deliveries.{Anything}
use Rattle.delivery.specs.Folders.{IsOpened}
use Rattle.delivery.specs.Runs.{IsOutputDone, IsSingleDone, plot_item}
use Rattle.delivery.proofs.Delivered.{adapted, after_success, gone_wrong}
use Rattle.delivery.proofs.Folders.{opened_left}
use Rattle.delivery.proofs.Looking.{output_right}
use Rattle.delivery.proofs.run.deliver_found.Goals as goal

pub returns-in-Ok : goal.returns-in-Ok
returns-in-Ok g c =
    let plots = is_plot c.args.claims.now in
    let path = option_map (λ path. path.now) c.args.single.path in
    let file = c.in-Some.file.now in
    after_success g.D.Voice.does plots path (IsOpened file) (IsOutputDone (plot_item (option_map (λ file. file.now) c.args.single.file)) path) (IsSingleDone (option_map (λ file. file.now) c.args.single.file) path)
    c.args.desk.now c.open_plot.new.desk c.deliver_read.new.desk c.deliver_read.result (rw c.in-Ok.is at (c.open_plot.ensures.opens plots path))
    c.deliver_read.ensures
    (λ xs ys opened put. (rw c.in-Some.is (opened_left file xs ys opened), output_right (plot_item (option_map (λ file. file.now) c.args.single.file)) path xs ys put))

pub returns-in-Err : goal.returns-in-Err
returns-in-Err g c =
    let plots = is_plot c.args.claims.now in
    let path = option_map (λ path. path.now) c.args.single.path in
    gone_wrong g.D.Voice.does plots path (IsOpened c.in-Some.file.now) (IsSingleDone (option_map (λ file. file.now) c.args.single.file) path)
    c.args.desk.now c.open_plot.new.desk c.in-Err.status (rw c.in-Err.is at (c.open_plot.ensures.opens plots path))
    (rw c.in-Err.is at c.open_plot.ensures.failed)

pub returns-in-None : goal.returns-in-None
returns-in-None g c =
    let plots = is_plot c.args.claims.now in
    let path = option_map (λ path. path.now) c.args.single.path in
    adapted g.D.Voice.does plots path Anything Anything (IsOutputDone (plot_item (option_map (λ file. file.now) c.args.single.file)) path) (IsSingleDone (option_map (λ file. file.now) c.args.single.file) path)
    c.args.desk.now c.deliver_read-in-None.new.desk c.deliver_read-in-None.result c.deliver_read-in-None.ensures (λ _ _. tt)
    (λ deeds put. (rw c.in-None.is tt, put))
