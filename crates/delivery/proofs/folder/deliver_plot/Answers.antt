use Rattle.std.proofs.Common.{None}
use Rattle.delivery.specs.Folders.{IsOpened, IsOutputPut, IsPlotPut}
use Rattle.delivery.proofs.Delivered.{after_success, gone_wrong}
use Rattle.delivery.proofs.Folders.{plot_put}
use Rattle.delivery.proofs.folder.deliver_plot.Goals as goal

pub returns-in-Ok-clause-delivers : goal.returns-in-Ok-clause-delivers
returns-in-Ok-clause-delivers g c = λ plots are.
    let folder = c.args.target.folder.now in
    let file = c.args.target.file.now in
    let extension = c.args.target.extension.now in
    after_success g.D.Voice.does plots None (IsOpened file) (IsOutputPut folder file extension) (IsPlotPut folder extension file) c.args.desk.now
    c.open_plot.new.desk c.deliver_opened.new.desk c.deliver_opened.result (rw c.in-Ok.is at (c.open_plot.ensures.opens plots None))
    (c.deliver_opened.ensures.delivers plots are) (λ xs ys first next. plot_put folder extension file xs ys first next)

pub returns-in-Err-clause-delivers : goal.returns-in-Err-clause-delivers
returns-in-Err-clause-delivers g c = λ plots _.
    let folder = c.args.target.folder.now in
    let file = c.args.target.file.now in
    let extension = c.args.target.extension.now in
    gone_wrong g.D.Voice.does plots None (IsOpened file) (IsPlotPut folder extension file) c.args.desk.now c.open_plot.new.desk c.in-Err.status
    (rw c.in-Err.is at (c.open_plot.ensures.opens plots None)) (rw c.in-Err.is at c.open_plot.ensures.failed)
