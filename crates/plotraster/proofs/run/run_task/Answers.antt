use Rattle.std.proofs.Common.{Err, ap, subst, sym}
use Rattle.command_line.specs.declared.line.Task.{Task}
use Rattle.plotraster.specs.Runs.{HasRun}
use Rattle.plotraster.proofs.Asked.{not_asked, not_drawn, written}
use Rattle.plotraster.proofs.run.run_task.Goals as goal

pub returns-in-Ok-draw_sheets-clause-runs : goal.returns-in-Ok-draw_sheets-clause-runs
returns-in-Ok-draw_sheets-clause-runs g c =
    let made = c.in-Ok.ensures in
    subst (λ (task : Task). HasRun c.args.setup task c.args.naming (g.S.Source.state c.args.source.now) (g.S.Source.state c.draw_sheets.new.source) (g.K.Sink.state c.args.sink) (g.K.Sink.state c.write_sheet.result.0) g.W.Watcher.hears c.args.watcher.now c.write_sheet.new.watcher c.write_sheet.result.1) (sym c.in-Picture.is)
    (written g.W.Watcher.hears c.args.setup c.in-Picture.picture c.args.naming c.in-Ok.request made.setup (ap (λ p. p.now) made.picture) made.naming _ _ _ _ _ _ c.in-Ok-draw_sheets.drawing _ c.in-Ok-draw_sheets.ensures.draws c.write_sheet.ensures.writes c.write_sheet.ensures.told)

pub returns-in-Err-draw_sheets-clause-runs : goal.returns-in-Err-draw_sheets-clause-runs
returns-in-Err-draw_sheets-clause-runs g c =
    let made = c.in-Ok.ensures in
    let fault = c.in-Err-draw_sheets.fault in
    subst (λ (task : Task). HasRun c.args.setup task c.args.naming (g.S.Source.state c.args.source.now) (g.S.Source.state c.draw_sheets.new.source) (g.K.Sink.state c.args.sink) (g.K.Sink.state c.args.sink) g.W.Watcher.hears c.args.watcher.now c.args.watcher.now (Err fault)) (sym c.in-Picture.is)
    (not_drawn g.W.Watcher.hears c.args.setup c.in-Picture.picture c.args.naming c.in-Ok.request made.setup (ap (λ p. p.now) made.picture) made.naming _ _ _ _ fault c.in-Err-draw_sheets.ensures.draws)

pub returns-in-Err-clause-runs : goal.returns-in-Err-clause-runs
returns-in-Err-clause-runs g c =
    let made = c.in-Err.ensures in
    let fault = c.in-Err.fault in
    subst (λ (task : Task). HasRun c.args.setup task c.args.naming (g.S.Source.state c.args.source.now) (g.S.Source.state c.args.source.now) (g.K.Sink.state c.args.sink) (g.K.Sink.state c.args.sink) g.W.Watcher.hears c.args.watcher.now c.args.watcher.now (Err fault)) (sym c.in-Picture.is)
    (not_asked g.W.Watcher.hears c.args.setup c.in-Picture.picture c.args.naming _ _ _ fault made.only (made.resolution.0 (ap Err made.only)))
