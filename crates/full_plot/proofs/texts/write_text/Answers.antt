use Rattle.std.proofs.Common.{rules, ◌∙◌, ap, Bool, Ok, Err, Option}
use Rattle.exact.specs.declared.spot.Spot.{Spot}
use Rattle.character_sets.specs.Texts.{signs}
use Rattle.hpgl_plot.specs.Machine as core
use Rattle.hpgl_plot.specs.declared.plotter.Stop.TheVariants.{OffRange}
use Rattle.hpgl_plot.proofs.Travels.{stopped}
use Rattle.plot_settings.specs.Meanings.{Write}
use Rattle.full_plot.specs.Texts.{label_by}
use Rattle.full_plot.proofs.AsInCore.{core_label}
use Rattle.full_plot.proofs.texts.write_text.Goals as goal

pub returns-in_err-write-clause-runs : goal.returns-in_err-write-clause-runs
returns-in_err-write-clause-runs c =
    let w = core.seen c.args.plotter.now in
    let v = core.seen c.write.new.self in
    let style = c.args.lettering.now.style in
    let reading = c.args.reading in
    let text = c.args.text.now in
    let label : Bool → Option core.World = λ is_bold. label_by is_bold style w (signs reading.encoding reading.sets text) in
    stopped (core.step w (Write text)) (label c.args.is_bold) v v c.in_err-write.field-0.0 c.from_residual.result
    (λ none. ap label c.if-is_bold.false ∙ core_label {U = Spot} w v style reading.encoding reading.sets text (Err OffRange) (search rules) (search rules) none)
    c.in_err-write.ensures c.from_residual.ensures.1

pub returns-in_ok-write-clause-runs : goal.returns-in_ok-write-clause-runs
returns-in_ok-write-clause-runs c =
    let reading = c.args.reading in
    let label : Bool → Option core.World = λ is_bold.
    label_by is_bold c.args.lettering.now.style (core.seen c.args.plotter.now) (signs reading.encoding reading.sets c.args.text.now) in
    ap label c.if-is_bold.false
    ∙ core_label {U = Spot} (core.seen c.args.plotter.now) (core.seen c.write.new.self) c.args.lettering.now.style reading.encoding reading.sets
    c.args.text.now (Ok c.margin_move.result) (search rules) (search rules) c.in_ok-write.ensures
