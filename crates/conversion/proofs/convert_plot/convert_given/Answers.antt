use Rattle.std.proofs.Common.{Result, Ok, Err, refl, sym, ap, subst, arith}
use Rattle.rows.specs.Contents.{contents_in}
use Rattle.conversion.specs.Conversions.{HasConvertedBy}
use Rattle.conversion.specs.Rules.{rules_in, rules_of}
use Rattle.conversion.specs.declared.done.Done.{Done}
use Rattle.conversion.specs.declared.fault.Fault.{Fault}
use Rattle.conversion.proofs.Choices.{converted_given, drawn_so, not_converted_given}
use Rattle.rows.proofs.Faults.{passed_on}
use Rattle.conversion.proofs.convert_plot.convert_given.Goals as goal

pub returns-in_err-drawing-clause-converts : goal.returns-in_err-drawing-clause-converts
returns-in_err-drawing-clause-converts g c =
    let made = c.in_ok-request.ensures in
    let shown = ap (λ p. p.now) made.picture in
    let job = c.args.job.now in
    let reaches = g.G.Gauge.reaches c.args.gauge.now in
    let was = g.S.Source.state c.args.source.now in
    let is = g.S.Source.state c.draw.new.source in
    let sink = g.K.Sink.state c.args.sink.now in
    let count = g.G.Gauge.count c.args.gauge.now in
    let drawn = drawn_so c.args.reading c.empty.result _ job reaches was is c.empty.ensures c.in_ok-request.request.setup c.in_ok-request.request.picture.now _
    (ap rules_in made.setup) (ap (λ s. s.choice) made.setup) (ap (λ s. s.turn) made.setup) shown c.in_err-drawing.ensures.draws in
    subst (λ (answer : Result Done Fault). HasConvertedBy (rules_of c.args.reading) job reaches was is sink sink count count answer) (sym (passed_on _ _ c.from_residual-in_err-drawing.ensures.1))
    (not_converted_given c.args.reading c.empty.result c.all-rows.result job reaches was is c.empty.ensures sink count _ drawn)

pub returns-in-Ok-clause-converts : goal.returns-in-Ok-clause-converts
returns-in-Ok-clause-converts g c =
    let made = c.in_ok-request.ensures in
    let shown = ap (λ p. p.now) made.picture in
    let reaches = g.G.Gauge.reaches c.args.gauge.now in
    let was = g.S.Source.state c.args.source.now in
    let is = g.S.Source.state c.draw.new.source in
    let drawn = drawn_so c.args.reading c.empty.result _ c.args.job.now reaches was is c.empty.ensures c.in_ok-request.request.setup c.in_ok-request.request.picture.now _
    (ap rules_in made.setup) (ap (λ s. s.choice) made.setup) (ap (λ s. s.turn) made.setup) shown c.in_ok-drawing.ensures.draws in
    converted_given c.args.reading c.empty.result c.all-rows.result c.args.job.now reaches was is c.empty.ensures _ _ _ _ c.in_ok-drawing.drawing (contents_in c.contents_on.result) (Ok c.in-Ok.outcome)
    (ap (λ s. s.times) c.all-rows.ensures.smoothing) c.all-rows.ensures.rows drawn c.contents_on.ensures.contents c.in-Ok.ensures.writes c.in-Ok.ensures.tests

pub returns-clause-converts : goal.returns-clause-converts
returns-clause-converts g c =
    let made = c.in_ok-request.ensures in
    let shown = ap (λ p. p.now) made.picture in
    let reaches = g.G.Gauge.reaches c.args.gauge.now in
    let was = g.S.Source.state c.args.source.now in
    let is = g.S.Source.state c.draw.new.source in
    let drawn = drawn_so c.args.reading c.empty.result _ c.args.job.now reaches was is c.empty.ensures c.in_ok-request.request.setup c.in_ok-request.request.picture.now _
    (ap rules_in made.setup) (ap (λ s. s.choice) made.setup) (ap (λ s. s.turn) made.setup) shown c.in_ok-drawing.ensures.draws in
    converted_given c.args.reading c.empty.result c.all-rows.result c.args.job.now reaches was is c.empty.ensures _ _ _ _ c.in_ok-drawing.drawing (contents_in c.contents_on.result) (Err c.in-Err.fault)
    (ap (λ s. s.times) c.all-rows.ensures.smoothing) c.all-rows.ensures.rows drawn c.contents_on.ensures.contents c.in-Err.ensures.writes c.in-Err.ensures.tests
