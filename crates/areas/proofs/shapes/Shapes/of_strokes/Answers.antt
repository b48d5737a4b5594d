use Rattle.areas.proofs.shapes.Shapes.of_strokes.Goals as goal

pub returns-clause-shapes : goal.returns-clause-shapes
returns-clause-shapes c = λ i. record { strokes = c.args.strokes.now; areas = c.none.ensures i }
