use Rattle.std.proofs.Common.{drop, flat_map}
use Rattle.pieces.proofs.Texts.{Left}
use Rattle.plot_report.specs.Report.{image_line}
use Rattle.plot_report.proofs.report.put_images.Given as goal

-- the lines of the images that are left
abbrev pub invariant-loop-image : goal.invariant-loop-image
invariant-loop-image g l =
    Left g.K.Sink.state l.fn.text l.text (flat_map image_line (drop l.image-index l.images)) (flat_map image_line l.images)
