use Rattle.std.proofs.Common.{sym}
use Rattle.pieces.proofs.Texts.{none_put, puts_as}
use Rattle.plot_report.proofs.PenLines.{line_of_images, line_of_no_images}
use Rattle.plot_report.proofs.report.put_image_count.Goals as goal

pub returns-then-images-gt0 : goal.returns-then-images-gt0
returns-then-images-gt0 g c = record { puts = puts_as c.put_images_line.ensures.puts (sym (line_of_images c.args.images c.if-images-gt0.true)) }

pub returns-else-images-gt0 : goal.returns-else-images-gt0
returns-else-images-gt0 g c = record { puts = puts_as (none_put c.requires.sound) (sym (line_of_no_images c.args.images c.if-images-gt0.false)) }
