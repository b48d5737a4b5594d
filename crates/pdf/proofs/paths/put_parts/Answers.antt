use Rattle.pdf.proofs.Contained.{◌next◌}
use Rattle.pdf.proofs.paths.put_parts.Goals as goal

pub returns : goal.returns
returns g c = record {
  fills = c.put_part.ensures.fills
      next c.put.ensures.fills
      next c.put_part-2.ensures.fills
      next c.put-2.ensures.fills
      next c.put_part-3.ensures.fills;
}
