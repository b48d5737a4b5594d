use Rattle.pdf.proofs.Contained.{kept}
use Rattle.pdf.proofs.content.PageContent.put.Goals as goal

pub returns-else-bytes-self : goal.returns-else-bytes-self
returns-else-bytes-self g c = record { fills = kept c.requires.open c.keep.ensures.keeps }
