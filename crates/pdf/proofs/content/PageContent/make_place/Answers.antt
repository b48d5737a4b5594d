use Rattle.pdf.proofs.Contained.{nothing}
use Rattle.pdf.proofs.content.PageContent.make_place.Goals as goal

pub returns-else-self-eq-PIECE-clause-fills : goal.returns-else-self-eq-PIECE-clause-fills
returns-else-self-eq-PIECE-clause-fills g c = nothing c.requires.open
