use Rattle.page_fit.proofs.Seen.{lie_on_the_page}
use Rattle.page_fit.proofs.laws.seen_strokes_lie_on_the_page.Goals as goal

pub returns : goal.returns
returns c pens longest margin on around strokes e is sides = lie_on_the_page pens longest margin on around strokes e is sides
