use Rattle.std.proofs.Common.{◌≡◌, get_or, sym, ◌∙◌, arith}
use Rattle.stroke_raster.proofs.MarkLemmas.{no_marks}
use Rattle.stroke_raster.proofs.marks.MarksIterator.next.Goals as goal

pub cells-preserved : goal.cells-preserved
cells-preserved c =
    let marks = c.cells.self in
    let cells = marks.cells.now in
    let here : get_or cells marks.at 0 ≡ 0 = omega (arith, c.if-position-ne0.false) in
    record {
      same = sym (no_marks marks.first marks.columns marks.at c.after_blank-self.result cells c.after_blank-self.ensures.onward c.after_blank-self.ensures.within here c.after_blank-self.ensures.blank) ∙ c.cells.invariant.same;
      cells = c.cells.invariant.cells;
    }
