use Rattle.std.proofs.Common.{◌≡◌, ◌∙◌, List, ℕ, Result, sym, subst}
use Rattle.conversion.specs.Drawings.{AreLinesOf, HasReadAndDrawn, IsReasonOnFirst, place_of}
use Rattle.conversion.specs.Placements.{IsPlaced, Place, placed_rules}
use Rattle.conversion.specs.Rules.{Rules, rules_in}
use Rattle.conversion.specs.declared.drawing.ReadPlot.{ReadPlot}
use Rattle.conversion.specs.declared.fault.Fault.{Fault}
use Rattle.conversion.proofs.Choices.{not_drawn}
use Rattle.rows.proofs.Faults.{passed_on}
use Rattle.conversion.proofs.drawing.read_and_draw.Goals as goal

pub returns-clause-draws : goal.returns-clause-draws
returns-clause-draws g c =
    let reads = c.in_ok-text.ensures.reads in
    let rules : Rules = rules_in c.args.setup in
    let drawing = c.in_ok-drawing.drawing in
    let place : Place = place_of drawing in
    let same : c.as_slice.result.now ≡ reads.input = c.as_slice.ensures.value ∙ reads.reads.0 in
    record {
      drawn = record {
        input = reads.input;
        taken = reads.taken;
        draws = record {
          read = reads.reads.1;
          placed = subst (λ (plot : List ℕ). IsPlaced c.args.setup.choice rules c.args.pens c.args.page.now plot place) same c.in_ok-drawing.ensures.placed;
          lines = subst (λ (plot : List ℕ). AreLinesOf (placed_rules rules c.args.pens place) drawing.page plot drawing.lines) same c.in_ok-drawing.ensures.lines;
          named = c.in_ok-drawing.ensures.named;
        };
      };
      text = reads.reads.0;
    }

pub returns-in_err-drawing-clause-draws : goal.returns-in_err-drawing-clause-draws
returns-in_err-drawing-clause-draws g c =
    let reads = c.in_ok-text.ensures.reads in
    let was = g.S.Source.state c.args.source.now in
    let is = g.S.Source.state c.read_plot.new.source in
    let rules : Rules = rules_in c.args.setup in
    let same : c.as_slice.result.now ≡ reads.input = c.as_slice.ensures.value ∙ reads.reads.0 in
    let reason = subst (λ (plot : List ℕ). IsReasonOnFirst c.args.setup.choice rules c.args.page.now plot c.in_err-drawing.field-0.0) same c.in_err-drawing.ensures.refused in
    subst (λ (answer : Result ReadPlot Fault). HasReadAndDrawn rules c.args.setup.choice c.args.pens c.args.page.now was is answer) (sym (passed_on _ _ c.from_residual-in_err-drawing.ensures.1))
    (record {
      drawn = record {
        input = reads.input;
        taken = reads.taken;
        draws = not_drawn rules c.args.setup.choice c.args.pens c.args.page.now reads.input was is c.in_err-drawing.field-0.0 reads.reads.1 reason;
      };
      text = tt;
    })
