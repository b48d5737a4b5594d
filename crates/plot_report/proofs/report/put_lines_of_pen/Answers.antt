use Rattle.std.proofs.Common.{sym, append-nil, ◌∙◌, ◌++◌, List, ℕ, ap}
use Rattle.pieces.proofs.Texts.{◌then◌, none_put, puts_as}
use Rattle.pieces.specs.Texts.{Puts}
use Rattle.plot_report.specs.Summaries.{strokes_text}
use Rattle.plot_report.proofs.PenLines.{text_of_areas, text_of_no_areas, text_of_none, text_of_some}
use Rattle.plot_report.proofs.report.put_lines_of_pen.Goals as goal
use Rattle.plot_report.proofs.report.put_lines_of_pen.Goals.{then-of-gt0, else-of-gt0}

pub returns-then-of-gt0-2 : goal.returns-then-of-gt0-2
returns-then-of-gt0-2 g c =
    let of = c.args.of in
    let pen = c.args.pen in
    let edges = puts_as c.put_edges_line.ensures.puts (sym (text_of_areas pen of c.if-of-gt0-2.true)) in
    let strokes : Puts g.K.Sink.state c.args.text.now c.if-of-gt0.text (strokes_text pen of.strokes) = elim c.if-of-gt0.branch [
      | then-of-gt0 w ↦ rw w.text-is (puts_as w.put_pen_line.ensures.puts (sym (text_of_some pen of.strokes w.if-of-gt0.true)))
      | else-of-gt0 w ↦ rw w.text-is (puts_as (none_put c.requires.sound) (sym (text_of_none pen of.strokes w.if-of-gt0.false)))
    ] in
    record { puts = strokes then edges }

pub returns-else-of-gt0-2 : goal.returns-else-of-gt0-2
returns-else-of-gt0-2 g c =
    let of = c.args.of in
    let pen = c.args.pen in
    let strokes : Puts g.K.Sink.state c.args.text.now c.if-of-gt0.text (strokes_text pen of.strokes) = elim c.if-of-gt0.branch [
      | then-of-gt0 w ↦ rw w.text-is (puts_as w.put_pen_line.ensures.puts (sym (text_of_some pen of.strokes w.if-of-gt0.true)))
      | else-of-gt0 w ↦ rw w.text-is (puts_as (none_put c.requires.sound) (sym (text_of_none pen of.strokes w.if-of-gt0.false)))
    ] in
    let all = sym (append-nil (strokes_text pen of.strokes)) ∙ ap (λ (zs : List ℕ). strokes_text pen of.strokes ++ zs) (sym (text_of_no_areas pen of c.if-of-gt0-2.false)) in
    record { puts = puts_as strokes all }
