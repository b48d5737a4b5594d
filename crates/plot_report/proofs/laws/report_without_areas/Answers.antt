use Rattle.std.proofs.Common.{◌++◌, ◌∙◌, List, [], ℕ, ap, sym, append-nil, append_assoc, flat_map}
use Rattle.areas.specs.Shapes.{shapes}
use Rattle.plot_report.specs.Report.{note_line, page_line, pen_lines, shape_lines, sheets_line, strokes_line}
use Rattle.plot_report.proofs.Plain.{lines_without_areas}
use Rattle.plot_report.proofs.laws.report_without_areas.Goals as goal

pub returns : goal.returns
returns c =
    let strokes = c.args.strokes.now in
    let before = page_line c.args.page ++ sheets_line c.args.sheets in
    let after = flat_map note_line c.args.notes.now in
    let images = append-nil (before ++ shape_lines 0 (shapes strokes [])) in
    ap (λ (zs : List ℕ). zs ++ after) images
    ∙ ap (λ (zs : List ℕ). (before ++ zs) ++ after) (lines_without_areas strokes)
    ∙ ap (λ (zs : List ℕ). zs ++ after) (sym (append_assoc before (strokes_line strokes) (pen_lines strokes)))
