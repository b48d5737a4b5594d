use Rattle.std.proofs.Common.{Err, Ok, ap, rules, subst, ◌∙◌}
use Rattle.rows.specs.Contents.{ContentList}
use Rattle.conversion.specs.Rules.{ends_of}
use Rattle.conversion.specs.Sheets.{TellsOf}
use Rattle.conversion.proofs.Vectors.{fault_again, never_letters, no_fault, puts_same, same_fault, same_letters}
use Rattle.conversion.proofs.vector_sheet.write_vector_sheet.Goals as goal
use Rattle.conversion.proofs.vector_sheet.write_vector_sheet.Goals.{in-Svg+in_ok-put_svg-in-Svg, in-Pdf+in_ok-put_pdf-in-Pdf, in-Dxf+in_ok-put_dxf-in-Dxf}

pub returns-clause-writes : goal.returns-clause-writes
returns-clause-writes g c =
    let drawing = c.args.drawing.now in
    let contents = c.contents_on-contents.ensures.contents in
    let ends = c.ends_in-ends.ensures ∙ ap (ends_of c.args.sheet) c.as_slice.ensures.value in
    let image_ends = c.ends_in-image_ends.ensures ∙ ap (ends_of c.args.sheet) c.as_slice-2.ensures.value in
    let labels = c.labels_written-before.ensures in
    record {
      puts = elim c.match-job.branch [
        | in-Svg+in_ok-put_svg-in-Svg w ↦
            puts_same c.outcome_of.result w.in_ok-put_svg-in-Svg.field-0 c.args.job.now.format _ c.args.naming drawing.page c.args.job.now.pens _ _ _ _ _ _ _ _ _ _ _
            w.in-Svg.is contents ends image_ends labels (ap g.K.Sink.state w.sink-is) w.in_ok-put_svg-in-Svg.ensures.puts
        | in-Pdf+in_ok-put_pdf-in-Pdf w ↦
            puts_same c.outcome_of.result w.in_ok-put_pdf-in-Pdf.field-0 c.args.job.now.format _ c.args.naming drawing.page c.args.job.now.pens _ _ _ _ _ _ _ _ _ _ _
            w.in-Pdf.is contents ends image_ends labels (ap g.K.Sink.state w.sink-is) w.in_ok-put_pdf-in-Pdf.ensures.puts
        | in-Dxf+in_ok-put_dxf-in-Dxf w ↦
            puts_same c.outcome_of.result w.in_ok-put_dxf-in-Dxf.field-0 c.args.job.now.format _ c.args.naming drawing.page c.args.job.now.pens _ _ _ _ _ _ _ _ _ _ _
            w.in-Dxf.is contents ends image_ends labels (ap g.K.Sink.state w.sink-is) w.in_ok-put_dxf-in-Dxf.ensures.puts
      ];
      letters = elim c.match-job.branch [
        | in-Svg+in_ok-put_svg-in-Svg w ↦
            same_letters _ _ c.args.job.now.format _ _ _ w.in-Svg.is labels (no_fault _ _) (no_fault _ _)
            (never_letters {U = Unit {0}} (Ok w.in_ok-put_svg-in-Svg.field-0) w.in_ok-put_svg-in-Svg.ensures.letters)
        | in-Dxf+in_ok-put_dxf-in-Dxf w ↦
            same_letters _ _ c.args.job.now.format _ _ _ w.in-Dxf.is labels (no_fault _ _) (no_fault _ _)
            (never_letters {U = Unit {0}} (Ok w.in_ok-put_dxf-in-Dxf.field-0) w.in_ok-put_dxf-in-Dxf.ensures.letters)
        | in-Pdf+in_ok-put_pdf-in-Pdf w ↦
            same_letters _ _ c.args.job.now.format _ _ _ w.in-Pdf.is labels (no_fault _ _) (no_fault _ _) w.in_ok-put_pdf-in-Pdf.ensures.letters
      ];
      rows = c.outcome_of.ensures.rows;
      bytes = c.outcome_of.ensures.bytes;
      tells = subst (λ (s : ContentList). TellsOf drawing c.args.job.now.pens s c.outcome_of.result) contents c.outcome_of.ensures.tells;
    }

pub returns-in_err-put_svg-in-Svg-clause-writes : goal.returns-in_err-put_svg-in-Svg-clause-writes
returns-in_err-put_svg-in-Svg-clause-writes g c =
    let labels = c.labels_written-before.ensures in
    let e = c.in_err-put_svg-in-Svg.field-0.0 in
    record {
      puts = search rules;
      letters = same_letters _ c.from_residual.result c.args.job.now.format _ _ _ c.in-Svg.is labels (same_fault _ e c.from_residual.ensures.1) (fault_again _ e c.from_residual.ensures.1)
          (never_letters {U = Unit {0}} (Err e) c.in_err-put_svg-in-Svg.ensures.letters);
      rows = search rules;
      bytes = search rules;
      tells = search rules;
    }

pub returns-in_err-put_pdf-in-Pdf-clause-writes : goal.returns-in_err-put_pdf-in-Pdf-clause-writes
returns-in_err-put_pdf-in-Pdf-clause-writes g c =
    let labels = c.labels_written-before.ensures in
    let e = c.in_err-put_pdf-in-Pdf.field-0.0 in
    record {
      puts = search rules;
      letters = same_letters _ c.from_residual-in_err-put_pdf-in-Pdf.result c.args.job.now.format _ _ _ c.in-Pdf.is labels (same_fault _ e c.from_residual-in_err-put_pdf-in-Pdf.ensures.1) (fault_again _ e c.from_residual-in_err-put_pdf-in-Pdf.ensures.1)
          c.in_err-put_pdf-in-Pdf.ensures.letters;
      rows = search rules;
      bytes = search rules;
      tells = search rules;
    }

pub returns-in_err-put_dxf-in-Dxf-clause-writes : goal.returns-in_err-put_dxf-in-Dxf-clause-writes
returns-in_err-put_dxf-in-Dxf-clause-writes g c =
    let labels = c.labels_written-before.ensures in
    let e = c.in_err-put_dxf-in-Dxf.field-0.0 in
    record {
      puts = search rules;
      letters = same_letters _ c.from_residual-in_err-put_dxf-in-Dxf.result c.args.job.now.format _ _ _ c.in-Dxf.is labels (same_fault _ e c.from_residual-in_err-put_dxf-in-Dxf.ensures.1) (fault_again _ e c.from_residual-in_err-put_dxf-in-Dxf.ensures.1)
          (never_letters {U = Unit {0}} (Err e) c.in_err-put_dxf-in-Dxf.ensures.letters);
      rows = search rules;
      bytes = search rules;
      tells = search rules;
    }
