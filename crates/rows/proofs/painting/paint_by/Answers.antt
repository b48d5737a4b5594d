use Rattle.std.proofs.Common.{◌≡◌, ℕ, List, ap, ap₂, sym, subst, ◌∙◌, Result, rules, None}
use Rattle.picture_out.specs.Forms.{foot_bytes, head_bytes}
use Rattle.plot_page.specs.Resolutions.{rows_of}
use Rattle.plot_page.specs.declared.page.Page.{Page}
use Rattle.plot_page.specs.declared.dots.Dots.{Dots}
use Rattle.rows.specs.Pictures.{Reach, end_of, foot_if, head_of, job_fault}
use Rattle.rows.specs.ImagePictures.{contents_row}
use Rattle.rows.specs.Progress.{HasPainted}
use Rattle.rows.specs.declared.fault.PictureFault.{PictureFault}
use Rattle.rows.proofs.Faults.{passed_on}
use Rattle.rows.proofs.WrittenRows.{stops_same, whole_same}
use Rattle.rows.proofs.painting.paint_by.Goals as goal

pub returns-in_err-bytes-clause-paints : goal.returns-in_err-bytes-clause-paints
returns-in_err-bytes-clause-paints g c = λ n contents asked.
    let job = c.args.job.now in
    let form = job.form in
    let made = c.in_ok-bands.ensures in
    let reaches : Reach = g.G.Gauge.reaches c.args.gauge.now in
    let bands = c.in_ok-bands.bands in
    let rows = g.B.Bands.rows bands in
    let end = g.B.Bands.end bands in
    let tall : rows ≡ rows_of job.page job.dots = made.rows ∙ ap₂ (λ (p : Page) (d : Dots). rows_of p d) c.requires.page c.requires.dots in
    let text : g.B.Bands.row_text bands reaches ≡ contents_row n job reaches contents = ap (λ (f : Reach → ℕ → List ℕ). f reaches) made.text ∙ asked in
    let head : head_bytes form c.per_inch.result c.columns-columns.result rows ≡ head_of form job.page job.dots =
    ap (λ (d : ℕ). head_bytes form d c.columns-columns.result rows) c.per_inch.ensures
    ∙ ap (λ (n : ℕ). head_bytes form job.dots.resolution n rows) c.columns-columns.ensures.count
    ∙ ap (head_bytes form job.dots.resolution _) tall in
    let stop = end_of c.args.most_rows job.first_row (rows_of job.page job.dots) in
    let ends : end ≡ stop = made.end ∙ c.end_of-end.ensures.end ∙ ap (end_of c.args.most_rows job.first_row) (c.rows.ensures.count ∙ ap₂ (λ (p : Page) (d : Dots). rows_of p d) c.requires.page c.requires.dots) in
    let foot : foot_if (foot_bytes form) rows end ≡ foot_if (foot_bytes form) (rows_of job.page job.dots) stop = ap₂ (foot_if (foot_bytes form)) tall ends in
    let fine : job_fault job ≡ None = search rules in
    let stops = stops_same _ (head_of form job.page job.dots) _ (contents_row n job reaches contents) _ _ end stop _ job.first_row _ _ c.in_err-bytes.field-0.0 head text foot ends made.next c.in_err-bytes.ensures.writes in
    subst (λ (answer : Result ℕ PictureFault). HasPainted n c.args.most_rows job reaches contents (g.K.Sink.state c.args.sink.now) (g.K.Sink.state c.write_picture.new.sink) answer)
    (sym (passed_on _ _ c.from_residual-in_err-bytes.ensures.1)) (fine, stops)

pub returns-clause-paints : goal.returns-clause-paints
returns-clause-paints g c = λ n contents asked.
    let job = c.args.job.now in
    let form = job.form in
    let made = c.in_ok-bands.ensures in
    let reaches : Reach = g.G.Gauge.reaches c.args.gauge.now in
    let bands = c.in_ok-bands.bands in
    let rows = g.B.Bands.rows bands in
    let end = g.B.Bands.end bands in
    let tall : rows ≡ rows_of job.page job.dots = made.rows ∙ ap₂ (λ (p : Page) (d : Dots). rows_of p d) c.requires.page c.requires.dots in
    let text : g.B.Bands.row_text bands reaches ≡ contents_row n job reaches contents = ap (λ (f : Reach → ℕ → List ℕ). f reaches) made.text ∙ asked in
    let head : head_bytes form c.per_inch.result c.columns-columns.result rows ≡ head_of form job.page job.dots =
    ap (λ (d : ℕ). head_bytes form d c.columns-columns.result rows) c.per_inch.ensures
    ∙ ap (λ (n : ℕ). head_bytes form job.dots.resolution n rows) c.columns-columns.ensures.count
    ∙ ap (head_bytes form job.dots.resolution _) tall in
    let stop = end_of c.args.most_rows job.first_row (rows_of job.page job.dots) in
    let ends : end ≡ stop = made.end ∙ c.end_of-end.ensures.end ∙ ap (end_of c.args.most_rows job.first_row) (c.rows.ensures.count ∙ ap₂ (λ (p : Page) (d : Dots). rows_of p d) c.requires.page c.requires.dots) in
    let foot : foot_if (foot_bytes form) rows end ≡ foot_if (foot_bytes form) (rows_of job.page job.dots) stop = ap₂ (foot_if (foot_bytes form)) tall ends in
    let fine : job_fault job ≡ None = search rules in
    (fine, whole_same _ (head_of form job.page job.dots) _ (contents_row n job reaches contents) _ _ end stop _ job.first_row _ _ _ head text foot ends made.next c.in_ok-bytes.ensures.writes)
