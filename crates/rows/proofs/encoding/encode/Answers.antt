use Rattle.std.proofs.Common.{◌≡◌, ◌-◌, ℕ, List, Some, ap, subst, ◌∙◌, arith}
use Rattle.std.specs.Io.KnownBytes.{Appends}
use Rattle.plot_page.specs.Resolutions.{rows_of}
use Rattle.png.specs.Headers.{head, heading}
use Rattle.png.specs.Rooms.{taken}
use Rattle.png.specs.Samples.{picture_of}
use Rattle.rows.specs.Pictures.{Reach, rows_bytes}
use Rattle.rows.specs.Documents.{picture_with}
use Rattle.rows.proofs.PngRows.{appended, pictured}
use Rattle.rows.proofs.Watched.{told_some}
use Rattle.rows.proofs.encoding.encode.Goals as goal

pub returns-in-Ok-ended-clause-paints : goal.returns-in-Ok-ended-clause-paints
returns-in-Ok-ended-clause-paints g c = λ colour shown.
    let header = c.args.header.now in
    let h = head header in
    let scene = c.args.scene in
    let reaches : Reach = g.G.Gauge.reaches c.args.gauge.now in
    let made = c.in-Ok.ensures in
    let bands = c.in-Ok.bands in
    let text : ℕ → List ℕ = g.B.Bands.asked_text c.args.ask scene reaches in
    let rows = rows_of scene.page scene.dots in
    let same : g.B.Bands.row_text bands reaches ≡ text = ap (λ (f : Reach → ℕ → List ℕ). f reaches) made.text in
    let all : rows - 0 ≡ rows = omega arith in
    let ends : g.B.Bands.end bands ≡ rows = made.end ∙ c.rows-rows.ensures.count in
    let bytes : rows_bytes (g.B.Bands.row_text bands reaches) (g.B.Bands.next bands) (g.B.Bands.end bands - g.B.Bands.next bands) ≡ rows_bytes text 0 rows =
    ap (λ (f : ℕ → List ℕ). rows_bytes f (g.B.Bands.next bands) (g.B.Bands.end bands - g.B.Bands.next bands)) same
    ∙ ap (λ (k : ℕ). rows_bytes text k (g.B.Bands.end bands - k)) made.next
    ∙ ap (λ (k : ℕ). rows_bytes text 0 (k - 0)) ends
    ∙ ap (rows_bytes text 0) all in
    let png = c.new-png.result in
    let wrote = c.in-Ok-write_left.ensures.writes in
    let sink_is = c.new-png.ensures.sink in (
      λ none.
          let begun = ap (λ (k : _). taken png (g.K.Sink.state k).held) sink_is ∙ c.new-png.ensures.fresh none in
          let grown = appended _ _ (heading h) (rows_bytes text 0 rows) (subst (Appends _ _) bytes wrote.written) begun in
          let picture : picture_of h (rows_bytes text 0 rows) ≡ Some (picture_with scene.page scene.dots colour) =
          pictured h scene.page scene.dots colour text c.requires.header.columns c.requires.header.rows c.requires.header.per_metre shown in
          let shows = rw c.in-Ok-ended.is at c.finish-sink.ensures.shows in
          shows header (rows_bytes text 0 rows) (picture_with scene.page scene.dots colour) c.requires.header.sound grown picture,
      (rw c.in-Ok-ended.is at c.finish-sink.ensures.quiet) ∙ wrote.sound ∙ ap (λ (k : _). (g.K.Sink.state k).faults) sink_is,
    )

pub returns-in-Ok-write_left-clause-told : goal.returns-in-Ok-write_left-clause-told
returns-in-Ok-write_left-clause-told g c =
    let bands = c.in-Ok.bands in
    let made = c.in-Ok.ensures in
    let scene = c.args.scene in
    told_some g.W.Watcher.hears (g.B.Bands.end bands - g.B.Bands.next bands) (rows_of scene.page scene.dots) _ c.args.watcher.now c.write_left.new.watcher
    (omega (arith, made.end, c.rows-rows.ensures.count, made.next)) c.in-Ok-write_left.ensures.told
