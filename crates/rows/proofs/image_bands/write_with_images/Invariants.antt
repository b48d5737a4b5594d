use Rattle.std.proofs.Common.{◌≡◌, ◌<◌, ◌≤◌, ◌+◌, ◌*◌, ℕ, List, [], length, get_or, Ok}
use Rattle.page_images.specs.Views.{images_in}
use Rattle.picture_out.specs.Forms.{row_bytes}
use Rattle.stroke_raster.specs.Bands.{first_of, rows_of_band}
use Rattle.rows.specs.ImageCells.{inked, with_images}
use Rattle.rows.specs.Inks.{image_inks_held}
use Rattle.rows.specs.Progress.{WritesRows}
use Rattle.rows.proofs.image_bands.write_with_images.Given as goal

-- the rows so far were written
abbrev pub invariant-loop-i : goal.invariant-loop-i
invariant-loop-i g l =
    let rows = rows_of_band l.band in
    let at = first_of l.band in
    let w = l.fn.writer in
    let bytes = λ (k : ℕ). row_bytes w.form (at + k) (image_inks_held w.inks) (inked w.form (with_images (images_in w.row.images) w.row.page w.row.dots (at + k) (get_or rows k []))) in
    record {
      so_far : (text : ℕ → List ℕ) → ((k : ℕ) → k < length rows → text (at + k) ≡ bytes k) → WritesRows text l.first at (at + l.i) l.done (g.K.Sink.state l.fn.sink) (g.K.Sink.state l.sink) (Ok l.written);
      small : l.written ≤ l.done + l.i * 33554432;
      quiet : (g.K.Sink.state l.sink).faults ≡ (g.K.Sink.state l.fn.sink).faults;
      images : l.writer.row.images ≡ w.row.images;
      page : l.writer.row.page ≡ w.row.page;
      dots : l.writer.row.dots ≡ w.row.dots;
      form : l.writer.form ≡ w.form;
      inks : l.writer.inks ≡ w.inks;
    }
