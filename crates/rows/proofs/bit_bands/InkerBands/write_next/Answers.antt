use Rattle.std.proofs.Common.{◌≡◌, ◌*◌, ℕ, length, map, refl, sym, subst, arith}
use Rattle.std.proofs.lemmas.Nat.{mul-le}
use Rattle.plot_page.specs.declared.dots.TheConstants.{MOST_PIXELS_A_SIDE}
use Rattle.stroke_raster.specs.Painting.{painted_rows, rows_next}
use Rattle.stroke_raster.specs.Rows.{split_rows}
use Rattle.picture_out.specs.declared.form.Form.TheVariants.{Pbm}
use Rattle.bit_rows.specs.Bits.{bytes_for, packed}
use Rattle.rows.specs.Pictures.{inks_of}
use Rattle.stroke_raster.specs.ShownShapes.{row_of_shapes}
use Rattle.rows.specs.Progress.{painting_row, WritesCells}
use Rattle.rows.proofs.Potentials.{tests_after}
use Rattle.rows.proofs.WrittenRows.{cells_written}
use Rattle.rows.proofs.BitRows.{if_ok, next_band, pbm_even, text_of_bits}
use Rattle.rows.proofs.bit_bands.InkerBands.write_next.Goals as goal

pub write_rows-requires-clause-few : goal.write_rows-requires-clause-few
write_rows-requires-clause-few g c =
    let p = c.args.self.now in
    let is_left = c.ink_next.ensures.left.1 c.requires.left in
    let b = next_band p c.ink_next.new.self (g.G.Gauge.reaches c.args.gauge.now) (rows_next p) c.columns.result c.packed_length-stride.result c.bytes.result.now
    c.ink_next.ensures.within c.ink_next.ensures.moves refl (c.ink_next.ensures.some is_left) (c.ink_next.ensures.rows is_left) c.bytes.ensures.rows c.bytes.ensures.size
    c.columns.ensures.count c.columns.ensures.most c.packed_length-stride.ensures in
    let m = mul-le (rows_next p) c.packed_length-stride.result MOST_PIXELS_A_SIDE (bytes_for MOST_PIXELS_A_SIDE) b.low b.narrow in
    omega (arith, b.size, m)

pub write_rows-requires-clause-tall : goal.write_rows-requires-clause-tall
write_rows-requires-clause-tall g c =
    let p = c.args.self.now in
    let is_left = c.ink_next.ensures.left.1 c.requires.left in
    let b = next_band p c.ink_next.new.self (g.G.Gauge.reaches c.args.gauge.now) (rows_next p) c.columns.result c.packed_length-stride.result c.bytes.result.now
    c.ink_next.ensures.within c.ink_next.ensures.moves refl (c.ink_next.ensures.some is_left) (c.ink_next.ensures.rows is_left) c.bytes.ensures.rows c.bytes.ensures.size
    c.columns.ensures.count c.columns.ensures.most c.packed_length-stride.ensures in
    let m = mul-le (rows_next p) c.packed_length-stride.result MOST_PIXELS_A_SIDE c.packed_length-stride.result b.low (omega arith) in
    omega (arith, b.size, m)

pub returns-clause-small : goal.returns-clause-small
returns-clause-small g c =
    let p = c.args.self.now in
    let is_left = c.ink_next.ensures.left.1 c.requires.left in
    let b = next_band p c.ink_next.new.self (g.G.Gauge.reaches c.args.gauge.now) (rows_next p) c.columns.result c.packed_length-stride.result c.bytes.result.now
    c.ink_next.ensures.within c.ink_next.ensures.moves refl (c.ink_next.ensures.some is_left) (c.ink_next.ensures.rows is_left) c.bytes.ensures.rows c.bytes.ensures.size
    c.columns.ensures.count c.columns.ensures.most c.packed_length-stride.ensures in
    let m = mul-le (rows_next p) c.packed_length-stride.result (rows_next p) 33554432 (omega arith) (omega (arith, b.narrow)) in
    if_ok c.write_rows.result _ _ c.write_rows.ensures.count (λ x e. omega (arith, e, b.size, m))

pub returns-clause-writes : goal.returns-clause-writes
returns-clause-writes g c =
    let p = c.args.self.now in
    let is_left = c.ink_next.ensures.left.1 c.requires.left in
    let b = next_band p c.ink_next.new.self (g.G.Gauge.reaches c.args.gauge.now) (rows_next p) c.columns.result c.packed_length-stride.result c.bytes.result.now
    c.ink_next.ensures.within c.ink_next.ensures.moves refl (c.ink_next.ensures.some is_left) (c.ink_next.ensures.rows is_left) c.bytes.ensures.rows c.bytes.ensures.size
    c.columns.ensures.count c.columns.ensures.most c.packed_length-stride.ensures in
    let rows = painted_rows (g.G.Gauge.reaches c.args.gauge.now) p p.next (rows_next p) in
    let inks = inks_of p.strokes in
    let at = c.next_row-at.result in
    let stride = c.packed_length-stride.result in
    let split = subst (λ (k : ℕ). split_rows stride k c.bytes.result.now ≡ map packed rows) (sym b.tall) b.split in
    let total = subst (λ (k : ℕ). length c.bytes.result.now ≡ k * stride) (sym b.tall) b.size in
    let wrote = c.write_rows.ensures.rows Pbm inks rows (pbm_even inks at stride rows b.wide) (text_of_bits inks at stride rows c.bytes.result.now split total) in
    let reaches = g.G.Gauge.reaches c.args.gauge.now in
    let pens = λ (r : ℕ). row_of_shapes reaches p.pens p.strokes p.areas p.page p.dots r in
    let from_next = subst (λ (k : ℕ). WritesCells Pbm inks c.args.first k rows c.args.done (g.K.Sink.state c.args.sink.now) (g.K.Sink.state c.write_rows.new.sink) c.write_rows.result) c.next_row-at.ensures.next wrote in
    cells_written Pbm inks (painting_row Pbm p reaches) pens (λ r. refl) c.args.first p.next (rows_next p) c.ink_next.new.self.next c.args.done _ _ c.write_rows.result c.ink_next.ensures.moves.next from_next

pub returns-clause-tests : goal.returns-clause-tests
returns-clause-tests g c = tests_after c.args.self.now c.ink_next.new.self _ _ c.ink_next.ensures.moves (c.ink_next.ensures.most (c.ink_next.ensures.left.1 c.requires.left))
