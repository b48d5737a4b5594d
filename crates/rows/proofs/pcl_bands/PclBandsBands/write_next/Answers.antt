use Rattle.std.proofs.Common.{refl, ◌≡◌, ◌≤◌, ◌<◌, ◌+◌, ◌-◌, ◌*◌, ℕ, List, sym, ap, subst, arith}
use Rattle.std.proofs.lemmas.Nat.{mul-le}
use Rattle.plot_page.specs.declared.dots.TheConstants.{MOST_PIXELS_A_SIDE}
use Rattle.stroke_raster.specs.Painting.{Painting, painted_rows, rows_next}
use Rattle.picture_out.specs.declared.form.Form.TheVariants.{Pcl}
use Rattle.picture_out.specs.declared.pcl.TheConstants.{LONGEST_COMMAND}
use Rattle.bit_rows.specs.Bits.{bytes_for}
use Rattle.rows.specs.Pictures.{inks_of}
use Rattle.stroke_raster.specs.ShownShapes.{row_of_shapes}
use Rattle.rows.specs.Progress.{painting_row, tests_left, WritesCells, WritesRows}
use Rattle.rows.proofs.Potentials.{tests_after}
use Rattle.rows.proofs.WrittenRows.{cells_written}
use Rattle.rows.proofs.BitRows.{if_ok, next_band}
use Rattle.rows.proofs.pcl_bands.PclBandsBands.write_next.Goals as goal

pub put_rows-requires-clause-some : goal.put_rows-requires-clause-some
put_rows-requires-clause-some g c =
    let v : c.self.inside.inker ≡ c.args.self.now = c.self.view_is in
    let p : Painting = c.self.inside.inker in
    let is_left = c.ink_next.ensures.left.1 (subst (λ (z : Painting). z.next < z.end) (sym v) c.requires.left) in
    let n = c.next_row.result - c.next_row-at.result in
    let n_is : n ≡ rows_next p = omega (arith, c.next_row-at.ensures.next, c.next_row.ensures.next, c.ink_next.ensures.moves.next) in
    let b = next_band p c.ink_next.new.self (g.G.Gauge.reaches c.args.gauge.now) n c.columns.result c.packed_length-stride.result c.bytes.result.now
    c.ink_next.ensures.within c.ink_next.ensures.moves n_is (c.ink_next.ensures.some is_left) (c.ink_next.ensures.rows is_left) c.bytes.ensures.rows c.bytes.ensures.size
    c.columns.ensures.count c.columns.ensures.most c.packed_length-stride.ensures in
    b.some

pub put_rows-requires-clause-tall : goal.put_rows-requires-clause-tall
put_rows-requires-clause-tall g c =
    let v : c.self.inside.inker ≡ c.args.self.now = c.self.view_is in
    let p : Painting = c.self.inside.inker in
    let is_left = c.ink_next.ensures.left.1 (subst (λ (z : Painting). z.next < z.end) (sym v) c.requires.left) in
    let n = c.next_row.result - c.next_row-at.result in
    let n_is : n ≡ rows_next p = omega (arith, c.next_row-at.ensures.next, c.next_row.ensures.next, c.ink_next.ensures.moves.next) in
    let b = next_band p c.ink_next.new.self (g.G.Gauge.reaches c.args.gauge.now) n c.columns.result c.packed_length-stride.result c.bytes.result.now
    c.ink_next.ensures.within c.ink_next.ensures.moves n_is (c.ink_next.ensures.some is_left) (c.ink_next.ensures.rows is_left) c.bytes.ensures.rows c.bytes.ensures.size
    c.columns.ensures.count c.columns.ensures.most c.packed_length-stride.ensures in
    omega (arith, b.low)

pub invariant_of-rows-clause-size : goal.invariant_of-rows-clause-size
invariant_of-rows-clause-size g c =
    let v : c.self.inside.inker ≡ c.args.self.now = c.self.view_is in
    let p : Painting = c.self.inside.inker in
    let is_left = c.ink_next.ensures.left.1 (subst (λ (z : Painting). z.next < z.end) (sym v) c.requires.left) in
    let n = c.next_row.result - c.next_row-at.result in
    let n_is : n ≡ rows_next p = omega (arith, c.next_row-at.ensures.next, c.next_row.ensures.next, c.ink_next.ensures.moves.next) in
    let b = next_band p c.ink_next.new.self (g.G.Gauge.reaches c.args.gauge.now) n c.columns.result c.packed_length-stride.result c.bytes.result.now
    c.ink_next.ensures.within c.ink_next.ensures.moves n_is (c.ink_next.ensures.some is_left) (c.ink_next.ensures.rows is_left) c.bytes.ensures.rows c.bytes.ensures.size
    c.columns.ensures.count c.columns.ensures.most c.packed_length-stride.ensures in
    b.size

pub put_rows-requires-clause-few : goal.put_rows-requires-clause-few
put_rows-requires-clause-few g c =
    let v : c.self.inside.inker ≡ c.args.self.now = c.self.view_is in
    let p : Painting = c.self.inside.inker in
    let is_left = c.ink_next.ensures.left.1 (subst (λ (z : Painting). z.next < z.end) (sym v) c.requires.left) in
    let n = c.next_row.result - c.next_row-at.result in
    let n_is : n ≡ rows_next p = omega (arith, c.next_row-at.ensures.next, c.next_row.ensures.next, c.ink_next.ensures.moves.next) in
    let b = next_band p c.ink_next.new.self (g.G.Gauge.reaches c.args.gauge.now) n c.columns.result c.packed_length-stride.result c.bytes.result.now
    c.ink_next.ensures.within c.ink_next.ensures.moves n_is (c.ink_next.ensures.some is_left) (c.ink_next.ensures.rows is_left) c.bytes.ensures.rows c.bytes.ensures.size
    c.columns.ensures.count c.columns.ensures.most c.packed_length-stride.ensures in
    let m = mul-le n (c.packed_length-stride.result + LONGEST_COMMAND) MOST_PIXELS_A_SIDE (bytes_for MOST_PIXELS_A_SIDE + LONGEST_COMMAND) b.low (omega (arith, b.narrow)) in
    omega (arith, m)

pub returns-clause-writes : goal.returns-clause-writes
returns-clause-writes g c =
    let v : c.self.inside.inker ≡ c.args.self.now = c.self.view_is in
    let p : Painting = c.self.inside.inker in
    let is_left = c.ink_next.ensures.left.1 (subst (λ (z : Painting). z.next < z.end) (sym v) c.requires.left) in
    let n = c.next_row.result - c.next_row-at.result in
    let n_is : n ≡ rows_next p = omega (arith, c.next_row-at.ensures.next, c.next_row.ensures.next, c.ink_next.ensures.moves.next) in
    let b = next_band p c.ink_next.new.self (g.G.Gauge.reaches c.args.gauge.now) n c.columns.result c.packed_length-stride.result c.bytes.result.now
    c.ink_next.ensures.within c.ink_next.ensures.moves n_is (c.ink_next.ensures.some is_left) (c.ink_next.ensures.rows is_left) c.bytes.ensures.rows c.bytes.ensures.size
    c.columns.ensures.count c.columns.ensures.most c.packed_length-stride.ensures in
    let reaches = g.G.Gauge.reaches c.args.gauge.now in
    let rows : List (List ℕ) = painted_rows reaches p p.next (rows_next p) in
    let inks = inks_of p.strokes in
    let old = g.K.Sink.state c.args.sink.now in
    let new = g.K.Sink.state c.put_rows.new.sink in
    let wrote = c.put_rows.ensures.rows inks rows b.tall b.wide b.split in
    let P : ℕ → Type 0 = λ k. WritesCells Pcl inks c.args.first k rows c.args.done old new c.put_rows.result in
    let pens = λ (r : ℕ). row_of_shapes reaches p.pens p.strokes p.areas p.page p.dots r in
    let done = cells_written Pcl inks (painting_row Pcl p reaches) pens (λ r. refl) c.args.first p.next (rows_next p) c.ink_next.new.self.next c.args.done old new c.put_rows.result
    c.ink_next.ensures.moves.next (subst P c.next_row-at.ensures.next wrote) in
    let Q : Painting → Type 0 = λ z. WritesRows (painting_row Pcl z reaches) c.args.first z.next c.ink_next.new.self.next c.args.done old new c.put_rows.result in
    subst Q v done

pub returns-clause-small : goal.returns-clause-small
returns-clause-small g c =
    let v : c.self.inside.inker ≡ c.args.self.now = c.self.view_is in
    let p : Painting = c.self.inside.inker in
    let is_left = c.ink_next.ensures.left.1 (subst (λ (z : Painting). z.next < z.end) (sym v) c.requires.left) in
    let n = c.next_row.result - c.next_row-at.result in
    let n_is : n ≡ rows_next p = omega (arith, c.next_row-at.ensures.next, c.next_row.ensures.next, c.ink_next.ensures.moves.next) in
    let b = next_band p c.ink_next.new.self (g.G.Gauge.reaches c.args.gauge.now) n c.columns.result c.packed_length-stride.result c.bytes.result.now
    c.ink_next.ensures.within c.ink_next.ensures.moves n_is (c.ink_next.ensures.some is_left) (c.ink_next.ensures.rows is_left) c.bytes.ensures.rows c.bytes.ensures.size
    c.columns.ensures.count c.columns.ensures.most c.packed_length-stride.ensures in
    let m = mul-le n (c.packed_length-stride.result + LONGEST_COMMAND) n 33554432 (omega arith) (omega (arith, b.narrow)) in
    let was : p.next ≡ c.args.self.now.next = ap (λ (z : Painting). z.next) v in
    let many : n ≡ c.ink_next.new.self.next - c.args.self.now.next = omega (arith, c.next_row-at.ensures.next, c.next_row.ensures.next, was) in
    let rows : n * 33554432 ≡ (c.ink_next.new.self.next - c.args.self.now.next) * 33554432 = ap (λ (k : ℕ). k * 33554432) many in
    if_ok c.put_rows.result _ _ c.put_rows.ensures.most (λ x e. omega (arith, e, m, rows))

pub returns-clause-tests : goal.returns-clause-tests
returns-clause-tests g c =
    let v : c.self.inside.inker ≡ c.args.self.now = c.self.view_is in
    let is_left = c.ink_next.ensures.left.1 (subst (λ (z : Painting). z.next < z.end) (sym v) c.requires.left) in
    subst (λ (z : Painting). g.G.Gauge.count c.ink_next.new.gauge + tests_left c.ink_next.new.self ≤ g.G.Gauge.count c.args.gauge.now + tests_left z) v
    (tests_after c.self.inside.inker c.ink_next.new.self _ _ c.ink_next.ensures.moves (c.ink_next.ensures.most is_left))
