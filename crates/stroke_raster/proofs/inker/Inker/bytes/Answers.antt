use Rattle.std.proofs.Common.{◌≡◌, ◌≤◌, ◌*◌, ℕ, List, length, take, arith, refl, sym, ap, subst, ◌∙◌}
use Rattle.std.proofs.lemmas.Nat.{mul-le}
use Rattle.bit_rows.specs.Bits.{bytes_for}
use Rattle.stroke_raster.specs.Painting.{Painting}
use Rattle.plot_page.specs.Resolutions.{columns_of}
use Rattle.stroke_raster.specs.Rows.{split_rows}
use Rattle.stroke_raster.proofs.Rows.{length-split_rows, split_rows_take}
use Rattle.std.proofs.lemmas.List.{length-take-le}
use Rattle.stroke_raster.proofs.inker.Inker.bytes.Goals as goal

-- the bytes of the rows that were painted last
room : (n rows stride : ℕ) (bytes : List ℕ) → n ≤ rows → length bytes ≡ rows * stride → n * stride ≤ length bytes
room n rows stride bytes h len = let m = mul-le n stride rows stride h (omega arith) in omega (arith, m, len)

pub returns-clause-rows : goal.returns-clause-rows
returns-clause-rows c =
    let p = c.self.inside in
    let A : ℕ = p.painted * p.canvas.stride in
    let fit = room p.painted p.canvas.rows p.canvas.stride p.canvas.bytes.items c.self.invariant.painted_rows c.self.invariant.canvas.size in
    let stride : p.canvas.stride ≡ bytes_for (columns_of p.scene.page p.scene.dots) = c.self.invariant.canvas.stride_is ∙ ap bytes_for c.self.invariant.width_is in
    let P : Painting → Type 0 = λ q. split_rows (bytes_for (columns_of q.page q.dots)) (length q.last.rows) (take A c.as_slice.result.now) ≡ q.last.rows in
    subst P c.self.view_is
    (ap (λ (z : List ℕ). split_rows (bytes_for (columns_of p.scene.page p.scene.dots)) (length (split_rows p.canvas.stride p.painted p.canvas.bytes.items)) (take A z)) c.as_slice.ensures.value
    ∙ ap (λ (n : ℕ). split_rows n (length (split_rows p.canvas.stride p.painted p.canvas.bytes.items)) (take A p.canvas.bytes.items)) (sym stride)
    ∙ ap (λ (n : ℕ). split_rows p.canvas.stride n (take A p.canvas.bytes.items)) (length-split_rows p.canvas.stride p.painted p.canvas.bytes.items)
    ∙ split_rows_take p.canvas.stride p.painted A p.canvas.bytes.items refl fit)

pub returns-clause-size : goal.returns-clause-size
returns-clause-size c =
    let p = c.self.inside in
    let A : ℕ = p.painted * p.canvas.stride in
    let fit = room p.painted p.canvas.rows p.canvas.stride p.canvas.bytes.items c.self.invariant.painted_rows c.self.invariant.canvas.size in
    let stride : p.canvas.stride ≡ bytes_for (columns_of p.scene.page p.scene.dots) = c.self.invariant.canvas.stride_is ∙ ap bytes_for c.self.invariant.width_is in
    let P : Painting → Type 0 = λ q. length (take A c.as_slice.result.now) ≡ length q.last.rows * bytes_for (columns_of q.page q.dots) in
    subst P c.self.view_is
    (ap (λ (z : List ℕ). length (take A z)) c.as_slice.ensures.value
    ∙ length-take-le A p.canvas.bytes.items fit
    ∙ ap (λ (n : ℕ). p.painted * n) stride
    ∙ sym (ap (λ (n : ℕ). n * bytes_for (columns_of p.scene.page p.scene.dots)) (length-split_rows p.canvas.stride p.painted p.canvas.bytes.items)))
