use Rattle.std.proofs.Common.{◌≡◌, ◌<◌, ℕ, List, [], length, map, get_or, sym, ap, subst, ◌∙◌}
use Rattle.std.specs.List.{range_with_len}
use Rattle.std.proofs.lemmas.List.{with_items_is}
use Rattle.smoothing.specs.Cells.{colours_of_cells}
use Rattle.smoothing.specs.Totals.{means}
use Rattle.smoothing.specs.Smoothings.{smoothed}
use Rattle.smoothing.specs.declared.sums.Sums.{Sums}
use Rattle.smoothing.proofs.Rows.{pixels_are}
use Rattle.smoothing.proofs.smooth_row.SmoothRow.smooth.Goals as goal

pub returns-clause-pixels : goal.returns-clause-pixels
returns-clause-pixels g c =
    let v = c.args.self.now in
    let sums : List Sums = c.add_rows.new.sums in
    let size : length sums ≡ v.sums.len = c.add_rows.ensures.size ∙ c.deref_mut.ensures.len in
    let long : length sums ≡ length v.sums.items = c.add_rows.ensures.size ∙ ap length c.deref_mut.ensures.value in
    let seen : c.deref_mut-2.result.now ≡ sums = c.deref_mut-2.ensures.value ∙ with_items_is v.sums sums size in
    let wide : length c.take_means.new.pixels ≡ length v.pixels.items = c.take_means.ensures.size ∙ ap length c.deref_mut-3.ensures.value in
    let finer = colours_of_cells (g.I.Inks.inks c.args.inks.now) (g.R.FinerRows.finer c.args.rows.now) in
    let same : length c.take_means.new.pixels ≡ length sums = wide ∙ sym v.same ∙ sym long in
    let made = subst (λ (z : List Sums). (k : ℕ) (d : Sums) → k < length z → get_or c.take_means.new.pixels k [] ≡ means v.times (get_or z k d)) seen c.take_means.ensures.means in
    with_items_is v.pixels c.take_means.new.pixels (c.take_means.ensures.size ∙ c.deref_mut-3.ensures.len)
    ∙ pixels_are v.times finer c.args.i sums c.take_means.new.pixels same c.add_rows.ensures.rows made
    ∙ ap (λ (n : ℕ). map (smoothed v.times finer c.args.i) (range_with_len 0 n)) (long ∙ v.same)
