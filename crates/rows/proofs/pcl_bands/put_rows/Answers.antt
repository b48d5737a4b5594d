use Rattle.std.proofs.Common.{◌≡◌, ◌+◌, ◌/◌, ◌^◌, ◌≤◌, length, take, arith}
use Rattle.std.proofs.Math.Nat.{mod-lt}
use Rattle.std.proofs.lemmas.List.{length-take-le}
use Rattle.std.proofs.lemmas.Nat.{div-add-mod', mul-le}
use Rattle.picture_out.specs.declared.form.Form.TheVariants.{Pcl}
use Rattle.picture_out.specs.Pcl.{transfer_command}
use Rattle.rows.proofs.PclRows.{even_part, nth_part, whole_text}
use Rattle.rows.proofs.pcl_bands.put_rows.Goals as goal

pub write_rows-requires-clause-size_in : goal.write_rows-requires-clause-size_in
write_rows-requires-clause-size_in g c =
    let used = c.append_rows-used.result in
    let text = c.append_rows-used.new.text in
    let long = length-take-le used text c.append_rows-used.ensures.within in
    let one : used / c.args.rows.count ≡ length (transfer_command c.args.rows.stride) + c.args.rows.stride = nth_part c.args.rows.stride c.args.rows.count used c.args.rows.bits.now (take used text) c.requires.some c.args.rows.size long c.append_rows-used.ensures.text in
    omega (arith, one)

pub write_rows-requires-clause-tall : goal.write_rows-requires-clause-tall
write_rows-requires-clause-tall g c =
    let used = c.append_rows-used.result in
    let text = c.append_rows-used.new.text in
    let long = length-take-le used text c.append_rows-used.ensures.within in
    let one : used / c.args.rows.count ≡ length (transfer_command c.args.rows.stride) + c.args.rows.stride = nth_part c.args.rows.stride c.args.rows.count used c.args.rows.bits.now (take used text) c.requires.some c.args.rows.size long c.append_rows-used.ensures.text in
    let n = c.args.rows.count in
    let q = used / n in
    let some : 1 ≤ q = omega (arith, one) in
    let parts = div-add-mod' used n in
    let rest = mod-lt used c.requires.some in
    let most = mul-le q n q (2 ^ 29) (omega arith) c.requires.tall in
    let left = mul-le n 1 (2 ^ 29) q c.requires.tall some in
    omega (arith, parts, rest, most, left)

pub returns-clause-rows : goal.returns-clause-rows
returns-clause-rows g c = λ inks cells tall wide split.
    let used = c.append_rows-used.result in
    let text = c.append_rows-used.new.text in
    let long = length-take-le used text c.append_rows-used.ensures.within in
    let one = nth_part c.args.rows.stride c.args.rows.count used c.args.rows.bits.now (take used text) c.requires.some c.args.rows.size long c.append_rows-used.ensures.text in
    c.write_rows.ensures.rows Pcl inks cells (even_part inks c.args.at c.args.rows.stride (used / c.args.rows.count) cells one wide) (whole_text inks c.args.at cells _ (take used text) split c.append_rows-used.ensures.text)
