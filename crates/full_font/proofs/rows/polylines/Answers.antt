use Rattle.std.proofs.Common.{◌≡◌, false, ◌∙◌, sym, arith}
use Rattle.std.proofs.lemmas.Bool.Decides.{nat_tests}
use Rattle.full_font.proofs.Tables.{in_from_space, in_from_grave_accent, in_from_no_break_space, in_from_eth, in_further, is_near, further_rises}
use Rattle.full_font.proofs.rows.polylines.Goals as goal

pub search-requires : goal.search-requires
search-requires c = rw c.further_rows.ensures further_rises

pub returns-in-32-to-95 : goal.returns-in-32-to-95
returns-in-32-to-95 c = c.row_from_space.ensures ∙ sym (in_from_space c.args.code_point (omega arith) (omega arith))

pub returns-in-96-to-126 : goal.returns-in-96-to-126
returns-in-96-to-126 c = c.row_from_grave_accent.ensures ∙ sym (in_from_grave_accent c.args.code_point (omega arith) (omega arith))

pub returns-in-160-to-207 : goal.returns-in-160-to-207
returns-in-160-to-207 c = c.row_from_no_break_space.ensures ∙ sym (in_from_no_break_space c.args.code_point (omega arith) (omega arith))

pub returns-in-208-to-255 : goal.returns-in-208-to-255
returns-in-208-to-255 c = c.row_from_eth.ensures ∙ sym (in_from_eth c.args.code_point (omega arith) (omega arith))

pub returns-in_default : goal.returns-in_default
returns-in_default c =
    let far : is_near c.args.code_point ≡ false = grind (arith, nat_tests) in
    let e = rw c.further_rows.ensures at c.search.ensures in
    e ∙ sym (in_further c.args.code_point far)
