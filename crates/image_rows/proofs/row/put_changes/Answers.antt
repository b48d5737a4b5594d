use Rattle.std.proofs.Common.{◌≡◌, ◌∙◌, ◌<◌, length, List, ap, sym, arith}
use Rattle.std.proofs.lemmas.Bool.{eqb-false, eqb-true}
use Rattle.std.proofs.lemmas.Result.{err_from_is_err_and}
use Rattle.image_rows.specs.Changes.{Change, changes}
use Rattle.image_rows.specs.Rows.{sized, changed, is_too_long, breaks_off_from}
use Rattle.image_rows.specs.Endings.{ending_of}
use Rattle.image_rows.specs.Views.{bytes_of, change_of, reading_of, going_on}
use Rattle.image_rows.proofs.Proper.{changes_by_first, proper_first, changes_none}
use Rattle.image_rows.proofs.Steps.{going_on_none}
use Rattle.image_rows.proofs.Loops.{sized_self, long_same, not_long, past_end, past_stays, broken_ends, whole_goes_on, none_stays, err_again}
use Rattle.image_rows.specs.declared.ending.RowFault.TheVariants.{TooLong}
use Rattle.image_rows.proofs.row.put_changes.Goals as goal

pub returns-then-not-has_place-clause-row : goal.returns-then-not-has_place-clause-row
returns-then-not-has_place-clause-row c =
    let change = c.first_change-change.result in
    let more : List Change = changes c.args.compression change.rest.now in
    let some : 0 < length c.loop-rest.rest.now = omega (arith, eqb-false (length c.loop-rest.rest.now) 0 (sym c.loop-rest-test.ensures)) in
    let first = changes_by_first c.args.compression c.loop-rest.rest.now (reading_of change) some c.first_change-change.ensures.change in
    let proper = proper_first c.args.compression c.loop-rest.rest.now (reading_of change) c.first_change-change.ensures.change in
    past_end c.args.size c.loop-rest.plane.items c.loop-rest.place change.skip (bytes_of change.bytes) change.is_broken (changes c.args.compression change.rest.now) c.loop-rest.invariant.begun c.loop-rest.invariant.within (sym c.if-not-has_place.ensures)
    (λ b. changes_none c.args.compression change.rest.now (proper.last b)) proper.stays
    ∙ ap (λ (z : List Change). sized c.args.size (going_on c.loop-rest.plane.items c.loop-rest.place z)) (sym first) ∙ c.loop-rest.invariant.row

pub returns-then-not-has_place-clause-ending : goal.returns-then-not-has_place-clause-ending
returns-then-not-has_place-clause-ending c =
    let change = c.first_change-change.result in
    let some : 0 < length c.loop-rest.rest.now = omega (arith, eqb-false (length c.loop-rest.rest.now) 0 (sym c.loop-rest-test.ensures)) in
    let first = changes_by_first c.args.compression c.loop-rest.rest.now (reading_of change) some c.first_change-change.ensures.change in
    let proper = proper_first c.args.compression c.loop-rest.rest.now (reading_of change) c.first_change-change.ensures.change in
    ap ending_of (sym (sym c.loop-rest.invariant.ending ∙ ap (breaks_off_from c.args.size c.loop-rest.place) first
    ∙ past_stays c.args.size c.loop-rest.place change.skip (bytes_of change.bytes) change.is_broken (changes c.args.compression change.rest.now) (sym c.if-not-has_place.ensures)
    (λ b. changes_none c.args.compression change.rest.now (proper.last b)) proper.stays))

pub returns-in_err-place-clause-long : goal.returns-in_err-place-clause-long
returns-in_err-place-clause-long c =
    let change = c.first_change-change.result in
    let some : 0 < length c.loop-rest.rest.now = omega (arith, eqb-false (length c.loop-rest.rest.now) 0 (sym c.loop-rest-test.ensures)) in
    let first = changes_by_first c.args.compression c.loop-rest.rest.now (reading_of change) some c.first_change-change.ensures.change in
    let p = err_from_is_err_and c.from_residual.result c.from_residual.ensures.1 in
    rw (p.1, p.2) (λ e. long_same c.args.size (changed c.args.plane.now.items (changes c.args.compression c.args.input.now)) (going_on c.loop-rest.plane.items c.loop-rest.place (changes c.args.compression c.loop-rest.rest.now)) (sym c.loop-rest.invariant.row)
    ∙ ap (λ (z : List Change). is_too_long c.args.size (going_on c.loop-rest.plane.items c.loop-rest.place z)) first
    ∙ c.in_err-place.ensures.long (err_again c.in_err-place.field-0.0 TooLong e) (changes c.args.compression change.rest.now))

-- what is left after the last change
broken_row : (c : goal.Then-change) → c.put_change.new.plane.items ≡ sized c.args.size (changed c.args.plane.now.items (changes c.args.compression c.args.input.now))
broken_row c =
    let change = c.first_change-change.result in
    let some : 0 < length c.loop-rest.rest.now = omega (arith, eqb-false (length c.loop-rest.rest.now) 0 (sym c.loop-rest-test.ensures)) in
    let first = changes_by_first c.args.compression c.loop-rest.rest.now (reading_of change) some c.first_change-change.ensures.change in
    let proper = proper_first c.args.compression c.loop-rest.rest.now (reading_of change) c.first_change-change.ensures.change in
    let none = changes_none c.args.compression change.rest.now (proper.last c.if-change.true) in
    sym (sized_self c.args.size c.put_change.new.plane.items c.in_ok-place.ensures.sound)
    ∙ ap (sized c.args.size) (sym (going_on_none c.put_change.new.plane.items c.in_ok-place.place))
    ∙ ap (λ (z : List Change). sized c.args.size (going_on c.put_change.new.plane.items c.in_ok-place.place z)) (sym none)
    ∙ c.in_ok-place.ensures.row (changes c.args.compression change.rest.now)
    ∙ ap (λ (z : List Change). sized c.args.size (going_on c.loop-rest.plane.items c.loop-rest.place z)) (sym first) ∙ c.loop-rest.invariant.row

pub returns-then-change-clause-row : goal.returns-then-change-clause-row
returns-then-change-clause-row c = broken_row c

pub returns-then-change-clause-ending : goal.returns-then-change-clause-ending
returns-then-change-clause-ending c =
    let change = c.first_change-change.result in
    let some : 0 < length c.loop-rest.rest.now = omega (arith, eqb-false (length c.loop-rest.rest.now) 0 (sym c.loop-rest-test.ensures)) in
    let first = changes_by_first c.args.compression c.loop-rest.rest.now (reading_of change) some c.first_change-change.ensures.change in
    ap ending_of (sym (sym c.loop-rest.invariant.ending ∙ ap (breaks_off_from c.args.size c.loop-rest.place) first
    ∙ broken_ends c.args.size c.loop-rest.place (change_of change) (changes c.args.compression change.rest.now) c.if-change.true (sym c.if-not-has_place.ensures)))

pub returns-then-change-clause-not_long : goal.returns-then-change-clause-not_long
returns-then-change-clause-not_long c =
    not_long c.args.size c.put_change.new.plane.items (changed c.args.plane.now.items (changes c.args.compression c.args.input.now)) c.in_ok-place.ensures.sound (broken_row c)

pub loop-rest-preserved : goal.loop-rest-preserved
loop-rest-preserved c =
    let change = c.first_change-change.result in
    let some : 0 < length c.loop-rest.rest.now = omega (arith, eqb-false (length c.loop-rest.rest.now) 0 (sym c.loop-rest-test.ensures)) in
    let first = changes_by_first c.args.compression c.loop-rest.rest.now (reading_of change) some c.first_change-change.ensures.change in
    record {
      begun = c.in_ok-place.ensures.sound;
      within = c.in_ok-place.ensures.within;
      row = c.in_ok-place.ensures.row (changes c.args.compression change.rest.now)
          ∙ ap (λ (z : List Change). sized c.args.size (going_on c.loop-rest.plane.items c.loop-rest.place z)) (sym first) ∙ c.loop-rest.invariant.row;
      ending = c.in_ok-place.ensures.ending (changes c.args.compression change.rest.now)
          ∙ sym (whole_goes_on c.args.size c.loop-rest.place (change_of change) (changes c.args.compression change.rest.now) c.if-change.false)
          ∙ ap (breaks_off_from c.args.size c.loop-rest.place) (sym first) ∙ c.loop-rest.invariant.ending;
      capacity = omega (arith, c.loop-rest.invariant.capacity, c.in_ok-place.ensures.capacity);
    }

whole_row : (c : goal.After-loop-rest) → c.loop-rest.plane.items ≡ sized c.args.size (changed c.args.plane.now.items (changes c.args.compression c.args.input.now))
whole_row c =
    let none = changes_none c.args.compression c.loop-rest.rest.now (eqb-true (length c.loop-rest.rest.now) 0 (sym c.loop-rest-test.ensures)) in
    sym (sized_self c.args.size c.loop-rest.plane.items c.loop-rest.invariant.begun)
    ∙ ap (sized c.args.size) (sym (going_on_none c.loop-rest.plane.items c.loop-rest.place))
    ∙ ap (λ (z : List Change). sized c.args.size (going_on c.loop-rest.plane.items c.loop-rest.place z)) (sym none) ∙ c.loop-rest.invariant.row

pub returns-clause-row : goal.returns-clause-row
returns-clause-row c = whole_row c

pub returns-clause-ending : goal.returns-clause-ending
returns-clause-ending c =
    let none = changes_none c.args.compression c.loop-rest.rest.now (eqb-true (length c.loop-rest.rest.now) 0 (sym c.loop-rest-test.ensures)) in
    ap ending_of (sym (sym c.loop-rest.invariant.ending ∙ ap (breaks_off_from c.args.size c.loop-rest.place) none ∙ none_stays c.args.size c.loop-rest.place))

pub returns-clause-not_long : goal.returns-clause-not_long
returns-clause-not_long c = not_long c.args.size c.loop-rest.plane.items (changed c.args.plane.now.items (changes c.args.compression c.args.input.now)) c.loop-rest.invariant.begun (whole_row c)
