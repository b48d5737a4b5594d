use Rattle.std.proofs.Common.{◌≡◌, ◌∙◌, List, ℕ, sym, ap}
use Rattle.std.proofs.lemmas.Result.{on_ok_weaker, err_from_is_err_and}
use Rattle.image_rows.specs.declared.ending.RowFault.TheVariants.{TooLong}
use Rattle.image_rows.specs.Changes.{changes}
use Rattle.image_rows.specs.Rows.{sized, changed, ground, is_too_long}
use Rattle.image_rows.proofs.Loops.{err_again}
use Rattle.image_rows.proofs.Agrees.{sized_ground, long_ground, long_seed}
use Rattle.image_rows.proofs.row.decode.Goals as goal

pub returns-in_err-begin-clause-long : goal.returns-in_err-begin-clause-long
returns-in_err-begin-clause-long c =
    let p = err_from_is_err_and c.from_residual.result c.from_residual.ensures.1 in
    rw (p.1, p.2) (λ e. ap (λ (z : List ℕ). is_too_long c.args.size (changed z (changes c.args.compression c.args.input.now))) (sym c.lay_ground.ensures.ground)
    ∙ long_seed c.args.size c.lay_ground.new.plane.items (changes c.args.compression c.args.input.now) (c.in_err-begin.ensures.long (err_again c.in_err-begin.field-0.0 TooLong e)))

pub returns-clause-row : goal.returns-clause-row
returns-clause-row c =
    let same : c.begin.new.plane.items ≡ sized c.args.size (ground c.args.compression c.args.plane.now.items) = c.in_ok-begin.ensures.begun ∙ ap (sized c.args.size) c.lay_ground.ensures.ground in
    on_ok_weaker c.put_changes.result
    (λ e. e ∙ ap (λ (z : List ℕ). sized c.args.size (changed z (changes c.args.compression c.args.input.now))) same
    ∙ sized_ground c.args.size (ground c.args.compression c.args.plane.now.items) (changes c.args.compression c.args.input.now))
    c.put_changes.ensures.row

-- whether the row is too long does not depend on the cut of the seed
same_long : (c : goal.After-put_changes) → is_too_long c.args.size (changed c.begin.new.plane.items (changes c.args.compression c.args.input.now))
    ≡ is_too_long c.args.size (changed (ground c.args.compression c.args.plane.now.items) (changes c.args.compression c.args.input.now))
same_long c =
    let same : c.begin.new.plane.items ≡ sized c.args.size (ground c.args.compression c.args.plane.now.items) = c.in_ok-begin.ensures.begun ∙ ap (sized c.args.size) c.lay_ground.ensures.ground in
    ap (λ (z : List ℕ). is_too_long c.args.size (changed z (changes c.args.compression c.args.input.now))) same
    ∙ long_ground c.args.size (ground c.args.compression c.args.plane.now.items) (changes c.args.compression c.args.input.now)

pub returns-clause-not_long : goal.returns-clause-not_long
returns-clause-not_long c = on_ok_weaker c.put_changes.result (λ e. sym (same_long c) ∙ e) c.put_changes.ensures.not_long

pub returns-clause-long : goal.returns-clause-long
returns-clause-long c = λ e. sym (same_long c) ∙ c.put_changes.ensures.long e
