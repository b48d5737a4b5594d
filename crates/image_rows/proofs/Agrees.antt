-- A row of a width depends on no more of its seed than that.
use Rattle.std.proofs.Common.{◌≡◌, ℕ, ◌+◌, ◌-◌, ◌<◌, ◌≤◌, ◌⊎◌, inl, inr, List, [], ◌∷◌, ◌++◌, length, take, drop, true, false, refl, sym, ap, ap₂, ◌∙◌, arith, length-append, length-drop}
use Rattle.std.proofs.lemmas.Bool.{cases_lt, lt-ltb, ltb-true, true≢false}
use Rattle.image_rows.specs.declared.compression.RowLength.{RowLength}
use Rattle.image_rows.specs.declared.compression.RowLength.TheVariants.{Fixed, UpTo}
use Rattle.image_rows.specs.Changes.{Change}
use Rattle.image_rows.specs.Rows.{fitted, stay, changed, sized, is_too_long}
use Rattle.image_rows.proofs.Fitted.{fit, fitted_is, take-fit, drop-fit, fit-append, fit_cut, fit_self}
use Rattle.image_rows.proofs.Steps.{length-fitted}

-- what is put does not depend on the seed
put_agrees : (v : ℕ) (bytes tail other : List ℕ) → ((u : ℕ) → v ≡ length bytes + u → fit u tail ≡ fit u other) → fit v (bytes ++ tail) ≡ fit v (bytes ++ other)
put_agrees v bytes tail other same = by_room (cases_lt (length bytes) v)
  where
    by_room : (length bytes < v) ⊎ (v ≤ length bytes) → fit v (bytes ++ tail) ≡ fit v (bytes ++ other)
    by_room (inl h) =
        let e : v ≡ length bytes + (v - length bytes) = omega arith in
        fit-append (v - length bytes) v bytes tail e ∙ ap (λ (z : List ℕ). bytes ++ z) (same (v - length bytes) e) ∙ sym (fit-append (v - length bytes) v bytes other e)
    by_room (inr h) = fit_cut v bytes tail h ∙ sym (fit_cut v bytes other h)

front_agrees : (before width : ℕ) (row other : List ℕ) → before ≤ width → fit width row ≡ fit width other → fitted before row ≡ fitted before other
front_agrees before width row other h e =
    fitted_is before row ∙ sym (take-fit before width row h) ∙ ap (take before) e ∙ take-fit before width other h ∙ sym (fitted_is before other)

cut_front : (before width : ℕ) (row tail : List ℕ) → width ≤ before → fit width (fitted before row ++ tail) ≡ fit width row
cut_front before width row tail h =
    fit_cut width (fitted before row) tail (omega (arith, length-fitted before row, h)) ∙ ap (take width) (fitted_is before row) ∙ take-fit width before row h

step_agrees : (before width : ℕ) (bytes row other tail new : List ℕ) → fit width row ≡ fit width other
    → ((u : ℕ) → width ≡ u + (before + length bytes) → fit u tail ≡ fit u new)
    → fit width (fitted before row ++ (bytes ++ tail)) ≡ fit width (fitted before other ++ (bytes ++ new))
step_agrees before width bytes row other tail new e same = by_room (cases_lt before width)
  where
    by_room : (before < width) ⊎ (width ≤ before) → fit width (fitted before row ++ (bytes ++ tail)) ≡ fit width (fitted before other ++ (bytes ++ new))
    by_room (inl h) =
        fit-append (width - before) width (fitted before row) (bytes ++ tail) (omega (arith, length-fitted before row, h))
        ∙ ap₂ (λ (x y : List ℕ). x ++ y) (front_agrees before width row other (omega arith) e)
        (put_agrees (width - before) bytes tail new (λ u f. same u (omega (arith, f, h))))
        ∙ sym (fit-append (width - before) width (fitted before other) (bytes ++ new) (omega (arith, length-fitted before other, h)))
    by_room (inr h) = cut_front before width row (bytes ++ tail) h ∙ e ∙ sym (cut_front before width other (bytes ++ new) h)

-- seeds that agree in a width are changed to rows that do
pub agrees : (changes : List Change) (width : ℕ) (row other : List ℕ) → fit width row ≡ fit width other → fit width (changed row changes) ≡ fit width (changed other changes)
unfolding changed
agrees [] width row other e = e
agrees (change ∷ more) width row other e =
    let before : ℕ = stay change.skip change.bytes in
    let end : ℕ = stay change.skip change.bytes + length change.bytes in
    step_agrees (stay change.skip change.bytes) width change.bytes row other
    (changed (drop (stay change.skip change.bytes + length change.bytes) row) more) (changed (drop (stay change.skip change.bytes + length change.bytes) other) more) e
    (λ u f. agrees more u (drop (stay change.skip change.bytes + length change.bytes) row) (drop (stay change.skip change.bytes + length change.bytes) other)
    (sym (drop-fit (stay change.skip change.bytes + length change.bytes) u width row f) ∙ ap (drop (stay change.skip change.bytes + length change.bytes)) e ∙ drop-fit (stay change.skip change.bytes + length change.bytes) u width other f))

-- a seed that is cut or filled to the width makes the same row
pub sized_ground : (size : RowLength) (row : List ℕ) (changes : List Change) → sized size (changed (sized size row) changes) ≡ sized size (changed row changes)
sized_ground (UpTo most) row changes = refl
sized_ground (Fixed width) row changes =
    fitted_is width (changed (fitted width row) changes)
    ∙ agrees changes width (fitted width row) row (fit_self width (fitted width row) (length-fitted width row) ∙ fitted_is width row)
    ∙ sym (fitted_is width (changed row changes))

pub long_ground : (size : RowLength) (row : List ℕ) (changes : List Change) → is_too_long size (changed (sized size row) changes) ≡ is_too_long size (changed row changes)
long_ground (UpTo most) row changes = refl
long_ground (Fixed width) row changes = refl

-- changes make no row shorter
pub no_shorter : (changes : List Change) (row : List ℕ) → length row ≤ length (changed row changes)
unfolding changed
no_shorter [] row = omega arith
no_shorter (change ∷ more) row =
    let before : ℕ = stay change.skip change.bytes in
    let rest : List ℕ = drop (stay change.skip change.bytes + length change.bytes) row in
    let later : length (drop (stay change.skip change.bytes + length change.bytes) row) ≤ length (changed (drop (stay change.skip change.bytes + length change.bytes) row) more) =
    no_shorter more (drop (stay change.skip change.bytes + length change.bytes) row) in
    let size : length (fitted (stay change.skip change.bytes) row ++ (change.bytes ++ changed (drop (stay change.skip change.bytes + length change.bytes) row) more))
    ≡ stay change.skip change.bytes + (length change.bytes + length (changed (drop (stay change.skip change.bytes + length change.bytes) row) more)) =
    length-append (fitted (stay change.skip change.bytes) row) (change.bytes ++ changed (drop (stay change.skip change.bytes + length change.bytes) row) more)
    ∙ ap₂ (λ (m n : ℕ). m + n) (length-fitted (stay change.skip change.bytes) row) (length-append change.bytes (changed (drop (stay change.skip change.bytes + length change.bytes) row) more)) in
    omega (arith, size, later, length-drop (stay change.skip change.bytes + length change.bytes) row)

pub long_seed : (size : RowLength) (row : List ℕ) (changes : List Change) → is_too_long size row ≡ true → is_too_long size (changed row changes) ≡ true
long_seed (Fixed width) row changes e = absurd (true≢false (sym e))
long_seed (UpTo most) row changes e =
    let over : most < length row = ltb-true most (length row) e in
    lt-ltb most (length (changed row changes)) (omega (arith, over, no_shorter changes row))
