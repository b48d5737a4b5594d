-- From change to change, with the results of the calls.
use Rattle.std.proofs.Common.{◌≡◌, ℕ, ◌+◌, ◌-◌, ◌<◌, ◌≤◌, min, Bool, true, false, ◌&&◌, ◌||◌, nat_lt, List, [], ◌∷◌, ◌++◌, length, take, drop, Result, Ok, Err, IfOk, OnOk, refl, sym, ap, ap₂, ◌∙◌, arith, length-append}
use Rattle.std.proofs.lemmas.List.{take_all}
use Rattle.std.proofs.lemmas.Bool.{lt-ltb, le-ltb, ltb-true, ltb-false, and_right, true≢false}
use Rattle.image_rows.specs.declared.compression.RowLength.{RowLength}
use Rattle.image_rows.specs.declared.compression.RowLength.TheVariants.{Fixed, UpTo}
use Rattle.image_rows.specs.declared.ending.RowFault.{RowFault}
use Rattle.image_rows.specs.Changes.{Change}
use Rattle.image_rows.specs.Rows.{fitted, stay, changed, sized, is_too_long, has_place, most_of, breaks_off_from}
use Rattle.image_rows.specs.Views.{IsBegun, is_too_far, with_bytes, going_on}
use Rattle.image_rows.proofs.Fitted.{fitted_is, take-fit, fit_cut, fit_self}
use Rattle.image_rows.proofs.Steps.{stay_is, length-fitted, going_on_none, going_on_empty, going_on_more, put_sized, ending_after, full_stays}

-- where bytes end: after their place, and not after the last of them
pub end_order : (size : RowLength) (at n end : ℕ) → has_place size at ≡ true → end ≡ min (at + n) (most_of size) → is_too_far size (at + n) ≡ false → (at ≤ end) × (end ≤ at + n)
end_order (Fixed width) at n end room e far = let near : at < width = ltb-true at width room in (omega (arith, near), omega arith)
end_order (UpTo most) at n end room e far = let near : at + n ≤ most = ltb-false most (at + n) far in (omega (arith, near), omega arith)

-- a row in its length is as it is
pub sized_self : (size : RowLength) (row : List ℕ) → IsBegun size row → sized size row ≡ row
sized_self (Fixed width) row begun = fitted_is width row ∙ fit_self width row begun
sized_self (UpTo most) row begun = refl

pub long_same : (size : RowLength) (xs ys : List ℕ) → sized size xs ≡ sized size ys → is_too_long size xs ≡ is_too_long size ys
long_same (Fixed width) xs ys e = refl
long_same (UpTo most) xs ys e = ap (λ (z : List ℕ). nat_lt most (length z)) e

-- what is in its length is not too long
pub not_long : (size : RowLength) (row xs : List ℕ) → IsBegun size row → row ≡ sized size xs → is_too_long size xs ≡ false
not_long (Fixed width) row xs begun e = refl
not_long (UpTo most) row xs begun e = le-ltb most (length xs) (omega (arith, begun, ap length e))

-- what a call that puts bytes leaves
pub row_from : (r : Result ℕ RowFault) (size : RowLength) (row new : List ℕ) (place skip at : ℕ) (bytes : List ℕ) (is_broken : Bool)
    → IsBegun size row → 0 < length bytes → place ≤ length row → at ≡ place + skip → has_place size at ≡ true
    → IfOk r (λ end. new ≡ with_bytes at end bytes row) → IfOk r (λ end. end ≡ min (at + length bytes) (most_of size)) → OnOk r (is_too_far size (at + length bytes) ≡ false)
    → IfOk r (λ next. (more : List Change) → sized size (going_on new next more) ≡ sized size (going_on row place (record { skip = skip; bytes = bytes; is_broken = is_broken } ∷ more)))
row_from (Ok end) size row new place skip at bytes is_broken begun some within e room is f far =
    λ more. ap (λ (z : List ℕ). sized size (going_on z end more)) is ∙ put_sized size row place skip at end bytes is_broken more begun some within e room f far
row_from (Err fault) size row new place skip at bytes is_broken begun some within e room is f far = tt

pub ending_from : (r : Result ℕ RowFault) (size : RowLength) (place skip at : ℕ) (bytes : List ℕ) → 0 < length bytes → at ≡ place + skip
    → IfOk r (λ end. end ≡ min (at + length bytes) (most_of size)) → OnOk r (is_too_far size (at + length bytes) ≡ false)
    → IfOk r (λ next. (more : List Change) → breaks_off_from size next more ≡ breaks_off_from size (place + (stay skip bytes + length bytes)) more)
ending_from (Ok end) size place skip at bytes some e f far =
    λ more. ending_after size at end bytes more f far
    ∙ ap (λ (n : ℕ). breaks_off_from size n more) (let same : at + length bytes ≡ place + (stay skip bytes + length bytes) = omega (arith, stay_is skip bytes some, e) in same)
ending_from (Err fault) size place skip at bytes some e f far = tt

-- bytes beyond the most that are allowed make a row too long
pub long_from : (size : RowLength) (row : List ℕ) (place skip at : ℕ) (bytes : List ℕ) (is_broken : Bool) → 0 < length bytes → place ≤ length row → at ≡ place + skip
    → is_too_far size (at + length bytes) ≡ true
    → (more : List Change) → is_too_long size (going_on row place (record { skip = skip; bytes = bytes; is_broken = is_broken } ∷ more)) ≡ true
long_from (Fixed width) row place skip at bytes is_broken some within e far more = absurd (true≢false (sym far))
long_from (UpTo most) row place skip at bytes is_broken some within e far more =
    let over : most < at + length bytes = ltb-true most (at + length bytes) far in
    let rest : List ℕ = changed (drop (at + length bytes) row) more in
    let size : length (going_on row place (record { skip = skip; bytes = bytes; is_broken = is_broken } ∷ more)) ≡ at + (length bytes + length (changed (drop (at + length bytes) row) more)) =
    ap length (going_on_more row place skip at (at + length bytes) bytes is_broken more some within e refl)
    ∙ length-append (fitted at row) (bytes ++ changed (drop (at + length bytes) row) more)
    ∙ ap₂ (λ (m n : ℕ). m + n) (length-fitted at row) (length-append bytes (changed (drop (at + length bytes) row) more)) in
    lt-ltb most (length (going_on row place (record { skip = skip; bytes = bytes; is_broken = is_broken } ∷ more))) (omega (arith, size, over))

-- a change that begins beyond the width changes nothing; and it does not break off
pub past_end : (size : RowLength) (row : List ℕ) (place skip : ℕ) (bytes : List ℕ) (is_broken : Bool) (more : List Change)
    → IsBegun size row → place ≤ length row → has_place size (place + skip) ≡ false → (is_broken ≡ true → more ≡ []) → (is_broken ≡ false → length bytes ≡ 0 → skip ≡ 0)
    → row ≡ sized size (going_on row place (record { skip = skip; bytes = bytes; is_broken = is_broken } ∷ more))
past_end (UpTo most) row place skip bytes is_broken more begun within past last stays = absurd (true≢false past)
past_end (Fixed width) row place skip (b ∷ bytes) is_broken more begun within past last stays =
    let far : width ≤ place + skip = ltb-false (place + skip) width past in
    let at : ℕ = place + skip in
    let rest : List ℕ = changed (drop (place + skip + length (b ∷ bytes)) row) more in
    sym (ap (fitted width) (going_on_more row place skip (place + skip) (place + skip + length (b ∷ bytes)) (b ∷ bytes) is_broken more (omega arith) within refl refl)
    ∙ fitted_is width (fitted (place + skip) row ++ ((b ∷ bytes) ++ changed (drop (place + skip + length (b ∷ bytes)) row) more))
    ∙ fit_cut width (fitted (place + skip) row) ((b ∷ bytes) ++ changed (drop (place + skip + length (b ∷ bytes)) row) more) (omega (arith, length-fitted (place + skip) row, far))
    ∙ ap (take width) (fitted_is (place + skip) row) ∙ take-fit width (place + skip) row far ∙ fit_self width row begun)
past_end (Fixed width) row place skip [] true more begun within past last stays =
    sym (ap (fitted width) (going_on_empty row place skip [] true more refl ∙ ap (going_on row place) (last refl) ∙ going_on_none row place) ∙ fitted_is width row ∙ fit_self width row begun)
past_end (Fixed width) row place skip [] false more begun within past last stays =
    let far : width ≤ place + skip = ltb-false (place + skip) width past in
    let none : skip ≡ 0 = stays refl refl in
    let size : length (take place row) ≡ width = ap length (take_all place row (omega (arith, far, none, begun))) ∙ begun in
    sym (ap (fitted width) (going_on_empty row place skip [] false more refl)
    ∙ fitted_is width (take place row ++ changed (drop place row) more)
    ∙ fit_cut width (take place row) (changed (drop place row) more) (omega (arith, size))
    ∙ take_all width (take place row) (omega (arith, size)) ∙ take_all place row (omega (arith, far, none, begun)))

pub past_stays : (size : RowLength) (place skip : ℕ) (bytes : List ℕ) (is_broken : Bool) (more : List Change)
    → has_place size (place + skip) ≡ false → (is_broken ≡ true → more ≡ []) → (is_broken ≡ false → length bytes ≡ 0 → skip ≡ 0)
    → breaks_off_from size place (record { skip = skip; bytes = bytes; is_broken = is_broken } ∷ more) ≡ false
unfolding breaks_off_from
past_stays (UpTo most) place skip bytes is_broken more past last stays = absurd (true≢false past)
past_stays (Fixed width) place skip (b ∷ bytes) is_broken more past last stays =
    let far : width ≤ place + skip = ltb-false (place + skip) width past in
    ap (λ (t : Bool). t || breaks_off_from (Fixed width) (place + (skip + length (b ∷ bytes))) more) (and_right is_broken (nat_lt (place + skip) width) past)
    ∙ full_stays width (place + (skip + length (b ∷ bytes))) more (omega arith)
past_stays (Fixed width) place skip [] true more past last stays =
    ap (λ (t : Bool). t || breaks_off_from (Fixed width) (place + (0 + 0)) more) past ∙ ap (breaks_off_from (Fixed width) (place + (0 + 0))) (last refl)
past_stays (Fixed width) place skip [] false more past last stays =
    let far : width ≤ place + skip = ltb-false (place + skip) width past in
    let none : skip ≡ 0 = stays refl refl in
    full_stays width (place + (0 + 0)) more (omega (arith, far, none))

-- a change that is broken, with room for it, breaks off
pub broken_ends : (size : RowLength) (place : ℕ) (change : Change) (more : List Change) → change.is_broken ≡ true → has_place size (place + change.skip) ≡ true
    → breaks_off_from size place (change ∷ more) ≡ true
unfolding breaks_off_from
broken_ends size place change more broken room =
    ap₂ (λ (a b : Bool). (a && b) || breaks_off_from size (place + (stay change.skip change.bytes + length change.bytes)) more) broken room

-- one that is not does as what follows
pub whole_goes_on : (size : RowLength) (place : ℕ) (change : Change) (more : List Change) → change.is_broken ≡ false
    → breaks_off_from size place (change ∷ more) ≡ breaks_off_from size (place + (stay change.skip change.bytes + length change.bytes)) more
unfolding breaks_off_from
whole_goes_on size place change more whole =
    ap (λ (a : Bool). (a && has_place size (place + change.skip)) || breaks_off_from size (place + (stay change.skip change.bytes + length change.bytes)) more) whole

pub none_stays : (size : RowLength) (place : ℕ) → breaks_off_from size place [] ≡ false
unfolding breaks_off_from
none_stays size place = refl

-- a fault is the same in each result
pub err_again : {A B : Type 0} (fault other : RowFault) → ◌≡◌ {A = Result A RowFault} (Err fault) (Err other) → ◌≡◌ {A = Result B RowFault} (Err fault) (Err other)
err_again fault other e = let same : fault ≡ other = cc in ap Err same
