-- A row, one change at a time.
use Rattle.std.proofs.Common.{◌≡◌, ℕ, ◌+◌, ◌-◌, ◌<◌, ◌≤◌, min, Bool, true, false, ◌||◌, nat_lt, List, [], ◌∷◌, ◌++◌, length, take, drop, refl, sym, ap, ap₂, ◌∙◌, arith, append_assoc, length-append}
use Rattle.std.proofs.lemmas.List.{take_all, take_at, drop_at, drop_all, drop-drop, append-nil, take-append-drop, length-take-le}
use Rattle.std.proofs.lemmas.Bool.{le-ltb, ltb-true, ltb-false, and_right}
use Rattle.image_rows.specs.declared.compression.RowLength.{RowLength}
use Rattle.image_rows.specs.declared.compression.RowLength.TheVariants.{Fixed, UpTo}
use Rattle.image_rows.specs.Changes.{Change}
use Rattle.image_rows.specs.Rows.{fitted, stay, changed, sized, has_place, most_of, breaks_off_from}
use Rattle.image_rows.specs.Views.{IsBegun, is_too_far, with_bytes, going_on}
use Rattle.image_rows.proofs.Fitted.{fit, fitted_is, length-fit, fit_split, fit-append, fit_cut}

pub stay_is : (skip : ℕ) (bytes : List ℕ) → 0 < length bytes → stay skip bytes ≡ skip
stay_is skip [] h = absurd (omega arith)
stay_is skip (b ∷ bytes) h = refl

-- nothing is changed after the last change
pub going_on_none : (row : List ℕ) (place : ℕ) → going_on row place [] ≡ row
unfolding changed
going_on_none row place = take-append-drop place row

-- a change without bytes changes nothing
pub going_on_empty : (row : List ℕ) (place skip : ℕ) (bytes : List ℕ) (is_broken : Bool) (more : List Change) → length bytes ≡ 0
    → going_on row place (record { skip = skip; bytes = bytes; is_broken = is_broken } ∷ more) ≡ going_on row place more
unfolding changed
going_on_empty row place skip [] is_broken more e = refl
going_on_empty row place skip (b ∷ bytes) is_broken more e = absurd (omega arith)

-- a change: what stays, the bytes that are put, and what follows
pub going_on_more : (row : List ℕ) (place skip at end : ℕ) (bytes : List ℕ) (is_broken : Bool) (more : List Change)
    → 0 < length bytes → place ≤ length row → at ≡ place + skip → end ≡ at + length bytes
    → going_on row place (record { skip = skip; bytes = bytes; is_broken = is_broken } ∷ more) ≡ fitted at row ++ (bytes ++ changed (drop end row) more)
unfolding changed
going_on_more row place skip at end bytes is_broken more some within e f =
    let before : stay skip bytes ≡ skip = stay_is skip bytes some in
    ap (λ (n : ℕ). take place row ++ (fitted n (drop place row) ++ (bytes ++ changed (drop (n + length bytes) (drop place row)) more))) before
    ∙ sym (append_assoc (take place row) (fitted skip (drop place row)) (bytes ++ changed (drop (skip + length bytes) (drop place row)) more))
    ∙ ap₂ (λ (front rest : List ℕ). front ++ (bytes ++ changed rest more))
    (ap (λ (z : List ℕ). take place row ++ z) (fitted_is skip (drop place row)) ∙ fit_split place skip at row within e ∙ sym (fitted_is at row))
    (drop-drop (skip + length bytes) place row ∙ ap (λ (n : ℕ). drop n row) (let same : place + (skip + length bytes) ≡ end = omega arith in same))

pub length-fitted : (n : ℕ) (row : List ℕ) → length (fitted n row) ≡ n
length-fitted n row = ap length (fitted_is n row) ∙ length-fit n row

-- where the bytes have room
pub put_whole : (row : List ℕ) (place skip at end : ℕ) (bytes : List ℕ) (is_broken : Bool) (more : List Change)
    → 0 < length bytes → place ≤ length row → at ≡ place + skip → end ≡ at + length bytes
    → going_on (with_bytes at end bytes row) end more ≡ going_on row place (record { skip = skip; bytes = bytes; is_broken = is_broken } ∷ more)
put_whole row place skip at end bytes is_broken more some within e f =
    let front : List ℕ = fitted at row ++ bytes in
    let all : take (end - at) bytes ≡ bytes = take_all (end - at) bytes (omega arith) in
    let new : with_bytes at end bytes row ≡ front ++ drop end row =
    ap (λ (z : List ℕ). fitted at row ++ (z ++ drop end row)) all ∙ sym (append_assoc (fitted at row) bytes (drop end row)) in
    let size : length front ≡ end = length-append (fitted at row) bytes ∙ ap (λ (n : ℕ). n + length bytes) (length-fitted at row) ∙ sym f in
    ap (λ (z : List ℕ). going_on z end more) new
    ∙ ap₂ (λ (x y : List ℕ). x ++ changed y more) (take_at front (drop end row) end size) (drop_at front (drop end row) end size)
    ∙ append_assoc (fitted at row) bytes (changed (drop end row) more)
    ∙ sym (going_on_more row place skip at end bytes is_broken more some within e f)

-- where they are cut
pub put_cut : (row : List ℕ) (width place skip at : ℕ) (bytes : List ℕ) (is_broken : Bool) (more : List Change)
    → length row ≡ width → 0 < length bytes → place ≤ width → at ≡ place + skip → at < width → width ≤ at + length bytes
    → fitted width (going_on (with_bytes at width bytes row) width more) ≡ fitted width (going_on row place (record { skip = skip; bytes = bytes; is_broken = is_broken } ∷ more))
put_cut row width place skip at bytes is_broken more wide some within e near far =
    let new : with_bytes at width bytes row ≡ fitted at row ++ take (width - at) bytes =
    ap (λ (z : List ℕ). fitted at row ++ (take (width - at) bytes ++ z)) (drop_all width row (omega arith)) ∙ ap (λ (z : List ℕ). fitted at row ++ z) (append-nil (take (width - at) bytes)) in
    let part : length (take (width - at) bytes) ≡ width - at = length-take-le (width - at) bytes (omega arith) in
    let size : length (fitted at row ++ take (width - at) bytes) ≡ width = length-append (fitted at row) (take (width - at) bytes) ∙ omega (arith, length-fitted at row, part, near) in
    let left : fitted width (going_on (with_bytes at width bytes row) width more) ≡ fitted at row ++ take (width - at) bytes =
    ap (λ (z : List ℕ). fitted width (going_on z width more)) new
    ∙ fitted_is width (going_on (fitted at row ++ take (width - at) bytes) width more)
    ∙ ap (λ (z : List ℕ). fit width (z ++ changed (drop width (fitted at row ++ take (width - at) bytes)) more)) (take_all width (fitted at row ++ take (width - at) bytes) (omega arith))
    ∙ fit_cut width (fitted at row ++ take (width - at) bytes) (changed (drop width (fitted at row ++ take (width - at) bytes)) more) (omega arith)
    ∙ take_all width (fitted at row ++ take (width - at) bytes) (omega arith) in
    let end : ℕ = at + length bytes in
    let right : fitted width (going_on row place (record { skip = skip; bytes = bytes; is_broken = is_broken } ∷ more)) ≡ fitted at row ++ take (width - at) bytes =
    ap (fitted width) (going_on_more row place skip at (at + length bytes) bytes is_broken more some (omega arith) e refl)
    ∙ fitted_is width (fitted at row ++ (bytes ++ changed (drop (at + length bytes) row) more))
    ∙ fit-append (width - at) width (fitted at row) (bytes ++ changed (drop (at + length bytes) row) more) (omega (arith, length-fitted at row, near))
    ∙ ap (λ (z : List ℕ). fitted at row ++ z) (fit_cut (width - at) bytes (changed (drop (at + length bytes) row) more) (omega arith)) in
    left ∙ sym right

-- the bytes of a change, as far as there is room
pub put_sized : (size : RowLength) (row : List ℕ) (place skip at end : ℕ) (bytes : List ℕ) (is_broken : Bool) (more : List Change)
    → IsBegun size row → 0 < length bytes → place ≤ length row → at ≡ place + skip → has_place size at ≡ true
    → end ≡ min (at + length bytes) (most_of size) → is_too_far size (at + length bytes) ≡ false
    → sized size (going_on (with_bytes at end bytes row) end more) ≡ sized size (going_on row place (record { skip = skip; bytes = bytes; is_broken = is_broken } ∷ more))
put_sized (UpTo most) row place skip at end bytes is_broken more begun some within e room f far =
    let near : at + length bytes ≤ most = ltb-false most (at + length bytes) far in
    put_whole row place skip at end bytes is_broken more some within e (omega (arith, near))
put_sized (Fixed width) row place skip at end bytes is_broken more begun some within e room f far = by_room (nat_lt (at + length bytes) width) refl
  where
    near : at < width
    near = ltb-true at width room

    by_room : (b : Bool) → nat_lt (at + length bytes) width ≡ b
        → fitted width (going_on (with_bytes at end bytes row) end more) ≡ fitted width (going_on row place (record { skip = skip; bytes = bytes; is_broken = is_broken } ∷ more))
    by_room true t =
        let fits : at + length bytes < width = ltb-true (at + length bytes) width t in
        ap (fitted width) (put_whole row place skip at end bytes is_broken more some within e (omega (arith, fits)))
    by_room false t =
        let over : width ≤ at + length bytes = ltb-false (at + length bytes) width t in
        ap (λ (n : ℕ). fitted width (going_on (with_bytes at n bytes row) n more)) (let same : end ≡ width = omega (arith, over) in same)
        ∙ put_cut row width place skip at bytes is_broken more begun some (omega arith) e near over

-- in a full row nothing breaks off
pub full_stays : (width place : ℕ) (more : List Change) → width ≤ place → breaks_off_from (Fixed width) place more ≡ false
unfolding breaks_off_from
full_stays width place [] h = refl
full_stays width place (change ∷ more) h =
    let before : ℕ = stay change.skip change.bytes + length change.bytes in
    ap (λ (b : Bool). b || breaks_off_from (Fixed width) (place + before) more) (and_right change.is_broken (nat_lt (place + change.skip) width) (le-ltb (place + change.skip) width (omega arith)))
    ∙ full_stays width (place + before) more (omega arith)

-- where the next change begins, it breaks off or not
pub ending_after : (size : RowLength) (at end : ℕ) (bytes : List ℕ) (more : List Change)
    → end ≡ min (at + length bytes) (most_of size) → is_too_far size (at + length bytes) ≡ false
    → breaks_off_from size end more ≡ breaks_off_from size (at + length bytes) more
ending_after (UpTo most) at end bytes more f far =
    let near : at + length bytes ≤ most = ltb-false most (at + length bytes) far in
    ap (λ (n : ℕ). breaks_off_from (UpTo most) n more) (omega (arith, near))
ending_after (Fixed width) at end bytes more f far = by_room (nat_lt (at + length bytes) width) refl
  where
    by_room : (b : Bool) → nat_lt (at + length bytes) width ≡ b → breaks_off_from (Fixed width) end more ≡ breaks_off_from (Fixed width) (at + length bytes) more
    by_room true t =
        let fits : at + length bytes < width = ltb-true (at + length bytes) width t in
        ap (λ (n : ℕ). breaks_off_from (Fixed width) n more) (omega (arith, fits))
    by_room false t =
        let over : width ≤ at + length bytes = ltb-false (at + length bytes) width t in
        full_stays width end more (omega (arith, over)) ∙ sym (full_stays width (at + length bytes) more over)
