-- Images whose strokes are counted from the first one on are as they are.
use Rattle.std.proofs.Common.{◌≡◌, ◌-◌, ◌∙◌, arith, ℕ, refl, ap, List, [], ◌∷◌}
use Rattle.page_images.specs.PageImages.{ImageShape, all_counted, counted}

none_of : (i : ImageShape) → counted 0 i ≡ i
none_of i =
    let same : i.before - 0 ≡ i.before = omega arith in
    ap (λ (before : ℕ). record i { before = before }) same

pub none_before : (images : List ImageShape) → all_counted 0 images ≡ images
none_before [] = refl
none_before (i ∷ images) =
    ap (λ (first : ImageShape). first ∷ all_counted 0 images) (none_of i)
    ∙ ap (λ (is : List ImageShape). i ∷ is) (none_before images)
