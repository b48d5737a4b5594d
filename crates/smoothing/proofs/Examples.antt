-- Means, sums and smoothed pixels of small pictures.
use Rattle.std.proofs.Common.{◌≡◌, ℕ, ◌*◌, List, [], ◌∷◌, get_or, refl, map}
use Rattle.smoothing.specs.Smoothings.{Colours, total, mean, smoothed}

-- a table of examples: each value agrees with the one beside it
abbrev Agree : {X : Type 0} → List (X × X) → Type 0
Agree rows = map (λ it. it.0) rows ≡ map (λ it. it.1) rows

-- means, rounded, and a sum
means : Agree (
    (mean 2 510, 128)  -- a half is rounded upward
    ∷ (mean 2 509, 127)  -- what is less than a half is rounded downward
    ∷ (mean 8 (64 * 255), 255)  -- white
    ∷ (total (λ k. k * k) 2 2, 13)  -- the values 4 and 9, the squares of 2 and 3
    ∷ [])
unfolding total
means = refl

-- a row of red, green and blue, and below it white, black and (9, 10, 11)
three_columns : List (List (List ℕ))
three_columns =
    ((255 ∷ 0 ∷ 0 ∷ []) ∷ (0 ∷ 255 ∷ 0 ∷ []) ∷ (0 ∷ 0 ∷ 255 ∷ []) ∷ []) ∷
    ((255 ∷ 255 ∷ 255 ∷ []) ∷ (0 ∷ 0 ∷ 0 ∷ []) ∷ (9 ∷ 10 ∷ 11 ∷ []) ∷ []) ∷ []

-- the same as a picture, which is white past its edges
picture : Colours
picture row column = get_or (get_or three_columns row []) column (255 ∷ 255 ∷ 255 ∷ [])

-- smoothed pixels
pixels : Agree (
    (smoothed 2 picture 0 0, 128 ∷ 128 ∷ 64 ∷ [])  -- 510, 510 and 255 of four pixels
    ∷ (smoothed 2 picture 0 1, 130 ∷ 130 ∷ 194 ∷ [])  -- two of the four pixels lie past the edge: 519, 520 and 776
    ∷ (smoothed 1 picture 1 2, 9 ∷ 10 ∷ 11 ∷ [])  -- without smoothing a pixel is as it is
    ∷ [])
unfolding total three_columns picture
pixels = refl
