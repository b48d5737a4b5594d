-- Arcs through three places: theorems that compute.
use Rattle.std.proofs.Common.{◌≡◌, ◌-◌, ◌^◌, List, [], ◌∷◌, ℕ, true, false, length, slice_index_or, refl, pos, neg_ℤ}
use Rattle.exact.specs.Roots.{root_by}
use Rattle.exact.specs.declared.spot.Spot.{Spot}
use Rattle.exact.proofs.Tables.{Agree, at}
use Rattle.directions.specs.Directions.{surplus}
use Rattle.curves.specs.Arcs.{centre_of, circle_by, whole_circle, middle, between, place_at, is_far, arc_places}

-- the half circle from (0, 1600) over (1600, 3200) to (3200, 1600): its centre is 1600 grains to the right
half_centre : centre_of (at (pos 1600) (pos 1600)) (at (pos 3200) (pos 0)) ≡ at (pos 409600) (pos 0)
half_centre = refl

-- an arc that is nearly a line has its centre more than 2^40 ticks away
nearly_a_line : is_far (circle_by (at (pos 0) (pos 0)) (at (pos 1000000) (pos 1)) (at (pos 2000000) (pos 0))) ≡ true
unfolding circle_by
nearly_a_line = refl

-- midway between two directions
middles : Agree (
    (middle false (at (pos 0) (pos 5)) (at (neg_ℤ (pos 5)) (pos 0)), at (neg_ℤ (pos 759250125)) (pos 759250125))  -- up to left
    ∷ (middle false (at (pos 0) (pos 5)) (at (pos 0) (neg_ℤ (pos 5))), at (neg_ℤ (pos (2 ^ 30))) (pos 0))  -- up to down, counterclockwise
    ∷ (middle true (at (pos 0) (pos 5)) (at (pos 0) (neg_ℤ (pos 5))), at (pos (2 ^ 30)) (pos 0))  -- up to down, clockwise
    ∷ [])
unfolding middle root_by surplus
middles = refl

-- three places on one line: the pen goes straight to the last
lines : Agree (
    (arc_places (at (pos 0) (pos 0)) (at (pos 160) (pos 0)) (at (pos 320) (pos 0)), at (pos 320) (pos 0) ∷ [])
    ∷ (arc_places (at (pos 0) (pos 0)) (at (pos 320) (pos 0)) (at (pos 160) (pos 0)), at (pos 160) (pos 0) ∷ [])  -- even if it passes it on its way to the second
    ∷ (arc_places (at (pos 7) (pos 8)) (at (pos 7) (pos 8)) (at (pos 7) (pos 8)), at (pos 7) (pos 8) ∷ [])  -- all in one place
    ∷ [])
lines = refl

-- a centre too far away: over the second place
over_the_second : arc_places (at (pos 0) (pos 0)) (at (pos 1000000) (pos 1)) (at (pos 2000000) (pos 0)) ≡ at (pos 1000000) (pos 1) ∷ at (pos 2000000) (pos 0) ∷ []
unfolding circle_by
over_the_second = refl

-- a place by its number, from 1 on
abbrev nth : List Spot → ℕ → Spot
nth places k = slice_index_or places (k - 1) (at (pos 0) (pos 0))

abbrev half : List Spot
half = arc_places (at (pos 0) (pos 1600)) (at (pos 1600) (pos 3200)) (at (pos 3200) (pos 1600))

half_many : length half ≡ 64
unfolding circle_by between middle place_at root_by surplus
half_many = refl

-- the same places clockwise, below
abbrev below : List Spot
below = arc_places (at (pos 0) (pos 1600)) (at (pos 1600) (pos 0)) (at (pos 3200) (pos 1600))

-- from (3200, 1600) to (1600, 0): three quarters of a circle over (0, 1600), and the other quarter over (2560, 320)
abbrev around : Spot → List Spot
around b = arc_places (at (pos 3200) (pos 1600)) b (at (pos 1600) (pos 0))

around_middles : nth (around (at (pos 0) (pos 1600))) 32 ∷ nth (around (at (pos 2560) (pos 320))) 32 ∷ []
    ≡ at (pos 469) (pos 2731) ∷ at (pos 2731) (pos 469) ∷ []
unfolding circle_by between middle place_at root_by surplus
around_middles = refl

-- the whole circle from (1600, 1600) over (3200, 1600)
abbrev whole : List Spot
whole = arc_places (at (pos 1600) (pos 1600)) (at (pos 3200) (pos 1600)) (at (pos 1600) (pos 1600))

-- places of these arcs
places : Agree (
    (nth half 32, at (pos 1600) (pos 3200))  -- the middle
    ∷ (nth half 31, at (pos 1521) (pos 3198))  -- before the middle
    ∷ (nth half 64, at (pos 3200) (pos 1600))  -- the last
    ∷ (nth below 1, at (pos 2) (pos 1521))
    ∷ (nth below 32, at (pos 1600) (pos 0))
    ∷ (nth whole 1, at (pos 1604) (pos 1522))
    ∷ (nth whole 32, at (pos 3200) (pos 1600))
    ∷ (nth whole 63, at (pos 1604) (pos 1678))  -- the last but one
    ∷ [])
unfolding circle_by between middle place_at root_by surplus whole_circle
places = refl

whole_many : length whole ≡ 64
unfolding whole_circle between middle place_at root_by surplus
whole_many = refl
