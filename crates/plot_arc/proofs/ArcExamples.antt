-- Ends of chords, and turns, of some arcs, and sines and cosines.
use Rattle.std.proofs.Common.{◌∷◌, [], refl, pos, neg_ℤ}
use Rattle.exact.proofs.Tables.{Agree, Table, at}
use Rattle.plot_arc.specs.Arcs.{chord_point_of, chords_of, turn_after, sine_of, cosine_of}

-- ends of chords about (10, 20), from 3 to the right of it and 1 above it
ends : Table (chord_point_of (at (pos 10) (pos 20)) (at (pos 13) (pos 21))) (
    (pos 90000, at (pos 9) (pos 23))  -- a quarter
    ∷ (neg_ℤ (pos 90000), at (pos 11) (pos 17))  -- a quarter clockwise
    ∷ (pos 180000, at (pos 7) (pos 19))  -- a half
    ∷ (pos 360000, at (pos 13) (pos 21))  -- a whole turn
    ∷ [])
ends = refl

-- ends of chords about (0, 0), from 1 to the right of it
rounded_ends : Table (chord_point_of (at (pos 0) (pos 0)) (at (pos 1) (pos 0))) (
    (pos 60000, at (pos 1) (pos 1))  -- 0.5 and 0.866: a half is rounded upward
    ∷ (pos 120000, at (pos 0) (pos 1))  -- -0.5 and 0.866: below 0 too
    ∷ [])
rounded_ends = refl

-- how many chords of 30 degrees a sweep has
numbers_of_chords : Table (chords_of 30000) (
    (pos 100000, 4)  -- 100 degrees: 30, 60, 90 and 100
    ∷ (neg_ℤ (pos 90000), 3)  -- 90 degrees have no fourth
    ∷ (pos 0, 1)  -- a sweep of 0 has one chord
    ∷ [])
numbers_of_chords = refl

-- how far the end of a chord of 30 degrees is turned
turns : Agree (
    (turn_after 30000 (pos 100000) 2, pos 60000)  -- the second of 100 degrees
    ∷ (turn_after 30000 (pos 100000) 4, pos 100000)  -- the last of 100 degrees
    ∷ (turn_after 30000 (neg_ℤ (pos 100000)) 3, neg_ℤ (pos 90000))  -- the third of 100 degrees clockwise
    ∷ (turn_after 30000 (pos 0) 1, pos 0)  -- the one of a sweep of 0
    ∷ [])
turns = refl

-- sines and cosines of thousandths of a degree, in ten-millionths
sines : Agree (
    (sine_of (pos 0), pos 0)
    ∷ (sine_of (pos 30000), pos 5000000)
    ∷ (sine_of (pos 37500), pos 6087500)  -- between 37 and 38 degrees, 6018 and 6157 ten-thousandths
    ∷ (sine_of (pos 1), pos 175)  -- a thousandth of a degree is a thousandth of a step of the table
    ∷ (sine_of (pos 89999), pos 9999998)
    ∷ (sine_of (pos 90000), pos 10000000)
    ∷ (sine_of (pos 127500), pos 7933000)
    ∷ (sine_of (pos 180000), pos 0)
    ∷ (sine_of (pos 270000), neg_ℤ (pos 10000000))
    ∷ (sine_of (pos 360000), pos 0)
    ∷ (sine_of (neg_ℤ (pos 30000)), neg_ℤ (pos 5000000))
    ∷ (cosine_of (pos 0), pos 10000000)
    ∷ (cosine_of (pos 60000), pos 5000000)
    ∷ (cosine_of (pos 180000), neg_ℤ (pos 10000000))
    ∷ [])
sines = refl
