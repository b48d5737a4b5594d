-- The dashes of some lines. P1 and P2 of the rectangle (0,0) to (300,400) have a diagonal of 500 plotter units, and ten
-- percent of it are 800 grains.
use Rattle.std.proofs.Common.{◌≡◌, ℕ, ◌*◌, ◌^◌, [], ◌∷◌, refl, pos, Some, None}
use Rattle.exact.specs.Roots.{root_by}
use Rattle.exact.specs.declared.spot.Spot.{Spot}
use Rattle.exact.proofs.Tables.{Agree}
use Rattle.line_types.specs.Patterns.{fixed_gaps, adaptive_gaps, diagonal_of, length_by_percent, length_by_millimetres}
use Rattle.line_types.specs.Dashes.{fixed_dashes, adaptive_dashes}
use Rattle.line_types.specs.LineTypes.{Solid, EndDot, phase_at, phase_after, dashes_of}

abbrev at : ℕ → ℕ → Spot
at x y = record { x = pos x; y = pos y }

-- a dash on the horizontal line at y
abbrev along : ℕ → ℕ → ℕ → Spot × Spot
along y from to = (at from y, at to y)

abbrev up : ℕ → ℕ → ℕ → Spot × Spot
up x from to = (at x from, at x to)

abbrev ten_percent : ℕ
ten_percent = 204800

-- lengths of patterns in 256ths of a grain
lengths : Agree (
    (length_by_percent (diagonal_of (pos 300) (pos 400)) 10000000, ten_percent)  -- ten percent
    ∷ (length_by_millimetres 10000000, 6400 * 256)  -- ten millimetres
    ∷ (length_by_millimetres 1, 256)  -- the shortest
    ∷ (length_by_millimetres (2 ^ 43), 2 ^ 40)  -- the greatest
    ∷ [])
unfolding root_by
lengths = refl

-- where the pattern goes on after that line, and on a line that begins elsewhere
abbrev left_over : ℕ
left_over = 81920

-- where the pattern goes on
phases : Agree (
    (phase_after None (at 0 1600) (at 1920 1600) ten_percent, left_over)  -- after a line of 1920 grains
    ∷ (phase_at (Some (record { end = at 1920 1600; phase = left_over })) (at 1920 1600) ten_percent, left_over)  -- on the line after it
    ∷ (phase_at (Some (record { end = at 1920 1600; phase = left_over })) (at 0 1600) ten_percent, 0)  -- on a line that begins elsewhere
    ∷ (phase_at (Some (record { end = at 1920 1600; phase = left_over })) (at 1920 1600) 20480, 0)  -- what is left over is taken modulo the length of a shorter pattern
    ∷ [])
unfolding root_by
phases = refl

-- dashes of fixed patterns
fixed : Agree (
    -- half of the pattern is drawn, and the last dash ends with the line
    (fixed_dashes (fixed_gaps 2) ten_percent 0 (at 0 1600) (at 1920 1600), (along 1600 0 400) ∷ (along 1600 800 1200) ∷ (along 1600 1600 1920) ∷ [])
    ∷ (fixed_dashes (fixed_gaps 2) ten_percent left_over (at 1920 1600) (at 1920 2400), (up 1920 1600 1680) ∷ (up 1920 2080 2400) ∷ [])  -- the pattern goes on round a corner
    ∷ (fixed_dashes (fixed_gaps 2) (6400 * 256) 0 (at 0 0) (at 16000 0), (along 0 0 3200) ∷ (along 0 6400 9600) ∷ (along 0 12800 16000) ∷ [])  -- a pattern of ten millimetres
    ∷ (fixed_dashes (fixed_gaps 1) ten_percent 0 (at 0 0) (at 1600 0), (up 0 0 0) ∷ (up 800 0 0) ∷ [])  -- dots, none at the line's end, where the next line's first is
    ∷ (fixed_dashes (fixed_gaps 4) ten_percent 0 (at 0 0) (at 1600 0), (along 0 0 640) ∷ (up 720 0 0) ∷ (along 0 800 1440) ∷ (up 1520 0 0) ∷ [])  -- dashes and dots by turns
    -- an odd number of gaps: the last and the first are both drawn
    ∷ (fixed_dashes (50000000 ∷ 20000000 ∷ 30000000 ∷ []) ten_percent 0 (at 0 0) (at 1600 0), (along 0 0 400) ∷ (along 0 560 800) ∷ (along 0 800 1200) ∷ (along 0 1360 1600) ∷ [])
    ∷ (fixed_dashes (fixed_gaps 2) ten_percent 0 (at 0 0) (at 960 1280), (at 0 0, at 240 320) ∷ (at 480 640, at 720 960) ∷ [])  -- a slanted line
    ∷ [])
unfolding root_by
fixed = refl

-- dashes of adaptive patterns
adaptive : Agree (
    -- two and a half lengths, so three repetitions; where two meet, two dashes do
    (adaptive_dashes (adaptive_gaps 2) ten_percent (at 0 1600) (at 1920 1600), (along 1600 0 160) ∷ (along 1600 480 640) ∷ (along 1600 640 800) ∷ (along 1600 1120 1280) ∷ (along 1600 1280 1440) ∷ (along 1600 1760 1920) ∷ [])
    ∷ (adaptive_dashes (adaptive_gaps 1) ten_percent (at 0 0) (at 1600 0), (up 0 0 0) ∷ (up 800 0 0) ∷ (up 1600 0 0) ∷ [])  -- dots are at both ends
    ∷ [])
unfolding root_by
adaptive = refl

-- a line of type 0
end_only : dashes_of EndDot None (at 800 1600) (at 800 2400)
    ≡ (up 800 2400 2400) ∷ []
unfolding root_by
end_only = refl

-- a solid line
solid_line : dashes_of Solid None (at 800 1600) (at 800 2400)
    ≡ (up 800 1600 2400) ∷ []
unfolding root_by
solid_line = refl
