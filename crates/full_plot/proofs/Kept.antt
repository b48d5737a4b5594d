-- What is kept of strokes, one at a time.
use Rattle.std.proofs.Common.{◌≡◌, ◌<◌, ◌≤◌, Bool, true, List, [], ◌∷◌, ◌++◌, length, refl}
use Rattle.std.proofs.lemmas.Bool.{lt-ltb, le-ltb}
use Rattle.plot_page.specs.Segments.{Segment}
use Rattle.hpgl_plot.specs.Machine.{World, kept_with, full_with, with_strokes}

-- no more than a plot may have
pub kept_no_more : (kept : List Segment) (full : Bool) (ss : List Segment) → 4194304 ≤ length kept → kept_with kept full ss ≡ kept
kept_no_more kept full [] h = refl
kept_no_more kept full (s ∷ ss) h = rw (le-ltb (length kept) 4194304 h) (kept_no_more kept true ss h)

full_stays : (kept : List Segment) (ss : List Segment) → 4194304 ≤ length kept → full_with kept true ss ≡ true
full_stays kept [] h = refl
full_stays kept (s ∷ ss) h = rw (le-ltb (length kept) 4194304 h) (full_stays kept ss h)

pub too_many : (kept : List Segment) (full : Bool) (s : Segment) (ss : List Segment) → 4194304 ≤ length kept → full_with kept full (s ∷ ss) ≡ true
too_many kept full s ss h = rw (le-ltb (length kept) 4194304 h) (full_stays kept ss h)

-- the same in the world of core
pub full_world : (w : World) (s : Segment) (ss : List Segment) → 4194304 ≤ length w.kept → with_strokes w w.state (s ∷ ss) ≡ record w { full = true }
full_world w s ss h = rw (kept_no_more w.kept w.full (s ∷ ss) h, too_many w.kept w.full s ss h) refl

-- one that is kept, and the rest
pub one_more : (w : World) (s : Segment) (ss : List Segment) → length w.kept < 4194304
    → with_strokes w w.state (s ∷ ss) ≡ with_strokes (record w { kept = w.kept ++ s ∷ [] }) w.state ss
one_more w s ss h = rw (lt-ltb (length w.kept) 4194304 h) refl
