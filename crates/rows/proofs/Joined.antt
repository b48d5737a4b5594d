-- Strips of a picture's rows: all rows, and strips one after another.
use Rattle.std.proofs.Common.{◌≡◌, ℕ, ◌+◌, ◌-◌, ◌<◌, ◌≤◌, List, [], ◌++◌, Bool, true, false, cond, nat_le, nat_lt, min, None, Some, sym, ap, ◌∙◌, arith, append_assoc, append-nil, ◌*◌}
use Rattle.std.proofs.lemmas.Bool.Decides.{nat_tests}
use Rattle.plot_page.specs.Segments.{Segment}
use Rattle.plot_page.specs.Resolutions.{rows_of}
use Rattle.plot_page.specs.declared.dots.Dots.{Dots}
use Rattle.plot_page.specs.declared.page.Page.{Page}
use Rattle.plot_page.specs.declared.pens.PenSet.{PenSet}
use Rattle.picture_job.specs.declared.job.Job.{Job}
use Rattle.rows.specs.Boxes.{boxes_between, boxes_from, finer_between, finer_boxes, strip_boxes, strokes_boxes}
use Rattle.rows.specs.Pictures.{end_of, finer, foot_if, head_if, is_smoothed, picture_of, rows_bytes, strip_of}
use Rattle.rows.proofs.Pictures.{no_head}
use Rattle.rows.proofs.WrittenRows.{rows_meet}

-- the last row has the foot
pub foot_at_end : (foot : List ℕ) (rows : ℕ) → foot_if foot rows rows ≡ foot
foot_at_end foot rows = let e : nat_le rows rows ≡ true = grind (arith, nat_tests) in ap (λ (b : Bool). cond b foot []) e

-- no row before it has
pub no_foot : (foot : List ℕ) (rows end : ℕ) → end < rows → foot_if foot rows end ≡ []
no_foot foot rows end lt = let e : nat_le rows end ≡ false = grind (arith, nat_tests) in ap (λ (b : Bool). cond b foot []) e

-- all rows of a picture take as many tests as those from its first row on
pub whole_finer : (n : ℕ) (pens : PenSet) (ss : List Segment) (page : Page) (dots : Dots) (first : ℕ) → finer_between n pens ss page dots first (rows_of page dots) ≡ finer_boxes n pens ss page dots first
whole_finer n pens ss page dots first =
    let rows = rows_of page dots in
    let fine = finer n dots in
    let e : nat_lt rows rows ≡ false = grind (arith, nat_tests) in
    ap (λ (end : ℕ). boxes_between pens ss page fine (min (n * first) (rows_of page fine)) end) (ap (λ (b : Bool). cond b (n * rows) (rows_of page fine)) e)

pub whole_boxes : (n : ℕ) (job : Job) (ss : List Segment) → strip_boxes n None job ss ≡ strokes_boxes n job ss
whole_boxes n job ss = ap (λ (k : ℕ). cond (is_smoothed n job.form) k (boxes_from job.pens ss job.page job.dots job.first_row)) (whole_finer n job.pens ss job.page job.dots job.first_row)

-- a strip, and the one after it, up to any row
strips_meet : (head : List ℕ) (row : ℕ → List ℕ) (foot : List ℕ) (rows first mid end : ℕ) → first < mid → mid < rows → mid ≤ end → strip_of head row foot rows first mid ++ strip_of head row foot rows mid end ≡ strip_of head row foot rows first end
strips_meet head row foot rows first mid end some left to =
    let front = head_if head first in
    let here = rows_bytes row first (mid - first) in
    let there = rows_bytes row mid (end - mid) in
    let last = foot_if foot rows end in
    ap (λ (z : List ℕ). (front ++ (here ++ z)) ++ strip_of head row foot rows mid end) (no_foot foot rows mid left)
    ∙ ap (λ (z : List ℕ). (front ++ (here ++ [])) ++ (z ++ (there ++ last))) (no_head head mid (omega (arith, some)))
    ∙ ap (λ (z : List ℕ). (front ++ z) ++ (there ++ last)) (append-nil here)
    ∙ append_assoc front here (there ++ last)
    ∙ ap (λ (z : List ℕ). front ++ z) (sym (append_assoc here there last) ∙ ap (λ (z : List ℕ). z ++ last) (sym (rows_meet row first mid end (omega (arith, some)) to)))

-- a strip, and the picture from the row after it on
pub strip_and_rest : (head : List ℕ) (row : ℕ → List ℕ) (foot : List ℕ) (rows first most : ℕ) → 0 < most → first + most < rows
    → strip_of head row foot rows first (end_of (Some most) first rows) ++ picture_of head row foot rows (first + most) ≡ picture_of head row foot rows first
strip_and_rest head row foot rows first most some left =
    let mid : min (first + most) rows ≡ first + most = omega (arith, left) in
    let whole : (r : ℕ) → strip_of head row foot rows r rows ≡ picture_of head row foot rows r = λ r. ap (λ (z : List ℕ). head_if head r ++ (rows_bytes row r (rows - r) ++ z)) (foot_at_end foot rows) in
    ap (λ (m : ℕ). strip_of head row foot rows first m ++ picture_of head row foot rows (first + most)) mid
    ∙ ap (λ (z : List ℕ). strip_of head row foot rows first (first + most) ++ z) (sym (whole (first + most)))
    ∙ strips_meet head row foot rows first (first + most) rows (omega (arith, some)) left (omega (arith, left))
    ∙ whole first

-- a strip, and the strip of further rows
pub strip_and_more : (head : List ℕ) (row : ℕ → List ℕ) (foot : List ℕ) (rows first most further : ℕ) → 0 < most → first + most < rows
    → strip_of head row foot rows first (end_of (Some most) first rows) ++ strip_of head row foot rows (first + most) (end_of (Some further) (first + most) rows) ≡ strip_of head row foot rows first (end_of (Some (most + further)) first rows)
strip_and_more head row foot rows first most further some left =
    let mid : min (first + most) rows ≡ first + most = omega (arith, left) in
    let end : min (first + most + further) rows ≡ min (first + (most + further)) rows = ap (λ (k : ℕ). min k rows) (omega arith) in
    ap (λ (m : ℕ). strip_of head row foot rows first m ++ strip_of head row foot rows (first + most) (min (first + most + further) rows)) mid
    ∙ strips_meet head row foot rows first (first + most) (min (first + most + further) rows) (omega (arith, some)) left (omega (arith, left))
    ∙ ap (strip_of head row foot rows first) end
