-- Paths of several lines, one after another.
use Rattle.std.proofs.Common.{◌≡◌, ◌∙◌, ap, sym, refl, inl, inr, Bool, true, false, List, [], ◌∷◌, ◌++◌, Option, Some, None}
use Rattle.std.proofs.lemmas.Bool.{cases_Bool}
use Rattle.std.specs.List.{flat_map, list_all}
use Rattle.std.specs.Prelude.{if◌then◌else◌}
use Rattle.exact.specs.declared.spot.Spot.{Spot}
use Rattle.hpgl_plot.specs.Strokes.{are_in_range, joined}
use Rattle.hpgl_plot.specs.Machine.{World, with_strokes, travelled, travelled_all, followed}
use Rattle.hpgl_plot.proofs.Fed.{with_more}
use Rattle.hpgl_plot.proofs.Runs.{followed-followed, followed_by}

-- a line, and the lines after it
pub lines_more : (w v : World) (draws : Bool) (l : List Spot) (ls : List (List Spot)) → travelled w draws l ≡ Some v
    → travelled_all w draws (l ∷ ls) ≡ travelled_all v draws ls
lines_more w v draws l ls h = ap (λ (o : Option World). followed o (λ (u : World). travelled_all u draws ls)) h

-- a line that leaves the range, and the lines after it
pub lines_out : (w : World) (draws : Bool) (l : List Spot) (ls : List (List Spot)) → travelled w draws l ≡ None
    → travelled_all w draws (l ∷ ls) ≡ None
lines_out w draws l ls h = ap (λ (o : Option World). followed o (λ (u : World). travelled_all u draws ls)) h

lines-append : (w : World) (draws : Bool) (ks ls : List (List Spot))
    → travelled_all w draws (ks ++ ls) ≡ followed (travelled_all w draws ks) (λ (v : World). travelled_all v draws ls)
lines-append w draws [] ls = refl
lines-append w draws (k ∷ ks) ls =
    let one = travelled w draws k in
    followed_by one (λ (v : World). travelled_all v draws (ks ++ ls))
    (λ (v : World). followed (travelled_all v draws ks) (λ (u : World). travelled_all u draws ls))
    (λ (v : World). lines-append v draws ks ls)
    ∙ sym (followed-followed one (λ (v : World). travelled_all v draws ks) (λ (u : World). travelled_all u draws ls))

-- some lines, and the lines after them
pub lines_then : (w v : World) (draws : Bool) (ks ls : List (List Spot)) → travelled_all w draws ks ≡ Some v
    → travelled_all w draws (ks ++ ls) ≡ travelled_all v draws ls
lines_then w v draws ks ls h =
    lines-append w draws ks ls ∙ ap (λ (o : Option World). followed o (λ (u : World). travelled_all u draws ls)) h

-- some lines that leave the range, and the lines after them
pub lines_then_out : (w : World) (draws : Bool) (ks ls : List (List Spot)) → travelled_all w draws ks ≡ None
    → travelled_all w draws (ks ++ ls) ≡ None
lines_then_out w draws ks ls h =
    lines-append w draws ks ls ∙ ap (λ (o : Option World). followed o (λ (u : World). travelled_all u draws ls)) h

followed_to_end : (o : Option World) → followed o (λ (v : World). Some v) ≡ o
followed_to_end None = refl
followed_to_end (Some v) = refl

-- a path of one line
pub one_line : (w : World) (draws : Bool) (l : List Spot) → travelled_all w draws (l ∷ []) ≡ travelled w draws l
one_line w draws l = followed_to_end (travelled w draws l)

-- the strokes of a line, and of the lines after it
line_strokes : (w : World) (draws : Bool) (l : List Spot) (ls : List (List Spot))
    → with_strokes w w.state (if draws then flat_map (joined w.state) (l ∷ ls) else [])
    ≡ with_strokes (with_strokes w w.state (if draws then joined w.state l else [])) w.state
    (if draws then flat_map (joined w.state) ls else [])
line_strokes w true l ls = with_more w (joined w.state l) (flat_map (joined w.state) ls)
line_strokes w false l ls = refl

-- lines leave their strokes, if all their places are in range
pub lines_are : (w : World) (draws : Bool) (ls : List (List Spot))
    → travelled_all w draws ls
    ≡ (if list_all (are_in_range w.range) ls then Some (with_strokes w w.state (if draws then flat_map (joined w.state) ls else [])) else None)
lines_are w true [] = refl
lines_are w false [] = refl
lines_are w draws (l ∷ ls) = elim (cases_Bool (are_in_range w.range l)) [
  | inr t ↦ rw t refl
  | inl t ↦ rw t
      (lines_are (with_strokes w w.state (if draws then joined w.state l else [])) draws ls
      ∙ ap (λ (u : World). if list_all (are_in_range w.range) ls then Some u else None) (sym (line_strokes w draws l ls)))
]
