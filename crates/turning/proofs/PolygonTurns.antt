-- What areas cover after turns: the counts of all edges of closed polygons, and one quarter turn after another.
use Rattle.std.proofs.Common.{◌≡◌, ◌∙◌, ℕ, ◌+◌, ◌%◌, ◌≤◌, Bool, true, false, ◌||◌, List}
use Rattle.std.proofs.Common.{[], ◌∷◌, map, count_by, nat_eq, refl, sym, ap, ap₂, arith, ℤ}
use Rattle.std.proofs.lemmas.Bool.Decides.{nat_tests}
use Rattle.std.proofs.lemmas.List.Elements.{All-head, All-tail}
use Rattle.std.proofs.lemmas.List.Folds.{list_any-append}
use Rattle.std.specs.List.{All, flat_map, list_any}
use Rattle.areas.specs.Inside.{falls_past, is_inside_area, rises_past}
use Rattle.areas.specs.Laws.{AreRound, IsRound, LeadsTo}
use Rattle.directions.specs.declared.turn.Turn.TheVariants.{Quarter}
use Rattle.plot_page.specs.declared.page.Page.{Page}
use Rattle.plot_page.specs.Segments.{Segment}
use Rattle.polygons.specs.Climbs.{total}
use Rattle.polygons.specs.Fills.{is_inside}
use Rattle.polygons.specs.declared.lines.Rule.{Rule}
use Rattle.polygons.specs.declared.lines.Rule.TheVariants.{OddCounts, Winding}
use Rattle.polygons.proofs.SolidLaws.{count_is, one, total-append}
use Rattle.polygons.proofs.Totals.{total_map}
use Rattle.turning.specs.Filled.{is_on}
use Rattle.turning.specs.Pictures.{turned_point}
use Rattle.turning.specs.Turns.{turned_segment}
use Rattle.stroke_raster.specs.declared.vector.Vector.{Vector}
use Rattle.turning.proofs.EdgeTurns.{edge_counts, is_under}

pub first_off : (b c : Bool) → (b || c) ≡ false → b ≡ false
first_off false c h = refl
first_off true c h = h

pub rest_off : (b c : Bool) → (b || c) ≡ false → c ≡ false
rest_off false c h = h
rest_off true c h = absurd (cc)

-- inside depends on how many more edges are passed upwards than downwards, or downwards than upwards
same_inside : (rule : Rule) (m n u v : ℕ) → m + v ≡ u + n → is_inside rule m n ≡ is_inside rule u v
same_inside OddCounts m n u v h = let e : (m + n) % 2 ≡ (u + v) % 2 = omega (arith, h) in ap (λ (k : ℕ). nat_eq k 1) e
same_inside Winding m n u v h = grind (arith, nat_tests)

module _ (page : Page) (r : ℕ) (p : Vector) (low : 1 ≤ r) where
  abbrev quarter : Segment → Segment
  quarter e = turned_segment Quarter page e

  abbrev there : Vector
  there = turned_point Quarter page r p

  abbrev up : Segment → ℕ
  up e = one (rises_past r e p.x p.y)

  abbrev down : Segment → ℕ
  down e = one (falls_past r e p.x p.y)

  abbrev up_after : Segment → ℕ
  up_after e = one (rises_past r (quarter e) there.x there.y)

  abbrev down_after : Segment → ℕ
  down_after e = one (falls_past r (quarter e) there.x there.y)

  path_counts : (a b : ℤ) (es : List Segment) (u v : ℤ) → LeadsTo a b es u v → list_any (is_on r p) es ≡ false
      → total up_after es + total down es + one (is_under r p u v) ≡ total up es + total down_after es + one (is_under r p a b)
  path_counts a b [] u v h off = let f = ap₂ (λ (x y : ℤ). one (is_under r p x y)) h.0 h.1 in omega (arith, f)
  path_counts a b (e ∷ es) u v h off =
      let here = edge_counts r page p e low (first_off (is_on r p e) (list_any (is_on r p) es) off) in
      let more = path_counts e.bx e.by es u v h.2 (rest_off (is_on r p e) (list_any (is_on r p) es) off) in
      let f = ap₂ (λ (x y : ℤ). one (is_under r p x y)) h.0 h.1 in
      omega (arith, here, more, f)

  abbrev all : List (List Segment) → List Segment
  all polygons = flat_map (λ polygon. polygon) polygons

  rounds_count : (polygons : List (List Segment)) → All IsRound polygons → list_any (is_on r p) (all polygons) ≡ false
      → total up_after (all polygons) + total down (all polygons) ≡ total up (all polygons) + total down_after (all polygons)
  rounds_count [] h off = refl
  rounds_count (edges ∷ more) h off =
      let i = All-head IsRound edges more h in
      let split = sym (list_any-append (is_on r p) edges (all more)) ∙ off in
      let here =
      path_counts i.x i.y edges i.x i.y i.closed (first_off (list_any (is_on r p) edges) (list_any (is_on r p) (all more)) split) in
      let rest =
      rounds_count more (All-tail IsRound edges more h) (rest_off (list_any (is_on r p) edges) (list_any (is_on r p) (all more)) split) in
      let a = total-append up_after edges (all more) in
      let b = total-append down edges (all more) in
      let c = total-append up edges (all more) in
      let d = total-append down_after edges (all more) in
      omega (arith, here, rest, a, b, c, d)

  counts_balance : (edges : List Segment) → AreRound edges → list_any (is_on r p) edges ≡ false
      → total up_after edges + total down edges ≡ total up edges + total down_after edges
  counts_balance edges h off = rw h.is (rounds_count h.polygons h.each (ap (list_any (is_on r p)) (sym h.is) ∙ off))

  pub quarter_inside : (rule : Rule) (edges : List Segment) → AreRound edges → list_any (is_on r p) edges ≡ false
      → is_inside_area rule r (map quarter edges) there.x there.y ≡ is_inside_area rule r edges p.x p.y
  quarter_inside rule edges h off =
      let balance = counts_balance edges h off in
      let a =
      sym (total_map quarter (λ e. one (rises_past r e there.x there.y)) edges)
      ∙ count_is (λ e. rises_past r e there.x there.y) (map quarter edges) in
      let b =
      sym (total_map quarter (λ e. one (falls_past r e there.x there.y)) edges)
      ∙ count_is (λ e. falls_past r e there.x there.y) (map quarter edges) in
      let c = count_is (λ e. rises_past r e p.x p.y) edges in
      let d = count_is (λ e. falls_past r e p.x p.y) edges in
      same_inside rule (count_by (λ e. rises_past r e there.x there.y) (map quarter edges)) (count_by (λ e. falls_past r e there.x there.y) (map quarter edges))
      (count_by (λ e. rises_past r e p.x p.y) edges) (count_by (λ e. falls_past r e p.x p.y) edges) (omega (arith, balance, a, b, c, d))
