-- Which characters have the same strokes, found by comparing all with all.
use Rattle.std.proofs.Common.{◌≡◌, ◌<◌, ◌+◌, ◌*◌, ℕ, pos, nat_abs, ◌+ℤ◌, List, [], ◌∷◌, Bool, true, false, map, get_or, nat_eq, ◌&&◌, ◌||◌, if◌then◌else◌, refl, sym, ap, ◌∙◌, arith, inl, inr}
use Rattle.std.specs.List.{list_all, list_any}
use Rattle.std.proofs.lemmas.Bool.{or_cases}
use Rattle.std.proofs.lemmas.Bool.Decides.{nat_tests}
use Rattle.full_font.specs.declared.grid.GlyphStroke.{GlyphStroke}
use Rattle.full_font.specs.Glyphs.{Row, font, lines_in, code_point_strokes}
use Rattle.full_font.specs.Rows.{code_points}
use Rattle.full_font.specs.Laws.{is_in, are_look_alikes, look_alikes}
use Rattle.full_font.proofs.FontLaws.{drawn}

-- a number for a list of strokes
abbrev mark : List GlyphStroke → ℕ
mark [] = 1
mark (s ∷ ss) = (((mark ss * 16 + s.ax) * 16 + nat_abs (s.ay +ℤ pos 2)) * 16 + s.bx) * 16 + nat_abs (s.by +ℤ pos 2)

abbrev marks : List Row → List (ℕ × ℕ)
marks rows = map (λ row. (row.0, mark (drawn row.1))) rows

-- a code point and another with the same mark are one, or look alike
abbrev are_one_or_alike : ℕ → ℕ → ℕ → ℕ → Bool
are_one_or_alike a m b n = elim (nat_eq m n) [ false ↦ true | true ↦ nat_eq a b || are_look_alikes a b ]

abbrev all_pairs : List (ℕ × ℕ) → Bool
all_pairs ps = list_all (λ p. list_all (λ q. are_one_or_alike p.0 p.1 q.0 q.1) ps) ps

all_compared : all_pairs (marks font) ≡ true
unfolding font
all_compared = refl

-- what holds of each row holds of each code point that has a row
each_row : (test : ℕ → ℕ → Bool) (rows : List Row) (n : ℕ) → list_all (λ p. test p.0 p.1) (marks rows) ≡ true → is_in (code_points rows) n ≡ true → test n (mark (drawn (lines_in rows n))) ≡ true
each_row test [] n pass here = cc
each_row test (row ∷ rows) n pass here =
    let first : test row.0 (mark (drawn row.1)) ≡ true = grind (arith, nat_tests) in
    let rest : list_all (λ p. test p.0 p.1) (marks rows) ≡ true = grind (arith, nat_tests) in
    elim (nat_eq row.0 n) as (λ same. nat_eq row.0 n ≡ same → (same || is_in (code_points rows) n) ≡ true → test n (mark (drawn (if same then row.1 else lines_in rows n))) ≡ true) [
      | true ↦ (λ same _. let e : row.0 ≡ n = grind (arith, nat_tests) in rw e at first)
      | false ↦ (λ other later. each_row test rows n rest later)
    ] refl here

opened : (t x : Bool) → t ≡ true → elim t [ false ↦ true | true ↦ x ] ≡ true → x ≡ true
opened true x e h = h
opened false x e h = cc

second : (x y : Bool) → x ≡ false → (x || y) ≡ true → y ≡ true
second false y e h = h
second true y e h = cc

pub differ : (a b : ℕ) → is_in (code_points font) a ≡ true → is_in (code_points font) b ≡ true → a < b → code_point_strokes a ≡ code_point_strokes b → are_look_alikes a b ≡ true
differ a b has_a has_b less same =
    let against_a = each_row (λ n m. list_all (λ q. are_one_or_alike n m q.0 q.1) (marks font)) font a all_compared has_a in
    let pair = each_row (λ k m. are_one_or_alike a (mark (code_point_strokes a)) k m) font b against_a has_b in
    let marked : nat_eq (mark (code_point_strokes a)) (mark (code_point_strokes b)) ≡ true = rw same (grind (arith, nat_tests)) in
    let apart : nat_eq a b ≡ false = grind (arith, nat_tests) in
    second (nat_eq a b) (are_look_alikes a b) apart (opened (nat_eq (mark (code_point_strokes a)) (mark (code_point_strokes b))) (nat_eq a b || are_look_alikes a b) marked pair)

-- all code points of a list have the same strokes
abbrev Same : List ℕ → Type 0
Same group = (strokes : List GlyphStroke) × (map code_point_strokes group ≡ map (λ _. strokes) group)

abbrev AllSame : List (List ℕ) → Type 0
AllSame [] = Unit {0}
AllSame (group ∷ groups) = Same group × AllSame groups

abbrev later : List (List GlyphStroke) → List (List GlyphStroke)
later [] = []
later (x ∷ xs) = xs

has_these : (group : List ℕ) (strokes : List GlyphStroke) (n : ℕ) → map code_point_strokes group ≡ map (λ _. strokes) group → is_in group n ≡ true → code_point_strokes n ≡ strokes
has_these [] strokes n same here = cc
has_these (m ∷ group) strokes n same here = elim (or_cases (nat_eq m n) (is_in group n) here) [
  | inl first ↦ (let e : n ≡ m = grind (arith, nat_tests) in ap code_point_strokes e ∙ ap (λ t. get_or t 0 strokes) same)
  | inr rest ↦ has_these group strokes n (ap later same) rest
]

both : (x y : Bool) → (x && y) ≡ true → (x ≡ true) × (y ≡ true)
both true y e = (refl, e)
both false y e = cc

alike_in : (groups : List (List ℕ)) (a b : ℕ) → AllSame groups → list_any (λ group. is_in group a && is_in group b) groups ≡ true → code_point_strokes a ≡ code_point_strokes b
alike_in [] a b same here = cc
alike_in (group ∷ groups) a b (first, others) here = elim (or_cases (is_in group a && is_in group b) _ here) [
  | inl in_first ↦ (let each = both (is_in group a) (is_in group b) in_first in has_these group first.0 a first.1 each.0 ∙ sym (has_these group first.0 b first.1 each.1))
  | inr in_others ↦ alike_in groups a b others in_others
]

all_same : AllSame look_alikes
unfolding font
all_same = ((code_point_strokes 0x2d, refl), ((code_point_strokes 0xb5, refl), ((code_point_strokes 0xb7, refl), ((code_point_strokes 0x20, refl), tt))))

pub alike : (a b : ℕ) → are_look_alikes a b ≡ true → code_point_strokes a ≡ code_point_strokes b
alike a b h = alike_in look_alikes a b all_same h
