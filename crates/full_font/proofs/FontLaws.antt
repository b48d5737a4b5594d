-- Facts of each character, found by computing all of them.
use Rattle.std.proofs.Common.{◌≡◌, ◌<◌, ◌≤◌, ◌+◌, ◌-◌, ℕ, List, [], ◌∷◌, Bool, true, false, map, length, nat_eq, nat_le, ◌&&◌, if◌then◌else◌, refl, ap, ◌∙◌, arith, inl, inr}
use Rattle.std.specs.List.{list_all, flat_map, range_with_len}
use Rattle.std.proofs.lemmas.Bool.{cases_lt}
use Rattle.std.proofs.lemmas.Bool.Decides.{nat_tests}
use Rattle.stick_font.specs.Glyphs as capitals
use Rattle.stick_font.specs.Glyphs.{first_rows, last_rows}
use Rattle.full_font.specs.declared.grid.GlyphStroke.{GlyphStroke}
use Rattle.full_font.specs.Glyphs.{Row, font, box, lines_in, polyline_glyph_strokes, code_point_strokes}
use Rattle.full_font.specs.Rows.{code_points, is_rising}
use Rattle.full_font.specs.Laws.{is_on_grid, as_glyph_stroke, is_capital_or_sign}
use Rattle.full_font.proofs.Tables.{each_of}

abbrev pub drawn : List (List ℕ) → List GlyphStroke
drawn lines = flat_map polyline_glyph_strokes lines

-- what holds of a box and of each row holds of each code point
each_character : (test : List GlyphStroke → Bool) (rows : List Row) (n : ℕ) → test (drawn box) ≡ true → list_all (λ row. test (drawn row.1)) rows ≡ true → test (drawn (lines_in rows n)) ≡ true
each_character test [] n of_box of_rows = of_box
each_character test (row ∷ rows) n of_box of_rows =
    let here : test (drawn row.1) ≡ true = grind (arith, nat_tests) in
    let rest : list_all (λ row. test (drawn row.1)) rows ≡ true = grind (arith, nat_tests) in
    elim (nat_eq row.0 n) as (λ same. test (drawn (if same then row.1 else lines_in rows n)) ≡ true) [
      | true ↦ here
      | false ↦ each_character test rows n of_box rest
    ]

abbrev grid_test : List GlyphStroke → Bool
grid_test strokes = list_all (λ s. is_on_grid s.ax s.ay && is_on_grid s.bx s.by) strokes

all_on_grid : list_all (λ row. grid_test (drawn row.1)) font ≡ true
unfolding font
all_on_grid = refl

pub on_grid : (n : ℕ) → grid_test (code_point_strokes n) ≡ true
on_grid n = each_character grid_test font n refl all_on_grid

abbrev few_test : List GlyphStroke → Bool
few_test strokes = nat_le (length strokes) 15

all_few : list_all (λ row. few_test (drawn row.1)) font ≡ true
unfolding font
all_few = refl

pub few : (n : ℕ) → length (code_point_strokes n) ≤ 15
few n =
    let t : few_test (code_point_strokes n) ≡ true = each_character few_test font n refl all_few in
    grind (arith, nat_tests)

pub rows_rise : is_rising (code_points font) ≡ true
unfolding font
rows_rise = refl

all_capitals : map code_point_strokes (range_with_len 32 65) ≡ map (λ i. map as_glyph_stroke (capitals.glyph_strokes (32 + i))) (range_with_len 0 65)
unfolding font first_rows last_rows
all_capitals = refl

all_last : map code_point_strokes (range_with_len 123 4) ≡ map (λ i. map as_glyph_stroke (capitals.glyph_strokes (123 + i))) (range_with_len 0 4)
unfolding font first_rows last_rows
all_last = refl

pub capitals_as_before : (byte : ℕ) → is_capital_or_sign byte ≡ true → code_point_strokes byte ≡ map as_glyph_stroke (capitals.glyph_strokes byte)
capitals_as_before byte h =
    let f = λ (n : ℕ). map as_glyph_stroke (capitals.glyph_strokes n) in
    elim (cases_lt byte 97) [
      | inl low ↦ (let least : 32 ≤ byte = grind (arith, nat_tests) in let back : 32 + (byte - 32) ≡ byte = omega arith in each_of code_point_strokes (λ i. f (32 + i)) 32 65 byte all_capitals least low ∙ ap f back)
      | inr high ↦ (let least : 123 ≤ byte = grind (arith, nat_tests) in let most : byte < 127 = grind (arith, nat_tests) in let back : 123 + (byte - 123) ≡ byte = omega arith in each_of code_point_strokes (λ i. f (123 + i)) 123 4 byte all_last least most ∙ ap f back)
    ]
