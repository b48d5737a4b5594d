-- The tables of the font, by computation: which code points they have, and that each look-up is that of the whole font.
use Rattle.std.proofs.Common.{◌≡◌, ℕ, ◌<◌, ◌≤◌, ◌+◌, ◌-◌, List, [], ◌∷◌, ◌++◌, map, get_or, Bool, true, false, nat_eq, nat_le, ◌&&◌, ◌||◌, refl, sym, ap, ◌∙◌, arith}
use Rattle.std.specs.List.{list_all, range_with_len}
use Rattle.std.proofs.lemmas.Bool.Decides.{nat_tests}
use Rattle.std.proofs.lemmas.List.FromFn.{get_or-map-range_with_len}
use Rattle.full_font.specs.Glyphs.{Row, font, lines_in}
use Rattle.full_font.specs.Rows.{from_space, from_grave_accent, from_no_break_space, from_eth, further, code_points, is_rising, lines_at}

-- two functions that agree on n numbers, from a and from 0 on, agree on each of them
pub each_of : {X : Type 0} (f g : ℕ → X) (a n k : ℕ) → map f (range_with_len a n) ≡ map g (range_with_len 0 n) → a ≤ k → k < a + n → f k ≡ g (k - a)
each_of f g a n k same low high =
    let within : k - a < n = omega arith in
    sym (get_or-map-range_with_len f a n (k - a) k (f 0) within (omega arith))
    ∙ ap (λ t. get_or t (k - a) (f 0)) same
    ∙ get_or-map-range_with_len g 0 n (k - a) (k - a) (f 0) within (omega arith)

all_from_space : map (lines_in font) (range_with_len 32 64) ≡ map (lines_at from_space) (range_with_len 0 64)
unfolding font from_space from_grave_accent from_no_break_space from_eth further
all_from_space = refl

pub in_from_space : (n : ℕ) → 32 ≤ n → n < 96 → lines_in font n ≡ lines_at from_space (n - 32)
in_from_space n low high = each_of (lines_in font) (lines_at from_space) 32 64 n all_from_space low high

all_from_grave_accent : map (lines_in font) (range_with_len 96 31) ≡ map (lines_at from_grave_accent) (range_with_len 0 31)
unfolding font from_space from_grave_accent from_no_break_space from_eth further
all_from_grave_accent = refl

pub in_from_grave_accent : (n : ℕ) → 96 ≤ n → n < 127 → lines_in font n ≡ lines_at from_grave_accent (n - 96)
in_from_grave_accent n low high = each_of (lines_in font) (lines_at from_grave_accent) 96 31 n all_from_grave_accent low high

all_from_no_break_space : map (lines_in font) (range_with_len 160 48) ≡ map (lines_at from_no_break_space) (range_with_len 0 48)
unfolding font from_space from_grave_accent from_no_break_space from_eth further
all_from_no_break_space = refl

pub in_from_no_break_space : (n : ℕ) → 160 ≤ n → n < 208 → lines_in font n ≡ lines_at from_no_break_space (n - 160)
in_from_no_break_space n low high = each_of (lines_in font) (lines_at from_no_break_space) 160 48 n all_from_no_break_space low high

all_from_eth : map (lines_in font) (range_with_len 208 48) ≡ map (lines_at from_eth) (range_with_len 0 48)
unfolding font from_space from_grave_accent from_no_break_space from_eth further
all_from_eth = refl

pub in_from_eth : (n : ℕ) → 208 ≤ n → n < 256 → lines_in font n ≡ lines_at from_eth (n - 208)
in_from_eth n low high = each_of (lines_in font) (lines_at from_eth) 208 48 n all_from_eth low high

-- a code point of ASCII or of the upper half of Latin 1
abbrev pub is_near : ℕ → Bool
is_near n = (nat_le 32 n && nat_le n 126) || (nat_le 160 n && nat_le n 255)

-- rows of code points that pass a test do not matter to one that fails it
skipped : (test : ℕ → Bool) (rows others : List Row) (n : ℕ) → list_all test (code_points rows) ≡ true → test n ≡ false → lines_in (rows ++ others) n ≡ lines_in others n
skipped test [] others n pass fail = refl
skipped test (row ∷ rows) others n pass fail =
    let here : test row.0 ≡ true = grind (arith, nat_tests) in
    let rest : list_all test (code_points rows) ≡ true = grind (arith, nat_tests) in
    let differs : nat_eq row.0 n ≡ false = grind (arith, nat_tests, λ (same : row.0 ≡ n). ap test same) in
    rw differs (skipped test rows others n rest fail)

all_near : list_all is_near (code_points (from_space ++ from_grave_accent ++ from_no_break_space ++ from_eth)) ≡ true
unfolding from_space from_grave_accent from_no_break_space from_eth
all_near = refl

all_rows : font ≡ (from_space ++ from_grave_accent ++ from_no_break_space ++ from_eth) ++ further
unfolding font from_space from_grave_accent from_no_break_space from_eth further
all_rows = refl

pub in_further : (n : ℕ) → is_near n ≡ false → lines_in font n ≡ lines_in further n
in_further n far =
    ap (λ rows. lines_in rows n) all_rows
    ∙ skipped is_near (from_space ++ from_grave_accent ++ from_no_break_space ++ from_eth) further n all_near far

pub further_rises : is_rising (code_points further) ≡ true
unfolding further
further_rises = refl
