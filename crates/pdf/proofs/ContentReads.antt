-- The reader reads each operator as it was written.
use Rattle.std.proofs.Common.{◌≡◌, ◌∙◌, ℕ, suc, ◌+◌, ◌*◌, ◌/◌, ◌%◌, ◌^◌, ◌<◌, ◌≤◌, ℤ, pos, negsuc, neg_ℤ, nat_abs, int_lt, ◌+ℤ◌, ◌-ℤ◌, ◌==◌, ◌&&◌, ◌||◌, Bool, true, false, cond, List, [], ◌∷◌, ◌++◌, take, Option, Some, codes, decimal, refl, ap, arith, append_assoc, append-nil}
use Rattle.std.proofs.lemmas.Bool.{or_parts}
use Rattle.std.proofs.lemmas.Bool.Decides.{nat_tests}
use Rattle.std.proofs.lemmas.Int.{ints}
use Rattle.std.specs.Char.{digit_value, is_digit}
use Rattle.std.specs.Fmt.{digit_glyph, signed_decimal}
use Rattle.std.specs.List.{join_with_byte, list_any}
use Rattle.std.specs.Option.{option_map}
use Rattle.std.specs.Str.Parse.{digits_value}
use Rattle.pieces.proofs.Scans.{AreWords, Lacks, byte_value, decimal_lacks, digits_lack, fraction_lacks, hex_digit, integer_read, lacks_both, number_read, signed_lacks, split_last, split_more, split_words}
use Rattle.pieces.specs.Fractions.{fraction}
use Rattle.pieces.specs.Readings.{given, integer, number, split, ◌>>=◌}
use Rattle.plot_page.specs.declared.colour.Colour.{Colour}
use Rattle.polygons.specs.declared.lines.Rule.TheVariants.{OddCounts, Winding}
use Rattle.pdf.specs.ContentReader.{bytes_in, colour, colour_part, operator, operators, part_in, parts_in, read_content, signed, unsigned}
use Rattle.pdf.specs.Numbers.{digits_text, part, signed_thousandths, thousandths, two_digits}
use Rattle.pdf.specs.Operators.{Operator, Scale, Layer, EndLayer, Save, Restore, Rectangle, Clip, NoPaint, StrokeColour}
use Rattle.pdf.specs.Operators.{FillColour, LineWidth, LineEnds, LineJoins, MoveTo, LineTo, ClosePath, StrokePath, FillAndStroke}
use Rattle.pdf.specs.Operators.{BeginText, Invisible, TextMatrix, Font, ShowText, EndText, operator_text, operators_text, scale_factor}
use Rattle.pdf.specs.declared.units.PageUnit.TheVariants.{One, Two, Three}

-- thousandths are read as they were written
digit_is : (a : ℕ) → a < 10 → is_digit (48 + a) 10 ≡ true
digit_is a h = grind (arith, nat_tests)

digit_read : (a : ℕ) → a < 10 → digit_value (48 + a) ≡ a
digit_read a h = grind (arith, nat_tests)

one_digit : (a : ℕ) → a < 10 → number ((48 + a) ∷ []) ≡ Some a
one_digit a h =
    let d = digit_is a h in
    let v : digits_value 10 ((48 + a) ∷ []) ≡ a = omega (arith, digit_read a h) in
    λ i. given (d i && true) (Some (v i))

two_numbers : (a b : ℕ) → a < 10 → b < 10 → number ((48 + a) ∷ (48 + b) ∷ []) ≡ Some (10 * a + b)
two_numbers a b h k =
    let d = digit_is a h in
    let e = digit_is b k in
    let v : digits_value 10 ((48 + a) ∷ (48 + b) ∷ []) ≡ 10 * a + b = omega (arith, digit_read a h, digit_read b k) in
    λ i. given (d i && (e i && true)) (Some (v i))

three_numbers : (a b c : ℕ) → a < 10 → b < 10 → c < 10 → number ((48 + a) ∷ (48 + b) ∷ (48 + c) ∷ []) ≡ Some (100 * a + (10 * b + c))
three_numbers a b c h k m =
    let d = digit_is a h in
    let e = digit_is b k in
    let f = digit_is c m in
    let v : digits_value 10 ((48 + a) ∷ (48 + b) ∷ (48 + c) ∷ []) ≡ 100 * a + (10 * b + c) = omega (arith, digit_read a h, digit_read b k, digit_read c m) in
    λ i. given (d i && (e i && (f i && true))) (Some (v i))

-- the digits of some thousandths, without zeros at the end
abbrev some_digits : Bool → Bool → ℕ → List ℕ
some_digits b c n = take (cond b 1 (cond c 2 3)) ((48 + n / 100) ∷ (48 + n / 10 % 10) ∷ (48 + n % 10) ∷ [])

digits_read : (b c : Bool) (n : ℕ) → n < 1000 → (n % 100 == 0) ≡ b → (n % 10 == 0) ≡ c → part_in (some_digits b c n) ≡ Some n
digits_read true c n h e f =
    let none : n % 100 ≡ 0 = grind (arith, nat_tests, e) in
    let all : n / 100 * 100 ≡ n = omega (arith, none) in
    ap (λ (o : Option ℕ). option_map (λ k. k * 100) o) (one_digit (n / 100) (omega (arith, h))) ∙ ap (λ (k : ℕ). Some k) all
digits_read false true n h e f =
    let none : n % 10 ≡ 0 = grind (arith, nat_tests, f) in
    let all : (10 * (n / 100) + n / 10 % 10) * 10 ≡ n = omega (arith, none) in
    ap (λ (o : Option ℕ). option_map (λ k. k * 10) o) (two_numbers (n / 100) (n / 10 % 10) (omega (arith, h)) (omega arith)) ∙ ap (λ (k : ℕ). Some k) all
digits_read false false n h e f =
    let all : (100 * (n / 100) + (10 * (n / 10 % 10) + n % 10)) * 1 ≡ n = omega arith in
    ap (λ (o : Option ℕ). option_map (λ k. k * 1) o) (three_numbers (n / 100) (n / 10 % 10) (n % 10) (omega (arith, h)) (omega arith) (omega arith)) ∙ ap (λ (k : ℕ). Some k) all

no_point : (c : ℕ) → 48 ≤ c → c ≤ 57 → (c == 46) ≡ false
no_point c low high = grind (arith, nat_tests)

front_lacks : (n : ℕ) → n < 1000 → Lacks (λ c. c == 46) (some_digits (n % 100 == 0) (n % 10 == 0) n)
front_lacks n h = digits_lack (λ c. c == 46) no_point (cond (n % 100 == 0) 1 (cond (n % 10 == 0) 2 3)) n h

whole_part : (b : Bool) (w n : ℕ) → n < 1000 → w < 2 ^ 64 → (n == 0) ≡ b → unsigned (decimal w ++ cond b [] (codes "." ++ some_digits (n % 100 == 0) (n % 10 == 0) n)) ≡ Some (1000 * w + n)
whole_part true w n h k e =
    let none : n ≡ 0 = grind (arith, nat_tests, e) in
    let all : 1000 * w ≡ 1000 * w + n = omega (arith, none) in
    ap (λ (z : List ℕ). unsigned z) (append-nil (decimal w))
    ∙ ap (λ (ws : List (List ℕ)). parts_in ws) (split_last 46 (decimal w) (decimal_lacks (λ c. c == 46) no_point w))
    ∙ ap (λ (o : Option ℕ). option_map (λ k. 1000 * k) o) (number_read w k)
    ∙ ap (λ (k : ℕ). Some k) all
whole_part false w n h k e =
    let ds = some_digits (n % 100 == 0) (n % 10 == 0) n in
    ap (λ (ws : List (List ℕ)). parts_in ws) (split_more 46 (decimal w) ds (decimal_lacks (λ c. c == 46) no_point w) ∙ ap (λ (ws : List (List ℕ)). decimal w ∷ ws) (split_last 46 ds (front_lacks n h)))
    ∙ ap (λ (o : Option ℕ). o >>= (λ m. part_in ds >>= (λ t. Some (1000 * m + t)))) (number_read w k)
    ∙ ap (λ (o : Option ℕ). o >>= (λ t. Some (1000 * w + t))) (digits_read (n % 100 == 0) (n % 10 == 0) n h refl refl)

unsigned_read : (n : ℕ) → n < 2 ^ 64 → unsigned (thousandths n) ≡ Some n
unsigned_read n h =
    let all : 1000 * (n / 1000) + n % 1000 ≡ n = omega arith in
    whole_part (n % 1000 == 0) (n / 1000) (n % 1000) (omega arith) (omega (arith, h)) refl ∙ ap (λ (k : ℕ). Some k) all

thousandths_lack : (is_mark : ℕ → Bool) → ((c : ℕ) → 48 ≤ c → c ≤ 57 → is_mark c ≡ false) → is_mark 46 ≡ false → (n : ℕ) → Lacks is_mark (thousandths n)
thousandths_lack is_mark free mark n = lacks_both is_mark (decimal (n / 1000)) (fraction (n % 1000)) (decimal_lacks is_mark free (n / 1000)) (fraction_lacks is_mark free mark (n % 1000) (omega arith))

abbrev minus_of : Option ℕ → Option ℤ
minus_of o = option_map (λ n. neg_ℤ (pos n)) o

abbrev plus_of : Option ℕ → Option ℤ
plus_of o = option_map pos o

no_sign : (text : List ℕ) (n : ℕ) → Lacks (λ c. c == 45) text → unsigned text ≡ Some n → signed text ≡ Some (pos n)
no_sign [] n h e = cc
no_sign (c ∷ cs) n h e =
    let one = (or_parts (c == 45) (list_any (λ d. d == 45) cs) h).0 in
    ap (λ (b : Bool). cond b (minus_of (unsigned cs)) (plus_of (unsigned (c ∷ cs)))) one ∙ ap plus_of e

not_negative : (n : ℕ) → int_lt (pos n) (pos 0) ≡ false
not_negative n = grind (arith, ints)

signed_read : (z : ℤ) → nat_abs z < 2 ^ 64 → signed (signed_thousandths z) ≡ Some z
signed_read (pos n) h =
    ap (λ (b : Bool). signed (cond b (codes "-") [] ++ thousandths n)) (not_negative n)
    ∙ no_sign (thousandths n) n (thousandths_lack (λ c. c == 45) (λ c low high. grind (arith, nat_tests)) refl n) (unsigned_read n (omega (arith, h)))
signed_read (negsuc n) h = ap minus_of (unsigned_read (suc n) (omega (arith, h)))

-- so are the parts of a colour
part_read : (b : ℕ) → b < 256 → colour_part (part b) ≡ Some b
part_read b h =
    let n = (2000 * b + 255) / 510 in
    let back : (510 * n + 1000) / 2000 ≡ b = omega arith in
    ap (λ (o : Option ℕ). option_map (λ k. (510 * k + 1000) / 2000) o) (unsigned_read n (omega (arith, h))) ∙ ap (λ (k : ℕ). Some k) back

-- each of these is a byte
abbrev pub AreBytes : List ℕ → Type 0
AreBytes [] = Unit {0}
AreBytes (n ∷ ns) = (n < 256) × AreBytes ns

bytes_read : (ns : List ℕ) → AreBytes ns → bytes_in (digits_text ns ++ codes ">") ≡ Some ns
bytes_read [] h = refl
bytes_read (n ∷ ns) h =
    let high = hex_digit (n / 16) (omega (arith, h.0)) in
    let low = hex_digit (n % 16) (omega arith) in
    let value = byte_value n h.0 in
    (λ i. given (high i && low i) (option_map (λ bytes. value i ∷ bytes) (bytes_in (digits_text ns ++ codes ">"))))
    ∙ ap (λ (o : Option (List ℕ)). option_map (λ bytes. n ∷ bytes) o) (bytes_read ns h.1)

-- spaces, and the ends of lines
abbrev pub is_blank : ℕ → Bool
is_blank c = (c == 32) || (c == 10)

no_space : (text : List ℕ) → Lacks is_blank text → Lacks (λ c. c == 32) text
no_space [] h = refl
no_space (c ∷ cs) h =
    let both = or_parts (is_blank c) (list_any is_blank cs) h in
    let one = or_parts (c == 32) (c == 10) both.0 in
    let rest = no_space cs both.1 in
    cc

no_end : (text : List ℕ) → Lacks is_blank text → Lacks (λ c. c == 10) text
no_end [] h = refl
no_end (c ∷ cs) h =
    let both = or_parts (is_blank c) (list_any is_blank cs) h in
    let one = or_parts (c == 32) (c == 10) both.0 in
    let rest = no_end cs both.1 in
    cc

-- the words of an operator
abbrev words : Operator → List (List ℕ)
words (Scale unit) = scale_factor unit ∷ codes "0" ∷ codes "0" ∷ scale_factor unit ∷ codes "0" ∷ codes "0" ∷ codes "cm" ∷ []
words (Layer pen) = codes "/OC" ∷ (codes "/P" ++ decimal pen) ∷ codes "BDC" ∷ []
words EndLayer = codes "EMC" ∷ []
words Save = codes "q" ∷ []
words Restore = codes "Q" ∷ []
words (Rectangle w) = signed_decimal w.x0 ∷ signed_decimal w.y0 ∷ signed_decimal (w.x1 -ℤ w.x0) ∷ signed_decimal (w.y1 -ℤ w.y0) ∷ codes "re" ∷ []
words Clip = codes "W" ∷ []
words NoPaint = codes "n" ∷ []
words (StrokeColour c) = part c.red ∷ part c.green ∷ part c.blue ∷ codes "RG" ∷ []
words (FillColour c) = part c.red ∷ part c.green ∷ part c.blue ∷ codes "rg" ∷ []
words (LineWidth width) = decimal width ∷ codes "w" ∷ []
words LineEnds = codes "1" ∷ codes "J" ∷ []
words LineJoins = codes "1" ∷ codes "j" ∷ []
words (MoveTo x y) = signed_decimal x ∷ signed_decimal y ∷ codes "m" ∷ []
words (LineTo x y) = signed_decimal x ∷ signed_decimal y ∷ codes "l" ∷ []
words ClosePath = codes "h" ∷ []
words StrokePath = codes "S" ∷ []
words (FillAndStroke OddCounts) = codes "B*" ∷ []
words (FillAndStroke Winding) = codes "B" ∷ []
words BeginText = codes "BT" ∷ []
words Invisible = codes "3" ∷ codes "Tr" ∷ []
words (TextMatrix m x y) = signed_thousandths m.a ∷ signed_thousandths m.b ∷ signed_thousandths m.c ∷ signed_thousandths m.d ∷ signed_decimal x ∷ signed_decimal y ∷ codes "Tm" ∷ []
words (Font row) = (codes "/F" ++ decimal row) ∷ codes "1" ∷ codes "Tf" ∷ []
words (ShowText bytes) = (codes "<" ++ digits_text bytes ++ codes ">") ∷ codes "Tj" ∷ []
words EndText = codes "ET" ∷ []

abbrev line : Operator → List ℕ
line o = join_with_byte 32 (words o)

layer_line : (p : List ℕ) → codes "/OC /P" ++ p ++ codes " BDC\n" ≡ join_with_byte 32 (codes "/OC" ∷ (codes "/P" ++ p) ∷ codes "BDC" ∷ []) ++ codes "\n"
layer_line p = simp append_assoc

rectangle_line : (a b c d : List ℕ) → (a ++ codes " " ++ b) ++ codes " " ++ (c ++ codes " " ++ d) ++ codes " re\n" ≡ join_with_byte 32 (a ∷ b ∷ c ∷ d ∷ codes "re" ∷ []) ++ codes "\n"
rectangle_line a b c d = simp append_assoc

colour_line : (a b c : List ℕ) → a ++ codes " " ++ b ++ codes " " ++ c ++ codes " RG\n" ≡ join_with_byte 32 (a ∷ b ∷ c ∷ codes "RG" ∷ []) ++ codes "\n"
colour_line a b c = simp append_assoc

fill_line : (a b c : List ℕ) → a ++ codes " " ++ b ++ codes " " ++ c ++ codes " rg\n" ≡ join_with_byte 32 (a ∷ b ∷ c ∷ codes "rg" ∷ []) ++ codes "\n"
fill_line a b c = simp append_assoc

width_line : (a : List ℕ) → a ++ codes " w\n" ≡ join_with_byte 32 (a ∷ codes "w" ∷ []) ++ codes "\n"
width_line a = simp append_assoc

move_line : (a b : List ℕ) → (a ++ codes " " ++ b) ++ codes " m\n" ≡ join_with_byte 32 (a ∷ b ∷ codes "m" ∷ []) ++ codes "\n"
move_line a b = simp append_assoc

line_line : (a b : List ℕ) → (a ++ codes " " ++ b) ++ codes " l\n" ≡ join_with_byte 32 (a ∷ b ∷ codes "l" ∷ []) ++ codes "\n"
line_line a b = simp append_assoc

matrix_line : (a b c d x y : List ℕ) → (a ++ codes " " ++ b ++ codes " " ++ c ++ codes " " ++ d) ++ codes " " ++ (x ++ codes " " ++ y) ++ codes " Tm\n" ≡ join_with_byte 32 (a ∷ b ∷ c ∷ d ∷ x ∷ y ∷ codes "Tm" ∷ []) ++ codes "\n"
matrix_line a b c d x y = simp append_assoc

font_line : (r : List ℕ) → codes "/F" ++ r ++ codes " 1 Tf\n" ≡ join_with_byte 32 ((codes "/F" ++ r) ∷ codes "1" ∷ codes "Tf" ∷ []) ++ codes "\n"
font_line r = simp append_assoc

show_line : (d : List ℕ) → codes "<" ++ d ++ codes "> Tj\n" ≡ join_with_byte 32 ((codes "<" ++ d ++ codes ">") ∷ codes "Tj" ∷ []) ++ codes "\n"
show_line d = simp append_assoc

-- the text of an operator is its line
lined : (o : Operator) → operator_text o ≡ line o ++ codes "\n"
lined (Scale One) = refl
lined (Scale Two) = refl
lined (Scale Three) = refl
lined (Layer pen) = layer_line (decimal pen)
lined EndLayer = refl
lined Save = refl
lined Restore = refl
lined (Rectangle w) = rectangle_line (signed_decimal w.x0) (signed_decimal w.y0) (signed_decimal (w.x1 -ℤ w.x0)) (signed_decimal (w.y1 -ℤ w.y0))
lined Clip = refl
lined NoPaint = refl
lined (StrokeColour c) = colour_line (part c.red) (part c.green) (part c.blue)
lined (FillColour c) = fill_line (part c.red) (part c.green) (part c.blue)
lined (LineWidth width) = width_line (decimal width)
lined LineEnds = refl
lined LineJoins = refl
lined (MoveTo x y) = move_line (signed_decimal x) (signed_decimal y)
lined (LineTo x y) = line_line (signed_decimal x) (signed_decimal y)
lined ClosePath = refl
lined StrokePath = refl
lined (FillAndStroke OddCounts) = refl
lined (FillAndStroke Winding) = refl
lined BeginText = refl
lined Invisible = refl
lined (TextMatrix m x y) = matrix_line (signed_thousandths m.a) (signed_thousandths m.b) (signed_thousandths m.c) (signed_thousandths m.d) (signed_decimal x) (signed_decimal y)
lined (Font row) = font_line (decimal row)
lined (ShowText bytes) = show_line (digits_text bytes)
lined EndText = refl

-- what the reader reads: numbers of 62 bits, and bytes
abbrev pub IsSmall : ℤ → Type 0
IsSmall z = nat_abs z < 2 ^ 62

abbrev pub Fits : Operator → Type 0
Fits (Layer pen) = pen < 2 ^ 62
Fits (Rectangle w) = IsSmall w.x0 × IsSmall w.y0 × IsSmall w.x1 × IsSmall w.y1
Fits (StrokeColour c) = (c.red < 256) × (c.green < 256) × (c.blue < 256)
Fits (FillColour c) = (c.red < 256) × (c.green < 256) × (c.blue < 256)
Fits (LineWidth width) = width < 2 ^ 62
Fits (MoveTo x y) = IsSmall x × IsSmall y
Fits (LineTo x y) = IsSmall x × IsSmall y
Fits (TextMatrix m x y) = IsSmall m.a × IsSmall m.b × IsSmall m.c × IsSmall m.d × IsSmall x × IsSmall y
Fits (Font row) = row < 2 ^ 62
Fits (ShowText bytes) = AreBytes bytes
Fits _ = Unit {0}

there : (a b : ℤ) → a +ℤ (b -ℤ a) ≡ b
there a b = omega (arith, ints)

small_less : (a b : ℤ) → IsSmall a → IsSmall b → nat_abs (a -ℤ b) < 2 ^ 63
small_less a b h k = omega (arith, ints, h, k)

integers : (z : ℤ) → IsSmall z → integer (signed_decimal z) ≡ Some z
integers z h = integer_read z (omega (arith, h))

numbers : (n : ℕ) → n < 2 ^ 62 → number (decimal n) ≡ Some n
numbers n h = number_read n (omega (arith, h))

signeds : (z : ℤ) → IsSmall z → signed (signed_thousandths z) ≡ Some z
signeds z h = signed_read z (omega (arith, h))

-- operators of what was read
abbrev rectangle_of : Option ℤ → Option ℤ → Option ℤ → Option ℤ → Option Operator
rectangle_of a b c d = a >>= (λ x. b >>= (λ y. c >>= (λ w. d >>= (λ h. Some (Rectangle (record { x0 = x; y0 = y; x1 = x +ℤ w; y1 = y +ℤ h }))))))

abbrev colour_of : Option ℕ → Option ℕ → Option ℕ → Option Colour
colour_of a b c = a >>= (λ r. b >>= (λ g. c >>= (λ d. Some (record { red = r; green = g; blue = d }))))

colour_read : (c : Colour) → c.red < 256 → c.green < 256 → c.blue < 256 → colour (part c.red) (part c.green) (part c.blue) ≡ Some c
colour_read c h k m =
    let r = part_read c.red h in
    let g = part_read c.green k in
    let b = part_read c.blue m in
    λ i. colour_of (r i) (g i) (b i)

abbrev place_of : (ℤ → ℤ → Operator) → Option ℤ → Option ℤ → Option Operator
place_of f a b = a >>= (λ x. b >>= (λ y. Some (f x y)))

abbrev matrix_of : Option ℤ → Option ℤ → Option ℤ → Option ℤ → Option ℤ → Option ℤ → Option Operator
matrix_of a b c d e f = a >>= (λ p. b >>= (λ q. c >>= (λ r. d >>= (λ s. e >>= (λ x. f >>= (λ y. Some (TextMatrix (record { a = p; b = q; c = r; d = s }) x y)))))))

words_read : (o : Operator) → Fits o → operator (words o) ≡ Some o
words_read (Scale One) h = refl
words_read (Scale Two) h = refl
words_read (Scale Three) h = refl
words_read (Layer pen) h = ap (λ (o : Option ℕ). option_map Layer o) (numbers pen h)
words_read EndLayer h = refl
words_read Save h = refl
words_read Restore h = refl
words_read (Rectangle w) h =
    let a = integers w.x0 h.0 in
    let b = integers w.y0 h.1 in
    let c = integer_read (w.x1 -ℤ w.x0) (small_less w.x1 w.x0 h.2 h.0) in
    let d = integer_read (w.y1 -ℤ w.y0) (small_less w.y1 w.y0 h.3 h.1) in
    let x = there w.x0 w.x1 in
    let y = there w.y0 w.y1 in
    (λ i. rectangle_of (a i) (b i) (c i) (d i)) ∙ (λ i. Some (Rectangle (record { x0 = w.x0; y0 = w.y0; x1 = x i; y1 = y i })))
words_read Clip h = refl
words_read NoPaint h = refl
words_read (StrokeColour c) h = ap (λ (o : Option Colour). option_map StrokeColour o) (colour_read c h.0 h.1 h.2)
words_read (FillColour c) h = ap (λ (o : Option Colour). option_map FillColour o) (colour_read c h.0 h.1 h.2)
words_read (LineWidth width) h = ap (λ (o : Option ℕ). option_map LineWidth o) (numbers width h)
words_read LineEnds h = refl
words_read LineJoins h = refl
words_read (MoveTo x y) h =
    let a = integers x h.0 in
    let b = integers y h.1 in
    λ i. place_of MoveTo (a i) (b i)
words_read (LineTo x y) h =
    let a = integers x h.0 in
    let b = integers y h.1 in
    λ i. place_of LineTo (a i) (b i)
words_read ClosePath h = refl
words_read StrokePath h = refl
words_read (FillAndStroke OddCounts) h = refl
words_read (FillAndStroke Winding) h = refl
words_read BeginText h = refl
words_read Invisible h = refl
words_read (TextMatrix m x y) h =
    let a = signeds m.a h.0 in
    let b = signeds m.b h.1 in
    let c = signeds m.c h.2 in
    let d = signeds m.d h.3 in
    let e = integers x h.4 in
    let f = integers y h.5 in
    λ i. matrix_of (a i) (b i) (c i) (d i) (e i) (f i)
words_read (Font row) h = ap (λ (o : Option ℕ). option_map Font o) (numbers row h)
words_read (ShowText bytes) h = ap (λ (o : Option (List ℕ)). option_map ShowText o) (bytes_read bytes h)
words_read EndText h = refl

-- no word has a blank
abbrev ArePlain : List (List ℕ) → Type 0
ArePlain [] = Unit {0}
ArePlain (w ∷ ws) = Lacks is_blank w × ArePlain ws

digit_plain : (c : ℕ) → 48 ≤ c → c ≤ 57 → is_blank c ≡ false
digit_plain c low high = grind (arith, nat_tests)

decimal_plain : (n : ℕ) → Lacks is_blank (decimal n)
decimal_plain n = decimal_lacks is_blank digit_plain n

signed_plain : (z : ℤ) → Lacks is_blank (signed_decimal z)
signed_plain z = signed_lacks is_blank digit_plain refl z

part_plain : (b : ℕ) → Lacks is_blank (part b)
part_plain b = thousandths_lack is_blank digit_plain refl ((2000 * b + 255) / 510)

sign_plain : (b : Bool) → Lacks is_blank (cond b (codes "-") [])
sign_plain true = refl
sign_plain false = refl

thousandths_plain : (z : ℤ) → Lacks is_blank (signed_thousandths z)
thousandths_plain z = lacks_both is_blank (cond (int_lt z (pos 0)) (codes "-") []) (thousandths (nat_abs z)) (sign_plain (int_lt z (pos 0))) (thousandths_lack is_blank digit_plain refl (nat_abs z))

hex_plain : (d : ℕ) → d < 16 → is_blank (digit_glyph false d) ≡ false
hex_plain d h = grind (arith, nat_tests)

bytes_plain : (ns : List ℕ) → AreBytes ns → Lacks is_blank (digits_text ns)
bytes_plain [] h = refl
bytes_plain (n ∷ ns) h =
    let high = hex_plain (n / 16) (omega (arith, h.0)) in
    let low = hex_plain (n % 16) (omega arith) in
    let rest = bytes_plain ns h.1 in
    let both : Lacks is_blank (two_digits n) = cc in
    lacks_both is_blank (two_digits n) (digits_text ns) both rest

words_plain : (o : Operator) → Fits o → ArePlain (words o)
words_plain (Scale One) h = (refl, (refl, (refl, (refl, (refl, (refl, (refl, tt)))))))
words_plain (Scale Two) h = (refl, (refl, (refl, (refl, (refl, (refl, (refl, tt)))))))
words_plain (Scale Three) h = (refl, (refl, (refl, (refl, (refl, (refl, (refl, tt)))))))
words_plain (Layer pen) h = (refl, (lacks_both is_blank (codes "/P") (decimal pen) refl (decimal_plain pen), (refl, tt)))
words_plain EndLayer h = (refl, tt)
words_plain Save h = (refl, tt)
words_plain Restore h = (refl, tt)
words_plain (Rectangle w) h = (signed_plain w.x0, (signed_plain w.y0, (signed_plain (w.x1 -ℤ w.x0), (signed_plain (w.y1 -ℤ w.y0), (refl, tt)))))
words_plain Clip h = (refl, tt)
words_plain NoPaint h = (refl, tt)
words_plain (StrokeColour c) h = (part_plain c.red, (part_plain c.green, (part_plain c.blue, (refl, tt))))
words_plain (FillColour c) h = (part_plain c.red, (part_plain c.green, (part_plain c.blue, (refl, tt))))
words_plain (LineWidth width) h = (decimal_plain width, (refl, tt))
words_plain LineEnds h = (refl, (refl, tt))
words_plain LineJoins h = (refl, (refl, tt))
words_plain (MoveTo x y) h = (signed_plain x, (signed_plain y, (refl, tt)))
words_plain (LineTo x y) h = (signed_plain x, (signed_plain y, (refl, tt)))
words_plain ClosePath h = (refl, tt)
words_plain StrokePath h = (refl, tt)
words_plain (FillAndStroke OddCounts) h = (refl, tt)
words_plain (FillAndStroke Winding) h = (refl, tt)
words_plain BeginText h = (refl, tt)
words_plain Invisible h = (refl, (refl, tt))
words_plain (TextMatrix m x y) h = (thousandths_plain m.a, (thousandths_plain m.b, (thousandths_plain m.c, (thousandths_plain m.d, (signed_plain x, (signed_plain y, (refl, tt)))))))
words_plain (Font row) h = (lacks_both is_blank (codes "/F") (decimal row) refl (decimal_plain row), (refl, (refl, tt)))
words_plain (ShowText bytes) h =
    let ds = digits_text bytes in
    (lacks_both is_blank (codes "<" ++ ds) (codes ">") (lacks_both is_blank (codes "<") ds refl (bytes_plain bytes h)) refl, (refl, tt))
words_plain EndText h = (refl, tt)

plain_words : (ws : List (List ℕ)) → ArePlain ws → AreWords 32 ws
plain_words [] h = tt
plain_words (w ∷ ws) h = (no_space w h.0, plain_words ws h.1)

-- a line of words has no end of a line in it
one_line : (w : List ℕ) (ws : List (List ℕ)) → ArePlain (w ∷ ws) → Lacks (λ c. c == 10) (join_with_byte 32 (w ∷ ws))
one_line w [] h = no_end w h.0
one_line w (v ∷ ws) h =
    lacks_both (λ c. c == 10) w (32 ∷ join_with_byte 32 (v ∷ ws)) (no_end w h.0) (one_line v ws h.1)

words_line : (ws : List (List ℕ)) → ArePlain ws → Lacks (λ c. c == 10) (join_with_byte 32 ws)
words_line [] h = refl
words_line (w ∷ ws) h = one_line w ws h

-- an operator has words
abbrev HasWords : List (List ℕ) → Type 0
HasWords [] = ⊥
HasWords (w ∷ ws) = Unit {0}

all_words : (ws : List (List ℕ)) → ArePlain ws → HasWords ws → split 32 (join_with_byte 32 ws) ≡ ws
all_words [] h k = absurd k
all_words (w ∷ ws) h k = split_words 32 w ws (plain_words (w ∷ ws) h)

some_words : (o : Operator) → HasWords (words o)
some_words (Scale unit) = tt
some_words (Layer pen) = tt
some_words EndLayer = tt
some_words Save = tt
some_words Restore = tt
some_words (Rectangle w) = tt
some_words Clip = tt
some_words NoPaint = tt
some_words (StrokeColour c) = tt
some_words (FillColour c) = tt
some_words (LineWidth width) = tt
some_words LineEnds = tt
some_words LineJoins = tt
some_words (MoveTo x y) = tt
some_words (LineTo x y) = tt
some_words ClosePath = tt
some_words StrokePath = tt
some_words (FillAndStroke OddCounts) = tt
some_words (FillAndStroke Winding) = tt
some_words BeginText = tt
some_words Invisible = tt
some_words (TextMatrix m x y) = tt
some_words (Font row) = tt
some_words (ShowText bytes) = tt
some_words EndText = tt

operator_read : (o : Operator) → Fits o → operator (split 32 (line o)) ≡ Some o
operator_read o h = ap (λ (ws : List (List ℕ)). operator ws) (all_words (words o) (words_plain o h) (some_words o)) ∙ words_read o h

-- each of these operators is read
abbrev pub AllFit : List Operator → Type 0
AllFit [] = Unit {0}
AllFit (o ∷ os) = Fits o × AllFit os

lines_read : (os : List Operator) → AllFit os → operators (split 10 (operators_text os)) ≡ Some os
lines_read [] h = refl
lines_read (o ∷ os) h =
    let rest = operators_text os in
    ap (λ (z : List ℕ). operators (split 10 (z ++ rest))) (lined o)
    ∙ ap (λ (z : List ℕ). operators (split 10 z)) (append_assoc (line o) (codes "\n") rest)
    ∙ ap (λ (ls : List (List ℕ)). operators ls) (split_more 10 (line o) rest (words_line (words o) (words_plain o h.0)))
    ∙ ap (λ (p : Option Operator). p >>= (λ x. operators (split 10 rest) >>= (λ xs. Some (x ∷ xs)))) (operator_read o h.0)
    ∙ ap (λ (p : Option (List Operator)). p >>= (λ xs. Some (o ∷ xs))) (lines_read os h.1)

pub text_read : (os : List Operator) → AllFit os → read_content (operators_text os) ≡ Some os
unfolding read_content
text_read os h = lines_read os h
