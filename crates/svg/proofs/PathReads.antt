-- The reader reads a path as it was written.
use Rattle.std.proofs.Common.{◌≡◌, ◌∙◌, ℕ, ◌/◌, ◌%◌, ◌^◌, ◌<◌, ◌≤◌, ℤ, nat_abs, ◌==◌, ◌&&◌, ◌||◌, nat_eq, Bool, true, false, List, [], ◌∷◌, ◌++◌, length, drop, map, flat_map, Option, Some, None, codes, decimal, refl, ap, sym, arith, append_assoc}
use Rattle.std.proofs.lemmas.Bool.{or_parts}
use Rattle.std.proofs.lemmas.Bool.Decides.{nat_tests}
use Rattle.std.specs.Fmt.{digit_glyph, signed_decimal}
use Rattle.std.specs.List.{join_with_byte, list_any}
use Rattle.std.specs.Option.{option_map}
use Rattle.plot_page.specs.declared.colour.Colour.{Colour}
use Rattle.polygons.specs.declared.lines.Rule.{Rule}
use Rattle.polygons.specs.declared.lines.Rule.TheVariants.{OddCounts, Winding}
use Rattle.stroke_runs.specs.Drawn.{is_same_colour}
use Rattle.svg.specs.declared.places.Place.{Place}
use Rattle.svg.specs.declared.places.Rectangle.{Rectangle}
use Rattle.svg.specs.Commands.{Command, MoveTo, LineTo, MoveBy, LineBy, command_text, pair_text}
use Rattle.svg.specs.Numbers.{colour_digits, two_digits}
use Rattle.svg.specs.Paths.{Path, clip_name, clipped_text, fill_text, path_text}
use Rattle.pieces.specs.Readings.{Cut, each, given, integer, ◌>>=◌}
use Rattle.svg.specs.Reader.{attributes, clip_in, colour, command, command_of, commands, fill_in, is_allowed, is_known, is_letter, path, path_in, place, place_in}
use Rattle.pieces.proofs.Scans.{AreWords, Cuts, Lacks, PassesDigits, all_parts, byte_value, decimal_lacks, hex_digit, integer_read, lacks_both, more_parts, no_parts, number_read, one_part, signed_lacks, split_last, split_more, split_words}

-- quotation marks and the starts of tags
abbrev pub is_markup : ℕ → Bool
is_markup c = (c == 34) || (c == 60)

abbrev pub is_less : ℕ → Bool
is_less c = c == 60

abbrev pub is_quote : ℕ → Bool
is_quote c = c == 34

pub no_quote : (text : List ℕ) → Lacks is_markup text → Lacks is_quote text
no_quote [] h = refl
no_quote (c ∷ cs) h =
    let both = or_parts (is_markup c) (list_any is_markup cs) h in
    let one = or_parts (c == 34) (c == 60) both.0 in
    let rest = no_quote cs both.1 in
    cc

pub no_less : (text : List ℕ) → Lacks is_markup text → Lacks is_less text
no_less [] h = refl
no_less (c ∷ cs) h =
    let both = or_parts (is_markup c) (list_any is_markup cs) h in
    let one = or_parts (c == 34) (c == 60) both.0 in
    let rest = no_less cs both.1 in
    cc

-- places that the reader reads
pub record IsSmall (p : Place) : Type 0 where
  pub x : nat_abs p.x < 2 ^ 63
  pub y : nat_abs p.y < 2 ^ 63

place_read : (p : Place) → IsSmall p → place (pair_text p) ≡ Some p
place_read p h =
    let x = signed_decimal p.x in
    let y = signed_decimal p.y in
    let is_space : ℕ → Bool = λ c. c == 32 in
    let no_space = λ (z : ℤ). signed_lacks is_space (λ c low high. grind (arith, nat_tests)) refl z in
    ap (λ (z : List ℕ). place z) (append_assoc x (codes " ") y)
    ∙ ap (λ (ws : List (List ℕ)). place_in ws) (split_more 32 x y (no_space p.x) ∙ ap (λ (ws : List (List ℕ)). x ∷ ws) (split_last 32 y (no_space p.y)))
    ∙ ap (λ (o : Option ℤ). o >>= (λ a. integer y >>= (λ b. Some (record { x = a; y = b })))) (integer_read p.x h.x)
    ∙ ap (λ (o : Option ℤ). o >>= (λ b. Some (record { x = p.x; y = b }))) (integer_read p.y h.y)

abbrev pub IsSmallCommand : Command → Type 0
IsSmallCommand (MoveTo p) = IsSmall p
IsSmallCommand (LineTo p) = IsSmall p
IsSmallCommand (MoveBy p) = IsSmall p
IsSmallCommand (LineBy p) = IsSmall p

abbrev pub AreSmall : List Command → Type 0
AreSmall [] = Unit {0}
AreSmall (c ∷ cs) = IsSmallCommand c × AreSmall cs

command_read : (c : Command) → IsSmallCommand c → command (command_text c) ≡ Some c
command_read (MoveTo p) h = ap (λ (o : Option Place). o >>= command_of 0x4D) (place_read p h)
command_read (LineTo p) h = ap (λ (o : Option Place). o >>= command_of 0x4C) (place_read p h)
command_read (MoveBy p) h = ap (λ (o : Option Place). o >>= command_of 0x6D) (place_read p h)
command_read (LineBy p) h = ap (λ (o : Option Place). o >>= command_of 0x6C) (place_read p h)

pair_lacks : (is_mark : ℕ → Bool) → ((c : ℕ) → 48 ≤ c → c ≤ 57 → is_mark c ≡ false) → is_mark 45 ≡ false → Lacks is_mark (codes " ") → (p : Place) → Lacks is_mark (pair_text p)
pair_lacks is_mark free minus blank p =
    lacks_both is_mark (signed_decimal p.x ++ codes " ") (signed_decimal p.y) (lacks_both is_mark (signed_decimal p.x) (codes " ") (signed_lacks is_mark free minus p.x) blank) (signed_lacks is_mark free minus p.y)

letter_lacks : (p : Place) → Lacks is_letter (pair_text p)
letter_lacks p = pair_lacks is_letter (λ c low high. grind (arith, nat_tests)) refl refl p

command_cut : (c : Command) → Cuts is_letter (command_text c) (command_text c ∷ [])
command_cut (MoveTo p) = one_part is_letter 0x4D (pair_text p) refl (letter_lacks p)
command_cut (LineTo p) = one_part is_letter 0x4C (pair_text p) refl (letter_lacks p)
command_cut (MoveBy p) = one_part is_letter 0x6D (pair_text p) refl (letter_lacks p)
command_cut (LineBy p) = one_part is_letter 0x6C (pair_text p) refl (letter_lacks p)

commands_cut : (cs : List Command) → Cuts is_letter (flat_map command_text cs) (map command_text cs)
commands_cut [] = no_parts is_letter
commands_cut (c ∷ cs) = more_parts is_letter (command_text c) (flat_map command_text cs) (command_text c ∷ []) (map command_text cs) (command_cut c) (commands_cut cs)

commands_each : (cs : List Command) → AreSmall cs → each command (map command_text cs) ≡ Some cs
commands_each [] h = refl
commands_each (c ∷ cs) h =
    ap (λ (o : Option Command). o >>= (λ y. each command (map command_text cs) >>= (λ ys. Some (y ∷ ys)))) (command_read c h.0)
    ∙ ap (λ (o : Option (List Command)). o >>= (λ ys. Some (c ∷ ys))) (commands_each cs h.1)

commands_read : (cs : List Command) → AreSmall cs → commands (flat_map command_text cs) ≡ Some cs
commands_read cs h =
    ap (λ (t : Cut). given (nat_eq (length t.front) 0) (each command t.parts)) (all_parts is_letter (flat_map command_text cs) (map command_text cs) (commands_cut cs))
    ∙ commands_each cs h

-- digits, minus signs, spaces and letters are no markup
pub digit_plain : (c : ℕ) → 48 ≤ c → c ≤ 57 → is_markup c ≡ false
digit_plain c low high = grind (arith, nat_tests)

pub decimal_plain : (n : ℕ) → Lacks is_markup (decimal n)
decimal_plain n = decimal_lacks is_markup digit_plain n

pub signed_plain : (z : ℤ) → Lacks is_markup (signed_decimal z)
signed_plain z = signed_lacks is_markup digit_plain refl z

pair_plain : (p : Place) → Lacks is_markup (pair_text p)
pair_plain p = pair_lacks is_markup digit_plain refl refl p

command_plain : (c : Command) → Lacks is_markup (command_text c)
command_plain (MoveTo p) = lacks_both is_markup (codes "M") (pair_text p) refl (pair_plain p)
command_plain (LineTo p) = lacks_both is_markup (codes "L") (pair_text p) refl (pair_plain p)
command_plain (MoveBy p) = lacks_both is_markup (codes "m") (pair_text p) refl (pair_plain p)
command_plain (LineBy p) = lacks_both is_markup (codes "l") (pair_text p) refl (pair_plain p)

pub commands_plain : (cs : List Command) → Lacks is_markup (flat_map command_text cs)
commands_plain [] = refl
commands_plain (c ∷ cs) = lacks_both is_markup (command_text c) (flat_map command_text cs) (command_plain c) (commands_plain cs)

-- hexadecimal digits
hex_plain : (d : ℕ) → d < 16 → is_markup (digit_glyph false d) ≡ false
hex_plain d h = grind (arith, nat_tests)

-- the bytes of a colour
pub record IsColour (c : Colour) : Type 0 where
  pub red : c.red < 256
  pub green : c.green < 256
  pub blue : c.blue < 256

colour_read : (c : Colour) → IsColour c → colour (codes "#" ++ colour_digits c) ≡ Some c
colour_read c h =
    let high = λ (n : ℕ) (small : n < 256). hex_digit (n / 16) (omega (arith, small)) in
    let low = λ (n : ℕ). hex_digit (n % 16) (omega arith) in
    let r1 = high c.red h.red in
    let r0 = low c.red in
    let g1 = high c.green h.green in
    let g0 = low c.green in
    let b1 = high c.blue h.blue in
    let b0 = low c.blue in
    let red = byte_value c.red h.red in
    let green = byte_value c.green h.green in
    let blue = byte_value c.blue h.blue in
    λ i. given (r1 i && (r0 i && (g1 i && (g0 i && (b1 i && (b0 i && true)))))) (Some (record { red = red i; green = green i; blue = blue i }))

two_plain : (n : ℕ) → n < 256 → Lacks is_markup (two_digits n)
two_plain n h =
    let high = hex_plain (n / 16) (omega (arith, h)) in
    let low = hex_plain (n % 16) (omega arith) in
    cc

pub colour_plain : (c : Colour) → IsColour c → Lacks is_markup (colour_digits c)
colour_plain c h =
    lacks_both is_markup (two_digits c.red ++ two_digits c.green) (two_digits c.blue) (lacks_both is_markup (two_digits c.red) (two_digits c.green) (two_plain c.red h.red) (two_plain c.green h.green)) (two_plain c.blue h.blue)

-- the words of a path, by the texts of its pen, its colour, its width, its fill, the name of its clip path and its data
abbrev fill_words : Option Rule → List ℕ → List (List ℕ) → List (List ℕ)
fill_words None c ws = ws
fill_words (Some OddCounts) c ws = codes " fill=" ∷ (codes "#" ++ c) ∷ codes " fill-rule=" ∷ codes "evenodd" ∷ ws
fill_words (Some Winding) c ws = codes " fill=" ∷ (codes "#" ++ c) ∷ ws

-- a reference to a name
abbrev pub reference : List ℕ → List ℕ
reference n = codes "url(#" ++ n ++ codes ")"

abbrev clip_words : Option Rectangle → List (List ℕ) → List (List ℕ)
clip_words None ws = ws
clip_words (Some r) ws = codes " clip-path=" ∷ reference (clip_name r) ∷ ws

abbrev data_words : List ℕ → List (List ℕ)
data_words x = codes " d=" ∷ x ∷ codes "/>\n" ∷ []

abbrev words : List ℕ → List ℕ → List ℕ → List (List ℕ) → List (List ℕ)
words p c w rest = codes " class=" ∷ (codes "pen" ++ p) ∷ codes " stroke=" ∷ (codes "#" ++ c) ∷ codes " stroke-width=" ∷ w ∷ rest

-- as the writer has them
abbrev written : List ℕ → List ℕ → List ℕ → List ℕ → List ℕ → List ℕ → List ℕ
written p c w f k x =
    codes "<path class=\"pen" ++ p ++ codes "\" stroke=\"#" ++ c ++ codes "\" stroke-width=\"" ++ w ++ codes "\"" ++ f ++ k ++ codes " d=\"" ++ x ++ codes "\"/>\n"

nested : (a p b c d w q f k e x z : List ℕ) → a ++ p ++ b ++ c ++ d ++ w ++ q ++ f ++ k ++ e ++ x ++ z ≡ a ++ (p ++ (b ++ (c ++ (d ++ (w ++ (q ++ (f ++ (k ++ (e ++ (x ++ z))))))))))
nested a p b c d w q f k e x z = simp append_assoc

-- how a path is filled, before other words
fill_written : (rule : Option Rule) (c y : List ℕ) (ys : List (List ℕ)) → fill_text rule c ++ join_with_byte 34 (y ∷ ys) ≡ join_with_byte 34 (fill_words rule c (y ∷ ys))
fill_written None c y ys = refl
fill_written (Some OddCounts) c y ys = ap (λ (z : List ℕ). codes " fill=\"#" ++ z) (append_assoc c (codes "\" fill-rule=\"evenodd\"") (join_with_byte 34 (y ∷ ys)))
fill_written (Some Winding) c y ys = ap (λ (z : List ℕ). codes " fill=\"#" ++ z) (append_assoc c (codes "\"") (join_with_byte 34 (y ∷ ys)))

reference_written : (n rest : List ℕ) → (codes " clip-path=\"url(#" ++ n ++ codes ")\"") ++ rest ≡ codes " clip-path=\"" ++ (reference n ++ (codes "\"" ++ rest))
reference_written n rest = ap (λ (z : List ℕ). codes " clip-path=\"url(#" ++ z) (append_assoc n (codes ")\"") rest ∙ sym (append_assoc n (codes ")") (codes "\"" ++ rest)))

-- and what it is clipped to
ways_written : (rule : Option Rule) (clip : Option Rectangle) (c y : List ℕ) (ys : List (List ℕ))
    → fill_text rule c ++ (clipped_text clip ++ join_with_byte 34 (y ∷ ys)) ≡ join_with_byte 34 (fill_words rule c (clip_words clip (y ∷ ys)))
ways_written rule None c y ys = fill_written rule c y ys
ways_written rule (Some r) c y ys =
    ap (λ (z : List ℕ). fill_text rule c ++ z) (reference_written (clip_name r) (join_with_byte 34 (y ∷ ys)))
    ∙ fill_written rule c (codes " clip-path=") (reference (clip_name r) ∷ y ∷ ys)

all_written : (rule : Option Rule) (clip : Option Rectangle) (p c w x : List ℕ) → written p c w (fill_text rule c) (clipped_text clip) x ≡ codes "<path" ++ join_with_byte 34 (words p c w (fill_words rule c (clip_words clip (data_words x))))
all_written rule clip p c w x =
    let front = λ (z : List ℕ). codes "<path class=\"pen" ++ (p ++ (codes "\" stroke=\"#" ++ (c ++ (codes "\" stroke-width=\"" ++ (w ++ (codes "\"" ++ z)))))) in
    nested (codes "<path class=\"pen") p (codes "\" stroke=\"#") c (codes "\" stroke-width=\"") w (codes "\"") (fill_text rule c) (clipped_text clip) (codes " d=\"") x (codes "\"/>\n")
    ∙ ap front (ways_written rule clip c (codes " d=") (x ∷ codes "/>\n" ∷ []))
    ∙ some_words rule clip
  where
    some_words : (o : Option Rule) (k : Option Rectangle) → codes "<path class=\"pen" ++ (p ++ (codes "\" stroke=\"#" ++ (c ++ (codes "\" stroke-width=\"" ++ (w ++ (codes "\"" ++ join_with_byte 34 (fill_words o c (clip_words k (data_words x)))))))))
        ≡ codes "<path" ++ join_with_byte 34 (words p c w (fill_words o c (clip_words k (data_words x))))
    some_words None None = refl
    some_words None (Some r) = refl
    some_words (Some OddCounts) k = refl
    some_words (Some Winding) k = refl

-- a path that the reader reads
pub record IsSmallPath (p : Path) : Type 0 where
  pub pen : p.pen < 2 ^ 64
  pub colour : IsColour p.colour
  pub width : p.width < 2 ^ 64
  pub commands : AreSmall p.commands

-- a path of what was read
abbrev built : Option ℕ → Option Colour → Option ℕ → (Colour → Option (Option Rule)) → Option (Option Rectangle) → Option (List Command) → Option Path
built pen paint width fill clip lines =
    pen >>= (λ p. paint >>= (λ c. width >>= (λ w. fill c >>= (λ r. clip >>= (λ k. lines >>= (λ cs. Some (record { pen = p; colour = c; width = w; rule = r; clip = k; commands = cs })))))))

pub name_lacks : (is_mark : ℕ → Bool) → PassesDigits is_mark → is_mark 45 ≡ false → is_mark 95 ≡ false → is_mark 119 ≡ false → (r : Rectangle) → Lacks is_mark (clip_name r)
name_lacks is_mark free minus low letter r =
    let number = λ (z : ℤ). signed_lacks is_mark free minus z in
    let line : Lacks is_mark (codes "_") = ap (λ (b : Bool). b || false) low in
    let add = λ (xs : List ℕ) (z : ℤ) (h : Lacks is_mark xs). lacks_both is_mark (xs ++ codes "_") (signed_decimal z) (lacks_both is_mark xs (codes "_") h line) (number z) in
    let one = codes "w" ++ signed_decimal r.x in
    let two = one ++ codes "_" ++ signed_decimal r.y in
    let three = two ++ codes "_" ++ signed_decimal r.width in
    add three r.height (add two r.width (add one r.y (lacks_both is_mark (codes "w") (signed_decimal r.x) (ap (λ (b : Bool). b || false) letter) (number r.x))))

pub name_plain : (r : Rectangle) → Lacks is_markup (clip_name r)
name_plain r = name_lacks is_markup digit_plain refl refl refl r

add_plain : (xs ys : List ℕ) → Lacks is_quote xs → Lacks is_quote ys → Lacks is_quote (xs ++ ys)
add_plain xs ys h k = lacks_both is_quote xs ys h k

-- the words have no quotation marks
fill_quoted : (rule : Option Rule) (c : List ℕ) (ws : List (List ℕ)) → Lacks is_quote (codes "#" ++ c) → AreWords 34 ws → AreWords 34 (fill_words rule c ws)
fill_quoted None c ws h k = k
fill_quoted (Some OddCounts) c ws h k = (refl, (h, (refl, (refl, k))))
fill_quoted (Some Winding) c ws h k = (refl, (h, k))

clip_quoted : (clip : Option Rectangle) (ws : List (List ℕ)) → AreWords 34 ws → AreWords 34 (clip_words clip ws)
clip_quoted None ws k = k
clip_quoted (Some r) ws k =
    let n = clip_name r in
    let named = add_plain (codes "url(#" ++ n) (codes ")") (add_plain (codes "url(#") n refl (no_quote n (name_plain r))) refl in
    (refl, (named, k))

-- the attributes of a path
path_attributes : (pen : ℕ) (paint : Colour) (width : ℕ) (rule : Option Rule) (clip : Option Rectangle) (lines : List Command) → IsColour paint
    → attributes (codes "<path") (written (decimal pen) (colour_digits paint) (decimal width) (fill_text rule (colour_digits paint)) (clipped_text clip) (flat_map command_text lines))
    ≡ Some (words (decimal pen) (colour_digits paint) (decimal width) (fill_words rule (colour_digits paint) (clip_words clip (data_words (flat_map command_text lines)))))
path_attributes pen paint width rule clip lines b =
    let p = decimal pen in
    let k = colour_digits paint in
    let w = decimal width in
    let x = flat_map command_text lines in
    let pen_in = add_plain (codes "pen") p refl (no_quote p (decimal_plain pen)) in
    let paint_in = add_plain (codes "#") k refl (no_quote k (colour_plain paint b)) in
    let rest = fill_words rule k (clip_words clip (data_words x)) in
    let drawn : AreWords 34 (data_words x) = (refl, (no_quote x (commands_plain lines), (refl, tt))) in
    let rest_in = fill_quoted rule k (clip_words clip (data_words x)) paint_in (clip_quoted clip (data_words x) drawn) in
    let are : AreWords 34 (words p k w rest) = (refl, (pen_in, (refl, (paint_in, (refl, (no_quote w (decimal_plain width), rest_in)))))) in
    ap (λ (z : List ℕ). attributes (codes "<path") z) (all_written rule clip p k w x)
    ∙ ap (λ (zs : List (List ℕ)). Some zs) (split_words 34 (codes " class=") (drop 1 (words p k w rest)) are)

-- a colour is the same as itself
same_number : (n : ℕ) → (n == n) ≡ true
same_number n = grind (arith, nat_tests)

same_colour : (c : Colour) → is_same_colour c c ≡ true
same_colour c =
    let r = same_number c.red in
    let g = same_number c.green in
    let b = same_number c.blue in
    λ i. (r i && g i) && b i

-- the fill is read
odd_read : (c : Colour) → IsColour c → fill_in c (Some (codes "#" ++ colour_digits c)) (Some (codes "evenodd")) ≡ Some (Some OddCounts)
odd_read c h =
    ap (λ (o : Option Colour). o >>= (λ d. given (is_same_colour c d) (Some (Some OddCounts)))) (colour_read c h)
    ∙ ap (λ (b : Bool). given b (Some (Some OddCounts))) (same_colour c)

winding_read : (c : Colour) → IsColour c → fill_in c (Some (codes "#" ++ colour_digits c)) None ≡ Some (Some Winding)
winding_read c h =
    ap (λ (o : Option Colour). o >>= (λ d. given (is_same_colour c d) (Some (Some Winding)))) (colour_read c h)
    ∙ ap (λ (b : Bool). given b (Some (Some Winding))) (same_colour c)

-- a path of this rule
abbrev the_path : ℕ → Colour → ℕ → Option Rectangle → List Command → Option Rule → Option Path
the_path pen paint width clip lines rule = Some (record { pen = pen; colour = paint; width = width; rule = rule; clip = clip; commands = lines })

path_with : (parts : List (List ℕ)) (pen : ℕ) (paint : Colour) (width : ℕ) (rule : Option Rule) (clip : Option Rectangle) (lines : List Command) → pen < 2 ^ 64 → IsColour paint → width < 2 ^ 64 → AreSmall lines → clip_in parts (option_map (λ r. reference (clip_name r)) clip) ≡ Some clip
    → path parts (written (decimal pen) (colour_digits paint) (decimal width) (fill_text rule (colour_digits paint)) (clipped_text clip) (flat_map command_text lines)) ≡ the_path pen paint width clip lines rule
path_with parts pen paint width rule clip lines a b c d e =
    ap (λ (o : Option (List (List ℕ))). o >>= path_in parts) (path_attributes pen paint width rule clip lines b)
    ∙ words_read rule clip e
  where
    words_read : (o : Option Rule) (k : Option Rectangle) → clip_in parts (option_map (λ r. reference (clip_name r)) k) ≡ Some k
        → path_in parts (words (decimal pen) (colour_digits paint) (decimal width) (fill_words o (colour_digits paint) (clip_words k (data_words (flat_map command_text lines))))) ≡ the_path pen paint width k lines o
    words_read None None h = λ i. built (number_read pen a i) (colour_read paint b i) (number_read width c i) (λ q. Some None) (h i) (commands_read lines d i)
    words_read None (Some r) h = λ i. built (number_read pen a i) (colour_read paint b i) (number_read width c i) (λ q. Some None) (h i) (commands_read lines d i)
    words_read (Some OddCounts) None h =
        (λ i. built (number_read pen a i) (colour_read paint b i) (number_read width c i) (λ q. fill_in q (Some (codes "#" ++ colour_digits paint)) (Some (codes "evenodd"))) (h i) (commands_read lines d i))
        ∙ ap (λ (z : Option (Option Rule)). z >>= the_path pen paint width None lines) (odd_read paint b)
    words_read (Some OddCounts) (Some r) h =
        (λ i. built (number_read pen a i) (colour_read paint b i) (number_read width c i) (λ q. fill_in q (Some (codes "#" ++ colour_digits paint)) (Some (codes "evenodd"))) (h i) (commands_read lines d i))
        ∙ ap (λ (z : Option (Option Rule)). z >>= the_path pen paint width (Some r) lines) (odd_read paint b)
    words_read (Some Winding) None h =
        (λ i. built (number_read pen a i) (colour_read paint b i) (number_read width c i) (λ q. fill_in q (Some (codes "#" ++ colour_digits paint)) None) (h i) (commands_read lines d i))
        ∙ ap (λ (z : Option (Option Rule)). z >>= the_path pen paint width None lines) (winding_read paint b)
    words_read (Some Winding) (Some r) h =
        (λ i. built (number_read pen a i) (colour_read paint b i) (number_read width c i) (λ q. fill_in q (Some (codes "#" ++ colour_digits paint)) None) (h i) (commands_read lines d i))
        ∙ ap (λ (z : Option (Option Rule)). z >>= the_path pen paint width (Some r) lines) (winding_read paint b)

-- the attributes of a path that the reader knows
abbrev path_names : List (List ℕ)
path_names = codes "class" ∷ codes "stroke" ∷ codes "stroke-width" ∷ codes "fill" ∷ codes "fill-rule" ∷ codes "clip-path" ∷ codes "d" ∷ []

words_known : (rule : Option Rule) (clip : Option Rectangle) (p c w x : List ℕ) → is_allowed path_names (Some (words p c w (fill_words rule c (clip_words clip (data_words x))))) ≡ true
words_known None None p c w x = refl
words_known None (Some r) p c w x = refl
words_known (Some OddCounts) None p c w x = refl
words_known (Some OddCounts) (Some r) p c w x = refl
words_known (Some Winding) None p c w x = refl
words_known (Some Winding) (Some r) p c w x = refl

known_with : (pen : ℕ) (paint : Colour) (width : ℕ) (rule : Option Rule) (clip : Option Rectangle) (lines : List Command) → IsColour paint
    → is_known (written (decimal pen) (colour_digits paint) (decimal width) (fill_text rule (colour_digits paint)) (clipped_text clip) (flat_map command_text lines)) ≡ true
known_with pen paint width rule clip lines b =
    ap (λ (o : Option (List (List ℕ))). (is_allowed path_names o || false) || false) (path_attributes pen paint width rule clip lines b)
    ∙ ap (λ (t : Bool). (t || false) || false) (words_known rule clip (decimal pen) (colour_digits paint) (decimal width) (flat_map command_text lines))

pub path_known : (p : Path) → IsColour p.colour → is_known (path_text p) ≡ true
path_known p h = known_with p.pen p.colour p.width p.rule p.clip p.commands h

-- a path is read from its bytes
pub path_read : (parts : List (List ℕ)) (p : Path) → IsSmallPath p → clip_in parts (option_map (λ r. reference (clip_name r)) p.clip) ≡ Some p.clip → path parts (path_text p) ≡ Some p
path_read parts p h e = path_with parts p.pen p.colour p.width p.rule p.clip p.commands h.pen h.colour h.width h.commands e
