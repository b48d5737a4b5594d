-- The titles of an SVG document: the texts of labels. XML 1.0, 2.2 and 2.4.
use Rattle.std.specs.Prelude.{ℕ, ◌==◌, ◌||◌, Bool, List, [], ◌∷◌, ◌++◌, flat_map, if◌then◌else◌, codes}
use Rattle.std.specs.Char.{encode_utf8}
use Rattle.std.specs.Int.{is_in_range}
use Rattle.labels.specs.Labels.{LabelShape, LineShape}

abbrev pub line_feed : ℕ
line_feed = 0x0A

-- U+FFFD, which replaces a code point that XML does not have
abbrev pub replacement : ℕ
replacement = 0xFFFD

abbrev pub ampersand : ℕ
ampersand = 0x26

abbrev pub less_than : ℕ
less_than = 0x3C

abbrev pub greater_than : ℕ
greater_than = 0x3E

-- lines after another one, each after a line feed
abbrev pub next_lines : List LineShape → List ℕ
next_lines lines = flat_map (λ l. line_feed ∷ l.text) lines

-- the text of lines, with a line feed between two of them
abbrev pub lines_text : List LineShape → List ℕ
lines_text [] = []
lines_text (l ∷ ls) = l.text ++ next_lines ls

abbrev pub label_text : LabelShape → List ℕ
label_text l = lines_text l.lines

-- a character of XML, other than a tab and a carriage return
abbrev pub is_character : ℕ → Bool
is_character c =
    ((c == line_feed || is_in_range 0x20 0xD7FF c) || is_in_range 0xE000 0xFFFD c) || is_in_range 0x1_0000 0x10_FFFF c

abbrev pub character : ℕ → ℕ
character c = if is_character c then c else replacement

-- a character in a text of XML: three have a reference, and the others are in UTF-8
abbrev pub character_text : ℕ → List ℕ
character_text c =
    if c == ampersand then codes "&amp;" else
    if c == less_than then codes "&lt;" else
    if c == greater_than then codes "&gt;" else
    encode_utf8 c

-- a text of any code points
abbrev pub text_bytes : List ℕ → List ℕ
text_bytes text = flat_map (λ c. character_text (character c)) text

-- the same without references
abbrev pub utf_8 : List ℕ → List ℕ
utf_8 text = flat_map (λ c. encode_utf8 (character c)) text

abbrev pub title_text : List ℕ → List ℕ
title_text text = codes "<title>" ++ text_bytes text ++ codes "</title>\n"
