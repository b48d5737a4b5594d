-- A reader of SVG documents: from bytes to shapes. It refuses elements and attributes that it does not know.
-- XML 1.0, 2.4 and 3.1; SVG 1.1, 7.7, 8.3, 11.3 and 14.3.
use Rattle.std.specs.Prelude.{ℕ, ◌==◌, ◌&&◌, ◌||◌, Bool, false, List, [], ◌∷◌, ◌++◌, length, filter, Option, Some, None, if◌then◌else◌, codes}
use Rattle.std.specs.Char.{is_digit}
use Rattle.std.specs.Int.{is_in_range}
use Rattle.std.specs.List.{concat, find, list_all, list_any, starts_with}
use Rattle.std.specs.Option.{option_map, option_or}
use Rattle.std.specs.Prelude.{nat_eq}
use Rattle.pieces.specs.Readings.{after, byte, cut, each, given, integer, is_text, number, split, ◌>>=◌}
use Rattle.areas.specs.Shapes.{Shape}
use Rattle.plot_page.specs.declared.colour.Colour.{Colour}
use Rattle.polygons.specs.declared.lines.Rule.{Rule}
use Rattle.polygons.specs.declared.lines.Rule.TheVariants.{OddCounts, Winding}
use Rattle.stroke_runs.specs.Drawn.{is_same_colour}
use Rattle.svg.specs.declared.places.Place.{Place}
use Rattle.svg.specs.declared.places.Rectangle.{Rectangle}
use Rattle.svg.specs.Commands.{Command, MoveTo, LineTo, MoveBy, LineBy}
use Rattle.svg.specs.Paths.{Path}
use Rattle.svg.specs.Readings.{Size, read_paths}
use Rattle.svg.specs.Titles.{ampersand, greater_than, less_than}

-- x and y
abbrev pub place_in : List (List ℕ) → Option Place
place_in (a ∷ b ∷ []) = do
  x ← integer a
  y ← integer b
  Some (record { x = x; y = y })
place_in _ = None

abbrev pub space : ℕ
space = 0x20

abbrev pub quote : ℕ
quote = 0x22

abbrev pub place : List ℕ → Option Place
place text = place_in (split space text)

-- the letters of commands: M, L, m and l
abbrev pub absolute_move : ℕ
absolute_move = 0x4D

abbrev pub absolute_line : ℕ
absolute_line = 0x4C

abbrev pub relative_move : ℕ
relative_move = 0x6D

abbrev pub relative_line : ℕ
relative_line = 0x6C

abbrev pub command_of : ℕ → Place → Option Command
command_of letter p =
    if letter == absolute_move then Some (MoveTo p) else
    if letter == absolute_line then Some (LineTo p) else
    if letter == relative_move then Some (MoveBy p) else
    if letter == relative_line then Some (LineBy p) else None

abbrev pub command : List ℕ → Option Command
command [] = None
command (letter ∷ text) = place text >>= command_of letter

abbrev pub is_letter : ℕ → Bool
is_letter c = is_in_range 0x41 0x5A c || is_in_range 0x61 0x7A c

-- the data of a path: each letter begins a command
abbrev pub commands : List ℕ → Option (List Command)
commands text = given (nat_eq (length (cut is_letter text).front) 0) (each command (cut is_letter text).parts)

abbrev pub number_sign : ℕ
number_sign = 0x23

-- a number sign and six hexadecimal digits
abbrev pub colour : List ℕ → Option Colour
colour (sign ∷ a ∷ b ∷ c ∷ d ∷ e ∷ f ∷ []) =
    given ((sign == number_sign) && list_all (λ c. is_digit c 16) (a ∷ b ∷ c ∷ d ∷ e ∷ f ∷ []))
    (Some (record { red = byte a b; green = byte c d; blue = byte e f }))
colour _ = None

-- the value of an attribute in a tag that is cut at its quotation marks
abbrev pub value : List ℕ → List (List ℕ) → Option (List ℕ)
value name (n ∷ v ∷ rest) = if is_text n (codes " " ++ name ++ codes "=") then Some v else value name rest
value name _ = None

-- the attributes of an element, cut at their quotation marks
abbrev pub attributes : List ℕ → List ℕ → Option (List (List ℕ))
attributes element part = option_map (split quote) (after element part)

-- the elements of a document, each with the text that follows it
abbrev pub elements : List ℕ → List (List ℕ)
elements document = (cut (λ c. c == less_than) document).parts

abbrev pub begins : List ℕ → List ℕ → Bool
begins text word = starts_with (λ a b. a == b) text word

abbrev pub is_element : List ℕ → List ℕ → Bool
is_element element part = begins part (element ++ codes " ")

-- the words of a tag are these attributes, and its end
abbrev pub has_only : List (List ℕ) → List (List ℕ) → Bool
has_only known [] = false
has_only known (end ∷ []) = begins end (codes ">") || begins end (codes "/>")
has_only known (n ∷ v ∷ rest) = list_any (λ name. is_text n (codes " " ++ name ++ codes "=")) known && has_only known rest

abbrev pub is_allowed : List (List ℕ) → Option (List (List ℕ)) → Bool
is_allowed known None = false
is_allowed known (Some words) = has_only known words

-- the elements of a document and their attributes: those that are not read change neither which lines are drawn nor where
abbrev pub kinds : List (List ℕ × List (List ℕ))
kinds =
    (codes "<svg", codes "xmlns" ∷ codes "width" ∷ codes "height" ∷ codes "viewBox" ∷ [])
    ∷ (codes "<g", codes "id" ∷ codes "fill" ∷ codes "stroke-linecap" ∷ codes "stroke-linejoin" ∷ [])
    ∷ (codes "<defs", [])
    ∷ (codes "<clipPath", codes "id" ∷ [])
    ∷ (codes "<rect", codes "x" ∷ codes "y" ∷ codes "width" ∷ codes "height" ∷ [])
    ∷ (codes "<path", codes "class" ∷ codes "stroke" ∷ codes "stroke-width" ∷ codes "fill" ∷ codes "fill-rule" ∷ codes "clip-path" ∷ codes "d" ∷ [])
    ∷ []

-- one of these, a title, the end of an element, or the declaration
abbrev pub is_known : List ℕ → Bool
is_known part =
    list_any (λ kind. is_allowed kind.1 (attributes kind.0 part)) kinds
    || list_any (begins part) (codes "<title>" ∷ codes "</" ∷ codes "<?xml " ∷ [])

-- the size of a drawing, by its viewBox
abbrev pub size_in : List (List ℕ) → Option Size
size_in (x ∷ y ∷ width ∷ height ∷ []) = given (is_text x (codes "0") && is_text y (codes "0")) (do
  w ← number width
  h ← number height
  Some (record { width = w; height = h })
  )
size_in _ = None

abbrev pub size : List (List ℕ) → Option Size
size parts = do
  svg ← find (is_element (codes "<svg")) parts
  words ← attributes (codes "<svg") svg
  box ← value (codes "viewBox") words
  size_in (split space box)

abbrev pub rectangle_in : List (List ℕ) → Option Rectangle
rectangle_in words = do
  x ← value (codes "x") words >>= integer
  y ← value (codes "y") words >>= integer
  width ← value (codes "width") words >>= integer
  height ← value (codes "height") words >>= integer
  Some (record { x = x; y = y; width = width; height = height })

-- the first element, if it is a rectangle
abbrev pub rectangle : List (List ℕ) → Option Rectangle
rectangle [] = None
rectangle (part ∷ parts) = attributes (codes "<rect") part >>= rectangle_in

-- a reference names an element: url(#NAME)
abbrev pub names : List ℕ → Option (List ℕ) → Bool
names reference None = false
names reference (Some id) = is_text reference (codes "url(#" ++ id ++ codes ")")

-- the rectangle in the clip path that a reference names
abbrev pub clip_named : List ℕ → List (List ℕ) → Option Rectangle
clip_named reference [] = None
clip_named reference (part ∷ parts) =
    if names reference (attributes (codes "<clipPath") part >>= value (codes "id")) then rectangle parts else
    clip_named reference parts

-- what a path is clipped to, by its attribute, if it has one
abbrev pub clip_in : List (List ℕ) → Option (List ℕ) → Option (Option Rectangle)
clip_in parts None = Some None
clip_in parts (Some reference) = option_map Some (clip_named reference parts)

-- the rule of this name, which is `nonzero` if there is none
abbrev pub rule_named : Option (List ℕ) → Option Rule
rule_named None = Some Winding
rule_named (Some name) =
    if is_text name (codes "evenodd") then Some OddCounts else
    if is_text name (codes "nonzero") then Some Winding else None

-- the rule by which a path of a colour is filled, by its attributes; a fill of another colour is not known
abbrev pub fill_in : Colour → Option (List ℕ) → Option (List ℕ) → Option (Option Rule)
fill_in stroke None None = Some None
fill_in stroke None (Some name) = None
fill_in stroke (Some fill) name = do
  c ← colour fill
  rule ← rule_named name
  given (is_same_colour stroke c) (Some (Some rule))

-- a path of a document of these elements, by its attributes
abbrev pub path_in : List (List ℕ) → List (List ℕ) → Option Path
path_in parts words = do
  p ← value (codes "class") words >>= after (codes "pen") >>= number
  c ← value (codes "stroke") words >>= colour
  w ← value (codes "stroke-width") words >>= number
  rule ← fill_in c (value (codes "fill") words) (value (codes "fill-rule") words)
  clip ← clip_in parts (value (codes "clip-path") words)
  cs ← value (codes "d") words >>= commands
  Some (record { pen = p; colour = c; width = w; rule = rule; clip = clip; commands = cs })

abbrev pub path : List (List ℕ) → List ℕ → Option Path
path parts part = attributes (codes "<path") part >>= path_in parts

-- the paths of a document of these elements
abbrev pub paths_in_parts : List (List ℕ) → Option (List Path)
paths_in_parts parts = each (path parts) (filter (is_element (codes "<path")) parts)

-- the shapes of a document of these elements
abbrev pub read_known : List (List ℕ) → Option (List Shape)
read_known parts = do
  drawing ← size parts
  paths ← paths_in_parts parts
  Some (read_paths drawing paths)

abbrev pub read_elements : List (List ℕ) → Option (List Shape)
read_elements parts = given (list_all is_known parts) (read_known parts)

-- the shapes of a document, by its bytes
unfoldable pub read_svg : List ℕ → Option (List Shape)
read_svg document = read_elements (elements document)

-- a reference, and the text after it
abbrev pub resolved : List ℕ → Option (List ℕ)
resolved text =
    option_or (option_map (λ rest. ampersand ∷ rest) (after (codes "&amp;") text))
    (option_or (option_map (λ rest. less_than ∷ rest) (after (codes "&lt;") text))
    (option_map (λ rest. greater_than ∷ rest) (after (codes "&gt;") text)))

-- a text whose references are resolved
abbrev pub resolved_text : List ℕ → Option (List ℕ)
resolved_text text = do
  rest ← each resolved (cut (λ c. c == ampersand) text).parts
  Some ((cut (λ c. c == ampersand) text).front ++ concat rest)

abbrev pub is_title : List ℕ → Bool
is_title part = begins part (codes "<title>")

-- the texts of the titles of a document, in UTF-8, by its bytes
unfoldable pub read_titles : List ℕ → Option (List (List ℕ))
read_titles document = each (λ part. after (codes "<title>") part >>= resolved_text) (filter is_title (elements document))
