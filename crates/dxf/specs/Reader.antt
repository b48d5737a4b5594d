-- A reader of DXF documents: from bytes to entities. It refuses entities that it does not know. DXF R12 in ASCII.
use Rattle.std.specs.Prelude.{ℕ, ℤ, pos, neg_ℤ, ◌+◌, ◌*◌, ◌/◌, ◌==◌, ◌&&◌, ◌||◌, nat_eq, nat_le, Bool, true, false, List, [], ◌∷◌, ◌++◌, length, Option, Some, None, if◌then◌else◌, codes}
use Rattle.std.specs.Char.{digit_value, is_digit}
use Rattle.std.specs.List.{concat, list_all}
use Rattle.std.specs.Option.{option_map}
use Rattle.pieces.specs.Readings.{after, byte, cut, each, given, is_text, minus, number, split, ◌>>=◌}
use Rattle.dxf.specs.declared.cuts.Point.{Point}
use Rattle.dxf.specs.declared.groups.TheConstants.{PARTS}
use Rattle.dxf.specs.declared.letters.TheConstants.{BACKSLASH}

-- LF, and a point
abbrev pub newline : ℕ
newline = 0x0A

abbrev pub decimal_point : ℕ
decimal_point = 0x2E

-- a code and a value
pub record Group : Type 0 where
  pub code : ℕ
  pub value : List ℕ

-- the groups of lines, two for each; after the last line nothing follows
abbrev pub paired : List (List ℕ) → Option (List Group)
paired (code ∷ value ∷ lines) = do
  c ← number code
  more ← paired lines
  Some (record { code = c; value = value } ∷ more)
paired (line ∷ []) = given (nat_eq (length line) 0) (Some [])
paired [] = None

abbrev pub groups : List ℕ → Option (List Group)
groups document = paired (split newline document)

-- what begins with a group of code 0: its name, and the groups that follow
pub record Entry : Type 0 where
  pub kind : List ℕ
  pub fields : List Group

-- groups cut before each of code 0
pub record Cutting : Type 0 where
  pub front : List Group
  pub entries : List Entry

abbrev pub with_group : Bool → Group → Cutting → Cutting
with_group true g c = record { front = []; entries = record { kind = g.value; fields = c.front } ∷ c.entries }
with_group false g c = record { front = g ∷ c.front; entries = c.entries }

abbrev pub cut_groups : List Group → Cutting
cut_groups [] = record { front = []; entries = [] }
cut_groups (g ∷ gs) = with_group (g.code == 0) g (cut_groups gs)

-- the first value of this code
abbrev pub value : ℕ → List Group → Option (List ℕ)
value code [] = None
value code (g ∷ gs) = if g.code == code then Some g.value else value code gs

-- how many parts decimals are, of which the first one counts so many
abbrev pub weighed : ℕ → List ℕ → ℕ
weighed weight [] = 0
weighed weight (d ∷ ds) = weight * digit_value d + weighed (weight / 10) ds

abbrev pub are_decimals : List ℕ → Bool
are_decimals text = nat_le (length text) 7 && list_all (λ c. is_digit c 10) text

-- a number of millimetres or degrees, in parts, cut at its point
abbrev pub sized : List (List ℕ) → Option ℕ
sized (whole ∷ []) = option_map (λ n. PARTS * n) (number whole)
sized (whole ∷ decimals ∷ []) = do
  n ← number whole
  given (are_decimals decimals) (Some (PARTS * n + weighed 1000000 decimals))
sized _ = None

abbrev pub size : List ℕ → Option ℕ
size text = sized (split decimal_point text)

-- the same, maybe with a minus sign
abbrev pub signed : List ℕ → Option ℤ
signed [] = None
signed (c ∷ cs) = if c == minus then option_map (λ n. neg_ℤ (pos n)) (size cs) else option_map pos (size (c ∷ cs))

-- a point, by the code of its x and that of its y
abbrev pub point : ℕ → ℕ → List Group → Option Point
point x y fields = do
  a ← value x fields >>= signed
  b ← value y fields >>= signed
  Some (record { x = a; y = b })

-- four hexadecimal digits, and what follows them
abbrev pub letter_then : List ℕ → Option (List ℕ)
letter_then (a ∷ b ∷ c ∷ d ∷ text) =
    given (list_all (λ h. is_digit h 16) (a ∷ b ∷ c ∷ d ∷ [])) (Some ((256 * byte a b + byte c d) ∷ text))
letter_then _ = None

-- the code points of a text: those of its bytes, and after \U+ of four digits
abbrev pub letters : List ℕ → Option (List ℕ)
letters text = do
  rest ← each (λ part. after (codes "\\U+") part >>= letter_then) (cut (λ c. c == BACKSLASH) text).parts
  Some ((cut (λ c. c == BACKSLASH) text).front ++ concat rest)

-- the layer of an entity and its number of a colour, if it has another one than its layer
pub record Look : Type 0 where
  pub layer : List ℕ
  pub colour : Option ℕ

abbrev pub colour_in : Option (List ℕ) → Option (Option ℕ)
colour_in None = Some None
colour_in (Some text) = option_map Some (number text)

abbrev pub look : List Group → Option Look
look fields = do
  layer ← value 8 fields
  colour ← colour_in (value 62 fields)
  Some (record { layer = layer; colour = colour })

-- how the letters of a text lie: their height, in parts; the angle of their line, counterclockwise from the right, in parts of a
-- degree; their width as a share of their height, in parts of 1; the angle by which they lean forward, less than 0 if they lean
-- back, in parts of a degree; and whether they are upside down
pub record TextForm : Type 0 where
  pub height : ℕ
  pub angle : ℕ
  pub factor : ℕ
  pub oblique : ℤ
  pub is_mirrored : Bool

-- lines from point to point, and back to the first one if they are closed, of a width if they have one; and a text that begins at
-- a point, and ends at another one if it is fit between the two
pub data Entity : Type 0 where
  Lines : Look → Option ℕ → Bool → List Point → Entity
  Letters : Look → Point → Option Point → TextForm → List ℕ → Entity

abbrev pub is_kind : List ℕ → Entry → Bool
is_kind name e = is_text e.kind name

-- the vertices that follow
abbrev pub vertices : List Entry → Option (List Point)
vertices [] = Some []
vertices (e ∷ es) = if is_kind (codes "VERTEX") e then (do
  p ← point 10 20 e.fields
  ps ← vertices es
  Some (p ∷ ps)
  ) else Some []

abbrev pub read_line : List Group → Option Entity
read_line fields = do
  seen ← look fields
  p ← point 10 20 fields
  q ← point 11 21 fields
  Some (Lines seen None false (p ∷ q ∷ []))

abbrev pub read_point : List Group → Option Entity
read_point fields = do
  seen ← look fields
  p ← point 10 20 fields
  Some (Lines seen None false (p ∷ []))

-- a polyline has the same width at its start and at its end
abbrev pub read_polyline : List Group → List Entry → Option Entity
read_polyline fields others = do
  seen ← look fields
  width ← value 40 fields >>= size
  last ← value 41 fields >>= size
  flag ← value 70 fields >>= number
  ps ← vertices others
  given (nat_eq width last && nat_le flag 1) (Some (Lines seen (Some width) (nat_eq flag 1) ps))

-- a text that is fit has a second point
abbrev pub second_point : ℕ → List Group → Option (Option Point)
second_point way fields = if way == 5 then option_map Some (point 11 21 fields) else Some None

-- letters lean if an angle is given, and are upside down if the flag 4 is
abbrev pub oblique_in : Option (List ℕ) → Option ℤ
oblique_in None = Some (pos 0)
oblique_in (Some text) = signed text

abbrev pub mirrored_by : ℕ → Option Bool
mirrored_by flag = given (flag == 0 || flag == 4) (Some (flag == 4))

abbrev pub mirrored_in : Option (List ℕ) → Option Bool
mirrored_in None = Some false
mirrored_in (Some text) = number text >>= mirrored_by

abbrev pub text_form : List Group → Option TextForm
text_form fields = do
  height ← value 40 fields >>= size
  angle ← value 50 fields >>= size
  factor ← value 41 fields >>= size
  oblique ← oblique_in (value 51 fields)
  is_mirrored ← mirrored_in (value 71 fields)
  Some (record { height = height; angle = angle; factor = factor; oblique = oblique; is_mirrored = is_mirrored })

abbrev pub read_text : List Group → Option Entity
read_text fields = do
  seen ← look fields
  p ← point 10 20 fields
  way ← value 72 fields >>= number
  end ← second_point way fields
  form ← text_form fields
  text ← value 1 fields >>= letters
  Some (Letters seen p end form text)

-- an entity, by the entry that it begins with and those after it
abbrev pub entity : Entry → List Entry → Option Entity
entity e others =
    if is_kind (codes "LINE") e then read_line e.fields else
    if is_kind (codes "POINT") e then read_point e.fields else
    if is_kind (codes "POLYLINE") e then read_polyline e.fields others else
    if is_kind (codes "TEXT") e then read_text e.fields else None

-- a vertex and the end of vertices belong to the polyline before them
abbrev pub belongs : Entry → Bool
belongs e = is_kind (codes "VERTEX") e || is_kind (codes "SEQEND") e

abbrev pub entities : List Entry → Option (List Entity)
entities [] = Some []
entities (e ∷ es) = if belongs e then entities es else (do
  x ← entity e es
  xs ← entities es
  Some (x ∷ xs)
  )

abbrev pub has_value : List ℕ → Option (List ℕ) → Bool
has_value word None = false
has_value word (Some text) = is_text text word

-- the section of entities begins
abbrev pub begins_entities : Entry → Bool
begins_entities e = is_kind (codes "SECTION") e && has_value (codes "ENTITIES") (value 2 e.fields)

-- the entries up to the end of a section
abbrev pub up_to_end : List Entry → List Entry
up_to_end [] = []
up_to_end (e ∷ es) = if is_kind (codes "ENDSEC") e then [] else e ∷ up_to_end es

abbrev pub section_of_entities : List Entry → List Entry
section_of_entities [] = []
section_of_entities (e ∷ es) = if begins_entities e then up_to_end es else section_of_entities es

-- the entities of a document, by its bytes
unfoldable pub read_dxf : List ℕ → Option (List Entity)
read_dxf document = groups document >>= (λ gs. entities (section_of_entities (cut_groups gs).entries))
