-- The reader reads each entity as it was written.
use Rattle.std.proofs.Common.{◌≡◌, ◌∙◌, ℕ, ◌+◌, ◌*◌, ◌^◌, ◌<◌, ◌≤◌, ◌==◌, ◌&&◌, nat_eq, nat_le, nat_lt, ℤ, pos, int_lt, nat_abs, Bool, true, false, cond, List, [], ◌∷◌, ◌++◌, flat_map, length, map, Option, Some, None, codes, decimal, refl, ap, sym, subst, arith, append_assoc, append-nil}
use Rattle.std.proofs.lemmas.Bool.Decides.{nat_tests}
use Rattle.std.specs.Option.{option_map}
use Rattle.pieces.proofs.Scans.{Lacks, decimal_lacks, lacks_both, number_read}
use Rattle.pieces.specs.Readings.{given, number, ◌>>=◌}
use Rattle.plot_page.specs.declared.colour.Colour.{Colour}
use Rattle.dxf.specs.Chains.{is_same_point}
use Rattle.dxf.specs.Colours.{colour_number, distance, nearer, nearest_after}
use Rattle.dxf.specs.Entities.{entity_start, flags, last_of, chain_text, last_vertex, point_text, polyline_start, single_text, start_vertex, vertex_text}
use Rattle.dxf.specs.Groups.{group, signed_text, size_text}
use Rattle.dxf.specs.Layers.{colour_group, colour_of, layer_groups, layer_name, sheet_name}
use Rattle.dxf.specs.Reader.{Entity, Entry, Group, Lines, Look, belongs, colour_in, entities, entity, is_kind, look, point, read_line, read_point, read_polyline, signed, size, up_to_end, value, vertices}
use Rattle.dxf.specs.Readings.{chain_entity, look_of, own_colour, single}
use Rattle.dxf.specs.declared.chains.Piece.{Piece}
use Rattle.dxf.specs.declared.colours.Nearest.{Nearest}
use Rattle.dxf.specs.declared.cuts.Point.{Point}
use Rattle.dxf.specs.declared.layers.Layers.{Layers}
use Rattle.dxf.specs.declared.palette.TheConstants.{COLOURS}
use Rattle.dxf.proofs.GroupReads.{digits_end_no_line, is_newline}
use Rattle.dxf.proofs.NumberReads.{signed_lack, signed_read, size_lacks, size_read}
use Rattle.dxf.proofs.Writes.{Begins, Fields, Writes, begins, both_fields, both_written, ends, goes_on, no_fields, nothing_written, one_field}

-- what can be read
abbrev pub IsSmallPoint : Point → Type 0
IsSmallPoint p = (nat_abs p.x < 10000000 * 2 ^ 64) × (nat_abs p.y < 10000000 * 2 ^ 64)

pub record IsSmallPiece (p : Piece) : Type 0 where
  pub from : IsSmallPoint p.from
  pub to : IsSmallPoint p.to
  pub width : 15625 * p.width < 10000000 * 2 ^ 64

-- a group that may be there
abbrev pub optional : ℕ → Option (List ℕ) → List Group
optional code None = []
optional code (Some text) = record { code = code; value = text } ∷ []

-- another group is found after it
pub past : (code c : ℕ) (o : Option (List ℕ)) (rest : List Group) → (code == c) ≡ false → value c (optional code o ++ rest) ≡ value c rest
past code c None rest h = refl
past code c (Some text) rest h = ap (λ (b : Bool). cond b (Some text) (value c rest)) h

-- itself is found, if no other one has its code
pub found : (code : ℕ) (o : Option (List ℕ)) (rest : List Group) → value code rest ≡ None → value code (optional code o ++ rest) ≡ o
found code None rest h = h
found code (Some text) rest h = (let same : (code == code) ≡ true = grind (arith, nat_tests) in ap (λ (b : Bool). cond b (Some text) (value code rest)) same)

-- numbers of colours are small
nearest_step : (b : Bool) (best next : Nearest) (most : ℕ) → best.number ≤ most → next.number ≤ most → (cond b next best).number ≤ most
nearest_step true best next most h k = k
nearest_step false best next most h k = h

nearest_small : (c : Colour) (best : Nearest) (from most : ℕ) (ns : List ℕ) → best.number ≤ most → from + length ns ≤ most → (nearest_after c best from ns).number ≤ most
nearest_small c best from most [] h k = h
nearest_small c best from most (n ∷ ns) h k =
    let next : Nearest = record { number = from; distance = distance c n } in
    nearest_small c (nearer best next) (from + 1) most ns (nearest_step (nat_lt next.distance best.distance) best next most h (omega (arith, k))) (omega (arith, k))

colour_small : (c : Colour) → colour_number c < 2 ^ 64
colour_small c = (let s = nearest_small c (record { number = 1; distance = 195076 }) 1 256 COLOURS (omega arith) (omega arith) in omega (arith, s))

-- the text of a number of a colour
abbrev colour_text : Option ℕ → Option (List ℕ)
colour_text o = option_map decimal o

abbrev pub IsSmallNumber : Option ℕ → Type 0
IsSmallNumber None = Unit {0}
IsSmallNumber (Some n) = n < 2 ^ 64

own_by : (b : Bool) (own : Colour) → IsSmallNumber (cond b None (Some (colour_number own)))
own_by true own = tt
own_by false own = colour_small own

pub own_small : (own : Colour) (o : Option Colour) → IsSmallNumber (own_colour own o)
own_small own None = colour_small own
own_small own (Some c) = own_by (colour_number own == colour_number c) own

number_lacks : (n : ℕ) → Lacks is_newline (decimal n)
number_lacks n = decimal_lacks is_newline digits_end_no_line n

one_colour : (n : ℕ) → Fields (group 62 (decimal n)) (optional 62 (Some (decimal n)))
one_colour n = one_field 62 (decimal n) (omega arith) refl (number_lacks n)

colour_by : (b : Bool) (n : ℕ) → Fields (cond b [] (group 62 (decimal n))) (optional 62 (colour_text (cond b None (Some n))))
colour_by true n = no_fields
colour_by false n = one_colour n

colour_written : (own : Colour) (o : Option Colour) → Fields (colour_group own o) (optional 62 (colour_text (own_colour own o)))
colour_written own None = one_colour (colour_number own)
colour_written own (Some c) = colour_by (colour_number own == colour_number c) (colour_number own)

sheet_lacks : (sheet : Option ℕ) → Lacks is_newline (sheet_name sheet)
sheet_lacks None = refl
sheet_lacks (Some n) = lacks_both is_newline (codes "S" ++ decimal n) (codes "_") (lacks_both is_newline (codes "S") (decimal n) refl (number_lacks n)) refl

pub name_lacks : (layers : Layers) (pen : ℕ) → Lacks is_newline (layer_name layers pen)
name_lacks layers pen =
    lacks_both is_newline (sheet_name layers.sheet ++ codes "PEN_") (decimal pen) (lacks_both is_newline (sheet_name layers.sheet) (codes "PEN_") (sheet_lacks layers.sheet) refl) (number_lacks pen)

-- the groups of a layer and a colour, and others
abbrev pub look_fields : Look → List Group → List Group
look_fields seen others = record { code = 8; value = seen.layer } ∷ (optional 62 (colour_text seen.colour) ++ others)

layer_written : (layers : Layers) (pen : ℕ) (colour : Colour) → Fields (layer_groups layers pen colour) (look_fields (look_of layers pen colour) [])
layer_written layers pen colour =
    let o = optional 62 (colour_text (own_colour colour (colour_of layers.colours pen))) in
    subst (λ (gs : List Group). Fields (layer_groups layers pen colour) (record { code = 8; value = layer_name layers pen } ∷ gs)) (sym (append-nil o))
    (both_fields (one_field 8 (layer_name layers pen) (omega arith) refl (name_lacks layers pen)) (colour_written colour (colour_of layers.colours pen)))

-- an entity with a look begins
abbrev pub look_entry : List ℕ → Look → List Group → Entry
look_entry kind seen others = record { kind = kind; fields = look_fields seen others }

pub starts : (kind : List ℕ) → Lacks is_newline kind → (layers : Layers) (pen : ℕ) (colour : Colour) → Begins (group 0 kind ++ layer_groups layers pen colour) (look_entry kind (look_of layers pen colour) [])
starts kind lacks layers pen colour = goes_on (begins kind lacks) (layer_written layers pen colour)

-- more of it
pub more : {t u : List ℕ} (kind : List ℕ) (seen : Look) (gs hs : List Group) → Begins t (look_entry kind seen gs) → Fields u hs → Begins (t ++ u) (look_entry kind seen (gs ++ hs))
more {t} {u} kind seen gs hs b f =
    subst (λ (fs : List Group). Begins (t ++ u) (record { kind = kind; fields = record { code = 8; value = seen.layer } ∷ fs })) (append_assoc (optional 62 (colour_text seen.colour)) gs hs) (goes_on b f)

-- a number
abbrev number_text : ℤ → List ℕ
number_text z = signed_text (int_lt z (pos 0)) (nat_abs z)

abbrev pub point_fields : ℕ → ℕ → Point → List Group
point_fields x y p = record { code = x; value = number_text p.x } ∷ record { code = y; value = number_text p.y } ∷ []

text_lacks : (z : ℤ) → Lacks is_newline (number_text z)
text_lacks z = signed_lack is_newline digits_end_no_line refl refl (int_lt z (pos 0)) (nat_abs z)

pub point_written : (x y : ℕ) (p : Point) → x < 2 ^ 64 → (x == 0) ≡ false → y < 2 ^ 64 → (y == 0) ≡ false → Fields (point_text x y p) (point_fields x y p)
point_written x y p h i j k = both_fields (one_field x (number_text p.x) h i (text_lacks p.x)) (one_field y (number_text p.y) j k (text_lacks p.y))

-- what is found in fields is read
pub point_is : (x y : ℕ) (fields : List Group) (p : Point) → value x fields ≡ Some (number_text p.x) → value y fields ≡ Some (number_text p.y) → IsSmallPoint p → point x y fields ≡ Some p
point_is x y fields p h k small =
    let next : ℤ → Option Point = λ a. (value y fields >>= signed) >>= (λ b. Some (record { x = a; y = b })) in
    ap (λ (o : Option (List ℕ)). (o >>= signed) >>= next) h
    ∙ ap (λ (o : Option ℤ). o >>= next) (signed_read p.x small.0)
    ∙ ap (λ (o : Option (List ℕ)). (o >>= signed) >>= (λ b. Some (record { x = p.x; y = b }))) k
    ∙ ap (λ (o : Option ℤ). o >>= (λ b. Some (record { x = p.x; y = b }))) (signed_read p.y small.1)

colour_read : (o : Option ℕ) → IsSmallNumber o → colour_in (colour_text o) ≡ Some o
colour_read None h = refl
colour_read (Some n) h = ap (λ (o : Option ℕ). option_map Some o) (number_read n h)

pub look_is : (seen : Look) (others : List Group) → IsSmallNumber seen.colour → value 62 others ≡ None → look (look_fields seen others) ≡ Some seen
look_is seen others small none =
    ap (λ (o : Option (List ℕ)). colour_in o >>= (λ c. Some (record { layer = seen.layer; colour = c }))) (found 62 (colour_text seen.colour) others none)
    ∙ ap (λ (o : Option (Option ℕ)). o >>= (λ c. Some (record { layer = seen.layer; colour = c }))) (colour_read seen.colour small)

pub after_look : (seen : Look) (others : List Group) (c : ℕ) → (8 == c) ≡ false → (62 == c) ≡ false → value c (look_fields seen others) ≡ value c others
after_look seen others c h k =
    ap (λ (b : Bool). cond b (Some seen.layer) (value c (optional 62 (colour_text seen.colour) ++ others))) h ∙ past 62 c (colour_text seen.colour) others k

-- a line
line_read : (seen : Look) (p q : Point) → IsSmallNumber seen.colour → IsSmallPoint p → IsSmallPoint q → read_line (look_fields seen (point_fields 10 20 p ++ point_fields 11 21 q)) ≡ Some (Lines seen None false (p ∷ q ∷ []))
line_read seen p q small near far =
    let others = point_fields 10 20 p ++ point_fields 11 21 q in
    let fields = look_fields seen others in
    ap (λ (o : Option Look). o >>= (λ s. point 10 20 fields >>= (λ a. point 11 21 fields >>= (λ b. Some (Lines s None false (a ∷ b ∷ [])))))) (look_is seen others small refl)
    ∙ ap (λ (o : Option Point). o >>= (λ a. point 11 21 fields >>= (λ b. Some (Lines seen None false (a ∷ b ∷ []))))) (point_is 10 20 fields p (after_look seen others 10 refl refl) (after_look seen others 20 refl refl) near)
    ∙ ap (λ (o : Option Point). o >>= (λ b. Some (Lines seen None false (p ∷ b ∷ [])))) (point_is 11 21 fields q (after_look seen others 11 refl refl) (after_look seen others 21 refl refl) far)

dot_read : (seen : Look) (p : Point) → IsSmallNumber seen.colour → IsSmallPoint p → read_point (look_fields seen (point_fields 10 20 p)) ≡ Some (Lines seen None false (p ∷ []))
dot_read seen p small near =
    let others = point_fields 10 20 p in
    let fields = look_fields seen others in
    ap (λ (o : Option Look). o >>= (λ s. point 10 20 fields >>= (λ a. Some (Lines s None false (a ∷ []))))) (look_is seen others small refl)
    ∙ ap (λ (o : Option Point). o >>= (λ a. Some (Lines seen None false (a ∷ [])))) (point_is 10 20 fields p (after_look seen others 10 refl refl) (after_look seen others 20 refl refl) near)

-- entities before others
abbrev pub then_all : List Entity → Option (List Entity) → Option (List Entity)
then_all xs o = option_map (λ ys. xs ++ ys) o

-- a text of entities, which are read as these, whatever follows
pub record Shows (text : List ℕ) (xs : List Entity) : Type 0 where
  pub entries : List Entry
  pub writes : Writes text entries
  pub reads : (rest : List Entry) → entities (entries ++ rest) ≡ then_all xs (entities rest)
  pub inside : (rest : List Entry) → up_to_end (entries ++ rest) ≡ entries ++ up_to_end rest

then_none : (o : Option (List Entity)) → o ≡ then_all [] o
then_none None = refl
then_none (Some xs) = refl

then_more : (xs ys : List Entity) (o : Option (List Entity)) → then_all xs (then_all ys o) ≡ then_all (xs ++ ys) o
then_more xs ys None = refl
then_more xs ys (Some zs) = ap (λ (z : List Entity). Some z) (sym (append_assoc xs ys zs))

then_one : (x : Entity) (o : Option (List Entity)) → o >>= (λ xs. Some (x ∷ xs)) ≡ then_all (x ∷ []) o
then_one x None = refl
then_one x (Some xs) = refl

pub shows_none : Shows [] []
shows_none = record { entries = []; writes = nothing_written; reads = λ rest. then_none (entities rest); inside = λ rest. refl }

pub shows_both : {t u : List ℕ} {xs ys : List Entity} → Shows t xs → Shows u ys → Shows (t ++ u) (xs ++ ys)
shows_both {t} {u} {xs} {ys} s r = record {
  entries = s.entries ++ r.entries;
  writes = both_written s.writes r.writes;
  reads = λ rest.
      ap (λ (es : List Entry). entities es) (append_assoc s.entries r.entries rest)
      ∙ s.reads (r.entries ++ rest) ∙ ap (λ (o : Option (List Entity)). then_all xs o) (r.reads rest) ∙ then_more xs ys (entities rest);
  inside = λ rest.
      ap (λ (es : List Entry). up_to_end es) (append_assoc s.entries r.entries rest)
      ∙ s.inside (r.entries ++ rest) ∙ ap (λ (es : List Entry). s.entries ++ es) (r.inside rest) ∙ sym (append_assoc s.entries r.entries (up_to_end rest));
}

pub shows_as : {t u : List ℕ} {xs ys : List Entity} → Shows t xs → t ≡ u → xs ≡ ys → Shows u ys
shows_as {t} {u} {xs} {ys} s e f = subst (λ (z : List ℕ). Shows z ys) e (subst (λ (zs : List Entity). Shows t zs) f s)

-- an entity of one entry
pub one_shown : {text : List ℕ} (e : Entry) (x : Entity) → Begins text e → belongs e ≡ false → is_kind (codes "ENDSEC") e ≡ false → ((others : List Entry) → entity e others ≡ Some x) → Shows text (x ∷ [])
one_shown {text} e x b own inner is = record {
  entries = e ∷ [];
  writes = ends b;
  reads = λ rest.
      ap (λ (t : Bool). cond t (entities rest) (entity e rest >>= (λ y. entities rest >>= (λ ys. Some (y ∷ ys))))) own
      ∙ ap (λ (o : Option Entity). o >>= (λ y. entities rest >>= (λ ys. Some (y ∷ ys)))) (is rest) ∙ then_one x (entities rest);
  inside = λ rest. ap (λ (t : Bool). cond t [] (e ∷ up_to_end rest)) inner;
}

-- a piece by itself
single_by : (b : Bool) (layers : Layers) (p : Piece) → IsSmallPiece p
    → Shows (cond b (entity_start (codes "POINT") layers p ++ point_text 10 20 p.from) (entity_start (codes "LINE") layers p ++ point_text 10 20 p.from ++ point_text 11 21 p.to))
    (Lines (look_of layers p.pen p.colour) None false (cond b (p.from ∷ []) (p.from ∷ p.to ∷ [])) ∷ [])
single_by true layers p h =
    let seen = look_of layers p.pen p.colour in
    let small = own_small p.colour (colour_of layers.colours p.pen) in
    one_shown (look_entry (codes "POINT") seen (point_fields 10 20 p.from)) (Lines seen None false (p.from ∷ []))
    (more (codes "POINT") seen [] (point_fields 10 20 p.from) (starts (codes "POINT") refl layers p.pen p.colour) (point_written 10 20 p.from (omega arith) refl (omega arith) refl))
    refl refl (λ others. dot_read seen p.from small h.from)
single_by false layers p h =
    let seen = look_of layers p.pen p.colour in
    let small = own_small p.colour (colour_of layers.colours p.pen) in
    let near = point_written 10 20 p.from (omega arith) refl (omega arith) refl in
    let far = point_written 11 21 p.to (omega arith) refl (omega arith) refl in
    one_shown (look_entry (codes "LINE") seen (point_fields 10 20 p.from ++ point_fields 11 21 p.to)) (Lines seen None false (p.from ∷ p.to ∷ []))
    (more (codes "LINE") seen (point_fields 10 20 p.from) (point_fields 11 21 p.to) (more (codes "LINE") seen [] (point_fields 10 20 p.from) (starts (codes "LINE") refl layers p.pen p.colour) near) far)
    refl refl (λ others. line_read seen p.from p.to small h.from h.to)

pub single_shown : (layers : Layers) (p : Piece) → IsSmallPiece p → Shows (single_text layers p) (single layers p ∷ [])
single_shown layers p h = single_by (is_same_point p.from p.to) layers p h

-- points before others
abbrev then_points : List Point → Option (List Point) → Option (List Point)
then_points ps o = option_map (λ qs. ps ++ qs) o

points_none : (o : Option (List Point)) → o ≡ then_points [] o
points_none None = refl
points_none (Some ps) = refl

points_more : (ps qs : List Point) (o : Option (List Point)) → then_points ps (then_points qs o) ≡ then_points (ps ++ qs) o
points_more ps qs None = refl
points_more ps qs (Some rs) = ap (λ (z : List Point). Some z) (sym (append_assoc ps qs rs))

points_one : (p : Point) (o : Option (List Point)) → o >>= (λ ps. Some (p ∷ ps)) ≡ then_points (p ∷ []) o
points_one p None = refl
points_one p (Some ps) = refl

-- a text of vertices, which are no entities of their own
record Leads (text : List ℕ) (ps : List Point) : Type 0 where
  entries : List Entry
  writes : Writes text entries
  reads : (rest : List Entry) → vertices (entries ++ rest) ≡ then_points ps (vertices rest)
  passed : (rest : List Entry) → entities (entries ++ rest) ≡ entities rest
  inside : (rest : List Entry) → up_to_end (entries ++ rest) ≡ entries ++ up_to_end rest

leads_none : Leads [] []
leads_none = record { entries = []; writes = nothing_written; reads = λ rest. points_none (vertices rest); passed = λ rest. refl; inside = λ rest. refl }

leads_both : {t u : List ℕ} {ps qs : List Point} → Leads t ps → Leads u qs → Leads (t ++ u) (ps ++ qs)
leads_both {t} {u} {ps} {qs} s r = record {
  entries = s.entries ++ r.entries;
  writes = both_written s.writes r.writes;
  reads = λ rest.
      ap (λ (es : List Entry). vertices es) (append_assoc s.entries r.entries rest)
      ∙ s.reads (r.entries ++ rest) ∙ ap (λ (o : Option (List Point)). then_points ps o) (r.reads rest) ∙ points_more ps qs (vertices rest);
  passed = λ rest. ap (λ (es : List Entry). entities es) (append_assoc s.entries r.entries rest) ∙ s.passed (r.entries ++ rest) ∙ r.passed rest;
  inside = λ rest.
      ap (λ (es : List Entry). up_to_end es) (append_assoc s.entries r.entries rest)
      ∙ s.inside (r.entries ++ rest) ∙ ap (λ (es : List Entry). s.entries ++ es) (r.inside rest) ∙ sym (append_assoc s.entries r.entries (up_to_end rest));
}

vertex_leads : (layers : Layers) (pen : ℕ) (p : Point) → IsSmallPoint p → Leads (vertex_text layers pen p) (p ∷ [])
vertex_leads layers pen p h =
    let fields : List Group = record { code = 8; value = layer_name layers pen } ∷ point_fields 10 20 p in
    record {
      entries = record { kind = codes "VERTEX"; fields = fields } ∷ [];
      writes = ends (goes_on (goes_on (begins (codes "VERTEX") refl) (one_field 8 (layer_name layers pen) (omega arith) refl (name_lacks layers pen))) (point_written 10 20 p (omega arith) refl (omega arith) refl));
      reads = λ rest.
          ap (λ (o : Option Point). o >>= (λ q. vertices rest >>= (λ qs. Some (q ∷ qs)))) (point_is 10 20 fields p refl refl h) ∙ points_one p (vertices rest);
      passed = λ rest. refl;
      inside = λ rest. refl;
    }

-- the vertices of pieces
abbrev pub AreSmallPieces : List Piece → Type 0
AreSmallPieces [] = Unit {0}
AreSmallPieces (p ∷ ps) = IsSmallPiece p × AreSmallPieces ps

pieces_lead : (layers : Layers) (ps : List Piece) → AreSmallPieces ps → Leads (flat_map (start_vertex layers) ps) (map (λ piece. piece.from) ps)
pieces_lead layers [] h = leads_none
pieces_lead layers (p ∷ ps) h = leads_both (vertex_leads layers p.pen p.from h.0.from) (pieces_lead layers ps h.1)

end_by : (b : Bool) (layers : Layers) (p : Piece) → IsSmallPiece p → Leads (cond b [] (vertex_text layers p.pen p.to)) (cond b [] (p.to ∷ []))
end_by true layers p h = leads_none
end_by false layers p h = vertex_leads layers p.pen p.to h.to

last_small : (p : Piece) (ps : List Piece) → IsSmallPiece p → AreSmallPieces ps → IsSmallPiece (last_of p ps)
last_small p [] h k = h
last_small p (q ∷ qs) h k = last_small q qs k.0 k.1

-- a polyline begins
abbrev polyline_fields : Piece → List Group
polyline_fields p =
    record { code = 66; value = decimal 1 } ∷ record { code = 10; value = decimal 0 } ∷ record { code = 20; value = decimal 0 } ∷ record { code = 30; value = decimal 0 }
    ∷ record { code = 70; value = decimal (flags p) } ∷ record { code = 40; value = size_text (15625 * p.width) } ∷ record { code = 41; value = size_text (15625 * p.width) } ∷ []

pub count_written : (code n : ℕ) → code < 2 ^ 64 → (code == 0) ≡ false → Fields (group code (decimal n)) (record { code = code; value = decimal n } ∷ [])
count_written code n h k = one_field code (decimal n) h k (number_lacks n)

pub size_written : (code n : ℕ) → code < 2 ^ 64 → (code == 0) ≡ false → Fields (group code (size_text n)) (record { code = code; value = size_text n } ∷ [])
size_written code n h k = one_field code (size_text n) h k (size_lacks is_newline digits_end_no_line refl n)

polyline_begins : (layers : Layers) (p : Piece) → Begins (polyline_start layers p) (look_entry (codes "POLYLINE") (look_of layers p.pen p.colour) (polyline_fields p))
polyline_begins layers p =
    let kind = codes "POLYLINE" in
    let seen = look_of layers p.pen p.colour in
    let w = size_text (15625 * p.width) in
    let one = more kind seen [] _ (starts kind refl layers p.pen p.colour) (count_written 66 1 (omega arith) refl) in
    let x = more kind seen _ _ one (count_written 10 0 (omega arith) refl) in
    let y = more kind seen _ _ x (count_written 20 0 (omega arith) refl) in
    let z = more kind seen _ _ y (count_written 30 0 (omega arith) refl) in
    let flag = more kind seen _ _ z (count_written 70 (flags p) (omega arith) refl) in
    let first = more kind seen _ _ flag (size_written 40 (15625 * p.width) (omega arith) refl) in
    more kind seen _ _ first (size_written 41 (15625 * p.width) (omega arith) refl)

flag_by : (b : Bool) → (cond b 1 0 < 2 ^ 64) × (nat_le (cond b 1 0) 1 ≡ true) × (nat_eq (cond b 1 0) 1 ≡ b)
flag_by true = (omega arith, refl, refl)
flag_by false = (omega arith, refl, refl)

same_number : (n : ℕ) → nat_eq n n ≡ true
same_number n = grind (arith, nat_tests)

abbrev polyline_of : Look → ℕ → ℕ → ℕ → List Point → Option Entity
polyline_of s w v f ps = given (nat_eq w v && nat_le f 1) (Some (Lines s (Some w) (nat_eq f 1) ps))

polyline_read : (seen : Look) (p : Piece) (ps : List Point) (others : List Entry) → IsSmallNumber seen.colour → IsSmallPiece p → vertices others ≡ Some ps
    → read_polyline (look_fields seen (polyline_fields p)) others ≡ Some (Lines seen (Some (15625 * p.width)) p.is_closed ps)
polyline_read seen p ps others small h are =
    let fs = polyline_fields p in
    let fields = look_fields seen fs in
    let w = 15625 * p.width in
    let read_flag = λ (s : Look) (a b : ℕ). (value 70 fields >>= number) >>= (λ f. vertices others >>= (λ qs. polyline_of s a b f qs)) in
    let read_last = λ (s : Look) (a : ℕ). (value 41 fields >>= size) >>= (λ b. read_flag s a b) in
    let flag = flag_by p.is_closed in
    ap (λ (o : Option Look). o >>= (λ s. (value 40 fields >>= size) >>= (λ a. read_last s a))) (look_is seen fs small refl)
    ∙ ap (λ (o : Option (List ℕ)). (o >>= size) >>= (λ a. read_last seen a)) (after_look seen fs 40 refl refl)
    ∙ ap (λ (o : Option ℕ). o >>= (λ a. read_last seen a)) (size_read w h.width)
    ∙ ap (λ (o : Option (List ℕ)). (o >>= size) >>= (λ b. read_flag seen w b)) (after_look seen fs 41 refl refl)
    ∙ ap (λ (o : Option ℕ). o >>= (λ b. read_flag seen w b)) (size_read w h.width)
    ∙ ap (λ (o : Option (List ℕ)). (o >>= number) >>= (λ f. vertices others >>= (λ qs. polyline_of seen w w f qs))) (after_look seen fs 70 refl refl)
    ∙ ap (λ (o : Option ℕ). o >>= (λ f. vertices others >>= (λ qs. polyline_of seen w w f qs))) (number_read (flags p) flag.0)
    ∙ ap (λ (o : Option (List Point)). o >>= (λ qs. polyline_of seen w w (flags p) qs)) are
    ∙ ap (λ (b : Bool). given (b && nat_le (flags p) 1) (Some (Lines seen (Some w) (nat_eq (flags p) 1) ps))) (same_number w)
    ∙ ap (λ (b : Bool). given b (Some (Lines seen (Some w) (nat_eq (flags p) 1) ps))) flag.1
    ∙ ap (λ (b : Bool). Some (Lines seen (Some w) b ps)) flag.2

-- a polyline: p is its start, v its first vertex, w the others, l the last one, and s its end
gathered : (p v w l s : List ℕ) → p ++ ((v ++ (w ++ l)) ++ s) ≡ p ++ v ++ w ++ (l ++ s)
gathered p v w l s = simp append_assoc

abbrev seqend : Entry
seqend = record { kind = codes "SEQEND"; fields = [] }

polyline_shown : {text : List ℕ} {ps : List Point} (layers : Layers) (p : Piece) → IsSmallPiece p → Leads text ps
    → Shows (polyline_start layers p ++ (text ++ group 0 (codes "SEQEND"))) (Lines (look_of layers p.pen p.colour) (Some (15625 * p.width)) p.is_closed ps ∷ [])
polyline_shown {text} {ps} layers p h v =
    let seen = look_of layers p.pen p.colour in
    let first = look_entry (codes "POLYLINE") seen (polyline_fields p) in
    let x = Lines seen (Some (15625 * p.width)) p.is_closed ps in
    record {
      entries = first ∷ (v.entries ++ seqend ∷ []);
      writes = both_written (ends (polyline_begins layers p)) (both_written v.writes (ends (begins (codes "SEQEND") refl)));
      reads = λ rest.
          let others = append_assoc v.entries (seqend ∷ []) rest in
          let points = ap (λ (es : List Entry). vertices es) others ∙ v.reads (seqend ∷ rest) ∙ ap (λ (qs : List Point). Some qs) (append-nil ps) in
          let passed = ap (λ (es : List Entry). entities es) others ∙ v.passed (seqend ∷ rest) in
          let all = (v.entries ++ seqend ∷ []) ++ rest in
          ap (λ (o : Option Entity). o >>= (λ y. entities all >>= (λ ys. Some (y ∷ ys)))) (polyline_read seen p ps all (own_small p.colour (colour_of layers.colours p.pen)) h points)
          ∙ ap (λ (o : Option (List Entity)). o >>= (λ ys. Some (x ∷ ys))) passed ∙ then_one x (entities rest);
      inside = λ rest.
          ap (λ (es : List Entry). first ∷ up_to_end es) (append_assoc v.entries (seqend ∷ []) rest)
          ∙ ap (λ (es : List Entry). first ∷ es) (v.inside (seqend ∷ rest) ∙ sym (append_assoc v.entries (seqend ∷ []) (up_to_end rest)));
    }

-- a chain
pub chain_shown : (layers : Layers) (p : Piece) (ps : List Piece) → IsSmallPiece p → AreSmallPieces ps → Shows (chain_text layers p ps) (chain_entity layers p ps ∷ [])
chain_shown layers p [] h k = single_shown layers p h
chain_shown layers p (q ∷ qs) h k =
    let start = polyline_start layers p in
    let first = start_vertex layers p in
    let others = flat_map (start_vertex layers) (q ∷ qs) in
    let last = last_of q qs in
    let end = end_by (last.is_closed && is_same_point p.from last.to) layers last (last_small q qs k.0 k.1) in
    shows_as (polyline_shown layers p h (leads_both (vertex_leads layers p.pen p.from h.from) (leads_both (pieces_lead layers (q ∷ qs) k) end)))
    (gathered start first others (last_vertex layers p.from last) (group 0 (codes "SEQEND"))) refl
