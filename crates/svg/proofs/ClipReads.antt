-- The reader finds the rectangle of a clip path by its name.
use Rattle.std.proofs.Common.{◌≡◌, ◌∙◌, ℕ, zero, suc, ◌^◌, ◌<◌, ◌⊎◌, inl, inr, ℤ, nat_abs, ◌==◌, ◌&&◌, ◌||◌, Bool, true, false, cond, List, [], ◌∷◌, ◌++◌, length, get_or, drop, map, flat_map, Option, Some, codes, refl, ap, sym, arith, append_assoc}
use Rattle.std.proofs.lemmas.Bool.{and_parts, false≢true}
use Rattle.std.proofs.lemmas.Bool.Decides.{nat_tests}
use Rattle.std.specs.Fmt.{signed_decimal}
use Rattle.std.specs.List.{Contains, join_with_byte, list_all}
use Rattle.svg.specs.declared.places.Rectangle.{Rectangle}
use Rattle.svg.specs.Clips.{clip_text, rectangle_text}
use Rattle.svg.specs.Paths.{clip_name}
use Rattle.pieces.specs.Readings.{integer, is_text, split, ◌>>=◌}
use Rattle.svg.specs.Reader.{attributes, clip_named, is_allowed, is_known, names, rectangle, rectangle_in, value}
use Rattle.svg.proofs.PathReads.{is_less, name_lacks, name_plain, no_less, no_quote, reference, signed_plain}
use Rattle.pieces.proofs.Scans.{AreWords, Cuts, Lacks, integer_read, lacks_both, more_parts, one_part, signed_lacks, split_more, split_words}

pub text_same : (a : List ℕ) → is_text a a ≡ true
text_same [] = refl
text_same (c ∷ cs) =
    let one : (c == c) ≡ true = grind (arith, nat_tests) in
    ap (λ (b : Bool). b && is_text cs cs) one ∙ text_same cs

pub text_equal : (a b : List ℕ) → is_text a b ≡ true → a ≡ b
text_equal [] [] h = refl
text_equal [] (d ∷ ds) h = cc
text_equal (c ∷ cs) [] h = cc
text_equal (c ∷ cs) (d ∷ ds) h =
    let both = and_parts (c == d) (is_text cs ds) h in
    let one : c ≡ d = grind (arith, nat_tests, both.0) in
    λ i. one i ∷ text_equal cs ds both.1 i

-- rectangles that the reader reads
pub record IsSmallRectangle (r : Rectangle) : Type 0 where
  pub x : nat_abs r.x < 2 ^ 63
  pub y : nat_abs r.y < 2 ^ 63
  pub width : nat_abs r.width < 2 ^ 63
  pub height : nat_abs r.height < 2 ^ 63

named_text : (a b c d : List ℕ) → codes "w" ++ a ++ codes "_" ++ b ++ codes "_" ++ c ++ codes "_" ++ d ≡ join_with_byte 95 ((codes "w" ++ a) ∷ b ∷ c ∷ d ∷ [])
named_text a b c d = simp append_assoc

-- the numbers of a name
abbrev numbers : List ℕ → List (Option ℤ)
numbers name = map integer (split 95 (drop 1 name))

abbrev name_words : Rectangle → List (List ℕ)
name_words r = signed_decimal r.x ∷ signed_decimal r.y ∷ signed_decimal r.width ∷ signed_decimal r.height ∷ []

name_read : (r : Rectangle) → IsSmallRectangle r → numbers (clip_name r) ≡ Some r.x ∷ Some r.y ∷ Some r.width ∷ Some r.height ∷ []
name_read r h =
    let lacks = λ (z : ℤ). signed_lacks (λ c. c == 95) (λ c low high. grind (arith, nat_tests)) refl z in
    let are : AreWords 95 (name_words r) = (lacks r.x, (lacks r.y, (lacks r.width, (lacks r.height, tt)))) in
    ap numbers (named_text (signed_decimal r.x) (signed_decimal r.y) (signed_decimal r.width) (signed_decimal r.height))
    ∙ ap (λ (ws : List (List ℕ)). map integer ws) (split_words 95 (signed_decimal r.x) (drop 1 (name_words r)) are)
    ∙ (λ i. integer_read r.x h.x i ∷ integer_read r.y h.y i ∷ integer_read r.width h.width i ∷ integer_read r.height h.height i ∷ [])

-- rectangles with one name are the same
pub one_name : (r q : Rectangle) → IsSmallRectangle r → IsSmallRectangle q → clip_name r ≡ clip_name q → r ≡ q
one_name r q h k e =
    let both : Some r.x ∷ Some r.y ∷ Some r.width ∷ Some r.height ∷ [] ≡ Some q.x ∷ Some q.y ∷ Some q.width ∷ Some q.height ∷ [] = sym (name_read r h) ∙ ap numbers e ∙ name_read q k in
    let x : r.x ≡ q.x = cc in
    let y : r.y ≡ q.y = cc in
    let width : r.width ≡ q.width = cc in
    let height : r.height ≡ q.height = cc in
    λ i. record { x = x i; y = y i; width = width i; height = height i }

reference_words : (r : Rectangle) → split 41 (reference (clip_name r)) ≡ (codes "url(#" ++ clip_name r) ∷ [] ∷ []
reference_words r =
    let name = name_lacks (λ c. c == 41) (λ c low high. grind (arith, nat_tests)) refl refl refl r in
    split_more 41 (codes "url(#" ++ clip_name r) [] (lacks_both (λ c. c == 41) (codes "url(#") (clip_name r) refl name)

one_reference : (r q : Rectangle) → IsSmallRectangle r → IsSmallRectangle q → reference (clip_name r) ≡ reference (clip_name q) → r ≡ q
one_reference r q h k e =
    let both : (codes "url(#" ++ clip_name r) ∷ [] ∷ [] ≡ (codes "url(#" ++ clip_name q) ∷ [] ∷ [] = sym (reference_words r) ∙ ap (λ (z : List ℕ). split 41 z) e ∙ reference_words q in
    let first : codes "url(#" ++ clip_name r ≡ codes "url(#" ++ clip_name q = cc in
    one_name r q h k (ap (λ (z : List ℕ). drop 5 z) first)

-- the start of a clip path
abbrev pub clip_start : List ℕ → List ℕ
clip_start n = codes "<clipPath id=\"" ++ n ++ codes "\">"

abbrev pub clip_parts : Rectangle → List (List ℕ)
clip_parts r = clip_start (clip_name r) ∷ rectangle_text r ∷ codes "</clipPath>\n" ∷ []

rectangle_written : (x y w h : List ℕ) → codes "<rect x=\"" ++ x ++ codes "\" y=\"" ++ y ++ codes "\" width=\"" ++ w ++ codes "\" height=\"" ++ h ++ codes "\"/>"
    ≡ codes "<rect" ++ join_with_byte 34 (codes " x=" ∷ x ∷ codes " y=" ∷ y ∷ codes " width=" ∷ w ∷ codes " height=" ∷ h ∷ codes "/>" ∷ [])
rectangle_written x y w h = simp append_assoc

abbrev rectangle_words : Rectangle → List (List ℕ)
rectangle_words r =
    codes " x=" ∷ signed_decimal r.x ∷ codes " y=" ∷ signed_decimal r.y ∷ codes " width=" ∷ signed_decimal r.width ∷ codes " height=" ∷ signed_decimal r.height ∷ codes "/>" ∷ []

-- a rectangle of what was read
abbrev built : Option ℤ → Option ℤ → Option ℤ → Option ℤ → Option Rectangle
built x y width height = x >>= (λ a. y >>= (λ b. width >>= (λ c. height >>= (λ d. Some (record { x = a; y = b; width = c; height = d })))))

rectangle_attributes : (r : Rectangle) → attributes (codes "<rect") (rectangle_text r) ≡ Some (rectangle_words r)
rectangle_attributes r =
    let lacks = λ (z : ℤ). no_quote (signed_decimal z) (signed_plain z) in
    let are : AreWords 34 (rectangle_words r) = (refl, (lacks r.x, (refl, (lacks r.y, (refl, (lacks r.width, (refl, (lacks r.height, (refl, tt))))))))) in
    ap (λ (z : List ℕ). attributes (codes "<rect") z) (rectangle_written (signed_decimal r.x) (signed_decimal r.y) (signed_decimal r.width) (signed_decimal r.height))
    ∙ ap (λ (ws : List (List ℕ)). Some ws) (split_words 34 (codes " x=") (drop 1 (rectangle_words r)) are)

rectangle_read : (r : Rectangle) (parts : List (List ℕ)) → IsSmallRectangle r → rectangle (rectangle_text r ∷ parts) ≡ Some r
rectangle_read r parts h =
    ap (λ (o : Option (List (List ℕ))). o >>= rectangle_in) (rectangle_attributes r)
    ∙ (λ i. built (integer_read r.x h.x i) (integer_read r.y h.y i) (integer_read r.width h.width i) (integer_read r.height h.height i))

start_attributes : (r : Rectangle) → attributes (codes "<clipPath") (clip_start (clip_name r)) ≡ Some (codes " id=" ∷ clip_name r ∷ codes ">" ∷ [])
start_attributes r =
    let n = clip_name r in
    let are : AreWords 34 (codes " id=" ∷ n ∷ codes ">" ∷ []) = (refl, (no_quote n (name_plain r), (refl, tt))) in
    ap (λ (ws : List (List ℕ)). Some ws) (split_words 34 (codes " id=") (n ∷ codes ">" ∷ []) are)

start_read : (r : Rectangle) → (attributes (codes "<clipPath") (clip_start (clip_name r)) >>= value (codes "id")) ≡ Some (clip_name r)
start_read r = ap (λ (o : Option (List (List ℕ))). o >>= value (codes "id")) (start_attributes r)

-- the reader knows the elements of a clip path
pub clip_known : (r : Rectangle) → list_all is_known (clip_parts r) ≡ true
clip_known r =
    let start : is_known (clip_start (clip_name r)) ≡ true = ap (λ (o : Option (List (List ℕ))). (is_allowed (codes "id" ∷ []) o || false) || false) (start_attributes r) in
    let inner : is_known (rectangle_text r) ≡ true = ap (λ (o : Option (List (List ℕ))). (is_allowed (codes "x" ∷ codes "y" ∷ codes "width" ∷ codes "height" ∷ []) o || false) || false) (rectangle_attributes r) in
    λ i. start i && (inner i && true)

-- each of these rectangles is read
abbrev pub AreSmallRectangles : List Rectangle → Type 0
AreSmallRectangles [] = Unit {0}
AreSmallRectangles (r ∷ rs) = IsSmallRectangle r × AreSmallRectangles rs

none_there : {T : Type 0} (q : Rectangle) → Contains [] q → T
none_there {T} q h = absurd (omega (arith, h.1))

either_place : (k : ℕ) (x q : Rectangle) (rs : List Rectangle) → k < length (x ∷ rs) → get_or (x ∷ rs) k q ≡ q → (x ≡ q) ⊎ Contains rs q
either_place zero x q rs lt e = inl e
either_place (suc k) x q rs lt e = inr (k, omega (arith, lt), e)

pub first_or_later : (x q : Rectangle) (rs : List Rectangle) → Contains (x ∷ rs) q → (x ≡ q) ⊎ Contains rs q
first_or_later x q rs h = either_place h.0 x q rs h.1 h.2

named_step : (b : Bool) (x r : Rectangle) (rs : List Rectangle) (rest : List (List ℕ)) → is_text (reference (clip_name r)) (reference (clip_name x)) ≡ b → IsSmallRectangle x → IsSmallRectangle r → (x ≡ r) ⊎ Contains rs r
    → (Contains rs r → clip_named (reference (clip_name r)) rest ≡ Some r)
    → cond b (rectangle (rectangle_text x ∷ codes "</clipPath>\n" ∷ rest)) (clip_named (reference (clip_name r)) rest) ≡ Some r
named_step true x r rs rest e h k m rec =
    let same = one_reference r x k h (text_equal (reference (clip_name r)) (reference (clip_name x)) e) in
    rectangle_read x (codes "</clipPath>\n" ∷ rest) h ∙ ap (λ (z : Rectangle). Some z) (sym same)
named_step false x r rs rest e h k (inl one) rec =
    absurd (false≢true (sym e ∙ ap (λ (z : Rectangle). is_text (reference (clip_name r)) (reference (clip_name z))) one ∙ text_same (reference (clip_name r))))
named_step false x r rs rest e h k (inr later) rec = rec later

-- the rectangle of a name among clip paths, after which other parts may follow
pub named : (rs : List Rectangle) (r : Rectangle) (more : List (List ℕ)) → AreSmallRectangles rs → IsSmallRectangle r → Contains rs r → clip_named (reference (clip_name r)) (flat_map clip_parts rs ++ more) ≡ Some r
named [] r more h k m = none_there r m
named (x ∷ rs) r more h k m =
    let rest = flat_map clip_parts rs ++ more in
    let name = reference (clip_name r) in
    let after_start = clip_named name (rectangle_text x ∷ codes "</clipPath>\n" ∷ rest) in
    ap (λ (o : Option (List ℕ)). cond (names name o) (rectangle (rectangle_text x ∷ codes "</clipPath>\n" ∷ rest)) after_start) (start_read x)
    ∙ named_step (is_text name (reference (clip_name x))) x r rs rest refl h.0 k (first_or_later x r rs m) (λ later. named rs r more h.1 k later)

-- the bytes of clip paths are these parts
less_signed : (z : ℤ) → Lacks is_less (signed_decimal z)
less_signed z = no_less (signed_decimal z) (signed_plain z)

pub clip_cut : (r : Rectangle) → Cuts is_less (clip_text r) (clip_parts r)
clip_cut r =
    let add = λ (xs ys : List ℕ) (h : Lacks is_less xs) (k : Lacks is_less ys). lacks_both is_less xs ys h k in
    let n = clip_name r in
    let start = one_part is_less 60 (codes "clipPath id=\"" ++ n ++ codes "\">") refl (add (codes "clipPath id=\"" ++ n) (codes "\">") (add (codes "clipPath id=\"") n refl (no_less n (name_plain r))) refl) in
    let x = codes "rect x=\"" ++ signed_decimal r.x in
    let y = x ++ codes "\" y=\"" ++ signed_decimal r.y in
    let w = y ++ codes "\" width=\"" ++ signed_decimal r.width in
    let more = λ (xs ys : List ℕ) (z : ℤ) (h : Lacks is_less xs) (k : Lacks is_less ys). add (xs ++ ys) (signed_decimal z) (add xs ys h k) (less_signed z) in
    let x_in = add (codes "rect x=\"") (signed_decimal r.x) refl (less_signed r.x) in
    let y_in = more x (codes "\" y=\"") r.y x_in refl in
    let w_in = more y (codes "\" width=\"") r.width y_in refl in
    let h_in = more w (codes "\" height=\"") r.height w_in refl in
    let body = w ++ codes "\" height=\"" ++ signed_decimal r.height in
    let inner = one_part is_less 60 (body ++ codes "\"/>") refl (add body (codes "\"/>") h_in refl) in
    let close = one_part is_less 60 (codes "/clipPath>\n") refl refl in
    more_parts is_less (clip_start n ++ rectangle_text r) (codes "</clipPath>\n") (clip_start n ∷ rectangle_text r ∷ []) (codes "</clipPath>\n" ∷ [])
    (more_parts is_less (clip_start n) (rectangle_text r) (clip_start n ∷ []) (rectangle_text r ∷ []) start inner) close
