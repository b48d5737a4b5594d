-- The reader reads the texts of labels as they were written.
use Rattle.std.proofs.Common.{◌≡◌, ◌∙◌, ℕ, ◌*◌, ◌^◌, ◌<◌, ◌==◌, ℤ, pos, neg_ℤ, Bool, true, false, cond, if◌then◌else◌, List, [], ◌∷◌, ◌++◌, flat_map, map, Option, Some, None, codes, decimal, refl, ap, subst, arith, append_assoc}
use Rattle.std.proofs.lemmas.Bool.Decides.{nat_tests}
use Rattle.std.specs.Option.{option_map}
use Rattle.labels.specs.Labels.{LineShape}
use Rattle.labels.specs.declared.place.Place.{Place}
use Rattle.pieces.proofs.Scans.{number_read}
use Rattle.pieces.specs.Readings.{number, ◌>>=◌}
use Rattle.plot_page.specs.Segments.{Segment}
use Rattle.dxf.specs.Cuts.{point_of}
use Rattle.dxf.specs.Forms.{form_of}
use Rattle.dxf.specs.Groups.{group, signed_group, signed_text, size_text}
use Rattle.dxf.specs.Layers.{colour_of}
use Rattle.dxf.specs.Letters.{fit_groups, form_groups, has_letters, leaning_group, letter, letters_text, lines_text, mirrored_group, text_entity}
use Rattle.dxf.specs.Reader.{Group, Letters, Look, TextForm, letters, mirrored_by, mirrored_in, oblique_in, point, read_text, second_point, size, text_form, value}
use Rattle.dxf.specs.Readings.{letters_of, line_entities, look_of, oblique_of, text_form_of}
use Rattle.dxf.specs.Readable.{IsReadable, IsSmallForm}
use Rattle.dxf.specs.declared.cuts.Point.{Point}
use Rattle.dxf.specs.declared.forms.Form.{Form}
use Rattle.dxf.specs.declared.layers.Layers.{Layers}
use Rattle.dxf.proofs.EntityReads.{IsSmallNumber, IsSmallPoint, Shows, after_look, count_written, found, look_entry, look_fields, look_is, more, one_shown, optional, own_small, past, point_fields, point_is, point_written, shows_both, shows_none, size_written, starts}
use Rattle.dxf.proofs.GroupReads.{digits_end_no_line, is_newline}
use Rattle.dxf.proofs.LetterReads.{letters_lack, letters_read}
use Rattle.dxf.proofs.NumberReads.{signed_is, signed_lack, size_read}
use Rattle.dxf.proofs.PieceSizes.{place_small}
use Rattle.dxf.proofs.Writes.{Begins, Fields, both_fields, no_fields, one_field}

-- by how much letters lean, if they do, and that they are mirrored
abbrev lean : Bool → Bool → ℕ → Option (List ℕ)
lean none backward n = if none then None else Some (signed_text backward (1000 * n))

abbrev mirror : Bool → Option (List ℕ)
mirror mirrored = if mirrored then Some (decimal 4) else None

lean_by : (b : Bool) (backward : Bool) (n : ℕ) → Fields (cond b [] (signed_group 51 backward (1000 * n))) (optional 51 (lean b backward n))
lean_by true backward n = no_fields
lean_by false backward n = one_field 51 (signed_text backward (1000 * n)) (omega arith) refl (signed_lack is_newline digits_end_no_line refl refl backward (1000 * n))

mirror_written : (b : Bool) → Fields (mirrored_group b) (optional 71 (mirror b))
mirror_written true = count_written 71 4 (omega arith) refl
mirror_written false = no_fields

-- how the text is fit
abbrev way_of : Bool → ℕ
way_of fit = if fit then 5 else 0

abbrev fit_fields : Bool → Point → List Group
fit_fields fit end = record { code = 72; value = decimal (way_of fit) } ∷ (if fit then point_fields 11 21 end else [])

fit_written : (b : Bool) (end : Place) → Fields (fit_groups b end) (fit_fields b (point_of end.x end.y))
fit_written true end = both_fields (count_written 72 5 (omega arith) refl) (point_written 11 21 (point_of end.x end.y) (omega arith) refl (omega arith) refl)
fit_written false end = count_written 72 0 (omega arith) refl

-- the fields after a look
abbrev last_fields : Form → Point → List Group
last_fields form end =
    optional 51 (lean (form.leaning == 0) form.is_backward form.leaning)
    ++ (record { code = 7; value = codes "STANDARD" } ∷ (optional 71 (mirror form.is_mirrored) ++ fit_fields form.is_fit end))

abbrev text_fields : LineShape → List Group
text_fields l =
    point_fields 10 20 (point_of l.start.x l.start.y)
    ++ (record { code = 40; value = size_text (form_of l).height } ∷ record { code = 1; value = letters_text l.text }
    ∷ record { code = 50; value = size_text (1000 * (form_of l).rotation) } ∷ record { code = 41; value = size_text (form_of l).factor }
    ∷ last_fields (form_of l) (point_of l.end.x l.end.y))

-- g is the angle and the factor, a the leaning, s the style, m that it is mirrored, f how it is fit
last_gathered : (g a s m f : List ℕ) → g ++ (a ++ (s ++ (m ++ f))) ≡ g ++ a ++ s ++ m ++ f
last_gathered g a s m f = simp append_assoc

form_written : (form : Form) (end : Place)
    → Fields (form_groups form end) (record { code = 50; value = size_text (1000 * form.rotation) } ∷ record { code = 41; value = size_text form.factor } ∷ last_fields form (point_of end.x end.y))
form_written form end =
    let first = both_fields (size_written 50 (1000 * form.rotation) (omega arith) refl) (size_written 41 form.factor (omega arith) refl) in
    let leaning = lean_by (form.leaning == 0) form.is_backward form.leaning in
    let style = one_field 7 (codes "STANDARD") (omega arith) refl refl in
    let others = both_fields leaning (both_fields style (both_fields (mirror_written form.is_mirrored) (fit_written form.is_fit end))) in
    subst (λ (t : List ℕ). Fields t (record { code = 50; value = size_text (1000 * form.rotation) } ∷ record { code = 41; value = size_text form.factor } ∷ last_fields form (point_of end.x end.y)))
    (last_gathered (group 50 (size_text (1000 * form.rotation)) ++ group 41 (size_text form.factor)) (leaning_group form.is_backward form.leaning) (group 7 (codes "STANDARD")) (mirrored_group form.is_mirrored) (fit_groups form.is_fit end))
    (both_fields first others)

text_begins : (layers : Layers) (s : Segment) (l : LineShape) → Begins (text_entity layers s l) (look_entry (codes "TEXT") (look_of layers s.pen s.colour) (text_fields l))
text_begins layers s l =
    let kind = codes "TEXT" in
    let seen = look_of layers s.pen s.colour in
    let start = point_of l.start.x l.start.y in
    let at = more kind seen [] (point_fields 10 20 start) (starts kind refl layers s.pen s.colour) (point_written 10 20 start (omega arith) refl (omega arith) refl) in
    let high = more kind seen _ _ at (size_written 40 (form_of l).height (omega arith) refl) in
    let words = more kind seen _ _ high (one_field 1 (letters_text l.text) (omega arith) refl (letters_lack l.text)) in
    more kind seen _ _ words (form_written (form_of l) l.end)

-- what is found in the last fields: what is fit comes after all others
fit_found : (form : Form) (end : Point) (c : ℕ) → (51 == c) ≡ false → (7 == c) ≡ false → (71 == c) ≡ false → value c (last_fields form end) ≡ value c (fit_fields form.is_fit end)
fit_found form end c h k m =
    let style : Group = record { code = 7; value = codes "STANDARD" } in
    let mirrored = optional 71 (mirror form.is_mirrored) ++ fit_fields form.is_fit end in
    past 51 c (lean (form.leaning == 0) form.is_backward form.leaning) (style ∷ mirrored) h
    ∙ ap (λ (b : Bool). cond b (Some (codes "STANDARD")) (value c mirrored)) k
    ∙ past 71 c (mirror form.is_mirrored) (fit_fields form.is_fit end) m

-- the second point, if there is one
second_by : (b : Bool) (fields : List Group) (end : Point) → value 11 fields ≡ value 11 (fit_fields b end) → value 21 fields ≡ value 21 (fit_fields b end) → IsSmallPoint end
    → second_point (way_of b) fields ≡ Some (cond b (Some end) None)
second_by true fields end x y h = ap (λ (o : Option Point). option_map Some o) (point_is 11 21 fields end x y h)
second_by false fields end x y h = refl

-- another value is not there
fit_has_none : (b : Bool) (end : Point) (c : ℕ) → (72 == c) ≡ false → (11 == c) ≡ false → (21 == c) ≡ false → value c (fit_fields b end) ≡ None
fit_has_none true end c w x y = rw (w, x, y) refl
fit_has_none false end c w x y = rw w refl

way_found : (b : Bool) (end : Point) → value 72 (fit_fields b end) >>= number ≡ Some (way_of b)
way_found true end = number_read 5 (omega arith)
way_found false end = number_read 0 (omega arith)

-- no leaning
no_oblique : (backward : Bool) (n : ℕ) → n ≡ 0 → Some (pos 0) ≡ Some (cond backward (neg_ℤ (pos (1000 * n))) (pos (1000 * n)))
no_oblique true n e = (let none : 1000 * n ≡ 0 = omega (arith, e) in rw none refl)
no_oblique false n e = (let none : 1000 * n ≡ 0 = omega (arith, e) in rw none refl)

-- by how much letters lean is read, and whether they are upside down
oblique_read : (b : Bool) (form : Form) → (form.leaning == 0) ≡ b → 1000 * form.leaning < 10000000 * 2 ^ 64
    → oblique_in (lean b form.is_backward form.leaning) ≡ Some (oblique_of form)
oblique_read true form none small = (let zero_is : form.leaning ≡ 0 = grind (arith, nat_tests, none) in no_oblique form.is_backward form.leaning zero_is)
oblique_read false form some small = signed_is form.is_backward (1000 * form.leaning) small

mirror_read : (b : Bool) → mirrored_in (mirror b) ≡ Some b
mirror_read true = ap (λ (o : Option ℕ). o >>= mirrored_by) (number_read 4 (omega arith))
mirror_read false = refl

-- how the letters lie is found in fields, and read
form_read : (fields : List Group) (form : Form) → IsSmallForm form
    → value 40 fields ≡ Some (size_text form.height) → value 50 fields ≡ Some (size_text (1000 * form.rotation)) → value 41 fields ≡ Some (size_text form.factor)
    → value 51 fields ≡ lean (form.leaning == 0) form.is_backward form.leaning → value 71 fields ≡ mirror form.is_mirrored
    → text_form fields ≡ Some (text_form_of form)
form_read fields form small high turned wide leans flips =
    let made = λ (h a w : ℕ) (o : ℤ) (m : Bool). Some (record { height = h; angle = a; factor = w; oblique = o; is_mirrored = m }) in
    let read_flip = λ (h a w : ℕ) (o : ℤ). mirrored_in (value 71 fields) >>= (λ m. made h a w o m) in
    let read_lean = λ (h a w : ℕ). oblique_in (value 51 fields) >>= (λ o. read_flip h a w o) in
    let read_wide = λ (h a : ℕ). (value 41 fields >>= size) >>= (λ w. read_lean h a w) in
    let read_turn = λ (h : ℕ). (value 50 fields >>= size) >>= (λ a. read_wide h a) in
    ap (λ (o : Option (List ℕ)). (o >>= size) >>= (λ h. read_turn h)) high
    ∙ ap (λ (o : Option ℕ). o >>= (λ h. read_turn h)) (size_read form.height small.height)
    ∙ ap (λ (o : Option (List ℕ)). (o >>= size) >>= (λ a. read_wide form.height a)) turned
    ∙ ap (λ (o : Option ℕ). o >>= (λ a. read_wide form.height a)) (size_read (1000 * form.rotation) small.rotation)
    ∙ ap (λ (o : Option (List ℕ)). (o >>= size) >>= (λ w. read_lean form.height (1000 * form.rotation) w)) wide
    ∙ ap (λ (o : Option ℕ). o >>= (λ w. read_lean form.height (1000 * form.rotation) w)) (size_read form.factor small.factor)
    ∙ ap (λ (t : Option (List ℕ)). oblique_in t >>= (λ o. read_flip form.height (1000 * form.rotation) form.factor o)) leans
    ∙ ap (λ (z : Option ℤ). z >>= (λ o. read_flip form.height (1000 * form.rotation) form.factor o)) (oblique_read (form.leaning == 0) form refl small.leaning)
    ∙ ap (λ (t : Option (List ℕ)). mirrored_in t >>= (λ m. made form.height (1000 * form.rotation) form.factor (oblique_of form) m)) flips
    ∙ ap (λ (b : Option Bool). b >>= (λ m. made form.height (1000 * form.rotation) form.factor (oblique_of form) m)) (mirror_read form.is_mirrored)

-- a group that may be there is found, if no later one has its code
leaning_found : (form : Form) (end : Point) → value 51 (last_fields form end) ≡ lean (form.leaning == 0) form.is_backward form.leaning
leaning_found form end =
    let rest = record { code = 7; value = codes "STANDARD" } ∷ (optional 71 (mirror form.is_mirrored) ++ fit_fields form.is_fit end) in
    found 51 (lean (form.leaning == 0) form.is_backward form.leaning) rest
    (past 71 51 (mirror form.is_mirrored) (fit_fields form.is_fit end) refl ∙ fit_has_none form.is_fit end 51 refl refl refl)

mirror_found : (form : Form) (end : Point) → value 71 (last_fields form end) ≡ mirror form.is_mirrored
mirror_found form end =
    let style : Group = record { code = 7; value = codes "STANDARD" } in
    past 51 71 (lean (form.leaning == 0) form.is_backward form.leaning) (style ∷ (optional 71 (mirror form.is_mirrored) ++ fit_fields form.is_fit end)) refl
    ∙ found 71 (mirror form.is_mirrored) (fit_fields form.is_fit end) (fit_has_none form.is_fit end 71 refl refl refl)

text_read : (seen : Look) (l : LineShape) → IsSmallNumber seen.colour → IsSmallPoint (point_of l.start.x l.start.y) → IsSmallPoint (point_of l.end.x l.end.y) → IsSmallForm (form_of l)
    → read_text (look_fields seen (text_fields l))
    ≡ Some (Letters seen (point_of l.start.x l.start.y) (cond (form_of l).is_fit (Some (point_of l.end.x l.end.y)) None) (text_form_of (form_of l)) (map letter l.text))
text_read seen l small near far lies =
    let form = form_of l in
    let start = point_of l.start.x l.start.y in
    let end = point_of l.end.x l.end.y in
    let fs = text_fields l in
    let fields = look_fields seen fs in
    let ended : Option Point = cond form.is_fit (Some end) None in
    let read_letters = λ (s : Look) (p : Point) (q : Option Point) (f : TextForm). (value 1 fields >>= letters) >>= (λ text. Some (Letters s p q f text)) in
    let read_form = λ (s : Look) (p : Point) (q : Option Point). text_form fields >>= (λ f. read_letters s p q f) in
    let read_end = λ (s : Look) (p : Point) (w : ℕ). second_point w fields >>= (λ q. read_form s p q) in
    let read_way = λ (s : Look) (p : Point). (value 72 fields >>= number) >>= (λ w. read_end s p w) in
    let way = after_look seen fs 72 refl refl ∙ fit_found form end 72 refl refl refl in
    let x = after_look seen fs 11 refl refl ∙ fit_found form end 11 refl refl refl in
    let y = after_look seen fs 21 refl refl ∙ fit_found form end 21 refl refl refl in
    ap (λ (o : Option Look). o >>= (λ s. point 10 20 fields >>= (λ p. read_way s p))) (look_is seen fs small (fit_found form end 62 refl refl refl ∙ fit_has_none form.is_fit end 62 refl refl refl))
    ∙ ap (λ (o : Option Point). o >>= (λ p. read_way seen p)) (point_is 10 20 fields start (after_look seen fs 10 refl refl) (after_look seen fs 20 refl refl) near)
    ∙ ap (λ (o : Option (List ℕ)). (o >>= number) >>= (λ w. read_end seen start w)) way
    ∙ ap (λ (o : Option ℕ). o >>= (λ w. read_end seen start w)) (way_found form.is_fit end)
    ∙ ap (λ (o : Option (Option Point)). o >>= (λ q. read_form seen start q)) (second_by form.is_fit fields end x y far)
    ∙ ap (λ (o : Option TextForm). o >>= (λ f. read_letters seen start ended f)) (
    form_read fields form lies (after_look seen fs 40 refl refl) (after_look seen fs 50 refl refl) (after_look seen fs 41 refl refl)
    (after_look seen fs 51 refl refl ∙ leaning_found form end) (after_look seen fs 71 refl refl ∙ mirror_found form end)
    )
    ∙ ap (λ (o : Option (List ℕ)). (o >>= letters) >>= (λ text. Some (Letters seen start ended (text_form_of form) text))) (after_look seen fs 1 refl refl)
    ∙ ap (λ (o : Option (List ℕ)). o >>= (λ text. Some (Letters seen start ended (text_form_of form) text))) (letters_read l.text)

-- a line of letters
line_by : (b : Bool) (layers : Layers) (s : Segment) (l : LineShape) → IsReadable l → Shows (cond b (text_entity layers s l) []) (cond b (letters_of layers s l ∷ []) [])
line_by true layers s l h =
    let line = h.line in
    let near : IsSmallPoint (point_of l.start.x l.start.y) = (place_small l.start.x line.start_in.x_in, place_small l.start.y line.start_in.y_in) in
    let far : IsSmallPoint (point_of l.end.x l.end.y) = (place_small l.end.x line.end_in.x_in, place_small l.end.y line.end_in.y_in) in
    let seen = look_of layers s.pen s.colour in
    one_shown (look_entry (codes "TEXT") seen (text_fields l)) (letters_of layers s l) (text_begins layers s l) refl refl
    (λ others. text_read seen l (own_small s.colour (colour_of layers.colours s.pen)) near far h.form)
line_by false layers s l h = shows_none

abbrev pub AreLines : List LineShape → Type 0
AreLines [] = Unit {0}
AreLines (l ∷ ls) = IsReadable l × AreLines ls

pub lines_shown : (layers : Layers) (s : Segment) (ls : List LineShape) → AreLines ls → Shows (lines_text layers s ls) (flat_map (line_entities layers s) ls)
lines_shown layers s [] h = shows_none
lines_shown layers s (l ∷ ls) h = shows_both (line_by (has_letters l) layers s l h.0) (lines_shown layers s ls h.1)
