-- Objects that are put one after another, and where they begin.
use Rattle.std.proofs.Common.{◌≡◌, ℕ, suc, ◌+◌, List, [], ◌∷◌, ◌++◌, length, take, map, codes, decimal, refl, ap, ap₂, sym, ◌∙◌, append_assoc, append-nil, length-append, arith, subst}
use Rattle.std.proofs.lemmas.List.{map-append}
use Rattle.devices.specs.Sinks.{SinkState}
use Rattle.pieces.specs.Texts.{IsSound, Puts, count_of, counted}
use Rattle.pieces.specs.declared.text.Text.{Text}
use Rattle.pieces.proofs.Texts.{none_put, puts_as, ◌then◌}
use Rattle.pdf.specs.Numbers.{ten_digits}
use Rattle.pdf.specs.Objects.{entries_text, object_text, objects_text, offsets_of, table_text, trailer_text}
use Rattle.pdf.specs.Documents.{document_text, end_text, header_text}
use Rattle.pdf.specs.declared.units.PageUnit.{PageUnit}
use Rattle.pdf.specs.Writings.{Adds, object_end, object_start, places}

pub objects_join : (before : ℕ) (xs ys : List (List ℕ)) → objects_text before (xs ++ ys) ≡ objects_text before xs ++ objects_text (before + length xs) ys
objects_join before [] ys = ap (λ (k : ℕ). objects_text k ys) (let e : before ≡ before + 0 = omega arith in e)
objects_join before (x ∷ xs) ys =
    ap (λ (z : List ℕ). object_text before x ++ z) (objects_join (before + 1) xs ys)
    ∙ sym (append_assoc (object_text before x) (objects_text (before + 1) xs) (objects_text (before + 1 + length xs) ys))
    ∙ ap (λ (k : ℕ). (object_text before x ++ objects_text (before + 1) xs) ++ objects_text k ys) (let e : before + 1 + length xs ≡ before + length (x ∷ xs) = omega arith in e)

pub offsets_join : (at before : ℕ) (xs ys : List (List ℕ))
    → offsets_of at before (xs ++ ys) ≡ offsets_of at before xs ++ offsets_of (at + length (objects_text before xs)) (before + length xs) ys
offsets_join at before [] ys =
    ap (λ (k : ℕ). offsets_of k before ys) (let e : at ≡ at + 0 = omega arith in e)
    ∙ ap (λ (k : ℕ). offsets_of (at + 0) k ys) (let e : before ≡ before + 0 = omega arith in e)
offsets_join at before (x ∷ xs) ys =
    let first = object_text before x in
    let others = objects_text (before + 1) xs in
    ap (λ (z : List ℕ). at ∷ z) (offsets_join (at + length first) (before + 1) xs ys)
    ∙ ap (λ (k : ℕ). at ∷ offsets_of (at + length first) (before + 1) xs ++ offsets_of k (before + 1 + length xs) ys)
    (let e : at + length first + length others ≡ at + length (first ++ others) = omega (arith, length-append first others) in e)
    ∙ ap (λ (k : ℕ). at ∷ offsets_of (at + length first) (before + 1) xs ++ offsets_of (at + length (first ++ others)) k ys)
    (let e : before + 1 + length xs ≡ before + length (x ∷ xs) = omega arith in e)

places_join : (at before : ℕ) (xs ys : List (List ℕ)) → places at before (xs ++ ys) ≡ places at before xs ++ places (at + length (objects_text before xs)) (before + length xs) ys
places_join at before xs ys =
    ap (map counted) (offsets_join at before xs ys) ∙ map-append counted (offsets_of at before xs) (offsets_of (at + length (objects_text before xs)) (before + length xs) ys)

counted_on : (a b n : ℕ) → counted a ≡ counted b → counted (a + n) ≡ counted (b + n)
counted_on a b n e = omega (arith, e)

-- what is noted depends on what was counted only
places_counted : (at at' before : ℕ) (xs : List (List ℕ)) → counted at ≡ counted at' → places at before xs ≡ places at' before xs
places_counted at at' before [] e = refl
places_counted at at' before (x ∷ xs) e =
    ap₂ (λ (k : ℕ) (ks : List ℕ). k ∷ ks) e
    (places_counted (at + length (object_text before x)) (at' + length (object_text before x)) (before + 1) xs (counted_on at at' (length (object_text before x)) e))

pub nothing_added : {K : Type 0} {state : K → SinkState} {a : Text K} {offsets : List ℕ} {before : ℕ} → IsSound state a → Adds state a a offsets offsets before []
nothing_added {offsets = offsets} {before = before} sound =
    let e : before + 0 ≡ before = omega arith in
    record { puts = none_put sound; noted = ap (λ (k : ℕ). take k offsets) e ∙ sym (append-nil (take before offsets)); size = refl }

-- an object was put that begins where it was noted
pub object_added : {K : Type 0} {state : K → SinkState} {a b c d : Text K} {o p : List ℕ} {before : ℕ} {body : List ℕ}
    → Puts state a b (object_start before) → take (before + 1) p ≡ take before o ++ count_of a ∷ [] → length p ≡ length o
    → Puts state b c body → Puts state c d object_end → Adds state a d o p before (body ∷ [])
object_added {a = a} {o = o} {before = before} {body = body} begin noted size put end =
    let same : count_of a ≡ counted (count_of a) = omega arith in
    record {
      puts = puts_as (begin then put then end) (sym (append-nil (object_text before body)));
      noted = noted ∙ ap (λ (k : ℕ). take before o ++ k ∷ []) same;
      size = size;
    }

-- one after another
pub added_more : {K : Type 0} {state : K → SinkState} {a b c : Text K} {o p q : List ℕ} {before next : ℕ} {xs ys : List (List ℕ)}
    → Adds state a b o p before xs → Adds state b c p q next ys → next ≡ before + length xs → Adds state a c o q before (xs ++ ys)
added_more {state = state} {a = a} {b = b} {c = c} {o = o} {p = p} {q = q} {before = before} {next = next} {xs = xs} {ys = ys} h k after =
    let second = subst (λ (n : ℕ). Adds state b c p q n ys) after k in
    let size : before + length (xs ++ ys) ≡ before + length xs + length ys = omega (arith, length-append xs ys) in
    let count : counted (count_of b) ≡ counted (count_of a + length (objects_text before xs)) = omega (arith, h.puts.count) in
    record {
      puts = puts_as (h.puts then second.puts) (sym (objects_join before xs ys));
      noted = ap (λ (n : ℕ). take n q) size ∙ second.noted ∙ ap (λ (z : List ℕ). z ++ places (count_of b) (before + length xs) ys) h.noted
          ∙ append_assoc (take before o) (places (count_of a) before xs) (places (count_of b) (before + length xs) ys)
          ∙ ap (λ (z : List ℕ). take before o ++ (places (count_of a) before xs ++ z)) (places_counted (count_of b) (count_of a + length (objects_text before xs)) (before + length xs) ys count)
          ∙ ap (λ (z : List ℕ). take before o ++ z) (sym (places_join (count_of a) before xs ys));
      size = second.size ∙ h.size;
    }

-- the same objects
pub added_as : {K : Type 0} {state : K → SinkState} {a b : Text K} {o p : List ℕ} {before : ℕ} {xs ys : List (List ℕ)} → Adds state a b o p before xs → xs ≡ ys → Adds state a b o p before ys
added_as {state = state} {a = a} {b = b} {o = o} {p = p} {before = before} h e = subst (λ (z : List (List ℕ)). Adds state a b o p before z) e h

-- the lines of a table are those of its counts
entries_counted : (xs : List ℕ) → entries_text (map counted xs) ≡ entries_text xs
entries_counted [] = refl
entries_counted (x ∷ xs) =
    let again : counted (counted x) ≡ counted x = omega arith in
    ap₂ (λ (k : ℕ) (z : List ℕ). (ten_digits k ++ codes " 00000 n \n") ++ z) again (entries_counted xs)

map_size : (xs : List ℕ) → length (map counted xs) ≡ length xs
map_size [] = refl
map_size (x ∷ xs) = ap (λ (n : ℕ). suc n) (map_size xs)

-- what comes after objects is that of its counts
end_counted : (os counts : List ℕ) (at at' : ℕ) → counts ≡ map counted os → counted at' ≡ counted at → end_text counts at' ≡ end_text os at
end_counted os counts at at' is e =
    ap (λ (zs : List ℕ). end_text zs at') is
    ∙ ap (λ (n : ℕ). (codes "xref\n0 " ++ decimal (n + 1) ++ codes "\n0000000000 65535 f \n" ++ entries_text (map counted os)) ++ trailer_text n at') (map_size os)
    ∙ ap (λ (z : List ℕ). (codes "xref\n0 " ++ decimal (length os + 1) ++ codes "\n0000000000 65535 f \n" ++ z) ++ trailer_text (length os) at') (entries_counted os)
    ∙ ap (λ (k : ℕ). table_text os ++ (codes "trailer\n<</Size " ++ decimal (length os + 1) ++ codes "/Root 1 0 R/Info 2 0 R>>\nstartxref\n" ++ decimal k ++ codes "\n%%EOF\n")) e

-- the header, objects and what comes after them were put into a new text
pub document_added : {K : Type 0} {state : K → SinkState} {a b c d : Text K} {o p counts : List ℕ} (unit : PageUnit) {all : List (List ℕ)} → count_of a ≡ 0
    → Puts state a b (header_text unit) → Adds state b c o p 0 all → counts ≡ take (length all) p → Puts state c d (end_text counts (count_of c)) → Puts state a d (document_text unit all)
document_added {a = a} {b = b} {c = c} {p = p} {counts = counts} unit {all = all} new put added is last =
    let header = header_text unit in
    let os = offsets_of (length header) 0 all in
    let at : counted (count_of b) ≡ counted (length header) = omega (arith, new, put.count) in
    let size : length all ≡ 0 + length all = omega arith in
    let noted : counts ≡ map counted os =
    is ∙ ap (λ (n : ℕ). take n p) size ∙ added.noted ∙ places_counted (count_of b) (length header) 0 all at in
    let end : counted (count_of c) ≡ counted (length (header ++ objects_text 0 all)) =
    omega (arith, new, put.count, added.puts.count, length-append header (objects_text 0 all)) in
    puts_as (put then added.puts then last) (ap (λ (z : List ℕ). (header ++ objects_text 0 all) ++ z) (end_counted os counts (length (header ++ objects_text 0 all)) (count_of c) noted end))
