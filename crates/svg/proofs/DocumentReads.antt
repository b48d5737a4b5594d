-- The reader reads a document as it was written.
use Rattle.std.proofs.Common.{◌≡◌, ◌∙◌, ◌⊎◌, inl, inr, ℕ, ◌*◌, ◌/◌, ◌%◌, ◌^◌, ◌<◌, ◌==◌, ◌&&◌, ◌||◌, Bool, true, false, List, [], ◌∷◌, ◌++◌, drop, filter, map, flat_map, Option, Some, None, codes, decimal, refl, ap, subst, arith, append_assoc}
use Rattle.std.proofs.lemmas.Bool.Decides.{nat_tests}
use Rattle.std.proofs.lemmas.List.Elements.{filter-append}
use Rattle.std.specs.List.{Contains, join_with_byte, list_all}
use Rattle.std.specs.Option.{option_map}
use Rattle.pieces.specs.Fractions.{fraction}
use Rattle.plot_page.specs.declared.page.Page.{Page}
use Rattle.svg.specs.declared.places.Rectangle.{Rectangle}
use Rattle.svg.specs.Clips.{IsAmong, clip_text, clips_text}
use Rattle.svg.specs.Documents.{head_text, page_text}
use Rattle.svg.specs.Numbers.{millimetres}
use Rattle.svg.specs.Paths.{Path, clip_name, path_text}
use Rattle.pieces.specs.Readings.{Cut, after, each, given, number, split, ◌>>=◌}
use Rattle.svg.specs.Reader.{attributes, clip_in, clip_named, elements, is_title, read_titles, resolved_text, is_allowed, is_known, path, paths_in_parts, read_elements, read_known, read_svg, size, size_in, value}
use Rattle.svg.specs.Readings.{Size, read_paths, size_of}
use Rattle.svg.proofs.ClipReads.{AreSmallRectangles, IsSmallRectangle, clip_cut, clip_known, clip_parts, first_or_later, named}
use Rattle.svg.proofs.PartReads.{AreSmallPaths, Shows, all_both, is_path, title_part}
use Rattle.svg.proofs.TitleReads.{title_read}
use Rattle.svg.specs.Titles.{utf_8}
use Rattle.svg.proofs.PathReads.{decimal_plain, digit_plain, is_less, is_markup, is_quote, no_less, no_quote, path_read, reference}
use Rattle.pieces.proofs.Scans.{AreWords, Cuts, Lacks, all_parts, decimal_lacks, fraction_lacks, lacks_both, more_parts, no_parts, number_read, one_part, split_words}

-- a length has no markup
length_plain : (n : ℕ) → Lacks is_markup (millimetres n)
length_plain n = lacks_both is_markup (decimal (n / 40)) (fraction (25 * (n % 40))) (decimal_plain (n / 40)) (fraction_lacks is_markup digit_plain refl (25 * (n % 40)) (omega arith))

-- the start of a document: two elements, and a group
abbrev xml_text : List ℕ
xml_text = codes "<?xml version=\"1.0\" encoding=\"UTF-8\"?>\n"

abbrev svg_text : Page → List ℕ
svg_text page = codes "<svg xmlns=\"http://www.w3.org/2000/svg\"" ++ page_text page

abbrev group_text : List ℕ
group_text = codes "<g fill=\"none\" stroke-linecap=\"round\" stroke-linejoin=\"round\">\n"

abbrev head_parts : Page → List (List ℕ)
head_parts page = xml_text ∷ svg_text page ∷ group_text ∷ []

-- the words of the drawing, by the texts of its sizes
abbrev size_words : List ℕ → List ℕ → List ℕ → List ℕ → List (List ℕ)
size_words mw mh w h =
    codes " xmlns=" ∷ codes "http://www.w3.org/2000/svg" ∷ codes " width=" ∷ (mw ++ codes "mm") ∷ codes " height=" ∷ (mh ++ codes "mm")
    ∷ codes " viewBox=" ∷ (codes "0 0 " ++ (w ++ (codes " " ++ h))) ∷ codes ">\n" ∷ []

size_written : (mw mh w h : List ℕ) → codes "<svg xmlns=\"http://www.w3.org/2000/svg\"" ++ (codes " width=\"" ++ mw ++ codes "mm\" height=\"" ++ mh ++ codes "mm\" viewBox=\"0 0 " ++ w ++ codes " " ++ h ++ codes "\">\n")
    ≡ codes "<svg" ++ join_with_byte 34 (size_words mw mh w h)
size_written mw mh w h = simp append_assoc

box_read : (w h : ℕ) → w < 2 ^ 64 → h < 2 ^ 64 → size_in (split 32 (codes "0 0 " ++ (decimal w ++ (codes " " ++ decimal h)))) ≡ Some (record { width = w; height = h })
box_read w h a b =
    let lacks = λ (n : ℕ). decimal_lacks (λ c. c == 32) (λ c low high. grind (arith, nat_tests)) n in
    let are : AreWords 32 (codes "0" ∷ codes "0" ∷ decimal w ∷ decimal h ∷ []) = (refl, (refl, (lacks w, (lacks h, tt)))) in
    ap (λ (ws : List (List ℕ)). size_in ws) (split_words 32 (codes "0") (codes "0" ∷ decimal w ∷ decimal h ∷ []) are)
    ∙ ap (λ (o : Option ℕ). o >>= (λ x. number (decimal h) >>= (λ y. Some (record { width = x; height = y })))) (number_read w a)
    ∙ ap (λ (o : Option ℕ). o >>= (λ y. Some (record { width = w; height = y }))) (number_read h b)

size_attributes : (page : Page) → attributes (codes "<svg") (svg_text page) ≡ Some (size_words (millimetres page.width) (millimetres page.height) (decimal (16 * page.width)) (decimal (16 * page.height)))
size_attributes page =
    let add = λ (xs ys : List ℕ) (h : Lacks is_quote xs) (k : Lacks is_quote ys). lacks_both is_quote xs ys h k in
    let mw = millimetres page.width in
    let mh = millimetres page.height in
    let w = decimal (16 * page.width) in
    let h = decimal (16 * page.height) in
    let mw_in = add mw (codes "mm") (no_quote mw (length_plain page.width)) refl in
    let mh_in = add mh (codes "mm") (no_quote mh (length_plain page.height)) refl in
    let box_in = add (codes "0 0 ") (w ++ (codes " " ++ h)) refl (add w (codes " " ++ h) (no_quote w (decimal_plain (16 * page.width))) (add (codes " ") h refl (no_quote h (decimal_plain (16 * page.height))))) in
    let are : AreWords 34 (size_words mw mh w h) = (refl, (refl, (refl, (mw_in, (refl, (mh_in, (refl, (box_in, (refl, tt))))))))) in
    ap (λ (z : List ℕ). attributes (codes "<svg") z) (size_written mw mh w h)
    ∙ ap (λ (ws : List (List ℕ)). Some ws) (split_words 34 (codes " xmlns=") (drop 1 (size_words mw mh w h)) are)

size_read : (page : Page) (parts : List (List ℕ)) → size (xml_text ∷ svg_text page ∷ parts) ≡ Some (size_of page)
size_read page parts =
    ap (λ (o : Option (List (List ℕ))). o >>= (λ words. value (codes "viewBox") words >>= (λ box. size_in (split 32 box)))) (size_attributes page)
    ∙ box_read (16 * page.width) (16 * page.height) (omega (arith, page.width_in.1)) (omega (arith, page.height_in.1))

-- the reader knows them
head_known : (page : Page) → list_all is_known (head_parts page) ≡ true
head_known page =
    let svg : is_known (svg_text page) ≡ true = ap (λ (o : Option (List (List ℕ))). (is_allowed (codes "xmlns" ∷ codes "width" ∷ codes "height" ∷ codes "viewBox" ∷ []) o || false) || false) (size_attributes page) in
    ap (λ (b : Bool). b && true) svg

-- the head of a document has these parts
head_cut : (page : Page) → Cuts is_less (head_text page) (head_parts page)
head_cut page =
    let add = λ (xs ys : List ℕ) (h : Lacks is_less xs) (k : Lacks is_less ys). lacks_both is_less xs ys h k in
    let mw = millimetres page.width in
    let mh = millimetres page.height in
    let w = decimal (16 * page.width) in
    let h = decimal (16 * page.height) in
    let number = λ (n : ℕ). no_less (decimal n) (decimal_plain n) in
    let one = codes " width=\"" ++ mw in
    let two = one ++ codes "mm\" height=\"" ++ mh in
    let three = two ++ codes "mm\" viewBox=\"0 0 " ++ w in
    let four = three ++ codes " " ++ h in
    let one_in = add (codes " width=\"") mw refl (no_less mw (length_plain page.width)) in
    let two_in = add (one ++ codes "mm\" height=\"") mh (add one (codes "mm\" height=\"") one_in refl) (no_less mh (length_plain page.height)) in
    let three_in = add (two ++ codes "mm\" viewBox=\"0 0 ") w (add two (codes "mm\" viewBox=\"0 0 ") two_in refl) (number (16 * page.width)) in
    let four_in = add (three ++ codes " ") h (add three (codes " ") three_in refl) (number (16 * page.height)) in
    let page_in = add four (codes "\">\n") four_in refl in
    let xml = one_part is_less 60 (drop 1 xml_text) refl refl in
    let svg = one_part is_less 60 (codes "svg xmlns=\"http://www.w3.org/2000/svg\"" ++ page_text page) refl (add (codes "svg xmlns=\"http://www.w3.org/2000/svg\"") (page_text page) refl page_in) in
    let group = one_part is_less 60 (drop 1 group_text) refl refl in
    more_parts is_less (xml_text ++ svg_text page) group_text (xml_text ∷ svg_text page ∷ []) (group_text ∷ []) (more_parts is_less xml_text (svg_text page) (xml_text ∷ []) (svg_text page ∷ []) xml svg) group

-- and so have the clip paths
abbrev all_clips : List Rectangle → List (List ℕ)
all_clips [] = []
all_clips (r ∷ rs) = codes "<defs>\n" ∷ (flat_map clip_parts (r ∷ rs) ++ codes "</defs>\n" ∷ [])

each_clip_cut : (rs : List Rectangle) → Cuts is_less (flat_map clip_text rs) (flat_map clip_parts rs)
each_clip_cut [] = no_parts is_less
each_clip_cut (r ∷ rs) = more_parts is_less (clip_text r) (flat_map clip_text rs) (clip_parts r) (flat_map clip_parts rs) (clip_cut r) (each_clip_cut rs)

clips_cut : (rs : List Rectangle) → Cuts is_less (clips_text rs) (all_clips rs)
clips_cut [] = no_parts is_less
clips_cut (r ∷ rs) =
    let inner = flat_map clip_text (r ∷ rs) in
    let ps = flat_map clip_parts (r ∷ rs) in
    more_parts is_less (codes "<defs>\n" ++ inner) (codes "</defs>\n") (codes "<defs>\n" ∷ ps) (codes "</defs>\n" ∷ [])
    (more_parts is_less (codes "<defs>\n") inner (codes "<defs>\n" ∷ []) ps (one_part is_less 60 (codes "defs>\n") refl refl) (each_clip_cut (r ∷ rs))) (one_part is_less 60 (codes "/defs>\n") refl refl)

-- none of them is a path
no_paths : (rs : List Rectangle) → filter is_path (flat_map clip_parts rs) ≡ []
no_paths [] = refl
no_paths (r ∷ rs) = no_paths rs

no_clip_paths : (rs : List Rectangle) → filter is_path (all_clips rs) ≡ []
no_clip_paths [] = refl
no_clip_paths (r ∷ rs) = filter-append is_path (flat_map clip_parts (r ∷ rs)) (codes "</defs>\n" ∷ []) ∙ ap (λ (z : List (List ℕ)). z ++ []) (no_paths (r ∷ rs))

-- the reader knows them
each_clip_known : (rs : List Rectangle) → list_all is_known (flat_map clip_parts rs) ≡ true
each_clip_known [] = refl
each_clip_known (r ∷ rs) = all_both (clip_parts r) (flat_map clip_parts rs) (clip_known r) (each_clip_known rs)

clips_known : (rs : List Rectangle) → list_all is_known (all_clips rs) ≡ true
clips_known [] = refl
clips_known (r ∷ rs) = all_both (flat_map clip_parts (r ∷ rs)) (codes "</defs>\n" ∷ []) (each_clip_known (r ∷ rs)) refl

-- the parts of a document, of whose body these are the parts
abbrev document_parts : Page → List Rectangle → List (List ℕ) → List (List ℕ)
document_parts page rs body = head_parts page ++ all_clips rs ++ body

clip_found : (page : Page) (rs : List Rectangle) (body : List (List ℕ)) (r : Rectangle) → AreSmallRectangles rs → IsSmallRectangle r → Contains rs r → clip_named (reference (clip_name r)) (document_parts page rs body) ≡ Some r
clip_found page [] body r h k m = absurd (omega (arith, m.1))
clip_found page (x ∷ rs) body r h k m =
    ap (λ (z : List (List ℕ)). clip_named (reference (clip_name r)) z) (append_assoc (flat_map clip_parts (x ∷ rs)) (codes "</defs>\n" ∷ []) body)
    ∙ named (x ∷ rs) r (codes "</defs>\n" ∷ body) h k m

small_step : (x r : Rectangle) (rs : List Rectangle) → IsSmallRectangle x → (Contains rs r → IsSmallRectangle r) → (x ≡ r) ⊎ Contains rs r → IsSmallRectangle r
small_step x r rs h rec (inl e) =
    let P : Rectangle → Type 0 = λ z. IsSmallRectangle z in
    subst P e h
small_step x r rs h rec (inr later) = rec later

small_among : (rs : List Rectangle) (r : Rectangle) → AreSmallRectangles rs → Contains rs r → IsSmallRectangle r
small_among [] r h m = absurd (omega (arith, m.1))
small_among (x ∷ rs) r h m = small_step x r rs h.0 (λ later. small_among rs r h.1 later) (first_or_later x r rs m)

clip_read : (page : Page) (rs : List Rectangle) (body : List (List ℕ)) (o : Option Rectangle) → AreSmallRectangles rs → IsAmong rs o → clip_in (document_parts page rs body) (option_map (λ r. reference (clip_name r)) o) ≡ Some o
clip_read page rs body None h m = refl
clip_read page rs body (Some r) h m = ap (λ (o : Option Rectangle). option_map Some o) (clip_found page rs body r h (small_among rs r h m) m)

-- what each of these paths is clipped to is there
abbrev pub AreClipped : List Rectangle → List Path → Type 0
AreClipped rs [] = Unit {0}
AreClipped rs (p ∷ ps) = IsAmong rs p.clip × AreClipped rs ps

paths_each : (page : Page) (rs : List Rectangle) (body : List (List ℕ)) (ps : List Path) → AreSmallRectangles rs → AreSmallPaths ps → AreClipped rs ps → each (path (document_parts page rs body)) (map path_text ps) ≡ Some ps
paths_each page rs body [] h k m = refl
paths_each page rs body (p ∷ ps) h k m =
    let all = document_parts page rs body in
    ap (λ (o : Option Path). o >>= (λ y. each (path all) (map path_text ps) >>= (λ ys. Some (y ∷ ys)))) (path_read all p k.0 (clip_read page rs body p.clip h m.0))
    ∙ ap (λ (o : Option (List Path)). o >>= (λ ys. Some (p ∷ ys))) (paths_each page rs body ps h k.1 m.1)

no_clip_titles : (rs : List Rectangle) → filter is_title (flat_map clip_parts rs) ≡ []
no_clip_titles [] = refl
no_clip_titles (r ∷ rs) = no_clip_titles rs

no_titles : (rs : List Rectangle) → filter is_title (all_clips rs) ≡ []
no_titles [] = refl
no_titles (r ∷ rs) = filter-append is_title (flat_map clip_parts (r ∷ rs)) (codes "</defs>\n" ∷ []) ∙ ap (λ (z : List (List ℕ)). z ++ []) (no_clip_titles (r ∷ rs))

-- all elements of a document
document_cut : (page : Page) (rs : List Rectangle) (body : List ℕ) (ps : List Path) (ts : List (List ℕ)) → (shown : Shows body ps ts) → elements (head_text page ++ clips_text rs ++ body) ≡ document_parts page rs shown.parts
document_cut page rs body ps ts shown =
    let front = head_text page ++ clips_text rs in
    let cuts = more_parts is_less front body (head_parts page ++ all_clips rs) shown.parts (more_parts is_less (head_text page) (clips_text rs) (head_parts page) (all_clips rs) (head_cut page) (clips_cut rs)) shown.cuts in
    ap (λ (t : Cut). t.parts) (all_parts is_less (front ++ body) (document_parts page rs shown.parts) cuts)

titles_each : (ts : List (List ℕ)) → each (λ part. after (codes "<title>") part >>= resolved_text) (map title_part ts) ≡ Some (map utf_8 ts)
titles_each [] = refl
titles_each (t ∷ ts) =
    let rest = each (λ part. after (codes "<title>") part >>= resolved_text) (map title_part ts) in
    ap (λ (o : Option (List ℕ)). o >>= (λ y. rest >>= (λ ys. Some (y ∷ ys)))) (title_read t)
    ∙ ap (λ (o : Option (List (List ℕ))). o >>= (λ ys. Some (utf_8 t ∷ ys))) (titles_each ts)

-- the titles of a document whose body has just these
pub document_titles : (page : Page) (rs : List Rectangle) (body : List ℕ) (ps : List Path) (ts : List (List ℕ)) → Shows body ps ts → read_titles (head_text page ++ clips_text rs ++ body) ≡ Some (map utf_8 ts)
unfolding read_titles
document_titles page rs body ps ts shown =
    let none : filter is_title (head_parts page ++ all_clips rs) ≡ [] = no_titles rs in
    let found = filter-append is_title (head_parts page ++ all_clips rs) shown.parts ∙ (λ i. none i ++ shown.titles_are i) in
    ap (λ (zs : List (List ℕ)). each (λ part. after (codes "<title>") part >>= resolved_text) (filter is_title zs)) (document_cut page rs body ps ts shown)
    ∙ ap (λ (zs : List (List ℕ)). each (λ part. after (codes "<title>") part >>= resolved_text) zs) found
    ∙ titles_each ts

-- a document of this page, these clip paths and a body that has just these paths
pub document_read : (page : Page) (rs : List Rectangle) (body : List ℕ) (ps : List Path) (ts : List (List ℕ)) → Shows body ps ts → AreSmallRectangles rs → AreSmallPaths ps → AreClipped rs ps → read_svg (head_text page ++ clips_text rs ++ body) ≡ Some (read_paths (size_of page) ps)
unfolding read_svg
document_read page rs body ps ts shown h k m =
    let front = head_text page ++ clips_text rs in
    let all = document_parts page rs shown.parts in
    let cuts = more_parts is_less front body (head_parts page ++ all_clips rs) shown.parts (more_parts is_less (head_text page) (clips_text rs) (head_parts page) (all_clips rs) (head_cut page) (clips_cut rs)) shown.cuts in
    let none : filter is_path (head_parts page ++ all_clips rs) ≡ [] = no_clip_paths rs in
    let found : filter is_path all ≡ map path_text ps =
    filter-append is_path (head_parts page ++ all_clips rs) shown.parts ∙ (λ i. none i ++ shown.paths_are i) in
    let known = all_both (head_parts page ++ all_clips rs) shown.parts (all_both (head_parts page) (all_clips rs) (head_known page) (clips_known rs)) shown.known in
    ap (λ (t : Cut). read_elements t.parts) (all_parts is_less (front ++ body) all cuts)
    ∙ ap (λ (b : Bool). given b (read_known all)) known
    ∙ ap (λ (o : Option Size). o >>= (λ s. paths_in_parts all >>= (λ qs. Some (read_paths s qs)))) (size_read page (drop 2 all))
    ∙ ap (λ (zs : List (List ℕ)). each (path all) zs >>= (λ qs. Some (read_paths (size_of page) qs))) found
    ∙ ap (λ (o : Option (List Path)). o >>= (λ qs. Some (read_paths (size_of page) qs))) (paths_each page rs shown.parts ps h k m)
