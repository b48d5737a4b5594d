-- The reader finds the paths of a document in its bytes.
use Rattle.std.proofs.Common.{◌≡◌, ◌∙◌, ℕ, ◌+◌, ◌&&◌, ◌||◌, Bool, true, false, cond, List, [], ◌∷◌, ◌++◌, filter, map, flat_map, Option, Some, None, codes, decimal, refl, ap, sym, subst, append-nil}
use Rattle.std.proofs.lemmas.Bool.{and_parts}
use Rattle.std.proofs.lemmas.List.{map-append}
use Rattle.std.proofs.lemmas.List.Concat.{flat_map-append}
use Rattle.std.proofs.lemmas.List.Elements.{filter-append}
use Rattle.std.specs.List.{list_all}
use Rattle.plot_page.specs.declared.colour.Colour.{Colour}
use Rattle.plot_page.specs.declared.page.Page.{Page}
use Rattle.plot_page.specs.declared.pens.PenSet.{PenSet}
use Rattle.polygons.specs.declared.lines.Rule.{Rule}
use Rattle.polygons.specs.declared.lines.Rule.TheVariants.{OddCounts, Winding}
use Rattle.svg.specs.declared.places.Rectangle.{Rectangle}
use Rattle.svg.specs.Commands.{Command, command_text}
use Rattle.svg.specs.Documents.{foot_text, open_text, sheet_text, sheets_text}
use Rattle.svg.specs.Numbers.{colour_digits}
use Rattle.svg.specs.Parts.{Part, Plain, Group, part_text, parts}
use Rattle.svg.specs.Paths.{Path, clip_name, clipped_text, fill_text, path_text}
use Rattle.svg.specs.Reader.{has_only, is_element, is_known, is_title}
use Rattle.svg.specs.Readings.{part_paths, part_titles, parts_of_sheets, paths_in, titles}
use Rattle.svg.specs.Sheets.{Sheet}
use Rattle.svg.specs.Titles.{text_bytes}
use Rattle.svg.proofs.PathReads.{IsColour, IsSmallPath, colour_plain, commands_plain, decimal_plain, is_less, is_quote, name_plain, no_less, no_quote, path_known}
use Rattle.pieces.proofs.Scans.{AreWords, Cuts, Lacks, lacks_both, more_parts, no_parts, one_part, split_words}
use Rattle.svg.proofs.TitleTexts.{text_lacks}

abbrev pub is_path : List ℕ → Bool
is_path part = is_element (codes "<path") part

-- the start of a title, and its text
abbrev pub title_part : List ℕ → List ℕ
title_part text = codes "<title>" ++ text_bytes text

-- a text of elements has just these paths and titles
pub record Shows (text : List ℕ) (paths : List Path) (titles : List (List ℕ)) : Type 0 where
  pub parts : List (List ℕ)
  pub cuts : Cuts is_less text parts
  pub paths_are : filter is_path parts ≡ map path_text paths
  pub titles_are : filter is_title parts ≡ map title_part titles
  pub known : list_all is_known parts ≡ true

both_true : (a b : Bool) → a ≡ true → b ≡ true → (a && b) ≡ true
both_true a b h k = cc

-- the reader knows these parts and others
pub all_both : (ps qs : List (List ℕ)) → list_all is_known ps ≡ true → list_all is_known qs ≡ true → list_all is_known (ps ++ qs) ≡ true
all_both [] qs h k = k
all_both (p ∷ ps) qs h k =
    let both = and_parts (is_known p) (list_all is_known ps) h in
    both_true (is_known p) (list_all is_known (ps ++ qs)) both.0 (all_both ps qs both.1 k)

pub shows_none : Shows [] [] []
shows_none = record { parts = []; cuts = no_parts is_less; paths_are = refl; titles_are = refl; known = refl }

pub shows_both : {ts us : List (List ℕ)} (a b : List ℕ) (ps qs : List Path) → Shows a ps ts → Shows b qs us → Shows (a ++ b) (ps ++ qs) (ts ++ us)
shows_both {ts} {us} a b ps qs h k = record {
  parts = h.parts ++ k.parts;
  cuts = more_parts is_less a b h.parts k.parts h.cuts k.cuts;
  paths_are = filter-append is_path h.parts k.parts ∙ (λ i. h.paths_are i ++ k.paths_are i) ∙ sym (map-append path_text ps qs);
  titles_are = filter-append is_title h.parts k.parts ∙ (λ i. h.titles_are i ++ k.titles_are i) ∙ sym (map-append title_part ts us);
  known = all_both h.parts k.parts h.known k.known;
}

-- an element that is no path and no title
pub shows_other : (text : List ℕ) → Lacks is_less text → is_path (60 ∷ text) ≡ false → is_title (60 ∷ text) ≡ false → is_known (60 ∷ text) ≡ true → Shows (60 ∷ text) [] []
shows_other text h e f k = record {
  parts = (60 ∷ text) ∷ [];
  cuts = one_part is_less 60 text refl h;
  paths_are = ap (λ (b : Bool). cond b ((60 ∷ text) ∷ []) []) e;
  titles_are = ap (λ (b : Bool). cond b ((60 ∷ text) ∷ []) []) f;
  known = ap (λ (b : Bool). b && true) k;
}

-- the bytes of a path after its first one
clipped_lacks : (clip : Option Rectangle) → Lacks is_less (clipped_text clip)
clipped_lacks None = refl
clipped_lacks (Some r) =
    let n = clip_name r in
    lacks_both is_less (codes " clip-path=\"url(#" ++ n) (codes ")\"") (lacks_both is_less (codes " clip-path=\"url(#") n refl (no_less n (name_plain r))) refl

fill_lacks : (rule : Option Rule) (paint : Colour) → IsColour paint → Lacks is_less (fill_text rule (colour_digits paint))
fill_lacks None paint h = refl
fill_lacks (Some OddCounts) paint h =
    let c = colour_digits paint in
    lacks_both is_less (codes " fill=\"#" ++ c) (codes "\" fill-rule=\"evenodd\"") (lacks_both is_less (codes " fill=\"#") c refl (no_less c (colour_plain paint h))) refl
fill_lacks (Some Winding) paint h =
    let c = colour_digits paint in
    lacks_both is_less (codes " fill=\"#" ++ c) (codes "\"") (lacks_both is_less (codes " fill=\"#") c refl (no_less c (colour_plain paint h))) refl

path_lacks : (pen : ℕ) (paint : Colour) (width : ℕ) (rule : Option Rule) (clip : Option Rectangle) (lines : List Command) → IsColour paint
    → Lacks is_less (codes "path class=\"pen" ++ decimal pen ++ codes "\" stroke=\"#" ++ colour_digits paint ++ codes "\" stroke-width=\"" ++ decimal width ++ codes "\"" ++ fill_text rule (colour_digits paint) ++ clipped_text clip ++ codes " d=\"" ++ flat_map command_text lines ++ codes "\"/>\n")
path_lacks pen paint width rule clip lines h =
    let add = λ (xs ys : List ℕ) (h : Lacks is_less xs) (k : Lacks is_less ys). lacks_both is_less xs ys h k in
    let p = codes "path class=\"pen" ++ decimal pen in
    let c = p ++ codes "\" stroke=\"#" ++ colour_digits paint in
    let w = c ++ codes "\" stroke-width=\"" ++ decimal width in
    let f = w ++ codes "\"" ++ fill_text rule (colour_digits paint) in
    let k = f ++ clipped_text clip in
    let x = k ++ codes " d=\"" ++ flat_map command_text lines in
    let p_in = add (codes "path class=\"pen") (decimal pen) refl (no_less (decimal pen) (decimal_plain pen)) in
    let c_in = add (p ++ codes "\" stroke=\"#") (colour_digits paint) (add p (codes "\" stroke=\"#") p_in refl) (no_less (colour_digits paint) (colour_plain paint h)) in
    let w_in = add (c ++ codes "\" stroke-width=\"") (decimal width) (add c (codes "\" stroke-width=\"") c_in refl) (no_less (decimal width) (decimal_plain width)) in
    let f_in = add (w ++ codes "\"") (fill_text rule (colour_digits paint)) (add w (codes "\"") w_in refl) (fill_lacks rule paint h) in
    let k_in = add f (clipped_text clip) f_in (clipped_lacks clip) in
    let x_in = add (k ++ codes " d=\"") (flat_map command_text lines) (add k (codes " d=\"") k_in refl) (no_less (flat_map command_text lines) (commands_plain lines)) in
    add x (codes "\"/>\n") x_in refl

shows_path : (p : Path) → IsColour p.colour → Shows (path_text p) (p ∷ []) []
shows_path p h = record {
  parts = path_text p ∷ [];
  cuts = one_part is_less 60 _ refl (path_lacks p.pen p.colour p.width p.rule p.clip p.commands h);
  paths_are = refl;
  titles_are = refl;
  known = ap (λ (b : Bool). b && true) (path_known p h);
}

-- each of these paths is read
abbrev pub AreSmallPaths : List Path → Type 0
AreSmallPaths [] = Unit {0}
AreSmallPaths (p ∷ ps) = IsSmallPath p × AreSmallPaths ps

small_first : (ps qs : List Path) → AreSmallPaths (ps ++ qs) → AreSmallPaths ps
small_first [] qs h = tt
small_first (p ∷ ps) qs h = (h.0, small_first ps qs h.1)

small_rest : (ps qs : List Path) → AreSmallPaths (ps ++ qs) → AreSmallPaths qs
small_rest [] qs h = h
small_rest (p ∷ ps) qs h = small_rest ps qs h.1

shows_paths : (ps : List Path) → AreSmallPaths ps → Shows (flat_map path_text ps) ps []
shows_paths [] h = shows_none
shows_paths (p ∷ ps) h = shows_both (path_text p) (flat_map path_text ps) (p ∷ []) ps (shows_path p h.0.colour) (shows_paths ps h.1)

title_start : (text : List ℕ) → Shows (title_part text) [] (text ∷ [])
title_start text =
    let t = text_bytes text in
    record {
      parts = title_part text ∷ [];
      cuts = one_part is_less 60 (codes "title>" ++ t) refl (lacks_both is_less (codes "title>") t refl (text_lacks text));
      paths_are = refl;
      titles_are = refl;
      known = refl;
    }

shows_title : (text : List ℕ) → Shows (title_part text ++ codes "</title>\n") [] (text ∷ [])
shows_title text = shows_both (title_part text) (codes "</title>\n") [] [] (title_start text) (shows_other (codes "/title>\n") refl refl refl refl)

shows_part : (part : Part) → AreSmallPaths (part_paths part) → Shows (part_text part) (part_paths part) (part_titles part)
shows_part (Plain ps) h = shows_paths ps h
shows_part (Group text ps) h =
    let title = codes "<title>" ++ text_bytes text ++ codes "</title>\n" in
    let lines = flat_map path_text ps in
    let P : List Path → Type 0 = λ qs. Shows (part_text (Group text ps)) qs (text ∷ []) in
    subst P (append-nil ps) (shows_both (codes "<g>" ++ title ++ lines) (codes "</g>\n") ps []
    (shows_both (codes "<g>" ++ title) lines [] ps (shows_both (codes "<g>") title [] [] (shows_other (codes "g>") refl refl refl refl) (shows_title text)) (shows_paths ps h)) (shows_other (codes "/g>\n") refl refl refl refl))

pub shows_parts : (ps : List Part) → AreSmallPaths (paths_in ps) → Shows (flat_map part_text ps) (paths_in ps) (titles ps)
shows_parts [] h = shows_none
shows_parts (p ∷ ps) h =
    shows_both (part_text p) (flat_map part_text ps) (part_paths p) (paths_in ps) (shows_part p (small_first (part_paths p) (paths_in ps) h)) (shows_parts ps (small_rest (part_paths p) (paths_in ps) h))

pub shows_foot : Shows foot_text [] []
shows_foot = shows_both (codes "</g>") (codes "</svg>\n") [] [] (shows_other (codes "/g>") refl refl refl refl) (shows_other (codes "/svg>\n") refl refl refl refl)

-- the reader knows the start of a sheet
open_known : (number : ℕ) → is_known (open_text number) ≡ true
open_known number =
    let n = decimal number in
    let name = codes "sheet-" ++ n in
    let name_in = lacks_both is_quote (codes "sheet-") n refl (no_quote n (decimal_plain number)) in
    let are : AreWords 34 (codes " id=" ∷ name ∷ codes ">\n" ∷ []) = (refl, (name_in, (refl, tt))) in
    ap (λ (ws : List (List ℕ)). (has_only (codes "id" ∷ codes "fill" ∷ codes "stroke-linecap" ∷ codes "stroke-linejoin" ∷ []) ws || false) || false) (split_words 34 (codes " id=") (name ∷ codes ">\n" ∷ []) are)

shows_sheet : (page : Page) (pens : PenSet) (number : ℕ) (sheet : Sheet) → AreSmallPaths (paths_in (parts page pens sheet.strokes sheet.areas sheet.labels)) → Shows (sheet_text page pens number sheet) (paths_in (parts page pens sheet.strokes sheet.areas sheet.labels)) (titles (parts page pens sheet.strokes sheet.areas sheet.labels))
shows_sheet page pens number sheet h =
    let n = decimal number in
    let ps = parts page pens sheet.strokes sheet.areas sheet.labels in
    let lines = flat_map part_text ps in
    let open_in = lacks_both is_less (codes "g id=\"sheet-" ++ n) (codes "\">\n") (lacks_both is_less (codes "g id=\"sheet-") n refl (no_less n (decimal_plain number))) refl in
    let P : List Path → Type 0 = λ qs. Shows (sheet_text page pens number sheet) qs (titles ps) in
    let T : List (List ℕ) → Type 0 = λ ts. Shows (sheet_text page pens number sheet) (paths_in ps ++ []) ts in
    subst P (append-nil (paths_in ps)) (subst T (append-nil (titles ps)) (shows_both (open_text number ++ lines) (codes "</g>\n") (paths_in ps) []
    (shows_both (open_text number) lines [] (paths_in ps) (shows_other (codes "g id=\"sheet-" ++ n ++ codes "\">\n") open_in refl refl (open_known number)) (shows_parts ps h)) (shows_other (codes "/g>\n") refl refl refl refl)))

pub shows_sheets : (page : Page) (pens : PenSet) (before : ℕ) (sheets : List Sheet) → AreSmallPaths (paths_in (parts_of_sheets page pens sheets)) → Shows (sheets_text page pens before sheets) (paths_in (parts_of_sheets page pens sheets)) (titles (parts_of_sheets page pens sheets))
shows_sheets page pens before [] h = shows_none
shows_sheets page pens before (sheet ∷ sheets) h =
    let first = parts page pens sheet.strokes sheet.areas sheet.labels in
    let others = parts_of_sheets page pens sheets in
    let same : paths_in (first ++ others) ≡ paths_in first ++ paths_in others = flat_map-append part_paths first others in
    let S : List Path → Type 0 = λ qs. AreSmallPaths qs in
    let named : titles (first ++ others) ≡ titles first ++ titles others = flat_map-append part_titles first others in
    let P : List Path → Type 0 = λ qs. Shows (sheets_text page pens before (sheet ∷ sheets)) qs (titles (first ++ others)) in
    let T : List (List ℕ) → Type 0 = λ ts. Shows (sheets_text page pens before (sheet ∷ sheets)) (paths_in first ++ paths_in others) ts in
    let small = subst S same h in
    subst P (sym same) (subst T (sym named) (shows_both (sheet_text page pens (before + 1) sheet) (sheets_text page pens (before + 1) sheets) (paths_in first) (paths_in others)
    (shows_sheet page pens (before + 1) sheet (small_first (paths_in first) (paths_in others) small)) (shows_sheets page pens (before + 1) sheets (small_rest (paths_in first) (paths_in others) small))))
