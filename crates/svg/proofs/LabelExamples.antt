-- The titles and the groups of labels.
use Rattle.std.proofs.Common.{◌≡◌, ℕ, List, [], ◌∷◌, ◌++◌, codes, map, pos, refl, replicate}
use Rattle.std.specs.Char.{encode_utf8}
use Rattle.std.specs.Fmt.{digits}
use Rattle.labels.specs.Labels.{LabelShape, LineShape}
use Rattle.labels.specs.Sheets.{all_counted}
use Rattle.labels.specs.declared.place.Place.{Place}
use Rattle.svg.specs.Documents.{foot_text, head_text, sheets_bytes, svg_bytes}
use Rattle.svg.specs.Parts.{cut_labels, parts, parts_text}
use Rattle.svg.specs.Readings.{titles}
use Rattle.svg.specs.Sheets.{labelled_sheets}
use Rattle.svg.specs.Titles.{character, label_text, text_bytes, title_text}
use Rattle.svg.proofs.Examples.{Agree, across, all_pens, dot, empty, page, up}

-- the corner of the page
abbrev corner : Place
corner = record { x = pos 0; y = pos 0 }

abbrev line : List ℕ → LineShape
line text = record { text = text; start = corner; end = corner; top = corner }

-- a label of so many strokes
abbrev label : ℕ → ℕ → List (List ℕ) → LabelShape
label first after texts = record { first = first; after = after; lines = map line texts }

-- the texts of labels
texts : Agree (
    (text_bytes (0xE9 ∷ 0x20AC ∷ 0x1_F600 ∷ []), 0xC3 ∷ 0xA9 ∷ 0xE2 ∷ 0x82 ∷ 0xAC ∷ 0xF0 ∷ 0x9F ∷ 0x98 ∷ 0x80 ∷ [])  -- é, the euro, and a face
    ∷ (text_bytes (codes "A&B<C>]]>\"'"), codes "A&amp;B&lt;C&gt;]]&gt;\"'")  -- references
    ∷ (text_bytes (0xFFFE ∷ []), 0xEF ∷ 0xBF ∷ 0xBD ∷ [])  -- what is no character is replaced
    ∷ (title_text (label_text (label 0 0 (codes "A&B" ∷ codes "C" ∷ []))), codes "<title>A&amp;B\nC</title>\n")  -- two lines
    ∷ (label_text (label 0 0 []), [])  -- no lines
    ∷ (label_text (label 0 0 ([] ∷ codes "C" ∷ [])), codes "\nC")  -- one of two lines empty
    ∷ [])
unfolding encode_utf8
texts = refl

not_characters : map character (0 ∷ 9 ∷ 13 ∷ 31 ∷ 0xD800 ∷ 0xDFFF ∷ 0xFFFE ∷ 0xFFFF ∷ 0x11_0000 ∷ []) ≡ replicate 9 0xFFFD
not_characters = refl

characters : map character (10 ∷ 32 ∷ 0xD7FF ∷ 0xE000 ∷ 0xFFFD ∷ 0x1_0000 ∷ 0x10_FFFF ∷ []) ≡ 10 ∷ 32 ∷ 0xD7FF ∷ 0xE000 ∷ 0xFFFD ∷ 0x1_0000 ∷ 0x10_FFFF ∷ []
characters = refl

-- labels that overlap, of which the last one ends before it begins
abbrev mixed : List LabelShape
mixed = label 1 3 (codes "A" ∷ []) ∷ label 2 5 (codes "B" ∷ []) ∷ label 9 7 (codes "C" ∷ []) ∷ []

cut : cut_labels 0 mixed ≡ label 1 3 (codes "A" ∷ []) ∷ label 3 5 (codes "B" ∷ []) ∷ label 9 9 (codes "C" ∷ []) ∷ []
cut = refl

-- of a label without strokes, one whose stroke is not drawn, and one after all strokes nothing is written
abbrev hidden : List LabelShape
hidden = label 1 1 (codes "A" ∷ []) ∷ label 1 2 (codes "B" ∷ []) ∷ label 7 9 (codes "C" ∷ []) ∷ []

-- what is written of labels
bodies : Agree (
    -- the strokes of a label between others
    (parts_text page all_pens (across ∷ up ∷ dot ∷ []) [] (label 1 2 (codes "A&B" ∷ codes "C" ∷ []) ∷ []), codes "<path class=\"pen1\" stroke=\"#000000\" stroke-width=\"56\" d=\"M0 608l1024 0\"/>\n" ++ codes "<g><title>A&amp;B\nC</title>\n" ++ codes "<path class=\"pen1\" stroke=\"#000000\" stroke-width=\"56\" d=\"M1024 608L1024 0\"/>\n</g>\n" ++ codes "<path class=\"pen1\" stroke=\"#000000\" stroke-width=\"56\" d=\"M16 1024l0 0\"/>\n")
    -- of a label without strokes, one whose stroke is not drawn, and one after all strokes nothing is written
    ∷ (parts_text page all_pens (across ∷ empty ∷ []) [] hidden, codes "<path class=\"pen1\" stroke=\"#000000\" stroke-width=\"56\" d=\"M0 608l1024 0\"/>\n")
    -- two sheets
    ∷ (sheets_bytes page all_pens (across ∷ up ∷ []) [] (1 ∷ []) (label 1 2 (codes "<" ∷ []) ∷ []), head_text page ++ codes "<g id=\"sheet-1\">\n<path class=\"pen1\" stroke=\"#000000\" stroke-width=\"56\" d=\"M0 608l1024 0\"/>\n</g>\n<g id=\"sheet-2\">\n<g><title>&lt;</title>\n" ++ codes "<path class=\"pen1\" stroke=\"#000000\" stroke-width=\"56\" d=\"M1024 608L1024 0\"/>\n</g>\n</g>\n" ++ foot_text)
    -- a document
    ∷ (svg_bytes page all_pens (across ∷ []) [] (label 0 1 (codes "A" ∷ []) ∷ []), head_text page ++ codes "<g><title>A</title>\n<path class=\"pen1\" stroke=\"#000000\" stroke-width=\"56\" d=\"M0 608l1024 0\"/>\n</g>\n" ++ foot_text)
    ∷ [])
unfolding digits encode_utf8
bodies = refl

no_titles : titles (parts page all_pens (across ∷ empty ∷ []) [] hidden) ≡ []
no_titles = refl

-- the stroke of two labels belongs to the first one, and the second one has no other
one_title : titles (parts page all_pens (across ∷ up ∷ []) [] (label 0 2 (codes "A" ∷ []) ∷ label 1 2 (codes "B" ∷ []) ∷ [])) ≡ codes "A" ∷ []
one_title = refl

-- the sheets of three strokes, of which each one is a label; two strokes come before these
labels_of_sheets : labelled_sheets (across ∷ up ∷ dot ∷ []) [] (1 ∷ []) (all_counted 2 (label 2 3 (codes "A" ∷ []) ∷ label 3 4 (codes "B" ∷ []) ∷ label 4 5 (codes "C" ∷ []) ∷ []))
    ≡ record { strokes = across ∷ []; areas = []; labels = label 0 1 (codes "A" ∷ []) ∷ [] } ∷ record { strokes = up ∷ dot ∷ []; areas = []; labels = label 0 1 (codes "B" ∷ []) ∷ label 1 2 (codes "C" ∷ []) ∷ [] } ∷ []
labels_of_sheets = refl
