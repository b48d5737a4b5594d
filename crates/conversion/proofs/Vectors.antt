-- What is written of a vector document is one of the shapes and labels of the sheet.
use Rattle.std.proofs.Common.{◌≡◌, ◌≤◌, ◌↔◌, ◌+◌, ◌∙◌, ◌∷◌, ℕ, Bool, true, false, List, [], Result, Ok, Err, IfErr, IsErrAnd, inl, inr, length, ap, ap₂, arith, nat_le, nat_lt, refl, subst, sym}
use Rattle.std.proofs.lemmas.Bool.{cases_lt, le-leb, leb-true, lt-ltb, ltb-true}
use Rattle.rows.specs.Contents.{ContentList}
use Rattle.areas.specs.declared.area.Area.{Area}
use Rattle.labels.specs.Sheets.{all_counted}
use Rattle.labels.specs.Labels.{LabelShape}
use Rattle.plot_page.specs.Segments.{Segment}
use Rattle.plot_page.specs.declared.page.Page.{Page}
use Rattle.plot_page.specs.declared.pens.PenSet.{PenSet}
use Rattle.picture_job.specs.declared.vector_job.VectorFormat.{VectorFormat}
use Rattle.devices.specs.Sinks.{SinkState}
use Rattle.pdf.specs.Documents.{AreStreams, page_areas, pdf_bytes, pens_drawn, rows_shown, sheet_labels, sheets}
use Rattle.pdf.specs.Texts.{letter_count, line_letters}
use Rattle.pdf.specs.Writings.{WritesPdf}
use Rattle.conversion.specs.declared.fault.Fault.{Fault}
use Rattle.conversion.specs.declared.fault.Fault.TheVariants.{Letters}
use Rattle.conversion.specs.Vectors.{IsPdf, IsVector, PutsVector, has_too_many_letters, is_letters, page_ends, title_kept}
use Rattle.conversion.specs.declared.naming.Naming.{Naming}

pub puts_pdf : {U : Type 0} (u : U) (naming : Naming) (page : Page) (pens : PenSet) (strokes : List Segment) (areas : List Area) (ends pages title : List ℕ) (labels : List LabelShape)
    (sink sink' : SinkState) (n : ℕ)
    → pages ≡ page_ends (length strokes) ends → title ≡ title_kept naming.title.now
    → WritesPdf sink sink' naming.version.now title page pens strokes areas pages labels (Ok n)
    → PutsVector (IsPdf naming page pens strokes areas ends labels) sink sink' (Ok u)
puts_pdf u naming page pens strokes areas ends pages title labels sink sink' n pages_are title_is wrote =
    let streams = wrote.streams in
    let document : List ℕ → List ℕ → List ℕ =
    λ t p. pdf_bytes naming.version.now t page (pens_drawn pens strokes) (rows_shown pens strokes labels) p streams in
    let are = subst (λ p. AreStreams page pens (sheets strokes 0 p) (page_areas areas 0 p) (sheet_labels labels 0 p) streams) pages_are wrote.are in
    (document title pages, (streams, are, ap₂ document title_is pages_are), wrote.writes.0, wrote.writes.1)

-- the same document by the same format, contents, ends and labels, and the same sink
pub puts_same : {U V : Type 0} (u : U) (v : V) (format f : VectorFormat) (naming : Naming) (page : Page) (pens : PenSet) (contents s : ContentList) (ends e image_ends i : List ℕ)
    (labels l : List LabelShape) (sink sink' k : SinkState)
    → format ≡ f → s ≡ contents → e ≡ ends → i ≡ image_ends → l ≡ labels → sink' ≡ k
    → PutsVector (IsVector f naming page pens s e i l) sink k (Ok v) → PutsVector (IsVector format naming page pens contents ends image_ends labels) sink sink' (Ok u)
puts_same u v format f naming page pens contents s ends e image_ends i labels l sink sink' k is same_contents same_ends same_image_ends same_labels same_sink puts =
    let document = puts.0 in
    let shown = subst (λ g. IsVector g naming page pens contents ends image_ends labels document) (sym is)
    (subst (λ m. IsVector f naming page pens contents ends image_ends m document) same_labels
    (subst (λ n. IsVector f naming page pens contents ends n l document) same_image_ends
    (subst (λ n. IsVector f naming page pens contents n i l document) same_ends
    (subst (λ m. IsVector f naming page pens m e i l document) same_contents puts.1)))) in
    rw same_sink (document, shown, puts.2, puts.3)

-- labels have the same letters wherever their strokes are counted from
pub letters_counted : (before : ℕ) (labels : List LabelShape) → letter_count (all_counted before labels) ≡ letter_count labels
letters_counted before [] = refl
letters_counted before (l ∷ ls) = ap (λ n. line_letters l.lines + n) (letters_counted before ls)

-- too many letters are answered as such
pub too_many : {U : Type 0} (fits : Bool) (count counted most : ℕ) → (fits ≡ true) ↔ (count ≤ most) → counted ≡ count → fits ≡ false
    → (◌≡◌ {A = Result U Fault} (Err Letters) (Err Letters)) ↔ (nat_lt most counted ≡ true)
too_many fits count counted most is same none = elim (cases_lt most count) [
  | inl more ↦ (λ _. lt-ltb most counted (omega (arith, more, same)), λ _. refl)
  | inr few ↦ absurd (let all : fits ≡ true = is.1 few in cc)
]

-- and nothing else is
pub few_enough : {U : Type 0} (answer : Result U Fault) (fits : Bool) (count counted most : ℕ) → (fits ≡ true) ↔ (count ≤ most) → counted ≡ count
    → fits ≡ true → IfErr answer (λ fault. is_letters fault ≡ false) → (answer ≡ Err Letters) ↔ (nat_lt most counted ≡ true)
few_enough (Ok u) fits count counted most is same fit other =
    (λ h. absurd (cc), λ h. absurd (let few = is.0 fit in let more = ltb-true most counted h in omega arith))
few_enough (Err fault) fits count counted most is same fit other = (
  λ h. let letters : fault ≡ Letters = cc in let wrong : is_letters fault ≡ true = ap is_letters letters in absurd (cc),
  λ h. absurd (let few = is.0 fit in let more = ltb-true most counted h in omega arith),
)

-- an SVG and a DXF take any
pub never_letters : {U : Type 0} (answer : Result U Fault) → IfErr answer (λ fault. is_letters fault ≡ false) → (answer ≡ Err Letters) ↔ (false ≡ true)
never_letters (Ok u) other = (λ h. absurd (cc), λ h. absurd (cc))
never_letters (Err fault) other = (
  λ h. let letters : fault ≡ Letters = cc in let wrong : is_letters fault ≡ true = ap is_letters letters in absurd (cc),
  λ h. absurd (cc),
)

-- the test of a PDF is a comparison
pub by_test : (b : Bool) (count most : ℕ) → b ≡ nat_le count most → (b ≡ true) ↔ (count ≤ most)
by_test b count most is = (λ fit. leb-true count most (sym is ∙ fit), λ few. is ∙ le-leb count most few)

-- answers that are too many letters in the same cases say the same of the same labels in the same format
pub same_letters : {U V : Type 0} (r : Result U Fault) (s : Result V Fault) (format f : VectorFormat) (labels l : List LabelShape) → format ≡ f → l ≡ labels
    → (s ≡ Err Letters → r ≡ Err Letters) → (r ≡ Err Letters → s ≡ Err Letters) → (r ≡ Err Letters) ↔ (has_too_many_letters f l ≡ true)
    → (s ≡ Err Letters) ↔ (has_too_many_letters format labels ≡ true)
same_letters r s format f labels l is same to back letters =
    let there : has_too_many_letters format labels ≡ has_too_many_letters f l = ap₂ has_too_many_letters is (sym same) in
    (λ h. there ∙ letters.0 (to h), λ h. back (letters.1 (sym there ∙ h)))

-- an answer that is not a fault
pub no_fault : {U V : Type 0} (u : U) (v : V) → ◌≡◌ {A = Result U Fault} (Ok u) (Err Letters) → ◌≡◌ {A = Result V Fault} (Ok v) (Err Letters)
no_fault u v h = absurd (cc)

-- a fault that is passed on
pub same_fault : {U V : Type 0} (r : Result U Fault) (e : Fault) → IsErrAnd r (λ f. f ≡ e) → r ≡ Err Letters → ◌≡◌ {A = Result V Fault} (Err e) (Err Letters)
same_fault (Ok u) e is h = absurd is
same_fault (Err f) e is h = let fault : f ≡ Letters = cc in ap Err (sym is ∙ fault)

pub fault_again : {U V : Type 0} (r : Result U Fault) (e : Fault) → IsErrAnd r (λ f. f ≡ e) → ◌≡◌ {A = Result V Fault} (Err e) (Err Letters) → r ≡ Err Letters
fault_again (Ok u) e is h = absurd is
fault_again (Err f) e is h = let fault : e ≡ Letters = cc in ap Err (is ∙ fault)
