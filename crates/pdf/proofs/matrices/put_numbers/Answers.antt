use Rattle.std.proofs.Common.{◌≡◌, ◌∙◌, ℕ, ℤ, List, ap, ap₂, rules, length}
use Rattle.std.proofs.lemmas.Int.{to_z-of_z}
use mir.Syntax.{w32, w64}
use mir.Val.{SFits}
use Rattle.labels.specs.Labels.{LineShape}
use Rattle.pdf.specs.Texts.{above, along}
use Rattle.pdf.proofs.Contained.{fills_as}
use Rattle.pdf.proofs.LetterTexts.{matrix_as}
use Rattle.pdf.proofs.matrices.put_numbers.Goals as goal

pub returns : goal.returns
returns g c =
    let line = c.args.line.now in
    let start = c.line.inside.start in
    let end = c.line.inside.end in
    let top = c.line.inside.top in
    let start_x : SFits w32 start.x = search rules in
    let start_y : SFits w32 start.y = search rules in
    let end_x : SFits w32 end.x = search rules in
    let end_y : SFits w32 end.y = search rules in
    let top_x : SFits w32 top.x = search rules in
    let top_y : SFits w32 top.y = search rules in
    let a : c.along-a.result ≡ along line.start.x line.end.x (length line.text) =
    c.along-a.ensures ∙ ap₂ (λ (p q : ℤ). along p q (length c.as_slice.result.now)) (to_z-of_z w32 start.x start_x) (to_z-of_z w32 end.x end_x)
    ∙ ap (λ (zs : List ℕ). along start.x end.x (length zs)) c.as_slice.ensures.value ∙ ap (λ (l : LineShape). along l.start.x l.end.x (length l.text)) c.line.view_is in
    let b : c.along-b.result ≡ along line.start.y line.end.y (length line.text) =
    c.along-b.ensures ∙ ap₂ (λ (p q : ℤ). along p q (length c.as_slice.result.now)) (to_z-of_z w32 start.y start_y) (to_z-of_z w32 end.y end_y)
    ∙ ap (λ (zs : List ℕ). along start.y end.y (length zs)) c.as_slice.ensures.value ∙ ap (λ (l : LineShape). along l.start.y l.end.y (length l.text)) c.line.view_is in
    let third : c.above-c.result ≡ above line.start.x line.top.x = c.above-c.ensures ∙ ap₂ (λ (p q : ℤ). above p q) (to_z-of_z w32 start.x start_x) (to_z-of_z w32 top.x top_x)
    ∙ ap (λ (l : LineShape). above l.start.x l.top.x) c.line.view_is in
    let d : c.above-d.result ≡ above line.start.y line.top.y = c.above-d.ensures ∙ ap₂ (λ (p q : ℤ). above p q) (to_z-of_z w32 start.y start_y) (to_z-of_z w32 top.y top_y)
    ∙ ap (λ (l : LineShape). above l.start.y l.top.y) c.line.view_is in
    let fits_a : SFits w64 c.along-a.result = search rules in
    let fits_b : SFits w64 c.along-b.result = search rules in
    let fits_c : SFits w64 c.above-c.result = search rules in
    let fits_d : SFits w64 c.above-d.result = search rules in
    record { fills = fills_as (simp to_z-of_z at c.put_four.ensures.fills) (matrix_as line _ _ _ _ a b third d) }
