-- The climbs of all edges, one edge after another.
use Rattle.std.proofs.Common.{◌≡◌, ℕ, suc, ◌+◌, ◌<◌, List, [], ◌∷◌, ◌++◌, take, length, get_or, sym, ap, ◌∙◌, arith, append_assoc}
use Rattle.std.proofs.lemmas.List.{take_more, append-nil, length-take}
use Rattle.polygons.specs.declared.edge.Edge.{Edge}
use Rattle.polygons.specs.declared.lines.Lines.{Lines}
use Rattle.polygons.specs.Climbs.{climb_of, climbs_of}

one_more : (lines : Lines) (n : ℕ) (es : List Edge) (e : Edge) → climbs_of lines n (es ++ (e ∷ [])) ≡ climbs_of lines n es ++ climb_of lines (n + length es) e
one_more lines n [] e = let z : n ≡ n + 0 = omega arith in append-nil (climb_of lines n e) ∙ ap (λ i. climb_of lines i e) z
one_more lines n (x ∷ es) e =
    let z : suc n + length es ≡ n + suc (length es) = omega arith in
    ap (λ cs. climb_of lines n x ++ cs) (one_more lines (suc n) es e ∙ ap (λ i. climbs_of lines (suc n) es ++ climb_of lines i e) z)
    ∙ sym (append_assoc (climb_of lines n x) (climbs_of lines (suc n) es) (climb_of lines (n + suc (length es)) e))

pub collected : (lines : Lines) (edges : List Edge) (i : ℕ) (e : Edge) → i < length edges → e ≡ get_or edges i e
    → climbs_of lines 0 (take (i + 1) edges) ≡ climbs_of lines 0 (take i edges) ++ climb_of lines i e
collected lines edges i e l is =
    let z : 0 + length (take i edges) ≡ i = omega (arith, length-take i edges) in
    ap (climbs_of lines 0) (take_more edges i e l ∙ ap (λ x. take i edges ++ (x ∷ [])) (sym is))
    ∙ one_more lines 0 (take i edges) e
    ∙ ap (λ n. climbs_of lines 0 (take i edges) ++ climb_of lines n e) z
