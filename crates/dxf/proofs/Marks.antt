-- What is written piece by piece is the text of the chains.
use Rattle.std.proofs.Common.{◌≡◌, ℕ, List, [], ◌∷◌, ◌++◌, flat_map, Bool, true, false, cond, refl, ap, sym, ◌∙◌, append_assoc, append-nil, Option, Some, None}
use Rattle.dxf.specs.Chains.{Break, Following, Mark, Seen, following, going_on, beginning, goes_on, mark_if}
use Rattle.dxf.specs.Entities.{chain_text, chains_text, last_of, polyline_end, polyline_start, single_text, start_vertex}
use Rattle.dxf.specs.Steps.{after_if, after_piece, end_text, left_text, piece_text, text_if}
use Rattle.dxf.specs.declared.chains.Pending.{Pending}
use Rattle.dxf.specs.declared.chains.Pending.TheVariants.{Nothing, Single, Open}
use Rattle.dxf.specs.declared.chains.Piece.{Piece}
use Rattle.dxf.specs.declared.cuts.Point.{Point}
use Rattle.dxf.specs.declared.layers.Layers.{Layers}

-- a polyline begins: p is its start, s and n its first vertices, f the others, e its end, and c what comes after it
opened : (p s n f e c : List ℕ) → ((p ++ s) ++ (n ++ f)) ++ e ++ c ≡ ((p ++ s) ++ n) ++ ((f ++ e) ++ c)
opened p s n f e c = simp append_assoc

-- and goes on
gone_on : (n f e c : List ℕ) → (n ++ f) ++ e ++ c ≡ n ++ ((f ++ e) ++ c)
gone_on n f e c = simp append_assoc

-- what is written for a piece after one of which nothing is written yet, and after it
second : (b : Bool) (layers : Layers) (last next : Piece) (f : Following)
    → chain_text layers last (cond b (going_on next f) (beginning next f)).rest ++ chains_text layers (cond b (going_on next f) (beginning next f)).chains
    ≡ cond b (polyline_start layers last ++ start_vertex layers last ++ start_vertex layers next) (single_text layers last)
    ++ cond b (flat_map (start_vertex layers) f.rest ++ polyline_end layers last.from (last_of next f.rest) ++ chains_text layers f.chains) (chain_text layers next f.rest ++ chains_text layers f.chains)
second true layers last next f =
    opened (polyline_start layers last) (start_vertex layers last) (start_vertex layers next) (flat_map (start_vertex layers) f.rest) (polyline_end layers last.from (last_of next f.rest)) (chains_text layers f.chains)
second false layers last next f = refl

later : (b : Bool) (layers : Layers) (start : Point) (last next : Piece) (f : Following)
    → flat_map (start_vertex layers) (cond b (going_on next f) (beginning next f)).rest ++ polyline_end layers start (last_of last (cond b (going_on next f) (beginning next f)).rest) ++ chains_text layers (cond b (going_on next f) (beginning next f)).chains
    ≡ cond b (start_vertex layers next) (polyline_end layers start last)
    ++ cond b (flat_map (start_vertex layers) f.rest ++ polyline_end layers start (last_of next f.rest) ++ chains_text layers f.chains) (chain_text layers next f.rest ++ chains_text layers f.chains)
later true layers start last next f =
    gone_on (start_vertex layers next) (flat_map (start_vertex layers) f.rest) (polyline_end layers start (last_of next f.rest)) (chains_text layers f.chains)
later false layers start last next f = refl

-- what is left after a chain has gone on, or another one has begun
left_by : (b : Bool) (layers : Layers) (p q : Pending) (ms : List Mark) → cond b (left_text layers p ms) (left_text layers q ms) ≡ left_text layers (cond b p q) ms
left_by true layers p q ms = refl
left_by false layers p q ms = refl

-- the next piece, and those after it
pub next_piece : (layers : Layers) (pending : Pending) (next : Piece) (ms : List Mark)
    → left_text layers pending (Seen next ∷ ms) ≡ piece_text layers pending next ++ left_text layers (after_piece pending next) ms
next_piece layers Nothing next ms = refl
next_piece layers (Single last) next ms =
    let goes = goes_on last next in
    second goes layers last next (following (Some next) ms)
    ∙ ap (λ (z : List ℕ). piece_text layers (Single last) next ++ z) (left_by goes layers (Open last.from next) (Single next) ms)
next_piece layers (Open start last) next ms =
    let goes = goes_on last next in
    later goes layers start last next (following (Some next) ms)
    ∙ ap (λ (z : List ℕ). piece_text layers (Open start last) next ++ z) (left_by goes layers (Open start next) (Single next) ms)

-- the next piece, if there is one
pub next_if : (layers : Layers) (pending : Pending) (o : Option Piece) (ms : List Mark)
    → left_text layers pending (mark_if o ++ ms) ≡ text_if layers pending o ++ left_text layers (after_if pending o) ms
next_if layers pending None ms = refl
next_if layers pending (Some next) ms = next_piece layers pending next ms

-- after the last piece a chain ends
pub none_left : (layers : Layers) (pending : Pending) → left_text layers pending [] ≡ end_text layers pending
none_left layers Nothing = refl
none_left layers (Single last) = append-nil (single_text layers last)
none_left layers (Open start last) = append-nil (polyline_end layers start last)

-- and where each chain ends
pub at_break : (layers : Layers) (pending : Pending) (ms : List Mark) → left_text layers pending (Break ∷ ms) ≡ end_text layers pending ++ left_text layers Nothing ms
at_break layers Nothing ms = refl
at_break layers (Single last) ms = refl
at_break layers (Open start last) ms = refl

-- pieces up to a break, and what comes after it
pub to_break : (layers : Layers) (pending : Pending) (ms ns : List Mark)
    → left_text layers pending (ms ++ Break ∷ ns) ≡ left_text layers pending ms ++ left_text layers Nothing ns
to_break layers pending [] ns = at_break layers pending ns ∙ ap (λ (z : List ℕ). z ++ left_text layers Nothing ns) (sym (none_left layers pending))
to_break layers pending (Seen next ∷ ms) ns =
    next_piece layers pending next (ms ++ Break ∷ ns)
    ∙ ap (λ (z : List ℕ). piece_text layers pending next ++ z) (to_break layers (after_piece pending next) ms ns)
    ∙ sym (append_assoc (piece_text layers pending next) (left_text layers (after_piece pending next) ms) (left_text layers Nothing ns))
    ∙ ap (λ (z : List ℕ). z ++ left_text layers Nothing ns) (sym (next_piece layers pending next ms))
to_break layers pending (Break ∷ ms) ns =
    at_break layers pending (ms ++ Break ∷ ns)
    ∙ ap (λ (z : List ℕ). end_text layers pending ++ z) (to_break layers Nothing ms ns)
    ∙ sym (append_assoc (end_text layers pending) (left_text layers Nothing ms) (left_text layers Nothing ns))
    ∙ ap (λ (z : List ℕ). z ++ left_text layers Nothing ns) (sym (at_break layers pending ms))
