use Rattle.std.proofs.Common.{◌≡◌, ◌+◌, ◌++◌, ◌∷◌, ◌∙◌, Bool, List, Option, ap, drop, refl, sym}
use Rattle.std.proofs.lemmas.List.{drop_all}
use Rattle.pieces.proofs.Texts.{all_left, last_put, next_put}
use Rattle.plot_page.specs.Segments.{Segment}
use Rattle.stroke_runs.specs.declared.shown.TheConstants.{LEAST_WIDTH}
use Rattle.svg.proofs.Texts.{next_item}
use Rattle.dxf.proofs.Marks.{next_if, none_left}
use Rattle.dxf.specs.Chains.{edge_marks, piece_of}
use Rattle.dxf.specs.Steps.{after_if, left_text, text_if}
use Rattle.dxf.specs.declared.chains.Pending.{Pending}
use Rattle.dxf.specs.declared.chains.Piece.{Piece}
use Rattle.dxf.specs.declared.layers.Layers.{Layers}
use Rattle.dxf.proofs.strokes.put_edges.Goals as goal

-- the next edge, and those after it
next_edge : (layers : Layers) (pending after : Pending) (closed : Bool) (o : Option Piece) (s : Segment) (left others : List Segment)
    → left ≡ s ∷ others → o ≡ piece_of LEAST_WIDTH closed s → after ≡ after_if pending o
    → left_text layers pending (edge_marks closed left) ≡ text_if layers pending o ++ left_text layers after (edge_marks closed others)
next_edge layers pending after closed o s left others next is later =
    ap (λ (es : List Segment). left_text layers pending (edge_marks closed es)) next
    ∙ next_if layers pending (piece_of LEAST_WIDTH closed s) (edge_marks closed others)
    ∙ ap (λ (p : Option Piece). text_if layers pending p ++ left_text layers (after_if pending p) (edge_marks closed others)) (sym is)
    ∙ ap (λ (p : Pending). text_if layers pending o ++ left_text layers p (edge_marks closed others)) (sym later)

pub loop-edge-init : goal.loop-edge-init
loop-edge-init g c = all_left c.requires.sound refl

pub loop-edge-preserved : goal.loop-edge-preserved
loop-edge-preserved g c =
    let l = c.loop-edge in
    let edges = c.args.edges.now in
    let edge = c.edge-item.result in
    next_put l.invariant c.put_next-pending.ensures.puts
    (next_edge c.args.layers.now l.pending c.put_next-pending.result c.args.closed c.piece_of.result edge (drop l.edge-index edges) (drop (l.edge-index + 1) edges)
    (next_item edges l.edge-index edge c.loop-edge-test.true c.edge-item.is) c.piece_of.ensures c.put_next-pending.ensures.after)

pub returns : goal.returns
returns g c =
    let l = c.loop-edge in
    let none = ap (λ (es : List Segment). left_text c.args.layers.now l.pending (edge_marks c.args.closed es)) (drop_all l.edge-index c.args.edges.now c.loop-edge-test.false) in
    record { puts = last_put l.invariant c.put_end.ensures.puts (none ∙ none_left c.args.layers.now l.pending) }
