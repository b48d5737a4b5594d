use Rattle.std.proofs.Common.{arith, ◌≡◌, ◌∙◌, ◌+◌, ◌<◌, ◌++◌, ap, sym, refl, List, ℕ, length, Option, option_map, None, length-drop}
use Rattle.std.specs.List.{cons_option}
use Rattle.hpgl_text.specs.EntryShapes.{PartShape, EntryShape}
use Rattle.hpgl_text.specs.Polylines.{part_of, entry}
use Rattle.hpgl_text.specs.Polylines.{Piece}
use Rattle.hpgl_text.specs.Carried.{entries_left}
use Rattle.hpgl_text.proofs.EntriesLeft.{last_read, next_read}
use Rattle.hpgl_text.proofs.polyline.entries.Entries.next_of_any.Goals as goal
use Rattle.hpgl_text.proofs.polyline.entries.Entries.next_of_any.Goals.{then-is_final_kind, else-is_final_kind, Joined-is_final_kind}

-- the entry of the piece that was read, if it has one, and what is left
read : (c : Joined-is_final_kind) (part : Option PartShape) → part_of c.pieces.self-inside.coding c.piece.inside.kind ≡ part
    → c.args.self.now ≡ cons_option (option_map (entry c.pieces.self-inside.at) part) (c.if-is_final_kind.self-inside.strays
    ++ entries_left c.if-is_final_kind.self-inside.closed c.if-is_final_kind.self-inside.coding c.if-is_final_kind.self-inside.at c.if-is_final_kind.self-inside.text.now)
read c part is_part =
    let s = c.pieces.self-inside in
    let p = c.piece.inside in
    let piece : Piece = record { kind = p.kind; gap_at = p.gap_at; gap = p.gap.now; bytes = p.bytes } in
    let is = c.piece.view_is ∙ c.read_piece-piece.ensures.value in
    let some : 0 < length s.text.now = omega arith in
    let begun = sym c.pieces.invariant.same ∙ ap (λ (es : List EntryShape). es ++ entries_left s.closed s.coding s.at s.text.now) c.in_default.ensures.steps.0 in
    begun ∙ (elim c.if-is_final_kind.branch [
      | then-is_final_kind w ↦ rw w.self-inside-is (last_read s.closed s.coding s.at s.text.now piece part c.new-self-inside.result s.at
          some is (sym c.is_final_kind.ensures ∙ w.if-is_final_kind.true) is_part c.new-self-inside.ensures)
      | else-is_final_kind w ↦ rw w.self-inside-is (next_read s.closed s.coding w.carry.new.coding s.at (s.at + p.bytes) s.text.now w.after-self-inside.result.now piece part c.new-self-inside.result
          some is (sym c.is_final_kind.ensures ∙ w.if-is_final_kind.false) is_part c.new-self-inside.ensures w.carry.ensures refl w.after-self-inside.ensures)
    ])

pub returns-in-Some-part : goal.returns-in-Some-part
returns-in-Some-part c = read (goal.at.returns-in-Some-part c).Joined-is_final_kind _ c.in-Some-part.ensures

pub pieces-preserved : goal.pieces-preserved
pieces-preserved c = record {
  same = sym (read (goal.at.pieces-preserved c).Joined-is_final_kind None c.in_default-part.ensures);
  room = elim c.if-is_final_kind.branch [
    | then-is_final_kind w ↦ rw w.self-inside-is (omega (arith, c.pieces.invariant.room))
    | else-is_final_kind w ↦ rw w.self-inside-is (omega (arith, c.pieces.invariant.room, ap (λ (x : Piece). x.bytes) c.piece.view_is, ap (λ (t : List ℕ). length t) w.after-self-inside.ensures, length-drop c.piece.inside.bytes c.pieces.self-inside.text.now))
  ];
}
