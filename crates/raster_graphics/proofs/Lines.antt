-- Planes that are not sent, one after another.
use Rattle.std.proofs.Common.{◌≡◌, ◌∙◌, sym, ap, ℕ, suc, ◌+◌, ◌-◌, ◌<◌, ◌≤◌, [], Result, Ok, Err, arith}
use Rattle.raster_graphics.specs.declared.fault.Fault.{Fault}
use Rattle.raster_graphics.specs.declared.line.Line.{Line}
use Rattle.raster_graphics.specs.Rows.{Sending, next_plane, and_then, filled}

-- one of those that are left
pub filled_more : (end counter : ℕ) (sending : Sending) (line : Line) → counter < end
    → filled (end - counter) sending line ≡ and_then (next_plane sending [] line) (filled (end - (counter + 1)) sending)
unfolding filled
filled_more end counter sending line h =
    let e : end - counter ≡ suc (end - (counter + 1)) = omega arith in
    ap (λ (n : ℕ). filled n sending line) e

pub filled_next : (end counter : ℕ) (sending : Sending) (line next : Line) → counter < end → next_plane sending [] line ≡ Ok next
    → filled (end - (counter + 1)) sending next ≡ filled (end - counter) sending line
filled_next end counter sending line next h e =
    sym (filled_more end counter sending line h
    ∙ ap (λ (r : Result Line Fault). and_then r (filled (end - (counter + 1)) sending)) e)

pub filled_fault : (end counter : ℕ) (sending : Sending) (line : Line) (fault : Fault) → counter < end
    → next_plane sending [] line ≡ Err fault
    → filled (end - counter) sending line ≡ Err fault
filled_fault end counter sending line fault h e =
    filled_more end counter sending line h ∙ ap (λ (r : Result Line Fault). and_then r (filled (end - (counter + 1)) sending)) e

pub filled_none : (end counter : ℕ) (sending : Sending) (line : Line) → end ≤ counter
    → filled (end - counter) sending line ≡ Ok line
unfolding filled
filled_none end counter sending line h =
    let e : end - counter ≡ 0 = omega arith in
    ap (λ (n : ℕ). filled n sending line) e
