use Rattle.std.proofs.Common.{◌≡◌, ◌∙◌, sym, ap, ℕ, ◌-◌, arith, Result}
use Rattle.std.proofs.lemmas.Result.{err_from_is_err_and}
use Rattle.raster_graphics.specs.declared.fault.Fault.{Fault}
use Rattle.raster_graphics.specs.Rows.{Sending, filled}
use Rattle.raster_graphics.specs.declared.line.Line.{Line}
use Rattle.raster_graphics.specs.Views.{sending_of}
use Rattle.raster_graphics.proofs.Lines.{filled_next, filled_fault, filled_none}
use Rattle.raster_graphics.proofs.line.Line.fill.Goals as goal

as_counted : (n end : ℕ) (sending : Sending) (line : Line) (r : Result Line Fault) → end ≡ n → filled end sending line ≡ r
    → filled n sending line ≡ r
as_counted n end sending line r e h = ap (λ (k : ℕ). filled k sending line) (sym e) ∙ h

pub loop-init : goal.loop-init
loop-init c = record {
  end = c.plane_count-end.ensures.value;
  left = let e : c.plane_count-end.result - 0 ≡ c.plane_count-end.result = omega arith in
      ap (λ (k : ℕ). filled k (sending_of c.args.sending) c.args.self.now) e;
}

pub loop-preserved : goal.loop-preserved
loop-preserved c = record {
  end = c.loop.invariant.end;
  left = filled_next c.plane_count-end.result c.loop.counter
      (sending_of c.args.sending) c.loop.self c.send.new.self c.loop-test.true c.in_ok-send.ensures.line
      ∙ c.loop.invariant.left;
}

pub returns-in_err-send-clause-refused : goal.returns-in_err-send-clause-refused
returns-in_err-send-clause-refused c =
    let p = err_from_is_err_and c.from_residual.result c.from_residual.ensures.1 in
    rw (p.1, p.2) (λ e. as_counted _ c.plane_count-end.result (sending_of c.args.sending) c.args.self.now _ c.loop.invariant.end
    (sym c.loop.invariant.left
    ∙ filled_fault c.plane_count-end.result c.loop.counter (sending_of c.args.sending) c.loop.self _ c.loop-test.true
    (c.in_err-send.ensures.refused e)))

pub returns-clause-line : goal.returns-clause-line
returns-clause-line c =
    as_counted _ c.plane_count-end.result (sending_of c.args.sending) c.args.self.now _ c.loop.invariant.end
    (sym c.loop.invariant.left ∙ filled_none c.plane_count-end.result c.loop.counter
    (sending_of c.args.sending) c.loop.self c.loop-test.false)
