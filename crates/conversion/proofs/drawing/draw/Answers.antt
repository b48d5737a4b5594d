use Rattle.std.proofs.Common.{◌∙◌, sym}
use Rattle.conversion.specs.Rules.{rules_in}
use Rattle.conversion.proofs.Turns.{turned_so, unturned_so}
use Rattle.conversion.proofs.drawing.draw.Goals as goal

pub returns-in-Ok : goal.returns-in-Ok
returns-in-Ok g c =
    let setup = c.args.request.now.setup in
    let was = g.S.Source.state c.args.source.now in
    let is = g.S.Source.state c.draw_upright.new.source in
    record {
      draws = turned_so (rules_in setup) setup.choice c.args.request.now.picture.now was is setup.turn c.in_default.not-None c.pens_of.result c.pens_of.ensures
          c.in_ok-drawing.drawing c.in_ok-drawing.ensures.draws c.in-Ok.turned c.in-Ok.ensures.turned;
      counts = c.in-Ok.ensures.turned.counts_is ∙ c.in_ok-drawing.ensures.counts;
      end = c.in_ok-drawing.ensures.end;
    }

pub returns : goal.returns
returns g c =
    let setup = c.args.request.now.setup in
    let was = g.S.Source.state c.args.source.now in
    let is = g.S.Source.state c.draw_upright.new.source in
    record {
      draws = unturned_so (rules_in setup) setup.choice c.args.request.now.picture.now was is setup.turn c.in_default.not-None c.pens_of.result c.pens_of.ensures
          c.in_ok-drawing.drawing c.in_ok-drawing.ensures.draws (sym c.in-Err.ensures.decides);
      counts = tt;
      end = c.in_ok-drawing.ensures.end;
    }
