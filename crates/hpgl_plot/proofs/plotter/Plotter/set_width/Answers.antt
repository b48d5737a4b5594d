use Rattle.std.proofs.Common.{rules}
use Rattle.hpgl_plot.proofs.plotter.Plotter.set_width.Goals as goal

pub invariant_of-self : goal.invariant_of-self
invariant_of-self c =
    let s = c.args.self.now.sound in
    record {
      sound = record {
        range_in = s.range_in;
        framed = s.framed;
        x_near = s.x_near;
        y_near = s.y_near;
        place = s.place;
        window = s.window;
        widths = search rules;
      };
    }
