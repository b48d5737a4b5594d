use Rattle.std.proofs.Common.{◌≡◌, arith, subst, sym, Option, Some, true}
use Rattle.plot_settings.specs.Meanings.{Touch, Lower}
use Rattle.full_plot.specs.declared.plotter.FullPlotter.{FullPlotter}
use Rattle.full_plot.specs.Worlds.{FullWorld}
use Rattle.full_plot.specs.Machine.{seen, core_step, Runs}
use Rattle.full_plot.proofs.FullRuns.{lower_short, lower_long}
use Rattle.full_plot.proofs.plotter.FullPlotter.lower.Goals as goal
use Rattle.full_plot.proofs.plotter.FullPlotter.lower.Goals.{then-len-lt2+in_ok-touch, else-len-lt2}

pub returns : goal.returns
returns c =
    let a = seen c.args.self.now in
    let m = seen c.if-len-lt2.self in
    let z = seen c.set_down.new.self in
    let ns = c.args.numbers.now in
    elim c.if-len-lt2.branch [
      | then-len-lt2+in_ok-touch w ↦ (let h : core_step a Touch ≡ Some m = subst (λ (s : FullPlotter). core_step a Touch ≡ Some (seen s)) (sym w.self-is) w.in_ok-touch.ensures in
          subst (λ (o : Option FullWorld). Runs o (seen c.follow.new.self) c.follow.result) (sym (lower_short a m z ns (omega (arith, w.if-len-lt2.true, c.len.ensures)) h c.set_down.ensures)) c.follow.ensures)
      | else-len-lt2 w ↦ (let k : core_step a (Lower true) ≡ Some z = subst (λ (s : FullPlotter). core_step (seen s) (Lower true) ≡ Some z) w.self-is c.set_down.ensures in
          subst (λ (o : Option FullWorld). Runs o (seen c.follow.new.self) c.follow.result) (sym (lower_long a z ns (omega (arith, w.if-len-lt2.false, c.len.ensures)) k)) c.follow.ensures)
    ]
