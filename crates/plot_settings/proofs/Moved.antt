-- P1 and P2 that are moved together stay apart, and in their range.
use Rattle.std.proofs.Common.{◌≡◌, ◌≢◌, ◌≤◌, ◌^◌, subst, sym, ℤ, pos, ◌+ℤ◌, ◌-ℤ◌, nat_abs, arith}
use Rattle.std.proofs.lemmas.Int.{ints}
use Rattle.plot_frame.specs.declared.scaling.Ends.{Ends}
use Rattle.plot_frame.specs.Bounds.{IsEnds}
use Rattle.plot_settings.specs.Bounds.{IsPlotterUnit}
use Rattle.plot_settings.specs.Parameters.{moved_ends}

pub moved_by : (x d : ℤ) → (x +ℤ d) -ℤ x ≡ d
moved_by x d = omega (arith, ints)

pub moved_sound : (e : Ends) (x : ℤ) → IsEnds e → IsPlotterUnit x → IsEnds (moved_ends e x)
moved_sound e x h k =
    let d = sym (moved_by x (e.last -ℤ e.first)) in
    record {
      first_in = omega arith;
      distance_in = subst (λ (d : ℤ). nat_abs d ≤ 2 ^ 25) d h.distance_in;
      apart = subst (λ (d : ℤ). d ≢ pos 0) d h.apart;
    }
