use Rattle.std.proofs.Common.{Some, inl, refl}
use Rattle.output_files.specs.Claims.{is_plot}
use Rattle.delivery.specs.Deeds.{Item}
use Rattle.delivery.specs.Care.{MayReplace}
use Rattle.delivery.specs.Deliveries.{Anything, IsPut}
use Rattle.delivery.proofs.Delivered.{adapted}
use Rattle.delivery.proofs.single.deliver_plot_to.Goals as goal

pub returns : goal.returns
returns g c =
    let path = c.args.path.now in
    let plots = is_plot c.args.scene.plots.now in
    let item : Item = record { file = c.args.file.now; sheet = 0 } in
    adapted g.D.Voice.does plots (Some path) Anything (MayReplace plots (Some path) path) (IsPut item path) (IsPut item path) c.args.desk.now c.deliver_to.new.desk
    c.deliver_to.result (c.deliver_to.ensures (Some path)) (λ _ _. inl refl) (λ _ put. put)
