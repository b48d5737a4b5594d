use Rattle.std.proofs.Common.{◌∙◌, ◌∷◌, [], inl, inr, sym}
use Rattle.output_files.specs.Claims.{is_plot}
use Rattle.delivery.specs.Care.{MayReplace}
use Rattle.delivery.specs.Deeds.{Deed}
use Rattle.delivery.specs.Deliveries.{IsNamed, IsPut, IsReachable}
use Rattle.delivery.proofs.DeedLemmas.{has_last, replace_longer}
use Rattle.delivery.proofs.Delivered.{adapted, after_look, put_later}
use Rattle.delivery.proofs.output.deliver_to.Goals as goal

pub returns-then-is_open_file : goal.returns-then-is_open_file
returns-then-is_open_file g c = λ own.
    let plots = is_plot c.args.scene.plots.now in
    let path = c.args.path.now in
    adapted g.D.Voice.does plots own (MayReplace plots own path) (IsReachable path) (IsPut (g.C.Content.item c.args.content) path) (IsPut (g.C.Content.item c.args.content) path) c.args.desk.now c.write_device.new.desk
    c.write_device.result (c.write_device.ensures plots own)
    (λ _ _. inl (sym c.is_open_file.ensures ∙ c.if-is_open_file.true)) (λ _ put. put)

pub returns-then-has_device : goal.returns-then-has_device
returns-then-has_device g c = λ own.
    let plots = is_plot c.args.scene.plots.now in
    let path = c.args.path.now in
    let found = c.has_device.ensures.0 in
    after_look g.D.Voice.does plots own (MayReplace plots own path) (IsReachable path) (IsPut (g.C.Content.item c.args.content) path) c.args.desk.now c.has_device.new.desk
    c.write_device-then-has_device.new.desk path found c.write_device-then-has_device.result c.has_device.ensures.1
    (c.write_device-then-has_device.ensures plots own)
    (λ earlier _. inr (record { found = found; looked = has_last earlier (Deed.looked path found); no_file = sym c.has_device.ensures.2 ∙ c.if-has_device.true }))
    (λ deeds put. put_later (g.C.Content.item c.args.content) path (Deed.looked path found) deeds put)

pub returns : goal.returns
returns g c = λ own.
    let plots = is_plot c.args.scene.plots.now in
    let path = c.args.path.now in
    let found = c.has_device.ensures.0 in
    after_look g.D.Voice.does plots own (MayReplace plots own path) (MayReplace plots own path) (IsPut (g.C.Content.item c.args.content) path) c.args.desk.now c.has_device.new.desk c.write_file.new.desk path found c.write_file.result
    c.has_device.ensures.1
    (adapted g.D.Voice.does plots own (MayReplace plots own path) (MayReplace plots own path) (IsNamed (g.C.Content.item c.args.content) path) (IsPut (g.C.Content.item c.args.content) path) c.has_device.new.desk
    c.write_file.new.desk c.write_file.result (c.write_file.ensures own) (λ _ may. may) (λ _ has. inl has))
    (λ earlier may. replace_longer plots own earlier (Deed.looked path found ∷ []) path may) (λ deeds put. put_later (g.C.Content.item c.args.content) path (Deed.looked path found) deeds put)
