use Rattle.std.proofs.Common.{None, ◌∙◌, ◌∷◌, [], Some, ap, arith, inr, refl}
use Rattle.output_files.specs.Claims.{is_claimed}
use Rattle.delivery.specs.Deeds.{Deed, Item}
use Rattle.delivery.specs.Deliveries.{Anything, IsPut}
use Rattle.delivery.specs.Folders.{IsClear, IsOutputPut}
use Rattle.delivery.proofs.Delivered.{after_look, adapted, only_refused}
use Rattle.delivery.proofs.Folders.{clear_after, kept_plots, only_sheet, output_right}
use Rattle.delivery.proofs.folder.deliver_opened.Goals as goal

pub returns-in-Err-clause-delivers : goal.returns-in-Err-clause-delivers
returns-in-Err-clause-delivers g c = λ plots _.
    only_refused g.D.Voice.does plots None Anything (IsOutputPut c.args.target.folder.now c.args.target.file.now c.args.target.extension.now) c.args.desk.now
    c.refuse_path.new.desk c.refuse_path.result c.refuse_path.ensures.says.0 c.refuse_path.ensures.says.1 c.refuse_path.ensures.status

pub returns-in_default-clause-delivers : goal.returns-in_default-clause-delivers
returns-in_default-clause-delivers g c = λ plots _.
    let folder = c.args.target.folder.now in
    let file = c.args.target.file.now in
    let extension = c.args.target.extension.now in
    let output = IsOutputPut folder file extension in
    let look = Deed.looked c.as_str-path.result.now c.id_at-found.ensures.0 in
    after_look g.D.Voice.does plots None Anything Anything output c.args.desk.now c.id_at-found.new.desk c.refuse_memory.new.desk c.as_str-path.result.now
    c.id_at-found.ensures.0 c.refuse_memory.result c.id_at-found.ensures.1
    (only_refused g.D.Voice.does plots None Anything output c.id_at-found.new.desk c.refuse_memory.new.desk c.refuse_memory.result c.refuse_memory.ensures.says.0
    c.refuse_memory.ensures.says.1 (omega (arith, c.refuse_memory.ensures.status)))
    (λ _ _. tt) (λ deeds put. output_right folder file extension (look ∷ []) deeds put)

pub returns-then-is_apart-clause-delivers : goal.returns-then-is_apart-clause-delivers
returns-then-is_apart-clause-delivers g c = λ plots are.
    let folder = c.args.target.folder.now in
    let file = c.args.target.file.now in
    let extension = c.args.target.extension.now in
    let output = IsOutputPut folder file extension in
    let look = Deed.looked c.as_str-path.result.now c.id_at-found.ensures.0 in
    after_look g.D.Voice.does plots None Anything (IsClear plots c.in-Ok-claim.claim c.as_str-path.result.now) output c.args.desk.now c.id_at-found.new.desk
    c.deliver_sheets.new.desk c.as_str-path.result.now
    c.id_at-found.ensures.0 c.deliver_sheets.result c.id_at-found.ensures.1
    (c.deliver_sheets.ensures.delivers plots (kept_plots c.args.claims.now c.claim.new.self plots c.claim.ensures.plots are))
    (λ earlier _. clear_after c.args.claims.now plots (is_claimed c.args.claims.now c.as_str-path.result.now) c.in-Ok-claim.claim c.as_str-path.result.now
    c.id_at-found.ensures.0 c.id_at-found.result earlier are c.id_at-found.ensures.2 c.in-Ok-claim.ensures.answer)
    (λ deeds put. output_right folder file extension (look ∷ []) deeds put)

pub returns-then-is_apart-clause-plots : goal.returns-then-is_apart-clause-plots
returns-then-is_apart-clause-plots g c = λ plots are.
    c.deliver_sheets.ensures.plots plots (kept_plots c.args.claims.now c.claim.new.self plots c.claim.ensures.plots are)

pub returns-clause-delivers : goal.returns-clause-delivers
returns-clause-delivers g c = λ plots are.
    let folder = c.args.target.folder.now in
    let file = c.args.target.file.now in
    let extension = c.args.target.extension.now in
    let path = c.as_str-path.result.now in
    let output = IsOutputPut folder file extension in
    let item : Item = record { file = file; sheet = 0 } in
    let look = Deed.looked path c.id_at-found.ensures.0 in
    after_look g.D.Voice.does plots None Anything (IsClear plots c.in-Ok-claim.claim path) output c.args.desk.now c.id_at-found.new.desk c.deliver_claimed.new.desk path
    c.id_at-found.ensures.0 c.deliver_claimed.result c.id_at-found.ensures.1
    (adapted g.D.Voice.does plots None (IsClear plots c.in-Ok-claim.claim path) (IsClear plots c.in-Ok-claim.claim path) (IsPut item path) output c.id_at-found.new.desk c.deliver_claimed.new.desk c.deliver_claimed.result
    (c.deliver_claimed.ensures plots (kept_plots c.args.claims.now c.claim.new.self plots c.claim.ensures.plots are)) (λ _ clear. clear)
    (λ deeds put. only_sheet folder file extension path item deeds (inr (refl, refl)) (ap Some c.as_str-path.ensures.value ∙ c.in-Ok.ensures.path) put))
    (λ earlier _. clear_after c.args.claims.now plots (is_claimed c.args.claims.now c.as_str-path.result.now) c.in-Ok-claim.claim c.as_str-path.result.now
    c.id_at-found.ensures.0 c.id_at-found.result earlier are c.id_at-found.ensures.2 c.in-Ok-claim.ensures.answer)
    (λ deeds put. output_right folder file extension (look ∷ []) deeds put)
