use Rattle.std.proofs.Common.{ℕ, Bor, Bool, List, None, Option, arith, false, map, subst}
use Rattle.output_files.specs.declared.file_id.FileId.{FileId}
use Rattle.output_files.specs.Claims.{is_plot}
use Rattle.delivery.specs.Folders.{ArePlotsPut}
use Rattle.delivery.specs.Looks.{LooksForPlots}
use Rattle.delivery.specs.Runs.{plots_of}
use Rattle.delivery.proofs.Folders.{plots_right}
use Rattle.delivery.proofs.Looking.{careful, refused_after_looks}
use Rattle.delivery.proofs.run.deliver_all.Goals as goal

abbrev texts : List (Bor (List ℕ)) → List (List ℕ)
texts files = map (λ (file : Bor (List ℕ)). file.now) files

pub returns-in_default : goal.returns-in_default
returns-in_default g c =
    let none : Option FileId → Bool = λ _. false in (
      none,
      refused_after_looks g.D.Voice.does none None (plots_of (texts c.args.order.files.now))
          (ArePlotsPut c.args.order.folder.now c.args.order.extension.now (texts c.args.order.files.now)) c.args.desk.now c.claims_of.new.desk c.refuse_memory.new.desk
          c.refuse_memory.result c.refuse_memory.ensures.says.0 c.in_default.ensures.looks c.refuse_memory.ensures.says.1 (omega (arith, c.refuse_memory.ensures.status)),
    )

pub returns : goal.returns
returns g c =
    let plots = is_plot c.in-Ok.claims in
    let files = texts c.args.order.files.now in
    let put = ArePlotsPut c.args.order.folder.now c.args.order.extension.now files in (
      plots,
      careful g.D.Voice.does plots None (plots_of files) put put c.args.desk.now c.claims_of.new.desk c.deliver_into.new.desk c.deliver_into.result
          (subst (λ (all : List (List ℕ)). LooksForPlots g.D.Voice.does c.args.desk.now plots all c.claims_of.new.desk) c.plots_of.ensures c.in-Ok.ensures.plots)
          c.deliver_into.ensures (λ looks deeds are. plots_right c.args.order.folder.now c.args.order.extension.now files looks deeds are),
    )
