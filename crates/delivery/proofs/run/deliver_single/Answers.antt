use Rattle.std.proofs.Common.{◌∷◌, ◌∙◌, ℕ, Bool, Bor, ap, subst, List, [], Option, arith, false}
use Rattle.std.specs.Option.{option_map, unwrap_or}
use Rattle.output_files.specs.declared.file_id.FileId.{FileId}
use Rattle.output_files.specs.Claims.{is_plot}
use Rattle.delivery.specs.Looks.{LooksForPlots}
use Rattle.delivery.specs.Runs.{IsSingleDone, input_name}
use Rattle.delivery.proofs.Looking.{careful, refused_after_looks, single_right, text_or}
use Rattle.delivery.proofs.run.deliver_single.Goals as goal

pub returns-in_default : goal.returns-in_default
returns-in_default g c =
    let none : Option FileId → Bool = λ _. false in
    let file = option_map (λ file. file.now) c.args.single.file in
    let path = option_map (λ path. path.now) c.args.single.path in (
      none,
      refused_after_looks g.D.Voice.does none path (unwrap_or file input_name ∷ []) (IsSingleDone file path) c.args.desk.now
          c.claims_of.new.desk c.refuse_memory.new.desk c.refuse_memory.result c.refuse_memory.ensures.says.0 c.in_default.ensures.looks
          c.refuse_memory.ensures.says.1 (omega (arith, c.refuse_memory.ensures.status)),
    )

pub returns : goal.returns
returns g c =
    let plots = is_plot c.in-Ok.claims in
    let file = option_map (λ file. file.now) c.args.single.file in
    let path = option_map (λ path. path.now) c.args.single.path in (
      plots,
      careful g.D.Voice.does plots path (unwrap_or file input_name ∷ []) (IsSingleDone file path) (IsSingleDone file path) c.args.desk.now
          c.claims_of.new.desk c.deliver_found.new.desk c.deliver_found.result
          (subst (λ (name : List ℕ). LooksForPlots g.D.Voice.does c.args.desk.now plots (name ∷ []) c.claims_of.new.desk)
          (ap (λ (name : Bor (List ℕ)). name.now) c.unwrap_or.ensures ∙ text_or c.args.single.file _) c.in-Ok.ensures.plots)
          c.deliver_found.ensures (λ looks deeds done. single_right file path looks deeds done),
    )
