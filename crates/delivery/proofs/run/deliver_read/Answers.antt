use Rattle.std.proofs.Common.{◌≡◌, ◌∙◌, Bor, List, [], None, Some, ap, arith, subst, ℕ}
use Rattle.std.specs.Option.{option_map, unwrap_or}
use Rattle.output_files.specs.Claims.{is_plot}
use Rattle.delivery.specs.Deliveries.{Anything, Delivers, IsPut, IsShown}
use Rattle.delivery.specs.Runs.{IsOutputDone, plot_item}
use Rattle.delivery.proofs.Delivered.{only_refused}
use Rattle.delivery.proofs.Looking.{text_or}
use Rattle.delivery.proofs.run.deliver_read.Goals as goal

pub returns-in-Some : goal.returns-in-Some
returns-in-Some g c =
    let path = c.in-Some.path.now in
    let file : c.unwrap_or-file.result.now ≡ unwrap_or (option_map (λ file. file.now) c.args.single.file) [] =
    ap (λ (name : Bor (List ℕ)). name.now) c.unwrap_or-file.ensures ∙ text_or c.args.single.file _ in
    rw c.in-Some.is
    (subst (λ (name : List ℕ). Delivers g.D.Voice.does (is_plot c.args.claims.now) (Some path) c.args.desk.now c.deliver_plot_to.new.desk
    c.deliver_plot_to.result Anything Anything (IsPut (record { file = name; sheet = 0 }) path)) file c.deliver_plot_to.ensures)

pub returns-in-None : goal.returns-in-None
returns-in-None g c =
    let path = option_map (λ path. path.now) c.args.single.path in
    let item = plot_item (option_map (λ file. file.now) c.args.single.file) in
    only_refused g.D.Voice.does (is_plot c.args.claims.now) path Anything (IsOutputDone item path) c.args.desk.now c.refuse_screen.new.desk c.refuse_screen.result
    c.refuse_screen.ensures.says.0 c.refuse_screen.ensures.says.1 (omega (arith, c.refuse_screen.ensures.status))

pub returns-in-None-2 : goal.returns-in-None-2
returns-in-None-2 g c =
    let path = option_map (λ path. path.now) c.args.single.path in
    let file : c.unwrap_or-file.result.now ≡ unwrap_or (option_map (λ file. file.now) c.args.single.file) [] =
    ap (λ (name : Bor (List ℕ)). name.now) c.unwrap_or-file.ensures ∙ text_or c.args.single.file _ in
    rw c.in-None.is
    (subst (λ (name : List ℕ). Delivers g.D.Voice.does (is_plot c.args.claims.now) None c.args.desk.now c.write_plot_to.new.desk
    c.write_plot_to.result Anything Anything (IsShown (record { file = name; sheet = 0 }))) file (c.write_plot_to.ensures (is_plot c.args.claims.now) None))
