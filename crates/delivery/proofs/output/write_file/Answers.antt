use Rattle.std.proofs.Common.{◌∙◌, ◌∷◌, [], ap, arith, inr, sym}
use Rattle.output_files.specs.Claims.{is_plot}
use Rattle.delivery.specs.Care.{MayReplace}
use Rattle.delivery.specs.Deeds.{Deed}
use Rattle.delivery.specs.Deliveries.{Anything, IsNamed, MayBeMade}
use Rattle.delivery.proofs.DeedLemmas.{has_last, replace_longer}
use Rattle.delivery.proofs.Delivered.{after_look, only_refused}
use Rattle.delivery.proofs.output.write_file.Goals as goal

pub returns-in_default : goal.returns-in_default
returns-in_default g c = λ own.
    only_refused g.D.Voice.does (is_plot c.args.scene.plots.now) own
    (MayReplace (is_plot c.args.scene.plots.now) own c.args.path.now) (IsNamed (g.C.Content.item c.args.content) c.args.path.now) c.args.desk.now c.refuse_memory.new.desk
    c.refuse_memory.result c.refuse_memory.ensures.says.0 c.refuse_memory.ensures.says.1 (omega (arith, c.refuse_memory.ensures.status))

pub returns-then-is_plot : goal.returns-then-is_plot
returns-then-is_plot g c = λ own.
    let plots = is_plot c.args.scene.plots.now in
    after_look g.D.Voice.does plots own (MayReplace plots own c.args.path.now) Anything (IsNamed (g.C.Content.item c.args.content) c.args.path.now) c.args.desk.now c.id_at.new.desk c.refuse_plot.new.desk c.as_str-part.result.now
    c.id_at.ensures.0 c.refuse_plot.result c.id_at.ensures.1
    (only_refused g.D.Voice.does plots own Anything (IsNamed (g.C.Content.item c.args.content) c.args.path.now) c.id_at.new.desk c.refuse_plot.new.desk c.refuse_plot.result
    c.refuse_plot.ensures.says.0 c.refuse_plot.ensures.says.1 (omega (arith, c.refuse_plot.ensures.status)))
    (λ _ _. tt) (λ _ has. (inr has.0, inr has.1))

pub returns : goal.returns
returns g c = λ own.
    let plots = is_plot c.args.scene.plots.now in
    let part = c.as_str-part.result.now in
    let found = c.id_at.ensures.0 in
    let apart = ap plots (sym c.id_at.ensures.2) ∙ sym c.is_plot.ensures ∙ c.if-is_plot.false in
    after_look g.D.Voice.does plots own (MayReplace plots own c.args.path.now) (MayBeMade plots own part c.args.path.now) (IsNamed (g.C.Content.item c.args.content) c.args.path.now) c.args.desk.now
    c.id_at.new.desk c.make.new.desk part found c.make.result c.id_at.ensures.1 (c.make.ensures plots own)
    (λ earlier may. (
      record { found = found; looked = has_last earlier (Deed.looked part found); apart = apart },
      replace_longer plots own earlier (Deed.looked part found ∷ []) c.args.path.now may,
    ))
    (λ _ has. (inr has.0, inr has.1))
