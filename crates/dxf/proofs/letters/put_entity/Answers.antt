use Rattle.std.proofs.Common.{◌∙◌, ℕ, List, ap}
use Rattle.labels.specs.Labels.{LineShape}
use Rattle.plot_page.specs.Segments.{Segment}
use Rattle.pieces.proofs.Texts.{◌then◌, puts_as}
use Rattle.dxf.specs.Cuts.{point_of}
use Rattle.dxf.specs.Entities.{point_text}
use Rattle.dxf.specs.Groups.{group, size_group}
use Rattle.dxf.specs.Layers.{layer_groups}
use Rattle.dxf.specs.Letters.{form_groups, letters_text}
use Rattle.dxf.specs.declared.cuts.Point.{Point}
use Rattle.dxf.specs.declared.forms.Form.{Form}
use Rattle.dxf.proofs.letters.put_entity.Goals as goal

pub returns : goal.returns
returns g c =
    let line = c.line.view_is in
    let form = c.form_of-form.ensures.value in
    let layer = puts_as c.put_layer_groups.ensures.puts (ap (λ (s : Segment). layer_groups c.args.layers.now s.pen s.colour) c.stroke.view_is) in
    let point = puts_as c.put_point.ensures.puts
    (ap (λ (p : Point). point_text 10 20 p) c.point_at.ensures ∙ ap (λ (l : LineShape). point_text 10 20 (point_of l.start.x l.start.y)) line) in
    let height = puts_as c.put_size.ensures.puts (ap (λ (f : Form). size_group 40 f.height) form) in
    let letters = puts_as c.put_letters.ensures.puts
    (ap (λ (t : List ℕ). group 1 (letters_text t)) (c.deref.ensures.value ∙ ap (λ (l : LineShape). l.text) line)) in
    let lies = puts_as c.put_form.ensures.puts (λ i. form_groups (form i) (line i).end) in
    record { puts = c.put_group.ensures.puts then layer then point then height then letters then lies }
