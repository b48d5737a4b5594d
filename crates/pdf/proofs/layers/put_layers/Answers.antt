use Rattle.std.proofs.Common.{◌+◌, ℕ, ap, refl, get_or}
use Rattle.std.proofs.lemmas.List.{take_all}
use Rattle.pdf.specs.Documents.{layer_object, layer_objects}
use Rattle.pdf.proofs.AddedObjects.{added_as, added_more, nothing_added}
use Rattle.pdf.proofs.Lists.{layer_objects_more, layers_so_far}
use Rattle.pdf.proofs.layers.put_layers.Goals as goal

pub loop-index-init : goal.loop-index-init
loop-index-init g c = nothing_added c.requires.sound

pub loop-index-preserved : goal.loop-index-preserved
loop-index-preserved g c =
    let pens = c.args.pens.now in
    let l = c.loop-index in
    let more = added_more l.invariant c.put_layer.ensures.adds (ap (λ (k : ℕ). c.args.before + k) (layers_so_far pens l.index c.loop-index-test.true)) in
    added_as more (layer_objects_more pens l.index (layer_object (get_or pens l.index 0)) c.loop-index-test.true refl)

pub returns : goal.returns
returns g c =
    let l = c.loop-index in
    record { adds = added_as l.invariant (ap layer_objects (take_all l.index c.args.pens.now c.loop-index-test.false)) }
