use Rattle.std.proofs.Common.{◌++◌, ◌∙◌, [], ◌∷◌, ℕ, ap, take}
use Rattle.pieces.proofs.Texts.{◌then◌}
use Rattle.pdf.proofs.objects.begin_object.Goals as goal

pub returns : goal.returns
returns g c = record {
  puts = c.put_number.ensures.puts then c.put.ensures.puts;
  noted = c.note.ensures.noted ∙ ap (λ (at : ℕ). take c.args.before c.args.offsets.now ++ at ∷ []) c.count.ensures;
  size = c.note.ensures.size;
}
