use Rattle.std.proofs.Common.{◌∙◌, sym, arith}
use Rattle.rows.proofs.ImageCells.{ink_of_cell, inks_count}
use Rattle.rows.proofs.image_inks.ImageInksInks.ink.Goals as goal

pub ink_of-requires-clause-most : goal.ink_of-requires-clause-most
ink_of-requires-clause-most c = omega (arith, c.requires.in_list, inks_count 2164260863 c.args.self.now.strokes.now)

pub returns : goal.returns
returns c =
    let strokes = c.args.self.now.strokes.now in
    c.ink_of.ensures ∙ sym (ink_of_cell 2164260863 c.args.n strokes c.requires.from_1 (omega (arith, c.requires.in_list, inks_count 2164260863 strokes)))
