use Rattle.std.proofs.Common.{◌∙◌, [], Bool, ap, cond, sym}
use Rattle.pieces.proofs.Texts.{none_put, puts_as}
use Rattle.dxf.specs.Letters.{text_entity}
use Rattle.dxf.proofs.letters.put_line.Goals as goal

pub returns-then-has_letters : goal.returns-then-has_letters
returns-then-has_letters g c =
    record {
      puts = puts_as c.put_entity.ensures.puts
          (ap (λ (b : Bool). cond b (text_entity c.args.layers.now c.args.stroke.now c.args.line.now) []) (sym (sym c.has_letters.ensures ∙ c.if-has_letters.true)));
    }

pub returns-else-has_letters : goal.returns-else-has_letters
returns-else-has_letters g c =
    record {
      puts = puts_as (none_put c.requires.sound)
          (ap (λ (b : Bool). cond b (text_entity c.args.layers.now c.args.stroke.now c.args.line.now) []) (sym (sym c.has_letters.ensures ∙ c.if-has_letters.false)));
    }
