use Rattle.std.proofs.Common.{refl, arith}
use Rattle.pieces.proofs.Texts.{kept}
use Rattle.pieces.proofs.text.Text.keep.Goals as goal

pub returns : goal.returns
returns g c = record {
  puts = record {
    same = refl;
    sound = (omega (arith, c.requires.room, c.append-self.ensures.used), c.requires.sound.1);
    goes = kept _ _ c.args.bytes.now refl refl refl c.append-self.ensures.piece;
    count = omega (arith, c.append-self.ensures.used);
  };
}
