use Rattle.std.proofs.Common.{◌≡◌, ◌∷◌, [], ap, refl, drop, length, length-append, arith}
use Rattle.std.specs.Str.{chars}
use Rattle.std.proofs.lemmas.Iterator.{YieldsList-from_chars}
use Rattle.std.proofs.lemmas.Iterator.Consumers.{YieldsList-turn, YieldsList-end}
use Rattle.std.proofs.lemmas.List.{drop_all}
use Rattle.pieces.proofs.Texts.{all_left, all_put, next_put}
use Rattle.pdf.specs.Numbers.{utf_16_text}
use Rattle.pdf.proofs.Lists.{next_character}
use Rattle.pdf.proofs.title.put_characters.Goals as goal

pub loop-character-init : goal.loop-character-init
loop-character-init g c = record { left = all_left c.requires.sound refl; within = omega arith }

pub loop-character-preserved : goal.loop-character-preserved
loop-character-preserved g c =
    let text = chars c.args.title.now in
    let l = c.loop-character in
    let character = c.in-Some.character in
    let turn = YieldsList-turn (YieldsList-from_chars c.args.title.now c.utf8.title cc) l.yielded _ l.yielded_by _ _ character c.in-Some.is c.next.ensures.steps in
    record {
      left = next_put l.invariant.left c.put_character.ensures.puts (next_character text l.yielded character turn.0 turn.1);
      within = omega (arith, length-append l.yielded (character ∷ []), turn.0);
    }

pub returns : goal.returns
returns g c =
    let text = chars c.args.title.now in
    let l = c.loop-character in
    let end = YieldsList-end (YieldsList-from_chars c.args.title.now c.utf8.title cc) l.yielded _ l.yielded_by _ _ c.in-None.is c.next.ensures.steps in
    let none : drop (length l.yielded) text ≡ [] = drop_all (length l.yielded) text (omega (arith, end.1)) in
    record { puts = all_put l.invariant.left (ap utf_16_text none) }
