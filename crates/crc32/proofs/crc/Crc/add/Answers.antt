use Rattle.std.proofs.Common.{◌∙◌, ◌*◌, ◌/◌, ◌-◌, ◌++◌, ℕ, List, length, take, drop, refl, ap}
use Rattle.std.proofs.lemmas.List.{take_rest, take-append-drop}
use Rattle.crc32.specs.Crc.{remainder, ones}
use Rattle.crc32.proofs.Division.{remainder_twice}
use Rattle.crc32.proofs.crc.Crc.add.Goals as goal

pub returns : goal.returns
returns c = λ before e.
    c.after_bytes-self.ensures
    ∙ ap (λ (z : ℕ). remainder z (take (length c.args.bytes.now - length c.args.bytes.now / 8 * 8) (drop (length c.args.bytes.now / 8 * 8) c.args.bytes.now))) c.after_eights-remainder.ensures
    ∙ remainder_twice c.args.self.now.remainder c.args.bytes.now _ _
    (ap (λ (z : List ℕ). take (length c.args.bytes.now / 8 * 8) c.args.bytes.now ++ z) (take_rest c.args.bytes.now (length c.args.bytes.now / 8 * 8)) ∙ take-append-drop (length c.args.bytes.now / 8 * 8) c.args.bytes.now)
    ∙ ap (λ (z : ℕ). remainder z c.args.bytes.now) e ∙ remainder_twice ones (before ++ c.args.bytes.now) before c.args.bytes.now refl
