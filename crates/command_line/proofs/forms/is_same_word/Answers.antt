use Rattle.std.specs.Bool.{one_answer}
use Rattle.std.specs.Str.{str_to_ascii_lowercase}
use Rattle.std.proofs.lemmas.Slice.Eq.{bytes_eq-Decides}
use Rattle.command_line.proofs.forms.is_same_word.Goals as goal

pub returns : goal.returns
returns c = one_answer _ _ c.eq_ignore_ascii_case.ensures.test (bytes_eq-Decides (str_to_ascii_lowercase c.args.a.now) (str_to_ascii_lowercase c.args.b.now))
