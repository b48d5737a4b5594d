use Rattle.std.proofs.Common.{◌≡◌, ◌||◌, ℕ, List, true, Bool, not, ap, ◌∙◌}
use Rattle.std.specs.Str.{bytes_eq}
use Rattle.std.specs.String.{string_bytes}
use Rattle.std.specs.BTreeSet.{contains_text}
use Rattle.std.proofs.lemmas.Map.Text.{btree_set_updates_text}
use Rattle.output_files.specs.Claims.{claim_of}
use mathlib.Core.Bool.{not-not}
use Rattle.output_files.proofs.Sets.{either}
use Rattle.output_files.proofs.claims.Claims.claim.Goals as goal

pub returns-clause-answer : goal.returns-clause-answer
returns-clause-answer c =
    let paths : List ℕ → Bool = contains_text c.args.self.now.paths in
    let claimed : not c.in-Ok.is_new ≡ paths c.args.path.now =
    ap not c.in-Ok.ensures.added ∙ not-not (paths (string_bytes c.in_ok-asked.asked)) ∙ ap paths c.in_ok-asked.ensures.ok in
    c.claim_of.ensures ∙ (λ i. claim_of (claimed i) (c.is_plot.ensures i))

pub returns-clause-claimed : goal.returns-clause-claimed
returns-clause-claimed c = λ other.
    let paths : List ℕ → Bool = contains_text c.args.self.now.paths in
    let asked : List ℕ = string_bytes c.in_ok-asked.asked in
    btree_set_updates_text asked c.args.self.now.paths c.insert.new.self true c.in-Ok.ensures.updates other
    ∙ either (bytes_eq asked other) (paths other)
    ∙ ap (λ path. bytes_eq path other || paths other) c.in_ok-asked.ensures.ok
