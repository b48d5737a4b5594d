use Rattle.std.proofs.Common.{◌≡◌, ◌∙◌, ◌++◌, ◌-◌, ℕ, length, take, ap, sym}
use Rattle.std.specs.Prelude.{option_map}
use Rattle.clap.specs.Words.{Text}
use Rattle.command_line.proofs.PaperSizes.{paper_with_suffix, paper_without_suffix, suffix, turned}
use Rattle.command_line.proofs.papers.paper_named.Goals as goal

pub returns-in_default : goal.returns-in_default
returns-in_default c = c.landscape_named.ensures ∙ sym (paper_without_suffix c.args.name.now c.in_default.ensures.cases)

-- the text without its end, and that end
put_back : (name front : Text) (n : ℕ) → name ≡ take (length name - n) name ++ suffix → front ≡ take (length name - n) name → name ≡ front ++ suffix
put_back name front n whole cut = whole ∙ ap (λ (t : Text). t ++ suffix) (sym cut)

pub returns-in_err-width : goal.returns-in_err-width
returns-in_err-width c =
    let strips = c.in-Some.ensures.cases in
    let whole = put_back c.args.name.now c.in-Some.paper.now strips.0 strips.1.1 strips.2 in
    c.from_residual.ensures ∙ ap (option_map turned) c.in_err-width.ensures ∙ sym (paper_with_suffix c.args.name.now c.in-Some.paper.now whole)

pub returns : goal.returns
returns c =
    let strips = c.in-Some.ensures.cases in
    let whole = put_back c.args.name.now c.in-Some.paper.now strips.0 strips.1.1 strips.2 in
    ap (option_map turned) c.in_ok-width.ensures ∙ sym (paper_with_suffix c.args.name.now c.in-Some.paper.now whole)
