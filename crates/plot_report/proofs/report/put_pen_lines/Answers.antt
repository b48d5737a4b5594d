use Rattle.std.proofs.Common.{◌≡◌, ℕ, ◌+◌, ◌-◌, ◌++◌, ◌∙◌, [], get_or, ap, sym, arith}
use Rattle.pieces.proofs.Texts.{◌then◌, none_put, puts_as}
use Rattle.plot_report.specs.Summaries.{pen_summary, summary_text, summary_lines}
use Rattle.plot_report.proofs.PenLines.{no_lines, lines_more}
use Rattle.plot_report.proofs.report.put_pen_lines.Goals as goal

pub loop-pen-init : goal.loop-pen-init
loop-pen-init g c = puts_as (none_put c.requires.sound) (sym (no_lines c.args.pens.now))

pub loop-pen-preserved : goal.loop-pen-preserved
loop-pen-preserved g c =
    let pens = c.args.pens.now in
    let pen = c.loop-pen.pen in
    let earlier : (pen - 1) + 1 ≡ pen = omega arith in
    let now : (pen - 1) + 1 ≡ pen + 1 - 1 = omega arith in
    let more : summary_lines pens (pen + 1 - 1) ≡ summary_lines pens (pen - 1) ++ summary_text pen (get_or pens pen (pen_summary [])) =
    ap (λ (n : ℕ). summary_lines pens n) (sym now) ∙ lines_more pens (pen - 1) ∙ ap (λ (n : ℕ). summary_lines pens (pen - 1) ++ summary_text n (get_or pens n (pen_summary []))) earlier in
    puts_as (c.loop-pen.invariant then c.put_lines_of_pen.ensures.puts) (sym more)

pub returns : goal.returns
returns g c =
    let all : c.loop-pen.pen - 1 ≡ 255 = omega arith in
    record { puts = puts_as c.loop-pen.invariant (ap (λ (n : ℕ). summary_lines c.args.pens.now n) all) }
