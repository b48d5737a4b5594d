use Rattle.std.proofs.Common.{◌≡◌, ◌+◌, ◌-◌, ◌∙◌, ◌++◌, ◌∷◌, ℕ, List, ap, take, drop, length}
use Rattle.std.proofs.lemmas.List.Concat.{flat_map-append}
use Rattle.labels.specs.Labels.{LineShape}
use Rattle.pieces.proofs.Texts.{next_put}
use Rattle.svg.specs.Titles.{character, character_text, line_feed, next_lines, text_bytes}
use Rattle.svg.proofs.Texts.{next_item}
use Rattle.svg.proofs.titles.put_lines.Goals as goal

bytes_append : (xs ys : List ℕ) → text_bytes (xs ++ ys) ≡ text_bytes xs ++ text_bytes ys
bytes_append xs ys = flat_map-append (λ (c : ℕ). character_text (character c)) xs ys

-- the next line of those that are left, and the others
split : (left : List LineShape) (line : LineShape) (others : List LineShape) → left ≡ line ∷ others → text_bytes (next_lines left) ≡ text_bytes (line_feed ∷ line.text) ++ text_bytes (next_lines others)
split left line others h =
    ap (λ (ls : List LineShape). text_bytes (next_lines ls)) h ∙ bytes_append (line_feed ∷ line.text) (next_lines others)

pub loop-line-preserved : goal.loop-line-preserved
loop-line-preserved g c =
    let l = c.loop-line in
    let lines = c.args.lines.now in
    let others = take (length lines - 1) (drop 1 lines) in
    let i = l.line-index in
    let line = c.line-item.result in
    next_put l.invariant c.put_next_line.ensures.puts
    (split (drop i others) line (drop (i + 1) others) (next_item others i line c.loop-line-test.true c.line-item.is))
