use Rattle.std.proofs.Common.{◌≡◌, ◌++◌, ◌∙◌, List, [], ◌∷◌, ap, append_assoc, codes, flat_map, rules}
use Rattle.std.proofs.lemmas.Map.Iter.{rest_more}
use Rattle.std.specs.Map.Iter.{deref}
use Rattle.pieces.proofs.Texts.{last_put, next_put}
use Rattle.svg.specs.declared.places.Rectangle.{Rectangle}
use Rattle.svg.specs.Clips.{clip_text}
use Rattle.svg.proofs.clips.put_clips.Goals as goal

pub loop-clip-preserved : goal.loop-clip-preserved
loop-clip-preserved g c =
    let l = c.loop-clip in
    let clip = c.in-Some.clip.now in
    let others = c.next.new.self in
    let end = codes "</defs>\n" in
    let next : l.clip-iterator ≡ clip ∷ others = rest_more deref l.clip-iterator others c.next.result c.in-Some.clip c.in-Some.is c.next.ensures.steps in
    let split = ap (λ (rs : List Rectangle). flat_map clip_text rs ++ end) next ∙ append_assoc (clip_text clip) (flat_map clip_text others) end in
    (tt, tt, next_put l.invariant.2 c.put_clip.ensures.puts split)

pub returns : goal.returns
returns g c =
    let end = codes "</defs>\n" in
    let none : c.loop-clip.clip-iterator ≡ [] = search rules in
    record { puts = last_put c.loop-clip.invariant.2 c.put-2.ensures.puts (ap (λ (rs : List Rectangle). flat_map clip_text rs ++ end) none) }
