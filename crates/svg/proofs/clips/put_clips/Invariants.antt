use Rattle.std.proofs.Common.{◌++◌, codes, flat_map}
use Rattle.pieces.proofs.Texts.{Left}
use Rattle.svg.specs.Clips.{clip_text, clips_text, collected}
use Rattle.svg.proofs.clips.put_clips.Given as goal

-- the clip paths that are left, and the end
abbrev pub invariant-loop-clip : goal.invariant-loop-clip
invariant-loop-clip g l =
    (goal.iterator-loop-clip g).can_next l.clip-iterator
    × (goal.iterator-loop-clip g).is_finite l.clip-iterator
    × Left g.K.Sink.state l.fn.text l.text (flat_map clip_text l.clip-iterator ++ codes "</defs>\n") (clips_text (collected l.fn.clips))
