use Rattle.std.proofs.Common.{refl}
use Rattle.conversion.proofs.laws.limits.Goals as goal

pub returns : goal.returns
returns c = record { plot = refl; strokes = refl; place = refl; end = refl; edge = refl; width = refl; whole = refl; number = refl; shortest = refl; longest = refl; roll = refl; corner = refl; pixels = refl }
