-- Points of a character that is drawn by moves, and where it leaves the pen, in letters of 1216 by 1728 grains.
use Rattle.std.proofs.Common.{◌≡◌, ◌^◌, List, [], ◌∷◌, refl, pos, negsuc}
use Rattle.exact.proofs.Tables.{Agree, at}
use Rattle.directions.specs.Directions.{vector_turned}
use Rattle.directions.specs.Laws.{right}
use Rattle.directions.specs.declared.turn.Turn.TheVariants.{Quarter}
use Rattle.lettering.specs.Styles.{usual}
use Rattle.lettering.specs.UserCharacters.{user_end, user_point}
use Rattle.lettering.specs.declared.style.Path.TheVariants.{Down}

-- four fourths of a width and eight eighths of a height are a letter's
points : Agree (
    (user_point usual (at (pos 0) (pos 0)), at (pos 0) (pos 0))
    ∷ (user_point usual (at (pos 4000000) (pos 8000000)), at (pos 1216) (pos 1728))
    ∷ (user_point usual (at (negsuc 499999) (pos 2)), at (negsuc 151) (pos 0))  -- left of it, and rounded
    ∷ (user_point (record usual { height = negsuc 1727 }) (at (pos 1000000) (pos 4000000)), at (pos 304) (negsuc 863))  -- upside down
    ∷ (user_point (record usual { slant = pos (10 ^ 6) }) (at (pos 0) (pos 4000000)), at (pos 864) (pos 864))  -- a slant of 45 degrees
    ∷ (user_point (record usual { direction = vector_turned Quarter right }) (at (pos 4000000) (pos 0)), at (pos 0) (pos 1216))  -- upward
    ∷ (user_point (record usual { origin = 5 }) (at (pos 0) (pos 0)), at (negsuc 607) (negsuc 863))  -- centred
    ∷ (user_point (record usual { origin = 5; path = Down }) (at (pos 0) (pos 0)), at (pos 0) (pos 0))  -- LO counts only to the right
    ∷ [])
points = refl

-- the next letter is 1824 grains on
ends : Agree (
    (user_end usual, at (pos 1824) (pos 0))
    ∷ (user_end (record usual { origin = 5 }), at (pos 912) (pos 0))
    ∷ (user_end (record usual { origin = 7 }), at (pos 0) (pos 0))
    ∷ (user_end (record usual { path = Down }), at (pos 0) (negsuc 3455))  -- the path of DV
    ∷ [])
ends = refl
