-- A character that a plot draws by moves (HP-GL/2 guide: UC), placed and sized as a letter of a label.
use Rattle.std.specs.Prelude.{◌^◌, nat_abs, nat_le, ◌&&◌, Bool, true, List, Option, None, if◌then◌else◌}
use Rattle.exact.specs.declared.spot.Spot.{Spot}
use Rattle.lettering.specs.UserCharacters.{user_end, user_point}
use Rattle.hpgl_plot.specs.Machine as core
use Rattle.full_settings.specs.declared.user_moves.UserMove.{UserMove}
use Rattle.full_plot.specs.Bold.{bold_line}
use Rattle.full_plot.specs.Texts.{are_bold, line_at, moved_by, put, style_of}
use Rattle.full_plot.specs.Worlds.{FullWorld, with_core}

-- a point of more than 2^53 millionths is out of range, too: its place is anyway, unless letters have a width or a height
-- of 0
abbrev pub is_near : Spot → Bool
is_near p = nat_le (nat_abs p.x) (2 ^ 53) && nat_le (nat_abs p.y) (2 ^ 53)

-- where a move is on the page: the pen stays where it is
abbrev pub move_places : FullWorld → UserMove → List Spot
move_places w m = line_at w.core.state.place (user_point (style_of w) m.from, user_point (style_of w) m.to)

-- a line of a character, drawn if its own pen is down, and bold if letters are
abbrev pub character_line : Bool → Bool → core.World → List Spot → Option core.World
character_line true true v places = bold_line v places
character_line is_bold is_drawn v places = core.travelled v is_drawn places

-- a move of the character's own pen: None if an end is out of range
abbrev pub user_moved : FullWorld → UserMove → Option FullWorld
user_moved w m =
    if is_near m.to then with_core w (character_line (are_bold w) m.is_drawn w.core (move_places w m)) else None

-- then the pen is on as after a label of one character
abbrev pub user_ended : FullWorld → Option FullWorld
user_ended w = with_core w (put w.core (moved_by w.core.state.place (user_end (style_of w))))
