-- Work that counts besides strokes.
use Rattle.std.specs.Prelude.{ℕ, ◌+◌, length, nat_lt, true, if◌then◌else◌, Option, Some, None}
use Rattle.plot_page.specs.declared.stroke.TheConstants.{MOST_STROKES}
use Rattle.full_plot.specs.Worlds.{FullWorld}

-- work besides strokes; more than a plot may have of both is as if there were too many strokes
abbrev pub worked : ℕ → FullWorld → FullWorld
worked n w =
    if nat_lt MOST_STROKES (length w.core.kept + w.extra + n)
    then record w { core = record w.core { full = true } }
    else record w { extra = w.extra + n }

abbrev pub then_worked : ℕ → Option FullWorld → Option FullWorld
then_worked n None = None
then_worked n (Some w) = Some (worked n w)
