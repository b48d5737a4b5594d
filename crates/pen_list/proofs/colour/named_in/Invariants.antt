use Rattle.std.proofs.Common.{◌≡◌, drop, map}
use Rattle.plot_settings.specs.Colours.{rgb}
use Rattle.pen_list.specs.Colours.{named_in}
use Rattle.pen_list.proofs.colour.named_in.Given as goal

-- the rows that are left decide
abbrev pub invariant-loop-name : goal.invariant-loop-name
invariant-loop-name l =
    named_in (map (λ row. (row.0.now, rgb row.1.0 row.1.1 row.1.2)) (drop l.name-index l.rows)) l.text
    ≡ named_in (map (λ row. (row.0.now, rgb row.1.0 row.1.1 row.1.2)) l.rows) l.text
