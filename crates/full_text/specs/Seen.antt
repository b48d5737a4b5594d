-- The items that are to come, as contracts see them.
use Rattle.std.specs.Prelude.{List}
use Rattle.hpgl_text.specs.Shapes.{ItemShape}
use Rattle.full_text.specs.declared.plot_items.ItemsBy.{ItemsBy}
use Rattle.full_text.specs.declared.plot_items.ItemsBy.TheVariants.{Core, Full}

-- those of the profile that is read
abbrev pub items_of : ItemsBy → List ItemShape
items_of (Core items) = items
items_of (Full items) = items
