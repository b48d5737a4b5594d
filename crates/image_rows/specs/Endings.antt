-- How the data of a row end.
use Rattle.std.specs.Prelude.{Bool, true, false}
use Rattle.image_rows.specs.declared.ending.Ending.{Ending}
use Rattle.image_rows.specs.declared.ending.Ending.TheVariants.{Whole, Broken}

-- they break off or not
abbrev pub ending_of : Bool → Ending
ending_of true = Broken
ending_of false = Whole
