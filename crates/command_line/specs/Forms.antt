-- The forms of a picture by name, and the extension of a path, which may name one.
use Rattle.std.specs.Prelude.{◌-◌, ◌==◌, List, [], ◌∷◌, Option, None, codes, find, length, option_map, slice_index, if◌then◌else◌}
use Rattle.std.specs.Path.{path_extension, slash}
use Rattle.std.specs.Str.{str_eq_ignore_ascii_case}
use Rattle.clap.specs.Words.{Text}
use Rattle.picture_job.specs.declared.vector_job.VectorFormat.TheVariants.{Dxf, Pdf, Svg}
use Rattle.picture_out.specs.declared.form.Form.TheVariants.{Marks, Pbm, Ppm, Pcl}
use Rattle.command_line.specs.declared.subcommands.Output.{Output}
use Rattle.command_line.specs.declared.subcommands.Output.TheVariants.{Picture, Png, Vector}

-- the forms of a picture: the name of each, and what is written
abbrev pub forms : List (Text × Output)
forms =
    (codes "png", Png)
    ∷ (codes "pdf", Vector Pdf)
    ∷ (codes "svg", Vector Svg)
    ∷ (codes "dxf", Vector Dxf)
    ∷ (codes "ppm", Picture Ppm)
    ∷ (codes "pbm", Picture Pbm)
    ∷ (codes "pcl", Picture Pcl)
    ∷ (codes "marks", Picture Marks)
    ∷ []

-- what a list has for a name, in capitals or small letters
abbrev pub form_in : List (Text × Output) → Text → Option Output
form_in its name = option_map (λ it. it.1) (find (λ it. str_eq_ignore_ascii_case it.0 name) its)

-- the form of this name
abbrev pub form_named : Text → Option Output
form_named name = form_in forms name

-- the extension of the file at a path, by Rust's rule: the text after the last dot of the last component, unless that dot
-- is the component's first byte; none if the path ends with a slash, and so is a folder's
abbrev pub extension_of : Text → Option Text
extension_of path = if slice_index path (length path - 1) == slash then None else path_extension path
