-- What `--page` names: papers, with their sizes in plotter units of 1/40 mm: those of ISO 216, and American ones;
-- or the plot.
use Rattle.std.specs.Prelude.{ℕ, Bool, List, [], ◌∷◌, ◌++◌, map, Option, Some, codes, find, option_map, if◌then◌else◌}
use Rattle.std.specs.Str.{bytes_eq}
use Rattle.clap.specs.Words.{Text}

-- the width and the height of A4 in landscape
abbrev pub a4 : ℕ × ℕ
a4 = (11880, 8400)

-- the papers in landscape: the name of each, and its width and height
abbrev pub papers : List (Text × (ℕ × ℕ))
papers =
    (codes "a0", (47560, 33640))
    ∷ (codes "a1", (33640, 23760))
    ∷ (codes "a2", (23760, 16800))
    ∷ (codes "a3", (16800, 11880))
    ∷ (codes "a4", a4)
    ∷ (codes "a5", (8400, 5920))
    ∷ (codes "b4", (14120, 10000))
    ∷ (codes "letter", (11176, 8636))
    ∷ (codes "legal", (14224, 8636))
    ∷ (codes "tabloid", (17272, 11176))
    ∷ (codes "ansi-a", (11176, 8636))
    ∷ (codes "ansi-b", (17272, 11176))
    ∷ (codes "ansi-c", (22352, 17272))
    ∷ (codes "ansi-d", (34544, 22352))
    ∷ (codes "ansi-e", (44704, 34544))
    ∷ (codes "arch-d", (36576, 24384))
    ∷ (codes "arch-e", (48768, 36576))
    ∷ []

-- the same paper in portrait
abbrev pub portrait : Text × (ℕ × ℕ) → Text × (ℕ × ℕ)
portrait (name, (width, height)) = (name ++ codes "-portrait", (height, width))

-- the width and the height that a list has for a name
abbrev pub size_in : List (Text × (ℕ × ℕ)) → Text → Option (ℕ × ℕ)
size_in its name = option_map (λ it. it.1) (find (λ it. bytes_eq it.0 name) its)

-- of the papers in landscape
abbrev pub landscape_of : Text → Option (ℕ × ℕ)
landscape_of name = size_in papers name

-- of all papers
abbrev pub paper_of : Text → Option (ℕ × ℕ)
paper_of name = size_in (papers ++ map portrait papers) name

-- the plot is named, whose size is to be that which it asks for
abbrev pub names_plot : Text → Bool
names_plot name = bytes_eq name (codes "plot")

-- the size of the page that is given by a name: that of the paper, or for the plot the default one
abbrev pub size_named : Text → Option (ℕ × ℕ)
size_named name = if names_plot name then Some a4 else paper_of name
