-- What messages say.
use Rattle.std.specs.Prelude.{ℕ, List, [], ◌++◌, Option, None, Some, codes, decimal, option_map}
use Rattle.delivery.specs.declared.about.About.{About}

-- the plot, if it is one of several
abbrev pub plot_text : Option (List ℕ) → List ℕ
plot_text None = []
plot_text (Some plot) = plot ++ codes ": "

-- the sheet, if it is one of several
abbrev pub sheet_text : Option ℕ → List ℕ
sheet_text None = []
sheet_text (Some sheet) = codes "sheet " ++ decimal sheet ++ codes ": "

abbrev pub about_text : About → List ℕ
about_text about = plot_text (option_map (λ plot. plot.now) about.plot) ++ sheet_text about.sheet
