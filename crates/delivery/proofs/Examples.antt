-- Worked examples of what a run may do to files, and of what must follow.
use Rattle.std.proofs.Common.{◌≡◌, ◌∷◌, Bool, true, false, List, [], Option, None, Some, ℕ, arith, codes, inl, inr, refl}
use Rattle.output_files.specs.declared.file_id.FileId.{FileId}
use Rattle.delivery.specs.declared.desk.Found.{Found}
use Rattle.delivery.specs.declared.desk.Kind.TheVariants.{File, Device}
use Rattle.delivery.specs.declared.ending.Ending.TheVariants.{Whole}
use Rattle.delivery.specs.Care.{AreAllowed, AreFollowed, is_device, is_open_file, output_name, part_of}
use Rattle.delivery.specs.Deeds.{Deed, Item, status_after}
use Rattle.delivery.specs.Looks.{ArePlotsAt, AreHarmless}
use Rattle.delivery.specs.Runs.{plots_of}

abbrev a : List ℕ
a = codes "a.pbm"

abbrev part : List ℕ
part = codes "a.pbm.part"

part_name : part_of (codes "a.pbm") ≡ codes "a.pbm.part"
part_name = refl

-- names of what is open already, and a folder of such names
open_file : is_open_file (codes "/dev/fd/3") ≡ true
open_file = refl

standard_error : is_open_file (codes "/dev/stderr") ≡ true
standard_error = refl

own_file : is_open_file (codes "/proc/self/fd/12") ≡ true
own_file = refl

folder_of_files : is_open_file (codes "/dev/fd") ≡ false
folder_of_files = refl

abbrev found : Option Found
found = Some (record { id = record { device = 1; number = 7 }; kind = File })

a_device : is_device (Some (record { id = record { device = 1; number = 7 }; kind = Device })) ≡ true
a_device = refl

no_device : is_device found ≡ false
no_device = refl

nothing_there : is_device None ≡ false
nothing_there = refl

-- the greatest status of what was said
greatest_status : status_after (Deed.refused 1 None ∷ Deed.opened (codes "b.plt") true ∷ Deed.refused 3 None ∷ Deed.remarked None ∷ []) ≡ 3
greatest_status = refl

all_went_well : status_after (Deed.opened (codes "a.plt") true ∷ Deed.remarked None ∷ []) ≡ 0
all_went_well = refl

abbrev no_plots : Option FileId → Bool
no_plots _ = false

-- file 7 is a plot
abbrev a_plot : Option FileId → Bool
a_plot None = false
a_plot (Some file) = true

abbrev all : Item
all = record { file = codes "a.plt"; sheet = 0 }

-- an output that is written whole and stored
abbrev whole_output : List Deed
whole_output =
    Deed.looked part None ∷ Deed.removed part ∷ Deed.created part true ∷ Deed.wrote part all Whole ∷ Deed.synced part true ∷ Deed.renamed part a true ∷ []

is_allowed : AreAllowed no_plots (Some a) [] whole_output
is_allowed = (
  tt,
  (
    record { found = None; looked = inl refl; apart = refl },
    (
      record { found = None; looked = inl refl; apart = refl },
      (inr (inl (inr (inr (inl refl)))), ((all, inr (inr (inr (inl refl)))), ((inr (inr (inr (inr (inl refl)))), refl, inl refl), tt))),
    ),
  ),
)

-- a file is not removed where no look was taken, nor where the look found a plot
no_look : AreAllowed no_plots None [] (Deed.removed part ∷ []) → ⊥
no_look allowed = allowed.0.looked

-- a file is not named before it is stored
not_stored : AreAllowed no_plots (Some a) [] (Deed.renamed part a true ∷ []) → ⊥
not_stored allowed = allowed.0.0

-- standard output is open, and a file that was neither made nor reached is not
output_is_open : AreAllowed no_plots None [] (Deed.wrote output_name all Whole ∷ [])
output_is_open = (inl refl, tt)

never_made : AreAllowed no_plots None [] (Deed.wrote a all Whole ∷ []) → ⊥
never_made (inl same, rest) = absurd (cc)
never_made (inr (inl made), rest) = made
never_made (inr (inr reached), rest) = reached

-- a file that is made must have an end, and a failure must be said next
no_end : AreFollowed (Deed.created part false ∷ Deed.remarked None ∷ []) → ⊥
no_end followed = followed.0

said_next : AreFollowed (Deed.created part false ∷ Deed.refused 3 None ∷ [])
said_next = (omega arith, (tt, tt))

-- a plot that was looked for, and one that another path has
the_plot : ArePlotsAt a_plot (codes "a.plt" ∷ []) (Deed.looked (codes "a.plt") found ∷ [])
the_plot = (refl, refl, tt)

another_path : ArePlotsAt a_plot (codes "a.plt" ∷ []) [] → ⊥
another_path are = are

no_harm : AreHarmless (Deed.looked a None ∷ Deed.refused 4 None ∷ [])
no_harm = tt

harm : AreHarmless (Deed.removed a ∷ []) → ⊥
harm are = are

-- standard input has a name
standard_input : plots_of [] ≡ codes "/dev/stdin" ∷ []
standard_input = refl

named_plots : plots_of (codes "a.plt" ∷ []) ≡ codes "a.plt" ∷ []
named_plots = refl
