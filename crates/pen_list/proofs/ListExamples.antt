-- Which texts are lists of pens, which pens they list, which colours and widths texts write, and what lists of them give the pens.
use Rattle.std.proofs.Common.{◌≡◌, refl, true, false, codes, ◌∷◌, [], Some, None}
use Rattle.exact.proofs.Tables.{Agree, Table}
use Rattle.pen_list.specs.Lists.{bounds, is_listed, is_pen_list, ranges, number}
use Rattle.plot_settings.specs.Colours.{rgb}
use Rattle.pen_list.specs.Assignments.{first_bad, given}
use Rattle.pen_list.specs.Colours.{colour_written}
use Rattle.pen_list.specs.Widths.{width_written}

three_ranges : ranges (codes "1,3,5-7") ≡ codes "1" ∷ codes "3" ∷ codes "5-7" ∷ []
three_ranges = refl

two_bounds : bounds (codes "5-7") ≡ codes "5" ∷ codes "7" ∷ []
two_bounds = refl

number_of_digits : number (codes "207") ≡ 207
number_of_digits = refl

-- which texts are lists of pens
lists : Table is_pen_list (
    (codes "1,3,5-7", true)
    ∷ (codes "1,1", true)  -- a pen may be listed twice
    ∷ (codes "001", true)  -- a number may begin with zeros
    ∷ (codes "9-9", true)  -- a range of one pen
    ∷ (codes "255", true)  -- greatest
    ∷ (codes "256", false)  -- too great
    ∷ (codes "0", false)  -- no pen 0
    ∷ ([], false)  -- nothing
    ∷ (codes "7-5", false)  -- falling
    ∷ (codes "1,", false)  -- trailing comma
    ∷ (codes ",1", false)  -- leading comma
    ∷ (codes "1,,2", false)  -- two commas
    ∷ (codes " 1", false)  -- space
    ∷ (codes "1-", false)  -- no end
    ∷ (codes "-1", false)  -- no beginning
    ∷ (codes "1--2", false)  -- two hyphens
    ∷ (codes "1-2-3", false)  -- three bounds
    ∷ (codes "0001", false)  -- four digits
    ∷ (codes "ALL", false)  -- letters
    ∷ (codes "all,1", false)  -- all and one
    ∷ (codes "all", true)  -- `all` is the pens 1 to 255
    ∷ [])
lists = refl

-- which pens they list
pens : Agree (
    (is_listed (codes "1,3,5-7") 1, true)
    ∷ (is_listed (codes "1,3,5-7") 2, false)
    ∷ (is_listed (codes "1,3,5-7") 4, false)
    ∷ (is_listed (codes "1,3,5-7") 5, true)
    ∷ (is_listed (codes "1,3,5-7") 6, true)
    ∷ (is_listed (codes "1,3,5-7") 7, true)
    ∷ (is_listed (codes "1,3,5-7") 8, false)
    ∷ (is_listed (codes "001") 1, true)
    ∷ (is_listed (codes "all") 255, true)
    ∷ (is_listed (codes "all") 0, false)
    ∷ [])
pens = refl

-- which colours texts write
colours : Table colour_written (
    (codes "ff8000", Some (rgb 255 128 0))  -- six digits
    ∷ (codes "#FF8000", Some (rgb 255 128 0))  -- six after hash
    ∷ (codes "#f80", Some (rgb 255 136 0))  -- each of three digits counts twice
    ∷ (codes "f80", None)  -- three digits
    ∷ (codes "#f8", None)  -- two after hash
    ∷ (codes "ff80000", None)  -- seven digits
    ∷ (codes "#ff800g", None)  -- no digit
    ∷ (codes "green", Some (rgb 0 128 0))  -- green is half as bright as lime
    ∷ (codes "Lime", Some (rgb 0 255 0))  -- lime
    ∷ (codes "GREY", Some (rgb 128 128 128))  -- grey
    ∷ (codes "bleu", None)  -- no name
    ∷ (codes "#red", None)  -- name after hash
    ∷ ([], None)  -- no colour
    ∷ [])
colours = refl

-- which widths texts write, in grains
widths : Table width_written (
    (codes "0.35", Some 224)  -- a grain is 1/640 mm
    ∷ (codes "0", Some 0)  -- none at all
    ∷ (codes "0.3515625", Some 225)  -- 225 grains
    ∷ (codes "0.000781", Some 0)  -- the seventh decimal does not count: less than half
    ∷ (codes "0.000782", Some 1)  -- more than half
    ∷ (codes "20.0000009", Some 12800)  -- greatest
    ∷ (codes "20.000001", None)  -- too great
    ∷ (codes ".5", Some 320)  -- no integer part
    ∷ (codes "5.", Some 3200)  -- no decimals
    ∷ (codes ".", None)  -- only a point
    ∷ (codes "+1", None)  -- with plus
    ∷ (codes "-0", None)  -- with minus
    ∷ (codes "1mm", None)  -- with unit
    ∷ (codes "1.2.3", None)  -- two numbers
    ∷ ([], None)  -- no width
    ∷ [])
widths = refl

-- the first assignment that is bad
bad : Agree (
    (first_bad colour_written (codes "2=red,3-7=#0f0"), None)  -- good list
    ∷ (first_bad colour_written (codes "2=red,3=bleu,0=red"), Some (codes "3=bleu"))  -- first of two bad
    ∷ (first_bad colour_written (codes "7-3=red"), Some (codes "7-3=red"))  -- bad pens
    ∷ (first_bad width_written (codes "1,2=1"), Some (codes "1"))  -- no equals
    ∷ (first_bad width_written (codes "1=2=1"), Some (codes "1=2=1"))  -- two equals
    ∷ (first_bad width_written (codes "1=1, 2=1"), Some (codes " 2=1"))  -- a space
    ∷ (first_bad width_written (codes ",1=1"), Some [])  -- nothing is before a comma
    ∷ (first_bad width_written [], Some [])  -- no list
    ∷ [])
bad = refl

pen_of_range : given colour_written (codes "2=red,3-7=#0f0") 5 ≡ Some (rgb 0 255 0)
pen_of_range = refl

pen_of_none : given colour_written (codes "2=red,3-7=#0f0") 1 ≡ None
pen_of_none = refl

-- the last one that names a pen decides
widths_given : Agree (
    (given width_written (codes "all=1,2=0.5") 2, Some 320)  -- one after all
    ∷ (given width_written (codes "all=1,2=0.5") 255, Some 640)  -- others of all
    ∷ (given width_written (codes "2=0.5,all=1") 2, Some 640)  -- all after one
    ∷ (given width_written (codes "all=1") 0, None)  -- `all` has no pen 0
    ∷ [])
widths_given = refl
