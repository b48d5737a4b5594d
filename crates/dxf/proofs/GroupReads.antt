-- The reader finds the groups and the entries of a text as they were written.
use Rattle.std.proofs.Common.{◌≡◌, ◌∙◌, ℕ, ◌^◌, ◌<◌, ◌≤◌, ◌==◌, Bool, true, false, List, [], ◌∷◌, ◌++◌, flat_map, Option, Some, codes, decimal, refl, ap, sym, arith, append_assoc}
use Rattle.std.proofs.lemmas.Bool.Decides.{nat_tests}
use Rattle.std.proofs.lemmas.List.Concat.{flat_map-append}
use Rattle.pieces.proofs.Scans.{Lacks, decimal_lacks, number_read, split_more}
use Rattle.pieces.specs.Readings.{split, ◌>>=◌}
use Rattle.dxf.specs.Groups.{group}
use Rattle.dxf.specs.Reader.{Cutting, Entry, Group, cut_groups, groups, paired, with_group}

abbrev pub is_newline : ℕ → Bool
is_newline c = c == 10

-- a group that can be read
pub record IsGood (g : Group) : Type 0 where
  pub code : g.code < 2 ^ 64
  pub value : Lacks is_newline g.value

-- one within an entry
pub record IsField (g : Group) : Type 0 where
  pub good : IsGood g
  pub within : (g.code == 0) ≡ false

abbrev pub AreFields : List Group → Type 0
AreFields [] = Unit {0}
AreFields (g ∷ gs) = IsField g × AreFields gs

-- an entry that can be read
pub record IsEntry (e : Entry) : Type 0 where
  pub kind : Lacks is_newline e.kind
  pub fields : AreFields e.fields

abbrev pub AreEntries : List Entry → Type 0
AreEntries [] = Unit {0}
AreEntries (e ∷ es) = IsEntry e × AreEntries es

pub fields_both : (gs hs : List Group) → AreFields gs → AreFields hs → AreFields (gs ++ hs)
fields_both [] hs h k = k
fields_both (g ∷ gs) hs h k = (h.0, fields_both gs hs h.1 k)

pub entries_both : (es fs : List Entry) → AreEntries es → AreEntries fs → AreEntries (es ++ fs)
entries_both [] fs h k = k
entries_both (e ∷ es) fs h k = (h.0, entries_both es fs h.1 k)

-- what is written
abbrev pub group_text : Group → List ℕ
group_text g = group g.code g.value

abbrev pub all_groups : Entry → List Group
all_groups e = record { code = 0; value = e.kind } ∷ e.fields

abbrev pub entry_text : Entry → List ℕ
entry_text e = flat_map group_text (all_groups e)

abbrev pub entries_text : List Entry → List ℕ
entries_text es = flat_map entry_text es

pub digits_end_no_line : (c : ℕ) → 48 ≤ c → c ≤ 57 → is_newline c ≡ false
digits_end_no_line c low high = grind (arith, nat_tests)

five : (d m v n r : List ℕ) → d ++ m ++ v ++ n ++ r ≡ d ++ (m ++ (v ++ (n ++ r)))
five d m v n r = simp append_assoc

-- the lines of a group
group_lines : (g : Group) (rest : List ℕ) → IsGood g → split 10 (group_text g ++ rest) ≡ decimal g.code ∷ g.value ∷ split 10 rest
group_lines g rest h =
    let d = decimal g.code in
    ap (λ (z : List ℕ). split 10 z) (five d (codes "\n") g.value (codes "\n") rest)
    ∙ split_more 10 d (g.value ++ 10 ∷ rest) (decimal_lacks is_newline digits_end_no_line g.code)
    ∙ ap (λ (z : List (List ℕ)). d ∷ z) (split_more 10 g.value rest h.value)

abbrev then_group : Group → Option (List Group) → Option (List Group)
then_group g others = others >>= (λ more. Some (g ∷ more))

one_group : (g : Group) (rest : List ℕ) → IsGood g → groups (group_text g ++ rest) ≡ then_group g (groups rest)
one_group g rest h =
    ap (λ (z : List (List ℕ)). paired z) (group_lines g rest h)
    ∙ ap (λ (o : Option ℕ). o >>= (λ c. paired (split 10 rest) >>= (λ more. Some (record { code = c; value = g.value } ∷ more)))) (number_read g.code h.code)

abbrev AreGood : List Group → Type 0
AreGood [] = Unit {0}
AreGood (g ∷ gs) = IsGood g × AreGood gs

groups_read : (gs : List Group) → AreGood gs → groups (flat_map group_text gs) ≡ Some gs
groups_read [] h = refl
groups_read (g ∷ gs) h = one_group g (flat_map group_text gs) h.0 ∙ ap (λ (o : Option (List Group)). then_group g o) (groups_read gs h.1)

-- the groups of entries
abbrev groups_of : List Entry → List Group
groups_of es = flat_map all_groups es

good_fields : (gs hs : List Group) → AreFields gs → AreGood hs → AreGood (gs ++ hs)
good_fields [] hs h k = k
good_fields (g ∷ gs) hs h k = (h.0.good, good_fields gs hs h.1 k)

good_groups : (es : List Entry) → AreEntries es → AreGood (groups_of es)
good_groups [] h = tt
good_groups (e ∷ es) h = (record { code = omega arith; value = h.0.kind }, good_fields e.fields (groups_of es) h.0.fields (good_groups es h.1))

same_text : (es : List Entry) → entries_text es ≡ flat_map group_text (groups_of es)
same_text [] = refl
same_text (e ∷ es) = ap (λ (z : List ℕ). entry_text e ++ z) (same_text es) ∙ sym (flat_map-append group_text (all_groups e) (groups_of es))

-- fields, and the entries that follow
fields_cut : (gs : List Group) (es : List Entry) (rest : List Group) → AreFields gs → cut_groups rest ≡ record { front = []; entries = es } → cut_groups (gs ++ rest) ≡ record { front = gs; entries = es }
fields_cut [] es rest h k = k
fields_cut (g ∷ gs) es rest h k =
    ap (λ (b : Bool). with_group b g (cut_groups (gs ++ rest))) h.0.within ∙ ap (λ (c : Cutting). with_group false g c) (fields_cut gs es rest h.1 k)

entries_cut : (es : List Entry) → AreEntries es → cut_groups (groups_of es) ≡ record { front = []; entries = es }
entries_cut [] h = refl
entries_cut (e ∷ es) h =
    ap (λ (c : Cutting). with_group true (record { code = 0; value = e.kind }) c) (fields_cut e.fields es (groups_of es) h.0.fields (entries_cut es h.1))

-- all of a text
pub entries_read : {A : Type 0} (read : List Entry → Option A) (es : List Entry) → AreEntries es → groups (entries_text es) >>= (λ gs. read (cut_groups gs).entries) ≡ read es
entries_read read es h =
    ap (λ (z : List ℕ). groups z >>= (λ gs. read (cut_groups gs).entries)) (same_text es)
    ∙ ap (λ (o : Option (List Group)). o >>= (λ gs. read (cut_groups gs).entries)) (groups_read (groups_of es) (good_groups es h))
    ∙ ap (λ (c : Cutting). read c.entries) (entries_cut es h)
