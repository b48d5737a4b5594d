-- Sets of files and of paths.
use Rattle.std.proofs.Common.{◌≡◌, refl, sym, ◌∙◌, ℕ, ◌==◌, ◌&&◌, ◌||◌, List, Bool, true, false, cond, arith}
use Rattle.std.specs.declared.cmp.Ordering.{Ordering}
use Rattle.std.specs.declared.cmp.Ordering.TheVariants.{Less, Equal, Greater}
use Rattle.std.specs.Ordering.{is_eq, nat_cmp, ordering_then}
use Rattle.std.specs.List.{list_any}
use Rattle.std.specs.BTreeMap.{is_at}
use Rattle.std.specs.BTreeSet.{BTreeSet, UpdatesBy}
use Rattle.output_files.specs.declared.file_id.FileId.{FileId}
use Rattle.output_files.specs.Claims.{is_same_file}

pub either : (a b : Bool) → cond a true b ≡ (a || b)
either true b = refl
either false b = refl

-- by the device first
abbrev pub file_cmp : FileId → FileId → Ordering
file_cmp a b = ordering_then (nat_cmp a.device b.device) (nat_cmp a.number b.number)

equal_numbers : (a b : ℕ) → is_eq (nat_cmp a b) ≡ (a == b)
equal_numbers a b = grind arith

equal_both : (x y : Ordering) → is_eq (ordering_then x y) ≡ (is_eq x && is_eq y)
equal_both Less y = refl
equal_both Equal y = refl
equal_both Greater y = refl

pub same_files : (a b : FileId) → is_eq (file_cmp a b) ≡ is_same_file a b
same_files a b = equal_both (nat_cmp a.device b.device) (nat_cmp a.number b.number)
    ∙ (λ i. equal_numbers a.device b.device i && equal_numbers a.number b.number i)

-- what the order finds, the device and the number find
pub found_files : (file : FileId) (files : List FileId) → list_any (is_at (file_cmp file)) files ≡ list_any (is_same_file file) files
found_files file files = λ i. list_any (λ other. same_files file other i) files

-- after one more file
pub one_more_file : (file plot : FileId) (old new : BTreeSet FileId) → UpdatesBy file_cmp (file_cmp plot) old new true →
    list_any (is_same_file file) new.keys ≡ (is_same_file plot file || list_any (is_same_file file) old.keys)
one_more_file file plot old new h = sym (found_files file new.keys) ∙ h.0 file
    ∙ (λ i. cond (same_files plot file i) true (found_files file old.keys i)) ∙ either (is_same_file plot file) (list_any (is_same_file file) old.keys)
