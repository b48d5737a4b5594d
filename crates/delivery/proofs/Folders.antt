-- Plots that stay plots, and sheets one after another.
use Rattle.std.proofs.Common.{◌≡◌, ◌<◌, ◌≤◌, ◌+◌, ◌++◌, ◌∙◌, ◌∷◌, ◌⊎◌, ℕ, Bool, true, false, List, [], Option, None, Some, inl, inr, arith, refl, subst, sym, Bor, ap, get_or, length, map, take}
use mathlib.Core.Path.{fun_ext}
use Rattle.std.proofs.lemmas.Bool.{cases_lt}
use Rattle.std.proofs.lemmas.List.{map-append, take_all, take_more}
use Rattle.output_files.specs.declared.claims.Claims.{Claims}
use Rattle.output_files.specs.declared.file_id.FileId.{FileId}
use Rattle.output_files.specs.declared.claims.Claim.{Claim}
use Rattle.output_files.specs.declared.claims.Claim.TheVariants.{Free}
use Rattle.output_files.specs.Claims.{claim_of, has_plot, is_plot}
use Rattle.delivery.specs.declared.desk.Found.{Found}
use Rattle.delivery.specs.Care.{MayReplace, id_found}
use Rattle.delivery.specs.Deeds.{Deed, Item}
use Rattle.delivery.specs.Folders.{ArePlotsPut, AreSheetsPut, AreThePlots, IsClear, IsOpened, IsOutputPut, IsPlotPut, IsPutAt, IsSheet, IsSheetPut}
use Rattle.delivery.specs.Deliveries.{Anything, Delivers, IsPut}
use Rattle.output_files.specs.Names.{file_name}
use Rattle.delivery.proofs.DeedLemmas.{has_last, has_left, has_right}
use Rattle.delivery.proofs.Delivered.{adapted, put_left, put_right}

not_plot : (claimed plot : Bool) → claim_of claimed plot ≡ Free → plot ≡ false
not_plot true plot is = grind (arith, is)
not_plot false true is = grind (arith, is)
not_plot false false is = refl

-- after a look, a claim that is free has no plot
pub clear_after : (claims : Claims) (plots : Option FileId → Bool) (claimed : Bool) (claim : Claim) (path : List ℕ) (found : Option Found) (id : Option FileId) (earlier : List Deed)
    → AreThePlots claims plots → id ≡ id_found found → claim ≡ claim_of claimed (is_plot claims id) → IsClear plots claim path (earlier ++ Deed.looked path found ∷ [])
clear_after claims plots claimed claim path found id earlier are looked is free = record {
  found = found;
  looked = has_last earlier (Deed.looked path found);
  apart = ap plots (sym looked) ∙ sym (are id) ∙ not_plot claimed (is_plot claims id) (sym is ∙ free);
}

-- what is delivered by these claims, of which this one is free
pub by_claims : {D : Type 0} (does : D → Deed → D → Type 0) (claims : Claims) (plots : Option FileId → Bool) (claim : Claim) (a b : D) (item : Item) (path : List ℕ) (status : ℕ)
    → AreThePlots claims plots → claim ≡ Free
    → Delivers does (is_plot claims) None a b status (MayReplace (is_plot claims) None path) Anything (IsPut item path)
    → Delivers does plots None a b status (IsClear plots claim path) Anything (IsPut item path)
by_claims does claims plots claim a b item path status are free rest =
    adapted does plots None (IsClear plots claim path) (MayReplace plots None path) (IsPut item path) (IsPut item path) a b status
    (subst (λ (p : Option FileId → Bool). Delivers does p None a b status (MayReplace p None path) Anything (IsPut item path)) (fun_ext are) rest)
    (λ _ clear. inr (clear free)) (λ _ put. put)

pub kept_plots : (old new : Claims) (plots : Option FileId → Bool) → ((file : FileId) → has_plot new file ≡ has_plot old file)
    → AreThePlots old plots → AreThePlots new plots
kept_plots old new plots same are None = are None
kept_plots old new plots same are (Some file) = same file ∙ are (Some file)

put_at_left : (item : Item) (path : Option (List ℕ)) (xs ys : List Deed) → IsPutAt item path xs → IsPutAt item path (xs ++ ys)
put_at_left item None xs ys put = absurd put
put_at_left item (Some path) xs ys put = put_left item path xs ys put

put_at_right : (item : Item) (path : Option (List ℕ)) (xs ys : List Deed) → IsPutAt item path ys → IsPutAt item path (xs ++ ys)
put_at_right item None xs ys put = absurd put
put_at_right item (Some path) xs ys put = put_right item path xs ys put

sheet_left : (folder file extension : List ℕ) (number count : ℕ) (xs ys : List Deed) → IsSheetPut folder file extension number count xs
    → IsSheetPut folder file extension number count (xs ++ ys)
sheet_left folder file extension number count xs ys put = (put.0, put.1, put_at_left put.0 _ xs ys put.2)

sheet_right : (folder file extension : List ℕ) (number count : ℕ) (xs ys : List Deed) → IsSheetPut folder file extension number count ys
    → IsSheetPut folder file extension number count (xs ++ ys)
sheet_right folder file extension number count xs ys put = (put.0, put.1, put_at_right put.0 _ xs ys put.2)

last_or_before : (n to : ℕ) → n < to + 1 → (n < to) ⊎ (n ≡ to)
last_or_before n to within = elim (cases_lt n to) [ inl less ↦ inl less | inr more ↦ inr (omega (arith, within, more)) ]

-- one sheet more
pub one_more : (folder file extension : List ℕ) (to count : ℕ) (xs ys : List Deed) → AreSheetsPut folder file extension to count xs
    → IsSheetPut folder file extension (to + 1) count ys → AreSheetsPut folder file extension (to + 1) count (xs ++ ys)
one_more folder file extension to count xs ys before sheet n within =
    elim (last_or_before n to within) [
      | inl less ↦ sheet_left folder file extension (n + 1) count xs ys (before n less)
      | inr last ↦ sheet_right folder file extension (n + 1) count xs ys (subst (λ (k : ℕ). IsSheetPut folder file extension (k + 1) count ys) (sym last) sheet)
    ]

-- the file of a plot with one sheet
pub only_sheet : (folder file extension path : List ℕ) (item : Item) (deeds : List Deed) → IsSheet file 1 1 item → Some path ≡ file_name folder file 1 1 extension → IsPut item path deeds
    → IsOutputPut folder file extension deeds
only_sheet folder file extension path item deeds that is put =
    let here : IsSheetPut folder file extension (0 + 1) 1 deeds = (item, that, subst (λ (it : Option (List ℕ)). IsPutAt item it deeds) is put) in (
      1,
      omega arith,
      λ n within.
          let none : 0 ≡ n = omega (arith, within) in
          subst (λ (k : ℕ). IsSheetPut folder file extension (k + 1) 1 deeds) none here,
    )

pub output_right : (folder file extension : List ℕ) (xs ys : List Deed) → IsOutputPut folder file extension ys → IsOutputPut folder file extension (xs ++ ys)
output_right folder file extension xs ys put = (put.0, put.1, λ n within. sheet_right folder file extension (n + 1) put.0 xs ys (put.2 n within))

pub output_left : (folder file extension : List ℕ) (xs ys : List Deed) → IsOutputPut folder file extension xs → IsOutputPut folder file extension (xs ++ ys)
output_left folder file extension xs ys put = (put.0, put.1, λ n within. sheet_left folder file extension (n + 1) put.0 xs ys (put.2 n within))

-- a plot was opened, and then its output was written
pub plot_put : (folder extension file : List ℕ) (xs ys : List Deed) → IsOpened file xs → IsOutputPut folder file extension ys → IsPlotPut folder extension file (xs ++ ys)
plot_put folder extension file xs ys opened put = (has_left xs ys _ opened, output_right folder file extension xs ys put)

plot_left : (folder extension file : List ℕ) (xs ys : List Deed) → IsPlotPut folder extension file xs → IsPlotPut folder extension file (xs ++ ys)
plot_left folder extension file xs ys put = (has_left xs ys _ put.0, output_left folder file extension xs ys put.1)

plot_right : (folder extension file : List ℕ) (xs ys : List Deed) → IsPlotPut folder extension file ys → IsPlotPut folder extension file (xs ++ ys)
plot_right folder extension file xs ys put = (has_right xs ys _ put.0, output_right folder file extension xs ys put.1)

pub plots_right : (folder extension : List ℕ) (files : List (List ℕ)) (xs ys : List Deed) → ArePlotsPut folder extension files ys → ArePlotsPut folder extension files (xs ++ ys)
plots_right folder extension [] xs ys put = tt
plots_right folder extension (file ∷ files) xs ys put = (plot_right folder extension file xs ys put.0, plots_right folder extension files xs ys put.1)

pub opened_left : (file : List ℕ) (xs ys : List Deed) → IsOpened file xs → IsOpened file (xs ++ ys)
opened_left file xs ys opened = has_left xs ys _ opened

-- one plot more
pub plots_more : (folder extension file : List ℕ) (files : List (List ℕ)) (xs ys : List Deed) → ArePlotsPut folder extension files xs
    → IsPlotPut folder extension file ys → ArePlotsPut folder extension (files ++ file ∷ []) (xs ++ ys)
plots_more folder extension file [] xs ys before put = (plot_right folder extension file xs ys put, tt)
plots_more folder extension file (f ∷ files) xs ys before put =
    (plot_left folder extension f xs ys before.0, plots_more folder extension file files xs ys before.1 put)

-- the texts of files up to one more
pub texts_more : (files : List (Bor (List ℕ))) (i : ℕ) (other : Bor (List ℕ)) → i < length files
    → map (λ (file : Bor (List ℕ)). file.now) (take (i + 1) files) ≡ map (λ (file : Bor (List ℕ)). file.now) (take i files) ++ (get_or files i other).now ∷ []
texts_more files i other within =
    ap (map (λ (file : Bor (List ℕ)). file.now)) (take_more files i other within)
    ∙ map-append (λ (file : Bor (List ℕ)). file.now) (take i files) (get_or files i other ∷ [])

-- all of them
pub texts_all : (files : List (Bor (List ℕ))) (i : ℕ) → length files ≤ i → take i files ≡ files
texts_all files i past = take_all i files past
