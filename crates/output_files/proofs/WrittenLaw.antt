-- No path is written twice, and no plot.
use Rattle.std.proofs.Common.{◌≡◌, ℕ, ◌||◌, List, [], ◌∷◌, Bool, true, false, cond, Option, map, refl, arith}
use Rattle.std.specs.List.{AllByRecursion, IsDistinct}
use Rattle.std.specs.Str.{bytes_eq}
use Rattle.output_files.specs.declared.file_id.FileId.{FileId}
use Rattle.output_files.specs.Claims.{claim_of}
use Rattle.output_files.specs.Written.{Asked, is_free, written}

-- neither of two is left
neither : (a b : Bool) → (a || b) ≡ false → (a ≡ false) × (b ≡ false)
neither a b h = grind (arith, h)

-- what holds of each holds also if it says less
all_less : {X : Type 0} (P Q : X → Type 0) → ((x : X) → P x → Q x) → (xs : List X) → AllByRecursion P xs → AllByRecursion Q xs
all_less P Q less [] h = tt
all_less P Q less (x ∷ xs) h = (less x h.0, all_less P Q less xs h.1)

all_mapped : {X Y : Type 0} (P : Y → Type 0) (f : X → Y) (xs : List X) → AllByRecursion (λ x. P (f x)) xs → AllByRecursion P (map f xs)
all_mapped P f [] h = tt
all_mapped P f (x ∷ xs) h = (h.0, all_mapped P f xs h.1)

module _ (plot : Option FileId → Bool) where
  -- the answer of one more file decides whether it is among those that are written
  one_more : (P : List Asked → Type 0) (claimed is_a_plot : Bool) (file : Asked) (later : List Asked) →
      P later → (claimed ≡ false → is_a_plot ≡ false → P (file ∷ later)) →
      P (cond (is_free (claim_of claimed is_a_plot)) (file ∷ later) later)
  one_more P true b file later skipped added = skipped
  one_more P false true file later skipped added = skipped
  one_more P false false file later skipped added = added refl refl

  pub fresh_paths : (claimed : List ℕ → Bool) (files : List Asked) →
      AllByRecursion (λ file. claimed file.path ≡ false) (written claimed plot files)
  fresh_paths claimed [] = tt
  fresh_paths claimed (file ∷ files) =
      let rest = all_less (λ (it : Asked). (bytes_eq file.path it.path || claimed it.path) ≡ false) (λ it. claimed it.path ≡ false)
      (λ it h. (neither (bytes_eq file.path it.path) (claimed it.path) h).1) _
      (fresh_paths (λ path. bytes_eq file.path path || claimed path) files) in
      one_more (AllByRecursion (λ it. claimed it.path ≡ false)) (claimed file.path) (plot file.found) file _ rest (λ free _. (free, rest))

  pub no_plots : (claimed : List ℕ → Bool) (files : List Asked) →
      AllByRecursion (λ file. plot file.found ≡ false) (written claimed plot files)
  no_plots claimed [] = tt
  no_plots claimed (file ∷ files) =
      let rest = no_plots (λ path. bytes_eq file.path path || claimed path) files in
      one_more (AllByRecursion (λ it. plot it.found ≡ false)) (claimed file.path) (plot file.found) file _ rest (λ _ apart. (apart, rest))

  pub distinct_paths : (claimed : List ℕ → Bool) (files : List Asked) →
      IsDistinct bytes_eq (map (λ (file : Asked). file.path) (written claimed plot files))
  unfolding IsDistinct
  distinct_paths claimed [] = tt
  distinct_paths claimed (file ∷ files) =
      let more : List ℕ → Bool = λ path. bytes_eq file.path path || claimed path in
      let later : List Asked = written more plot files in
      let rest = distinct_paths more files in
      let apart : AllByRecursion (λ (it : Asked). bytes_eq file.path it.path ≡ false) later =
      all_less (λ (it : Asked). more it.path ≡ false) (λ it. bytes_eq file.path it.path ≡ false)
      (λ it h. (neither (bytes_eq file.path it.path) (claimed it.path) h).0) later (fresh_paths more files) in
      one_more (λ them. IsDistinct bytes_eq (map (λ (it : Asked). it.path) them)) (claimed file.path) (plot file.found) file later rest
      (λ _ _. (all_mapped (λ path. bytes_eq file.path path ≡ false) (λ (it : Asked). it.path) later apart, rest))
