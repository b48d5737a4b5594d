-- The dashes of a whole line, as code finds them.
use Rattle.std.proofs.Common.{◌≡◌, ℕ, ◌+◌, ◌-◌, ◌/◌, ◌<◌, List, [], ◌++◌, ◌∙◌, ap₂, arith}
use Rattle.std.proofs.lemmas.Bool.{ne_eqb}
use Rattle.std.proofs.lemmas.List.{append-nil}
use Rattle.exact.specs.declared.spot.Spot.{Spot}
use Rattle.line_types.specs.declared.repeated.Spacing.TheVariants.{Even, Fitted}
use Rattle.line_types.specs.Lines.{long_of}
use Rattle.line_types.specs.Dashes.{fixed_dashes, adaptive_dashes, last_dot}
use Rattle.line_types.specs.LineTypes.{whole_or}
use Rattle.line_types.specs.Left.{dashes_by}

module _ (gaps : List ℕ) (pattern_length long : ℕ) (a b : Spot) (above : 0 < long) (is_long : long ≡ long_of a b) (r : List (Spot × Spot)) where
  pub fixed_is : (start phase : ℕ) (repeated : List (Spot × Spot)) → start ≡ phase → r ≡ repeated ++ [] → repeated ≡ dashes_by (Even pattern_length) gaps a b start ((long + start) / pattern_length + 1)
      → r ≡ whole_or (fixed_dashes gaps pattern_length phase a b) a b
  fixed_is start phase repeated s e m =
      let k = rw (is_long, s) at m in
      rw (ne_eqb (long_of a b) 0 (λ z. omega arith)) (e ∙ append-nil repeated ∙ k)

  pub adaptive_is : (repeated dot : List (Spot × Spot)) → r ≡ repeated ++ dot → dot ≡ last_dot gaps b → repeated ≡ dashes_by Fitted gaps a b 0 ((long + pattern_length - 1) / pattern_length)
      → r ≡ whole_or (adaptive_dashes gaps pattern_length a b) a b
  adaptive_is repeated dot e d m =
      let k = rw is_long at m in
      rw (ne_eqb (long_of a b) 0 (λ z. omega arith)) (e ∙ ap₂ (λ (x y : List (Spot × Spot)). x ++ y) k d)
