-- What holds of the edges of each area goes on to hold after more strokes, and with an area of these.
use Rattle.std.proofs.Common.{◌≡◌, ◌∙◌, ◌≤◌, ◌+◌, inl, inr, arith, ap, sym, subst, refl, Bool, true, List, [], ◌∷◌, ◌++◌, append-nil, drop, take, length, length-append, nat_lt, All}
use Rattle.std.specs.Prelude.{⊤}
use Rattle.std.proofs.lemmas.Bool.{cases_Bool}
use Rattle.std.proofs.lemmas.List.{append_assoc, take-append-le, take_all}
use Rattle.std.proofs.lemmas.List.Elements.{All-cons, All-nil}
use Rattle.std.proofs.Math.Seq.{drop-append_seam}
use Rattle.areas.specs.Shapes.{edges_of}
use Rattle.areas.specs.declared.area.Area.{Area}
use Rattle.plot_page.specs.Segments.{Segment}
use Rattle.polygons.specs.declared.lines.Rule.{Rule}
use Rattle.hpgl_plot.specs.Machine as core
use Rattle.full_plot.specs.Fills.{area_of}

-- strokes that go on after others
pub record GoesOn (before after : List Segment) : Type 0 where
  pub more : List Segment
  pub joined : after ≡ before ++ more

pub on_none : (before : List Segment) → GoesOn before before
on_none before = record { more = []; joined = sym (append-nil before) }

pub on_then : (a b c : List Segment) → GoesOn a b → GoesOn b c → GoesOn a c
on_then a b c h k = record {
  more = h.more ++ k.more;
  joined = k.joined ∙ ap (λ (ss : List Segment). ss ++ k.more) h.joined ∙ append_assoc a h.more k.more;
}

pub on_kept : (kept : List Segment) (full : Bool) (ss : List Segment) → GoesOn kept (core.kept_with kept full ss)
on_kept kept full [] = on_none kept
on_kept kept full (s ∷ ss) = elim (cases_Bool (nat_lt (length kept) 4194304)) [
  | inl t ↦ (let one : GoesOn kept (kept ++ s ∷ []) = record { more = s ∷ []; joined = refl } in
      rw t (on_then kept (kept ++ s ∷ []) (core.kept_with (kept ++ s ∷ []) full ss) one (on_kept (kept ++ s ∷ []) full ss)))
  | inr t ↦ rw t (on_kept kept true ss)
]

-- areas that end up to these strokes, and of whose edges something holds
abbrev pub Have : (List Segment → Type 0) → List Segment → List Area → Type 0
Have P strokes [] = ⊤
Have P strokes (a ∷ more) = (a.end ≤ length strokes) × P (edges_of strokes a) × Have P strokes more

module _ (P : List Segment → Type 0) where
  -- after more strokes
  have_more : (strokes others : List Segment) (areas : List Area) → Have P strokes areas → Have P (strokes ++ others) areas
  have_more strokes others [] h = tt
  have_more strokes others (a ∷ more) h =
      let long : length (strokes ++ others) ≡ length strokes + length others = length-append strokes others in
      let same : edges_of (strokes ++ others) a ≡ edges_of strokes a = ap (drop a.first) (take-append-le a.end strokes others h.0) in
      (omega (arith, h.0, long), subst P (sym same) h.1, have_more strokes others more h.2)

  pub have_on : (before after : List Segment) (areas : List Area) → GoesOn before after → Have P before areas → Have P after areas
  have_on before after areas k h = subst (λ (ss : List Segment). Have P ss areas) (sym k.joined) (have_more before k.more areas h)

  -- with an area of what was drawn after them
  one_has : (strokes others : List Segment) (rule : Rule) → P others
      → Have P (strokes ++ others) (area_of (length strokes) (length (strokes ++ others)) rule)
  one_has strokes others rule h = elim (cases_Bool (nat_lt (length strokes) (length (strokes ++ others)))) [
    | inl t ↦ (let same : drop (length strokes) (take (length (strokes ++ others)) (strokes ++ others)) ≡ others =
        ap (drop (length strokes)) (take_all (length (strokes ++ others)) (strokes ++ others) (omega arith)) ∙ drop-append_seam strokes others in
        rw t (omega arith, subst P (sym same) h, tt))
    | inr t ↦ rw t tt
  ]

  both_have : (strokes : List Segment) (some others : List Area) → Have P strokes some → Have P strokes others → Have P strokes (some ++ others)
  both_have strokes [] others h k = k
  both_have strokes (a ∷ some) others h k = (h.0, h.1, both_have strokes some others h.2 k)

  pub have_added : (strokes others after : List Segment) (areas : List Area) (rule : Rule) → after ≡ strokes ++ others → P others
      → Have P strokes areas → Have P after (areas ++ area_of (length strokes) (length after) rule)
  have_added strokes others after areas rule joined k h =
      subst (λ (ss : List Segment). Have P ss (areas ++ area_of (length strokes) (length ss) rule)) (sym joined)
      (both_have (strokes ++ others) areas (area_of (length strokes) (length (strokes ++ others)) rule)
      (have_more strokes others areas h) (one_has strokes others rule k))

  pub all_have : (strokes : List Segment) (areas : List Area) → Have P strokes areas → All (λ (a : Area). P (edges_of strokes a)) areas
  all_have strokes [] h = All-nil (λ (a : Area). P (edges_of strokes a))
  all_have strokes (a ∷ more) h =
      All-cons (λ (a : Area). P (edges_of strokes a)) a more h.1 (all_have strokes more h.2)
