-- What steps of core leave alone in the profile full: all but core, the run, the margin, and how many strokes there are.
use Rattle.std.proofs.Common.{◌≡◌, ◌∙◌, ◌<◌, ◌≤◌, ◌+◌, ℕ, inl, inr, refl, arith, Bool, true, false, subst, sym, ap, List, [], ◌∷◌, ◌++◌, length, nat_lt, Option, length-append}
use Rattle.std.specs.Prelude.{⊤}
use Rattle.std.proofs.lemmas.Bool.{cases_Bool}
use Rattle.std.proofs.lemmas.Bool.Decides.{nat_tests}
use Rattle.exact.specs.declared.spot.Spot.{Spot}
use Rattle.plot_page.specs.Segments.{Segment}
use Rattle.plot_settings.specs.Meanings.{Step, Write}
use Rattle.hpgl_plot.specs.Machine as core
use Rattle.line_types.specs.declared.run.Run.{Run}
use Rattle.polygons.specs.Buffers.{Contents}
use Rattle.character_sets.specs.Signs.{sets_after}
use Rattle.character_sets.specs.declared.sets.Sets.{Sets}
use Rattle.full_settings.specs.Characters.{Characters}
use Rattle.full_notes.specs.Contexts.{Context}
use Rattle.full_plot.specs.Machine.{core_step}
use Rattle.full_plot.specs.Texts.{shifted_by}
use Rattle.full_plot.specs.Worlds.{FullWorld}
use Rattle.full_plot.proofs.Changes.{CoreChanges, In, Shifts, core_holds}

-- so many strokes are no fewer than before, and no more than a plot may have, if there were no more before
abbrev pub Grows : ℕ → ℕ → Type 0
Grows m n = (m ≤ n) × (m ≤ 4194304 → n ≤ 4194304)

grows_not : (n : ℕ) → Grows n n
grows_not n = (omega arith, λ h. h)

grows_on : (l m n : ℕ) → Grows l m → Grows m n → Grows l n
grows_on l m n h k = (omega (arith, h.0, k.0), λ few. k.1 (h.1 few))

pub few_kept : (kept : List Segment) (full : Bool) (ss : List Segment) → Grows (length kept) (length (core.kept_with kept full ss))
few_kept kept full [] = grows_not (length kept)
few_kept kept full (s ∷ ss) = elim (cases_Bool (nat_lt (length kept) 4194304)) [
  | inl t ↦ (let room : length kept < 4194304 = grind (arith, nat_tests) in
      let more : List Segment = kept ++ (s ∷ []) in
      let long : length more ≡ length kept + 1 = length-append kept (s ∷ []) in
      let one : Grows (length kept) (length more) = (omega (arith, long), λ few. omega (arith, room, long)) in
      rw t (grows_on (length kept) (length more) (length (core.kept_with more full ss)) one (few_kept more full ss)))
  | inr t ↦ rw t (few_kept kept true ss)
]

-- from one world to a later one
pub record IsNext (w v : FullWorld) : Type 0 where
  pub style_is : v.style ≡ w.style
  pub encoding_is : v.encoding ≡ w.encoding
  pub characters_are : v.characters ≡ w.characters
  pub writing_is : v.writing ≡ w.writing
  pub extra_is : v.extra ≡ w.extra
  pub ends_are : v.ends ≡ w.ends
  pub areas_are : v.areas ≡ w.areas
  pub graphics_are : v.graphics ≡ w.graphics
  pub context_is : v.context ≡ w.context
  pub few : Grows (length w.core.kept) (length v.core.kept)
  pub few_places : w.context.in_polygon ≡ false → w.buffer.places ≤ 4194304 → v.buffer.places ≤ 4194304

next_of_next : (w v u : FullWorld) → IsNext w v → IsNext v u → IsNext w u
next_of_next w v u h k = record {
  style_is = k.style_is ∙ h.style_is;
  encoding_is = k.encoding_is ∙ h.encoding_is;
  characters_are = k.characters_are ∙ h.characters_are;
  writing_is = k.writing_is ∙ h.writing_is;
  extra_is = k.extra_is ∙ h.extra_is;
  ends_are = k.ends_are ∙ h.ends_are;
  areas_are = k.areas_are ∙ h.areas_are;
  graphics_are = k.graphics_are ∙ h.graphics_are;
  context_is = k.context_is ∙ h.context_is;
  few = grows_on (length w.core.kept) (length v.core.kept) (length u.core.kept) h.few k.few;
  few_places = λ a few. k.few_places (ap (λ (c : Context). c.in_polygon) h.context_is ∙ a) (h.few_places a few);
}

next_by : (w : FullWorld) (c : core.World) (r : Option Run) (q : Spot) (b : Contents) → Grows (length w.core.kept) (length c.kept)
    → (w.context.in_polygon ≡ false → w.buffer.places ≤ 4194304 → b.places ≤ 4194304)
    → IsNext w (record w { core = c; run = r; margin = q; buffer = b })
next_by w c r q b h k = record {
  style_is = refl;
  encoding_is = refl;
  characters_are = refl;
  writing_is = refl;
  extra_is = refl;
  ends_are = refl;
  areas_are = refl;
  graphics_are = refl;
  context_is = refl;
  few = h;
  few_places = k;
}

next_changes : CoreChanges IsNext ⊤
next_changes = record {
  joined = next_of_next;
  context_is = λ w v h. h.context_is;
  drawn = λ w s ss r m. next_by w _ r w.margin w.buffer (few_kept w.core.kept w.core.full ss) (λ off few. few);
  quiet = λ w s q b few follows. next_by w _ w.run q b (grows_not (length w.core.kept)) few;
}

-- a text that selects no set
abbrev pub IsUnshifted : List ℕ → Type 0
IsUnshifted text = (sets : Sets) → sets_after sets text ≡ sets

next_unshifted : (text : List ℕ) → IsUnshifted text → (w : FullWorld) → IsNext w (shifted_by text w)
next_unshifted text h w =
    subst (λ (c : Characters). IsNext w (record w { characters = c }))
    (sym (ap (λ (sets : Sets). record w.characters { sets = sets }) (h w.characters.sets)))
    (next_by w w.core w.run w.margin w.buffer (grows_not (length w.core.kept)) (λ off few. few))

-- a step that selects no set
abbrev pub KeepsSets : Step → Type 0
KeepsSets (Write text) = IsUnshifted text
KeepsSets _ = ⊤

shifts : (t : Step) → KeepsSets t → Shifts next_changes t
shifts (Write text) k = next_unshifted text k
shifts t k = tt

pub next_core_step : (w : FullWorld) (t : Step) → KeepsSets t → In (IsNext w) (core_step w t)
next_core_step w t k = core_holds next_changes w t (λ e. tt) (shifts t k)
