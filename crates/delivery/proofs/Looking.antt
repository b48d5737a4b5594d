-- Plots that are looked for one after another.
use Rattle.std.proofs.Common.{◌≡◌, ◌++◌, ◌∷◌, ◌∙◌, ◌<◌, ℕ, Bor, Bool, true, List, [], Option, None, Some, Result, Ok, Err, inl, inr, refl, sym, max, arith}
use Rattle.std.specs.Option.{option_map, unwrap_or}
use Rattle.std.specs.Result.{IfErr}
use Rattle.output_files.specs.declared.file_id.FileId.{FileId}
use Rattle.delivery.specs.declared.desk.Found.{Found}
use Rattle.delivery.specs.Care.{AreAllowed, AreFollowed, id_found}
use Rattle.delivery.specs.Deeds.{Deed, Item, status_after}
use Rattle.delivery.specs.Deliveries.{Anything, Delivers}
use Rattle.delivery.specs.Looks.{AreHarmless, AreLooks, ArePlotsAt, IsCareful, IsPlot, Looks, LooksForPlots}
use Rattle.delivery.specs.Runs.{IsInputOpened, IsOutputDone, IsSingleDone, plot_item}
use Rattle.delivery.proofs.Delivered.{alone, positive, put_right}
use Rattle.delivery.proofs.DeedLemmas.{allowed_append, done_append, followed_append, has_right, status_append}

pub text_or : (file : Option (Bor (List ℕ))) (other : Bor (List ℕ)) → (unwrap_or file other).now ≡ unwrap_or (option_map (λ (f : Bor (List ℕ)). f.now) file) other.now
text_or None other = refl
text_or (Some file) other = refl

-- whatever the error
pub of_any_error : {A E : Type 0} {X : Type 0} (answer : Result A E) → X → IfErr answer (λ _. X)
of_any_error (Ok a) x = tt
of_any_error (Err e) x = x

still_plot : (plots plots' : Option FileId → Bool) (found : Option FileId) → ((id : Option FileId) → plots id ≡ true → plots' id ≡ true) → IsPlot plots found → IsPlot plots' found
still_plot plots plots' None more is = tt
still_plot plots plots' (Some file) more is = more (Some file) is

-- one more
pub plots_more_at : (plots plots' : Option FileId → Bool) (files : List (List ℕ)) (file : List ℕ) (found : Option Found) (deeds : List Deed)
    → ((id : Option FileId) → plots id ≡ true → plots' id ≡ true) → IsPlot plots' (id_found found) → ArePlotsAt plots files deeds
    → ArePlotsAt plots' (files ++ file ∷ []) (deeds ++ Deed.looked file found ∷ [])
plots_more_at plots plots' [] file found [] more is are = (refl, is, tt)
plots_more_at plots plots' (f ∷ files) file found (Deed.looked path was ∷ deeds) more is are =
    (are.0, still_plot plots plots' (id_found was) more are.1, plots_more_at plots plots' files file found deeds more is are.2)
plots_more_at plots plots' files file found deeds more is are = absurd are

plots_are_looks : (plots : Option FileId → Bool) (files : List (List ℕ)) (deeds : List Deed) → ArePlotsAt plots files deeds → AreLooks deeds
plots_are_looks plots [] [] are = tt
plots_are_looks plots (f ∷ files) (Deed.looked path was ∷ deeds) are = plots_are_looks plots files deeds are.2
plots_are_looks plots files deeds are = absurd are

looks_more : (deeds : List Deed) (path : List ℕ) (found : Option Found) → AreLooks deeds → AreLooks (deeds ++ Deed.looked path found ∷ [])
looks_more [] path found are = tt
looks_more (Deed.looked p f ∷ deeds) path found are = looks_more deeds path found are
looks_more (x ∷ deeds) path found are = absurd are

looks_allowed : (plots : Option FileId → Bool) (own : Option (List ℕ)) (earlier deeds : List Deed) → AreLooks deeds → AreAllowed plots own earlier deeds
looks_allowed plots own earlier [] are = tt
looks_allowed plots own earlier (Deed.looked p f ∷ deeds) are = (tt, looks_allowed plots own (earlier ++ Deed.looked p f ∷ []) deeds are)
looks_allowed plots own earlier (x ∷ deeds) are = absurd are

looks_followed : (deeds : List Deed) → AreLooks deeds → AreFollowed deeds
looks_followed [] are = tt
looks_followed (Deed.looked p f ∷ deeds) are = (tt, looks_followed deeds are)
looks_followed (x ∷ deeds) are = absurd are

looks_status : (deeds : List Deed) → AreLooks deeds → status_after deeds ≡ 0
looks_status [] are = refl
looks_status (Deed.looked p f ∷ deeds) are = looks_status deeds are
looks_status (x ∷ deeds) are = absurd are

refused_harmless : (deeds : List Deed) (status : ℕ) (text : Option (List ℕ)) → AreLooks deeds → AreHarmless (deeds ++ Deed.refused status text ∷ [])
refused_harmless [] status text are = tt
refused_harmless (Deed.looked p f ∷ deeds) status text are = refused_harmless deeds status text are
refused_harmless (x ∷ deeds) status text are = absurd are

pub output_right : (item : Item) (path : Option (List ℕ)) (xs ys : List Deed) → IsOutputDone item path ys → IsOutputDone item path (xs ++ ys)
output_right item None xs ys put = has_right xs ys _ put
output_right item (Some path) xs ys put = put_right item path xs ys put

input_right : (file : Option (List ℕ)) (xs ys : List Deed) → IsInputOpened file ys → IsInputOpened file (xs ++ ys)
input_right None xs ys opened = tt
input_right (Some file) xs ys opened = has_right xs ys _ opened

pub single_right : (file path : Option (List ℕ)) (xs ys : List Deed) → IsSingleDone file path ys → IsSingleDone file path (xs ++ ys)
single_right file path xs ys done = (input_right file xs ys done.0, output_right (plot_item file) path xs ys done.1)

same_status : (status first rest : ℕ) → first ≡ 0 → status ≡ rest → status ≡ max first rest
same_status status first rest zero is = grind (arith, zero, is)

module _ {D : Type 0} (does : D → Deed → D → Type 0) where
  -- a look after looks
  pub look_more : (a m b : D) (path : List ℕ) (found : Option Found) → Looks does a m → does m (Deed.looked path found) b → Looks does a b
  look_more a m b path found looks step = (
    looks.0 ++ Deed.looked path found ∷ [],
    done_append does looks.0 (Deed.looked path found ∷ []) a m b looks.1 (b, step, refl),
    looks_more looks.0 path found looks.2,
  )

  pub are_looks : (plots : Option FileId → Bool) (files : List (List ℕ)) (a b : D) → LooksForPlots does a plots files b → Looks does a b
  are_looks plots files a b looks = (looks.0, looks.1, plots_are_looks plots files looks.0 looks.2)

  -- one plot more
  pub look_for_more : (plots plots' : Option FileId → Bool) (files : List (List ℕ)) (file : List ℕ) (found : Option Found) (a m b : D)
      → ((id : Option FileId) → plots id ≡ true → plots' id ≡ true) → IsPlot plots' (id_found found) → LooksForPlots does a plots files m → does m (Deed.looked file found) b
      → LooksForPlots does a plots' (files ++ file ∷ []) b
  look_for_more plots plots' files file found a m b more is looks step = (
    looks.0 ++ Deed.looked file found ∷ [],
    done_append does looks.0 (Deed.looked file found ∷ []) a m b looks.1 (b, step, refl),
    plots_more_at plots plots' files file found looks.0 more is looks.2,
  )

  module _ (plots : Option FileId → Bool) (own : Option (List ℕ)) (files : List (List ℕ)) where
    -- the run ends after looks
    pub refused_after_looks : (IsWhole : List Deed → Type 0) (a m b : D) (status : ℕ) (text : Option (List ℕ)) → Looks does a m → does m (Deed.refused status text) b
        → 0 < status → Delivers does plots own a b status Anything (IsCareful plots files) IsWhole
    refused_after_looks IsWhole a m b status text looks say some =
        let refusal = Deed.refused status text in
        record {
          deeds = looks.0 ++ refusal ∷ [];
          done = done_append does looks.0 (refusal ∷ []) a m b looks.1 (b, say, refl);
          allowed = λ earlier _. allowed_append plots own earlier looks.0 (refusal ∷ []) (looks_allowed plots own earlier looks.0 looks.2) (tt, tt);
          followed = followed_append looks.0 (refusal ∷ []) (looks_followed looks.0 looks.2) (tt, tt);
          status_is = same_status status (status_after looks.0) (max status 0) (looks_status looks.0 looks.2) (alone status) ∙ sym (status_append looks.0 (refusal ∷ []));
          ends = inr (refused_harmless looks.0 status text looks.2);
          whole = λ zero. absurd (positive status some zero);
        }

    -- after the plots were looked for
    pub careful : (IsWhole IsWhole' : List Deed → Type 0) (a m b : D) (status : ℕ) → LooksForPlots does a plots files m
        → Delivers does plots own m b status Anything Anything IsWhole → ((looks deeds : List Deed) → IsWhole deeds → IsWhole' (looks ++ deeds))
        → Delivers does plots own a b status Anything (IsCareful plots files) IsWhole'
    careful IsWhole IsWhole' a m b status looks rest whole =
        let are : AreLooks looks.0 = plots_are_looks plots files looks.0 looks.2 in
        record {
          deeds = looks.0 ++ rest.deeds;
          done = done_append does looks.0 rest.deeds a m b looks.1 rest.done;
          allowed = λ earlier _. allowed_append plots own earlier looks.0 rest.deeds (looks_allowed plots own earlier looks.0 are) (rest.allowed (earlier ++ looks.0) tt);
          followed = followed_append looks.0 rest.deeds (looks_followed looks.0 are) rest.followed;
          status_is = same_status status (status_after looks.0) (status_after rest.deeds) (looks_status looks.0 are) rest.status_is ∙ sym (status_append looks.0 rest.deeds);
          ends = inl (looks.0, rest.deeds, refl, looks.2);
          whole = λ zero. whole looks.0 rest.deeds (rest.whole zero);
        }
