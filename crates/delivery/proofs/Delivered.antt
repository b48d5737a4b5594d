-- What the steps of a delivery do.
use Rattle.std.proofs.Common.{◌≡◌, ◌++◌, ◌∷◌, ◌<◌, ◌∙◌, ℕ, Bool, true, false, List, [], Option, inl, inr, refl, sym, subst, max, ap, arith}
use Rattle.output_files.specs.declared.file_id.FileId.{FileId}
use Rattle.delivery.specs.declared.desk.Found.{Found}
use Rattle.delivery.specs.declared.ending.Ending.{Ending}
use Rattle.delivery.specs.declared.ending.Ending.TheVariants.{Whole, Kept, Lost}
use Rattle.delivery.specs.Deeds.{Deed, Has, IsSaidOf, Item, Says, WereDone, status_after, status_of}
use Rattle.delivery.specs.Care.{AreAllowed, AreFollowed, HasNoPlotAt, IsFollowed, IsSettled, SaysNext, output_name, part_of}
use Rattle.delivery.specs.Folders.{IsOpened}
use Rattle.delivery.specs.Deliveries.{Delivers, Anything, IsLeft, HasName, IsMade, IsNamed, IsPut, IsReachable, IsShown, IsStored, IsToBeNamed, IsWritten, MayBeMade, Never, SaysFirst}
use Rattle.delivery.proofs.DeedLemmas.{allowed_append, done_append, followed_append, has_last, has_left, has_right, no_plot_longer, replace_longer}
use Rattle.delivery.proofs.DeedLemmas.{remarks_allowed, remarks_followed, remarks_status, settled_later, status_append}

not_zero : (status : ℕ) → status ≡ 3 → status ≡ 0 → ⊥
not_zero status three zero = omega arith

pub positive : (status : ℕ) → 0 < status → status ≡ 0 → ⊥
positive status some zero = omega arith

pub alone : (status : ℕ) → status ≡ max status 0
alone status = grind arith

both_status : (s t x y z : ℕ) → s ≡ x → t ≡ y → z ≡ max x y → max s t ≡ z
both_status s t x y z first next is = grind (arith, first, next, is)

zero_max : (t : ℕ) → max 0 t ≡ t
zero_max t = grind arith

left_zero : (s t : ℕ) → max s t ≡ 0 → s ≡ 0
left_zero s t zero = grind (arith, zero)

right_zero : (s t : ℕ) → max s t ≡ 0 → t ≡ 0
right_zero s t zero = grind (arith, zero)

module _ {D : Type 0} (does : D → Deed → D → Type 0) (plots : Option FileId → Bool) (own : Option (List ℕ)) where
  pub named : (a b : D) (part path : List ℕ) → part ≡ part_of path → does a (Deed.renamed part path true) b
      → Delivers does plots own a b 0 (IsStored plots own part path) (IsToBeNamed part path) (HasName path)
  named a b part path is step = record {
    deeds = Deed.renamed part path true ∷ [];
    done = (b, step, refl);
    allowed = λ earlier has. ((has.0, is, has.1), tt);
    followed = (tt, tt);
    status_is = refl;
    ends = (true, inl refl);
    whole = λ _. inl (ap (λ (p : List ℕ). Deed.renamed p path true) is);
  }

  pub not_named : (a m b : D) (part path : List ℕ) (status : ℕ) (text : Option (List ℕ)) → part ≡ part_of path → does a (Deed.renamed part path false) m
      → does m (Deed.refused status text) b → status ≡ 3 → Delivers does plots own a b status (IsStored plots own part path) (IsToBeNamed part path) (HasName path)
  not_named a m b part path status text is step say three = record {
    deeds = Deed.renamed part path false ∷ Deed.refused status text ∷ [];
    done = (m, step, (b, say, refl));
    allowed = λ earlier has. ((has.0, is, has.1), (tt, tt));
    followed = (omega arith, (tt, tt));
    status_is = alone status;
    ends = (false, inl refl);
    whole = λ zero. absurd (not_zero status three zero);
  }

  -- what is of no use is removed
  pub lost : (a m b : D) (part : List ℕ) (ending : Ending) (status : ℕ) → ending ≡ Lost status → Says does a ending m → does m (Deed.removed part) b
      → Delivers does plots own a b status (λ earlier. HasNoPlotAt plots earlier part) (IsLeft ending part) Never
  lost a m b part ending status is says step =
      let said : Says does a (Lost status) m = subst (λ (e : Ending). Says does a e m) is says in
      let text = said.2.1 in
      let first : WereDone does a (Deed.refused status text ∷ []) m = subst (λ (ds : List Deed). WereDone does a ds m) said.2.2 said.1 in
      rw is (record {
        deeds = Deed.refused status text ∷ Deed.removed part ∷ [];
        done = done_append does (Deed.refused status text ∷ []) (Deed.removed part ∷ []) a m b first (b, step, refl);
        allowed = λ earlier has. (tt, (no_plot_longer plots earlier (Deed.refused status text ∷ []) part has, tt));
        followed = (tt, (tt, tt));
        status_is = alone status;
        ends = (said.2.0, inr (inl refl));
        whole = λ zero. positive status said.2.0 zero;
      })

  -- after it is stored, remarks are made, and it gets its name
  pub stored : (a m n b : D) (part path : List ℕ) (status : ℕ) → does a (Deed.synced part true) m → Says does m Whole n
      → Delivers does plots own n b status (IsStored plots own part path) (IsToBeNamed part path) (HasName path)
      → Delivers does plots own a b status (IsWritten plots own part path) (IsSettled part) (HasName path)
  stored a m n b part path status step says rest =
      let remarks : List Deed = says.0 in
      let zero = remarks_status remarks says.2 in
      record {
        deeds = Deed.synced part true ∷ (remarks ++ rest.deeds);
        done = (m, step, done_append does remarks rest.deeds m n b says.1 rest.done);
        allowed = λ earlier has. (
          has.0,
          allowed_append plots own (earlier ++ Deed.synced part true ∷ []) remarks rest.deeds
              (remarks_allowed plots own (earlier ++ Deed.synced part true ∷ []) remarks says.2)
              (rest.allowed _ (
                has_left (earlier ++ Deed.synced part true ∷ []) remarks (Deed.synced part true) (has_last earlier (Deed.synced part true)),
                replace_longer plots own (earlier ++ Deed.synced part true ∷ []) remarks path (replace_longer plots own earlier (Deed.synced part true ∷ []) path has.1.1),
              )),
        );
        followed = (tt, followed_append remarks rest.deeds (remarks_followed remarks says.2) rest.followed);
        status_is = rest.status_is ∙ sym (status_append remarks rest.deeds ∙ grind (arith, zero));
        ends = IsSettled.named path rest.ends.0 (inr (has_right remarks rest.deeds _ rest.ends.1));
        whole = λ is. inr (has_right remarks rest.deeds _ (rest.whole is));
      }

  says_first : (part : List ℕ) (ending : Ending) (deeds : List Deed) → IsLeft ending part deeds → SaysNext deeds
  says_first part Whole deeds left = absurd left
  says_first part (Kept status) deeds left = left
  says_first part (Lost status) deeds left = left.0

  -- the system could not store it
  pub not_stored : (a m b : D) (part path : List ℕ) (status : ℕ) (ending : Ending) → does a (Deed.synced part false) m
      → Delivers does plots own m b status (λ earlier. HasNoPlotAt plots earlier part) (IsLeft ending part) Never
      → Delivers does plots own a b status (IsWritten plots own part path) (IsSettled part) (HasName path)
  not_stored a m b part path status ending step rest = record {
    deeds = Deed.synced part false ∷ rest.deeds;
    done = (m, step, rest.done);
    allowed = λ earlier has. (has.0, rest.allowed _ (no_plot_longer plots earlier (Deed.synced part false ∷ []) part has.1.0));
    followed = (says_first part ending rest.deeds rest.ends, rest.followed);
    status_is = rest.status_is;
    ends = IsSettled.unstored (inl refl);
    whole = λ zero. absurd (rest.whole zero);
  }

  may_longer : (part path : List ℕ) (earlier : List Deed) (deed : Deed) → MayBeMade plots own part path earlier → MayBeMade plots own part path (earlier ++ deed ∷ [])
  may_longer part path earlier deed may = (no_plot_longer plots earlier (deed ∷ []) part may.0, replace_longer plots own earlier (deed ∷ []) path may.1)

  -- it was written whole
  pub filled : (a m b : D) (part path : List ℕ) (item : Item) (status : ℕ) → part ≡ part_of path → does a (Deed.wrote part item Whole) m
      → Delivers does plots own m b status (IsWritten plots own part path) (IsSettled part) (HasName path)
      → Delivers does plots own a b status (IsMade plots own part path) (IsSettled part) (IsNamed item path)
  filled a m b part path item status is write rest = record {
    deeds = Deed.wrote part item Whole ∷ rest.deeds;
    done = (m, write, rest.done);
    allowed = λ earlier has. (inr (inl has.0), rest.allowed _ ((item, has_last earlier (Deed.wrote part item Whole)), may_longer part path earlier (Deed.wrote part item Whole) has.1));
    followed = (tt, rest.followed);
    status_is = rest.status_is;
    ends = settled_later part (Deed.wrote part item Whole) rest.deeds rest.ends;
    whole = λ zero. (inr (rest.whole zero), inl (ap (λ (p : List ℕ). Deed.wrote p item Whole) is));
  }

  says_why : (part : List ℕ) (item : Item) (ending : Ending) (deeds : List Deed) → IsLeft ending part deeds → IsFollowed (Deed.wrote part item ending) deeds
  says_why part item Whole deeds left = absurd left
  says_why part item (Kept status) deeds left = left
  says_why part item (Lost status) deeds left = left.0

  left_settled : (part : List ℕ) (item : Item) (ending : Ending) (deeds : List Deed) → IsLeft ending part deeds → IsSettled part (Deed.wrote part item ending ∷ deeds)
  left_settled part item Whole deeds left = absurd left
  left_settled part item (Kept status) deeds left = IsSettled.kept item status (inl refl)
  left_settled part item (Lost status) deeds left = IsSettled.gone (inr left.1)

  -- it was not
  pub not_filled : (a m b : D) (part path : List ℕ) (item : Item) (status : ℕ) (ending : Ending) → does a (Deed.wrote part item ending) m
      → Delivers does plots own m b status (λ earlier. HasNoPlotAt plots earlier part) (IsLeft ending part) Never
      → Delivers does plots own a b status (IsMade plots own part path) (IsSettled part) (IsNamed item path)
  not_filled a m b part path item status ending write rest = record {
    deeds = Deed.wrote part item ending ∷ rest.deeds;
    done = (m, write, rest.done);
    allowed = λ earlier has. (inr (inl has.0), rest.allowed _ (no_plot_longer plots earlier (Deed.wrote part item ending ∷ []) part has.1.0));
    followed = (says_why part item ending rest.deeds rest.ends, rest.followed);
    status_is = rest.status_is;
    ends = left_settled part item ending rest.deeds rest.ends;
    whole = λ zero. absurd (rest.whole zero);
  }

  -- a file is made and filled
  pub made : (a m n b : D) (part path : List ℕ) (item : Item) (status : ℕ) → does a (Deed.removed part) m → does m (Deed.created part true) n
      → Delivers does plots own n b status (IsMade plots own part path) (IsSettled part) (IsNamed item path)
      → Delivers does plots own a b status (MayBeMade plots own part path) Anything (IsNamed item path)
  made a m n b part path item status remove create rest = record {
    deeds = Deed.removed part ∷ Deed.created part true ∷ rest.deeds;
    done = (m, remove, (n, create, rest.done));
    allowed = λ earlier has.
        let here = earlier ++ Deed.removed part ∷ [] in
        let may = may_longer part path earlier (Deed.removed part) has in
        (has.0, (may.0, rest.allowed _ (has_last here (Deed.created part true), may_longer part path here (Deed.created part true) may)));
    followed = (tt, (rest.ends, rest.followed));
    status_is = rest.status_is;
    ends = tt;
    whole = λ zero. (inr (inr (rest.whole zero).0), inr (inr (rest.whole zero).1));
  }

  pub not_made : (a m n b : D) (part path : List ℕ) (item : Item) (status : ℕ) (text : Option (List ℕ)) → does a (Deed.removed part) m → does m (Deed.created part false) n
      → does n (Deed.refused status text) b → status ≡ 3 → Delivers does plots own a b status (MayBeMade plots own part path) Anything (IsNamed item path)
  not_made a m n b part path item status text remove create say three = record {
    deeds = Deed.removed part ∷ Deed.created part false ∷ Deed.refused status text ∷ [];
    done = (m, remove, (n, create, (b, say, refl)));
    allowed = λ earlier has. (has.0, (no_plot_longer plots earlier (Deed.removed part ∷ []) part has.0, (tt, tt)));
    followed = (tt, (omega arith, (tt, tt)));
    status_is = alone status;
    ends = tt;
    whole = λ zero. absurd (not_zero status three zero);
  }

  -- a refusal, and nothing else
  pub only_refused : (Needs IsWhole : List Deed → Type 0) (a b : D) (status : ℕ) (text : Option (List ℕ)) → does a (Deed.refused status text) b → 0 < status
      → Delivers does plots own a b status Needs Anything IsWhole
  only_refused Needs IsWhole a b status text say some = record {
    deeds = Deed.refused status text ∷ [];
    done = (b, say, refl);
    allowed = λ earlier _. (tt, tt);
    followed = (tt, tt);
    status_is = alone status;
    ends = tt;
    whole = λ zero. absurd (positive status some zero);
  }

  -- a look, after which something is delivered
  pub after_look : (Needs' Needs IsWhole : List Deed → Type 0) (a m b : D) (path : List ℕ) (found : Option Found) (status : ℕ) → does a (Deed.looked path found) m
      → Delivers does plots own m b status Needs Anything IsWhole → ((earlier : List Deed) → Needs' earlier → Needs (earlier ++ Deed.looked path found ∷ []))
      → ((deeds : List Deed) → IsWhole deeds → IsWhole (Deed.looked path found ∷ deeds)) → Delivers does plots own a b status Needs' Anything IsWhole
  after_look Needs' Needs IsWhole a m b path found status look rest needs longer = record {
    deeds = Deed.looked path found ∷ rest.deeds;
    done = (m, look, rest.done);
    allowed = λ earlier has. (tt, rest.allowed (earlier ++ Deed.looked path found ∷ []) (needs earlier has));
    followed = (tt, rest.followed);
    status_is = rest.status_is;
    ends = tt;
    whole = λ zero. longer rest.deeds (rest.whole zero);
  }

  said_allowed : (earlier : List Deed) (ending : Ending) (deeds : List Deed) → IsSaidOf ending deeds → AreAllowed plots own earlier deeds
  said_allowed earlier Whole deeds said = remarks_allowed plots own earlier deeds said
  said_allowed earlier (Kept status) deeds said = rw said.2 (tt, tt)
  said_allowed earlier (Lost status) deeds said = rw said.2 (tt, tt)

  said_followed : (ending : Ending) (deeds : List Deed) → IsSaidOf ending deeds → AreFollowed deeds
  said_followed Whole deeds said = remarks_followed deeds said
  said_followed (Kept status) deeds said = rw said.2 (tt, tt)
  said_followed (Lost status) deeds said = rw said.2 (tt, tt)

  said_next : (path : List ℕ) (item : Item) (ending : Ending) (deeds : List Deed) → IsSaidOf ending deeds → IsFollowed (Deed.wrote path item ending) deeds
  said_next path item Whole deeds said = tt
  said_next path item (Kept status) deeds said = rw said.2 said.0
  said_next path item (Lost status) deeds said = rw said.2 said.0

  said_status : (ending : Ending) (deeds : List Deed) → IsSaidOf ending deeds → status_of ending ≡ status_after deeds
  said_status Whole deeds said = sym (remarks_status deeds said)
  said_status (Kept status) deeds said = rw said.2 (alone status)
  said_status (Lost status) deeds said = rw said.2 (alone status)

  wrote_whole : (path : List ℕ) (item : Item) (ending : Ending) (deeds : List Deed) → IsSaidOf ending deeds → status_of ending ≡ 0
      → Has (Deed.wrote path item ending ∷ deeds) (Deed.wrote path item Whole)
  wrote_whole path item Whole deeds said zero = inl refl
  wrote_whole path item (Kept status) deeds said zero = absurd (positive status said.0 zero)
  wrote_whole path item (Lost status) deeds said zero = absurd (positive status said.0 zero)

  -- what goes to standard output
  pub shown : (a m b : D) (item : Item) (ending : Ending) (status : ℕ) → does a (Deed.wrote output_name item ending) m → Says does m ending b → status ≡ status_of ending
      → Delivers does plots own a b status Anything Anything (IsShown item)
  shown a m b item ending status write says is = record {
    deeds = Deed.wrote output_name item ending ∷ says.0;
    done = (m, write, says.1);
    allowed = λ earlier _. (inl refl, said_allowed _ ending says.0 says.2);
    followed = (said_next output_name item ending says.0 says.2, said_followed ending says.0 says.2);
    status_is = is ∙ said_status ending says.0 says.2;
    ends = tt;
    whole = λ zero. wrote_whole output_name item ending says.0 says.2 (sym is ∙ zero);
  }

  -- what has a path is written as it is
  pub written : (a m n b : D) (path : List ℕ) (item : Item) (ending : Ending) (status : ℕ) → does a (Deed.reached path true) m → does m (Deed.wrote path item ending) n
      → Says does n ending b → status ≡ status_of ending
      → Delivers does plots own a b status (IsReachable path) Anything (IsPut item path)
  written a m n b path item ending status reach write says is = record {
    deeds = Deed.reached path true ∷ Deed.wrote path item ending ∷ says.0;
    done = (m, reach, (n, write, says.1));
    allowed = λ earlier has. (has, (inr (inr (has_last earlier (Deed.reached path true))), said_allowed _ ending says.0 says.2));
    followed = (tt, (said_next path item ending says.0 says.2, said_followed ending says.0 says.2));
    status_is = is ∙ said_status ending says.0 says.2;
    ends = tt;
    whole = λ zero. inr (inr (wrote_whole path item ending says.0 says.2 (sym is ∙ zero)));
  }

  pub not_reached : (a m b : D) (path : List ℕ) (item : Item) (status : ℕ) (text : Option (List ℕ)) → does a (Deed.reached path false) m → does m (Deed.refused status text) b
      → status ≡ 3 → Delivers does plots own a b status (IsReachable path) Anything (IsPut item path)
  not_reached a m b path item status text reach say three = record {
    deeds = Deed.reached path false ∷ Deed.refused status text ∷ [];
    done = (m, reach, (b, say, refl));
    allowed = λ earlier has. (has, (tt, tt));
    followed = (omega arith, (tt, tt));
    status_is = alone status;
    ends = tt;
    whole = λ zero. absurd (not_zero status three zero);
  }

  -- the same by other words
  pub adapted : (Needs' Needs IsWhole IsWhole' : List Deed → Type 0) (a b : D) (status : ℕ) → Delivers does plots own a b status Needs Anything IsWhole
      → ((earlier : List Deed) → Needs' earlier → Needs earlier) → ((deeds : List Deed) → IsWhole deeds → IsWhole' deeds)
      → Delivers does plots own a b status Needs' Anything IsWhole'
  adapted Needs' Needs IsWhole IsWhole' a b status rest needs whole = record {
    deeds = rest.deeds;
    done = rest.done;
    allowed = λ earlier has. rest.allowed earlier (needs earlier has);
    followed = rest.followed;
    status_is = rest.status_is;
    ends = tt;
    whole = λ zero. whole rest.deeds (rest.whole zero);
  }

  -- a plot is opened
  pub opened : (a b : D) (path : List ℕ) → does a (Deed.opened path true) b → Delivers does plots own a b 0 Anything Anything (IsOpened path)
  opened a b path opens = record {
    deeds = Deed.opened path true ∷ [];
    done = (b, opens, refl);
    allowed = λ earlier _. (tt, tt);
    followed = (tt, tt);
    status_is = refl;
    ends = tt;
    whole = λ _. inl refl;
  }

  pub not_opened : (a m b : D) (path : List ℕ) (status : ℕ) → does a (Deed.opened path false) m → SaysFirst does m status b → status ≡ 3
      → Delivers does plots own a b status Anything Anything (IsOpened path)
  not_opened a m b path status opens says three =
      let say = Deed.refused status says.0 in
      record {
        deeds = Deed.opened path false ∷ say ∷ says.1;
        done = (m, opens, says.2);
        allowed = λ earlier _. (tt, (tt, remarks_allowed plots own ((earlier ++ Deed.opened path false ∷ []) ++ say ∷ []) says.1 says.3));
        followed = (omega arith, (tt, remarks_followed says.1 says.3));
        status_is = grind (arith, remarks_status says.1 says.3);
        ends = tt;
        whole = λ zero. absurd (not_zero status three zero);
      }

  -- one after another
  pub both : (W V IsWhole : List Deed → Type 0) (a m b : D) (s t : ℕ) → Delivers does plots own a m s Anything Anything W → Delivers does plots own m b t Anything Anything V
      → ((xs ys : List Deed) → W xs → V ys → IsWhole (xs ++ ys)) → Delivers does plots own a b (max s t) Anything Anything IsWhole
  both W V IsWhole a m b s t first next whole = record {
    deeds = first.deeds ++ next.deeds;
    done = done_append does first.deeds next.deeds a m b first.done next.done;
    allowed = λ earlier _. allowed_append plots own earlier first.deeds next.deeds (first.allowed earlier tt) (next.allowed (earlier ++ first.deeds) tt);
    followed = followed_append first.deeds next.deeds first.followed next.followed;
    status_is = both_status s t (status_after first.deeds) (status_after next.deeds) _ first.status_is next.status_is (status_append first.deeds next.deeds);
    ends = tt;
    whole = λ zero. whole first.deeds next.deeds (first.whole (left_zero s t zero)) (next.whole (right_zero s t zero));
  }

  -- the same after what went well
  pub after_success : (W V IsWhole : List Deed → Type 0) (a m b : D) (t : ℕ) → Delivers does plots own a m 0 Anything Anything W → Delivers does plots own m b t Anything Anything V
      → ((xs ys : List Deed) → W xs → V ys → IsWhole (xs ++ ys)) → Delivers does plots own a b t Anything Anything IsWhole
  after_success W V IsWhole a m b t first next whole =
      subst (λ (s : ℕ). Delivers does plots own a b s Anything Anything IsWhole) (zero_max t) (both W V IsWhole a m b 0 t first next whole)

  -- what went wrong
  pub gone_wrong : (W IsWhole : List Deed → Type 0) (a b : D) (s : ℕ) → Delivers does plots own a b s Anything Anything W → 0 < s
      → Delivers does plots own a b s Anything Anything IsWhole
  gone_wrong W IsWhole a b s wrong some = record {
    deeds = wrong.deeds;
    done = wrong.done;
    allowed = wrong.allowed;
    followed = wrong.followed;
    status_is = wrong.status_is;
    ends = tt;
    whole = λ zero. absurd (positive s some zero);
  }

  -- nothing yet
  pub nothing_yet : (IsWhole : List Deed → Type 0) (a b : D) → b ≡ a → ((deeds : List Deed) → IsWhole deeds) → Delivers does plots own a b 0 Anything Anything IsWhole
  nothing_yet IsWhole a b same whole = record {
    deeds = [];
    done = same;
    allowed = λ earlier _. tt;
    followed = tt;
    status_is = refl;
    ends = tt;
    whole = λ _. whole [];
  }

pub put_later : (item : Item) (path : List ℕ) (x : Deed) (deeds : List Deed) → IsPut item path deeds → IsPut item path (x ∷ deeds)
put_later item path x deeds (inl has) = inl (inr has.0, inr has.1)
put_later item path x deeds (inr has) = inr (inr has)

pub put_left : (item : Item) (path : List ℕ) (xs ys : List Deed) → IsPut item path xs → IsPut item path (xs ++ ys)
put_left item path xs ys (inl has) = inl (has_left xs ys _ has.0, has_left xs ys _ has.1)
put_left item path xs ys (inr has) = inr (has_left xs ys _ has)

pub put_right : (item : Item) (path : List ℕ) (xs ys : List Deed) → IsPut item path ys → IsPut item path (xs ++ ys)
put_right item path xs ys (inl has) = inl (has_right xs ys _ has.0, has_right xs ys _ has.1)
put_right item path xs ys (inr has) = inr (has_right xs ys _ has)
