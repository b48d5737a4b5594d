-- Deeds after deeds.
use Rattle.std.proofs.Common.{◌≡◌, ◌++◌, ◌∷◌, ℕ, Bool, true, false, List, [], Option, inl, inr, refl, sym, subst, max, append_assoc, arith}
use Rattle.std.proofs.lemmas.List.{append-nil}
use Rattle.output_files.specs.declared.file_id.FileId.{FileId}
use Rattle.delivery.specs.declared.ending.Ending.TheVariants.{Kept, Lost}
use Rattle.delivery.specs.Deeds.{AreRemarks, Deed, Has, WereDone, status_after}
use Rattle.delivery.specs.Care.{AreAllowed, AreFollowed, HasNoPlotAt, IsFollowed, IsSettled, MayReplace, SaysNext}

pub has_left : (xs ys : List Deed) (deed : Deed) → Has xs deed → Has (xs ++ ys) deed
has_left [] ys deed has = absurd has
has_left (x ∷ xs) ys deed (inl is) = inl is
has_left (x ∷ xs) ys deed (inr has) = inr (has_left xs ys deed has)

pub has_right : (xs ys : List Deed) (deed : Deed) → Has ys deed → Has (xs ++ ys) deed
has_right [] ys deed has = has
has_right (x ∷ xs) ys deed has = inr (has_right xs ys deed has)

-- the deed before these
pub has_last : (xs : List Deed) (deed : Deed) → Has (xs ++ deed ∷ []) deed
has_last xs deed = has_right xs (deed ∷ []) deed (inl refl)

pub no_plot_longer : (plots : Option FileId → Bool) (xs ys : List Deed) (path : List ℕ) → HasNoPlotAt plots xs path → HasNoPlotAt plots (xs ++ ys) path
no_plot_longer plots xs ys path h = record { found = h.found; looked = has_left xs ys (Deed.looked path h.found) h.looked; apart = h.apart }

pub replace_longer : (plots : Option FileId → Bool) (own : Option (List ℕ)) (xs ys : List Deed) (name : List ℕ) → MayReplace plots own name xs
    → MayReplace plots own name (xs ++ ys)
replace_longer plots own xs ys name (inl is) = inl is
replace_longer plots own xs ys name (inr apart) = inr (no_plot_longer plots xs ys name apart)

says_longer : (xs ys : List Deed) → SaysNext xs → SaysNext (xs ++ ys)
says_longer [] ys says = absurd says
says_longer (Deed.refused status text ∷ xs) ys says = says
says_longer (x ∷ xs) ys says = absurd says

settled_longer : (path : List ℕ) (xs ys : List Deed) → IsSettled path xs → IsSettled path (xs ++ ys)
settled_longer path xs ys (IsSettled.named name done has) = IsSettled.named name done (has_left xs ys _ has)
settled_longer path xs ys (IsSettled.gone has) = IsSettled.gone (has_left xs ys _ has)
settled_longer path xs ys (IsSettled.kept item status has) = IsSettled.kept item status (has_left xs ys _ has)
settled_longer path xs ys (IsSettled.unstored has) = IsSettled.unstored (has_left xs ys _ has)

pub settled_later : (path : List ℕ) (x : Deed) (xs : List Deed) → IsSettled path xs → IsSettled path (x ∷ xs)
settled_later path x xs (IsSettled.named name done has) = IsSettled.named name done (inr has)
settled_later path x xs (IsSettled.gone has) = IsSettled.gone (inr has)
settled_later path x xs (IsSettled.kept item status has) = IsSettled.kept item status (inr has)
settled_later path x xs (IsSettled.unstored has) = IsSettled.unstored (inr has)

followed_longer : (x : Deed) (xs ys : List Deed) → IsFollowed x xs → IsFollowed x (xs ++ ys)
followed_longer (Deed.opened path false) xs ys h = says_longer xs ys h
followed_longer (Deed.created path false) xs ys h = says_longer xs ys h
followed_longer (Deed.created path true) xs ys h = settled_longer path xs ys h
followed_longer (Deed.reached path false) xs ys h = says_longer xs ys h
followed_longer (Deed.wrote path item (Kept status)) xs ys h = says_longer xs ys h
followed_longer (Deed.wrote path item (Lost status)) xs ys h = says_longer xs ys h
followed_longer (Deed.synced path false) xs ys h = says_longer xs ys h
followed_longer (Deed.renamed path name false) xs ys h = says_longer xs ys h
followed_longer x xs ys h = tt

pub followed_append : (xs ys : List Deed) → AreFollowed xs → AreFollowed ys → AreFollowed (xs ++ ys)
followed_append [] ys first next = next
followed_append (x ∷ xs) ys first next = (followed_longer x xs ys first.0, followed_append xs ys first.1 next)

pub allowed_append : (plots : Option FileId → Bool) (own : Option (List ℕ)) (earlier xs ys : List Deed) → AreAllowed plots own earlier xs → AreAllowed plots own (earlier ++ xs) ys
    → AreAllowed plots own earlier (xs ++ ys)
allowed_append plots own earlier [] ys first next = subst (λ e. AreAllowed plots own e ys) (append-nil earlier) next
allowed_append plots own earlier (x ∷ xs) ys first next =
    (first.0, allowed_append plots own (earlier ++ x ∷ []) xs ys first.1 (subst (λ e. AreAllowed plots own e ys) (sym (append_assoc earlier (x ∷ []) xs)) next))

greatest : (a b c d : ℕ) → d ≡ max b c → max a d ≡ max (max a b) c
greatest a b c d is = grind (arith, is)

pub status_append : (xs ys : List Deed) → status_after (xs ++ ys) ≡ max (status_after xs) (status_after ys)
status_append [] ys = grind arith
status_append (Deed.refused status text ∷ xs) ys = greatest status (status_after xs) (status_after ys) _ (status_append xs ys)
status_append (x ∷ xs) ys = status_append xs ys

pub done_append : {D : Type 0} (does : D → Deed → D → Type 0) (xs ys : List Deed) (a m b : D) → WereDone does a xs m → WereDone does m ys b → WereDone does a (xs ++ ys) b
done_append does [] ys a m b first next = subst (λ x. WereDone does x ys b) first next
done_append does (x ∷ xs) ys a m b first next = (first.0, first.1, done_append does xs ys first.0 m b first.2 next)

-- remarks are always allowed, and nothing goes wrong by them
pub remarks_allowed : (plots : Option FileId → Bool) (own : Option (List ℕ)) (earlier xs : List Deed) → AreRemarks xs → AreAllowed plots own earlier xs
remarks_allowed plots own earlier [] are = tt
remarks_allowed plots own earlier (Deed.remarked text ∷ xs) are = (tt, remarks_allowed plots own (earlier ++ Deed.remarked text ∷ []) xs are)
remarks_allowed plots own earlier (x ∷ xs) are = absurd are

pub remarks_followed : (xs : List Deed) → AreRemarks xs → AreFollowed xs
remarks_followed [] are = tt
remarks_followed (Deed.remarked text ∷ xs) are = (tt, remarks_followed xs are)
remarks_followed (x ∷ xs) are = absurd are

pub remarks_status : (xs : List Deed) → AreRemarks xs → status_after xs ≡ 0
remarks_status [] are = refl
remarks_status (Deed.remarked text ∷ xs) are = remarks_status xs are
remarks_status (x ∷ xs) are = absurd are
